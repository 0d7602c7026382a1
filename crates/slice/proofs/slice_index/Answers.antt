use Rattle.slice_rules.proofs.SliceLaws.{slices_index}
use Rattle.slice.proofs.slice_index.Goals as goal

pub returns : goal.returns
returns c =
    let a = c.args in
    let s = c.slice_asked.ensures in
    slices_index a.recording.now a.source a.records.now c.by_number-asked.result s.ok s.start s.began a.i0 a.i1 c.by_number-asked.ensures s.slices
