use Rattle.slice_rules.proofs.SliceLaws.{slices_index}
use Rattle.c_index.specs.Promises.{sliced_index}
use Rattle.c_index.specs.Records.{listed}
use Rattle.prophesee_raw_c.proofs.slices.prophesee_slice_index.Goals as goal

pub returns : goal.returns
returns c =
    let a = c.args in
    let s = c.slice_asked-answer.ensures in
    sliced_index a.recording.now a.records.now a.source c.from-s.ensures c.lent_records-lent.ensures c.from.ensures a.i0 a.i1
    (slices_index a.recording.now c.from-s.result (listed c.lent_records-lent.result) c.by_number-asked.result s.ok s.start s.began
    a.i0 a.i1 c.by_number-asked.ensures s.slices)
