use Rattle.std.proofs.Common.{w64}
use Rattle.std.proofs.lemmas.Int.{to_z-of_z}
use Rattle.slice_rules.proofs.SliceLaws.{slices_time}
use Rattle.slice.proofs.slice_time.Goals as goal

pub returns : goal.returns
returns c =
    let a = c.args in
    let s = c.slice_asked.ensures in
    let asked = rw (to_z-of_z w64 a.t0 c.ranges.t0, to_z-of_z w64 a.t1 c.ranges.t1) at c.by_time-asked.ensures in
    slices_time a.recording.now a.source a.records.now c.by_time-asked.result s.ok s.start s.began a.t0 a.t1 asked s.slices
