use Rattle.std.proofs.Common.{w64}
use Rattle.std.proofs.lemmas.Int.{to_z-of_z}
use Rattle.slice_rules.proofs.SliceLaws.{slices_time}
use Rattle.c_index.specs.Promises.{sliced_time}
use Rattle.c_index.specs.Records.{listed}
use Rattle.prophesee_raw_c.proofs.slices.prophesee_slice_time.Goals as goal

pub returns : goal.returns
returns c =
    let a = c.args in
    let s = c.slice_asked-answer.ensures in
    let asked = rw (to_z-of_z w64 a.t0 c.ranges.t0, to_z-of_z w64 a.t1 c.ranges.t1) at c.by_time-asked.ensures in
    sliced_time a.recording.now a.records.now a.source c.from-s.ensures c.lent_records-lent.ensures c.from.ensures a.t0 a.t1
    (slices_time a.recording.now c.from-s.result (listed c.lent_records-lent.result) c.by_time-asked.result s.ok s.start s.began
    a.t0 a.t1 asked s.slices)
