use Rattle.std.proofs.Common.{rules, w64}
use Rattle.std.proofs.lemmas.Int.{to_z-of_z}
use Rattle.index_fixed.specs.Laws.{time_over}
use Rattle.index_fixed.proofs.slice_time.Goals as goal

pub returns : goal.returns
returns c =
    let a = c.args in
    time_over a.recording.now a.source a.records a.n c.min.result a.t0 a.t1 _ _ (search rules) c.min.ensures
    (to_z-of_z w64 a.t0 c.ranges.t0) (to_z-of_z w64 a.t1 c.ranges.t1) c.slice_time_in.ensures
