use Rattle.std.proofs.Common.{add-one, suc-mul, add_assoc, le-leb}
use Rattle.std.proofs.lemmas.Bool.{lt-leb}
use Rattle.laws_stream.specs.Loop.{loops_after, time_after}
use Rattle.evt_types.proofs.clock.after.Goals as goal

pub returns-then-next-threshold : goal.returns-then-next-threshold
unfolding loops_after time_after
returns-then-next-threshold c = rw (le-leb _ _ c.if-next-threshold.true, add-one, suc-mul, add_assoc)

pub returns-else-next-threshold : goal.returns-else-next-threshold
unfolding loops_after time_after
returns-else-next-threshold c = rw (lt-leb _ _ c.if-next-threshold.false)
