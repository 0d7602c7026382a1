use Rattle.std.proofs.Common.{◌-◌, length}
use Rattle.read_seek.specs.Iteration.{Seeking}
use Rattle.read_seek.proofs.walk.walk.Given as goal

abbrev pub invariant-loop-i : goal.invariant-loop-i
invariant-loop-i g l = let W = g.D.WordLoop in Seeking W.reader l.t0 l.t1 (W.state l.fn.start) l.bytes (W.state l.s) l.stray l.i

abbrev pub decreases-loop-i : goal.decreases-loop-i
decreases-loop-i g l = length l.bytes - l.i
