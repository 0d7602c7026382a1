use Rattle.std.proofs.Common.{◌-◌, length}
use Rattle.read_seek.specs.Loops.{Passing}
use Rattle.read_seek.proofs.evt3.pass.Given as goal

abbrev pub invariant-loop-i : goal.invariant-loop-i
invariant-loop-i l = Passing l.t0 l.t1 l.fn.d l.bytes l.c l.stray l.i

abbrev pub decreases-loop-i : goal.decreases-loop-i
decreases-loop-i l = length l.bytes - l.i
