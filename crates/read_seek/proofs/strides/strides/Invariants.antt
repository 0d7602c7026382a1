use Rattle.std.proofs.Common.{◌-◌, length}
use Rattle.read_seek.specs.Skip.{Skipping2}
use Rattle.read_seek.proofs.strides.strides.Given as goal

abbrev pub invariant-loop-i : goal.invariant-loop-i
invariant-loop-i g l = Skipping2 g.E.HoldsEvt2.over l.t l.fn.d l.bytes l.s l.at l.i

abbrev pub decreases-loop-i : goal.decreases-loop-i
decreases-loop-i g l = length l.bytes - l.i
