use Rattle.std.proofs.Common.{◌-◌, length}
use Rattle.read_seek.specs.Skip.{Skipping3}
use Rattle.read_seek.proofs.evt3.stride.Given as goal

abbrev pub invariant-loop-i : goal.invariant-loop-i
invariant-loop-i l = Skipping3 l.t l.fn.d l.bytes l.c l.at l.i

abbrev pub decreases-loop-i : goal.decreases-loop-i
decreases-loop-i l = length l.bytes - l.i
