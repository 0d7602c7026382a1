use Rattle.std.proofs.Common.{◌-◌, length}
use Rattle.read_select.specs.Count.{Counts}
use Rattle.read_select.proofs.passes.survey.Given as goal

abbrev pub invariant-loop-i : goal.invariant-loop-i
invariant-loop-i g l = let W = g.D.WordLoop in Counts W.reader l.win l.number (W.state l.fn.start) l.bytes (W.state l.s) l.t l.i

abbrev pub decreases-loop-i : goal.decreases-loop-i
decreases-loop-i g l = length l.bytes - l.i
