use Rattle.std.proofs.Common.{◌-◌, length}
use Rattle.evt2_encoder.specs.Pass2.{Under2}
use Rattle.evt2_encoder.proofs.pass.Given as goal

abbrev pub invariant-loop-i : goal.invariant-loop-i
invariant-loop-i l = Under2 l.state l.events.xs.now l.events.ys.now l.events.ts.now l.events.ps.now l.start l.initial.out l.out l.high l.at l.i

abbrev pub decreases-loop-i : goal.decreases-loop-i
decreases-loop-i l = length l.events.xs.now - l.i
