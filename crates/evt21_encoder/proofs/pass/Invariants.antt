use Rattle.evt21_encoder.specs.Pass21.{Under21}
use Rattle.evt21_encoder.proofs.pass.Given as goal

abbrev pub invariant-loop-i : goal.invariant-loop-i
invariant-loop-i l =
    Under21 l.state l.events.xs.now l.events.ys.now l.events.ts.now l.events.ps.now l.start l.initial.out l.out l.high l.last l.mask l.at l.i
