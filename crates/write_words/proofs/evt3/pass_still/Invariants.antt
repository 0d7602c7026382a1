use Rattle.std.proofs.Common.{◌-◌, length}
use Rattle.write_words.specs.Pass3.{Under3}
use Rattle.write_words.proofs.evt3.pass_still.Given as goal

abbrev pub invariant-loop-i : goal.invariant-loop-i
invariant-loop-i l =
    Under3 l.state l.events.xs.now l.events.ys.now l.events.ts.now l.events.ps.now l.start l.initial.out l.out l.high l.low l.row l.at l.i l.mask

abbrev pub decreases-loop-i : goal.decreases-loop-i
decreases-loop-i l = length l.events.xs.now - l.i
