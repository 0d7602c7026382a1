use Rattle.std.proofs.Common.{◌-◌, length}
use Rattle.write_words.specs.Across3.{Across3}
use Rattle.write_words.proofs.evt3.pass_across.Given as goal

abbrev pub invariant-loop-i : goal.invariant-loop-i
invariant-loop-i l = Across3 l.initial.state l.events.xs.now l.events.ys.now l.events.ts.now l.events.ps.now l.start l.initial.out l.out l.state l.at l.i

abbrev pub decreases-loop-i : goal.decreases-loop-i
decreases-loop-i l = length l.events.xs.now - l.i
