use Rattle.evt3_run_rules.specs.Marks.{Gathering}
use Rattle.evt3_run_ends.proofs.marks_one_by_one.Given as goal

abbrev pub invariant-loop-j : goal.invariant-loop-j
invariant-loop-j l = Gathering l.events.xs.now l.events.ys.now l.events.ts.now l.events.ps.now l.i l.j l.mask
