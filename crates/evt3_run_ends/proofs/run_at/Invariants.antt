use Rattle.evt3_run_rules.specs.Marks.{Seeking, seek_left}
use Rattle.evt3_run_ends.proofs.run_at.Given as goal

abbrev pub invariant-loop-m : goal.invariant-loop-m
invariant-loop-m l = Seeking l.events.xs.now l.events.ys.now l.events.ts.now l.events.ps.now l.i l.j l.m

abbrev pub decreases-loop-m : goal.decreases-loop-m
decreases-loop-m l = seek_left l.events.xs.now l.events.ys.now l.events.ts.now l.events.ps.now l.j l.m
