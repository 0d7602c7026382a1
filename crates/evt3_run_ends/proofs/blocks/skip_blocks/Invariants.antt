use Rattle.std.proofs.Common.{◌-◌, length}
use Rattle.evt3_run_rules.specs.Marks.{Along}
use Rattle.evt3_run_ends.proofs.blocks.skip_blocks.Given as goal

abbrev pub invariant-loop-j : goal.invariant-loop-j
invariant-loop-j l = Along l.events.xs.now l.events.ys.now l.events.ts.now l.events.ps.now l.i l.j

abbrev pub decreases-loop-j : goal.decreases-loop-j
decreases-loop-j l = length l.events.xs.now - l.j
