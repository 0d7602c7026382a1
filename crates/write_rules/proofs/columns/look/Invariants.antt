use Rattle.std.proofs.Common.{◌-◌, length}
use Rattle.write_rules.specs.Blocks.{Looking}
use Rattle.write_rules.proofs.columns.look.Given as goal

abbrev pub invariant-loop-i : goal.invariant-loop-i
invariant-loop-i l = Looking l.from l.xs l.ys l.ts l.ps l.last l.ok l.i

abbrev pub decreases-loop-i : goal.decreases-loop-i
decreases-loop-i l = length l.ts - l.i
