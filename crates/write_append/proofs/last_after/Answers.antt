use Rattle.std.proofs.Common.{sym, rules, SFits, ◌-◌, length, get_or, pos, w64, to_z-of_z}
use Rattle.write_append.specs.Ends.{last_some, last_none}
use Rattle.write_append.proofs.last_after.Goals as goal

pub returns-then-n-gt0 : goal.returns-then-n-gt0
returns-then-n-gt0 c =
    let a = c.args in
    let ts = a.ts.now in
    let fits : SFits w64 (get_or ts (length ts - 1) (pos 0)) = search rules in
    simp to_z-of_z (sym (last_some a.last ts c.if-n-gt0.true))

pub returns-else-n-gt0 : goal.returns-else-n-gt0
returns-else-n-gt0 c = sym (last_none c.args.last c.args.ts.now c.if-n-gt0.false)
