use Rattle.std.proofs.Common.{◌∙◌, sym, rules, ◌-◌, pos, length, get_or, SFits, w64, to_z-of_z}
use Rattle.write_rules.specs.Range.{time_in_range}
use Rattle.write_rules.specs.Checks.{times_ends, every_none}
use Rattle.write_rules.proofs.columns.times_in_range.Goals as goal

pub returns-then-time : goal.returns-then-time
returns-then-time c =
    let ts = c.args.ts.now in
    let first : SFits w64 (get_or ts 0 (pos 0)) = search rules in
    let last : SFits w64 (get_or ts (length ts - 1) (pos 0)) = search rules in
    let a = simp to_z-of_z at c.time.ensures in
    let b = simp to_z-of_z at c.time-then-time.ensures in
    b ∙ (rw (sym a ∙ c.if-time.true) at (times_ends ts c.if-n-gt0.true c.requires))

pub returns-else-time : goal.returns-else-time
returns-else-time c =
    let ts = c.args.ts.now in
    let first : SFits w64 (get_or ts 0 (pos 0)) = search rules in
    let a = simp to_z-of_z at c.time.ensures in
    c.if-time.false ∙ (rw (sym a ∙ c.if-time.false) at (times_ends ts c.if-n-gt0.true c.requires))

pub returns-else-n-gt0 : goal.returns-else-n-gt0
returns-else-n-gt0 c = sym (every_none time_in_range c.args.ts.now c.if-n-gt0.false)
