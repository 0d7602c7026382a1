use Rattle.std.proofs.Common.{refl, sym, ◌∙◌, arith, rules, ◌+◌, ◌-◌, get_or, pos, SFits, w64, to_z-of_z}
use Rattle.write_rules.specs.Blocks.{looked_falls, looking_iteration}
use Rattle.write_rules.proofs.columns.look.Goals as goal

pub returns-then-times_fall : goal.returns-then-times_fall
returns-then-times_fall c =
    let l = c.loop-i in
    let from = c.ranges.from in
    simp to_z-of_z at (looked_falls _ _ _ _ _ l.invariant (l.i + 64) (omega arith) (sym c.times_fall.ensures ∙ c.if-times_fall.true))

pub loop-i-preserved : goal.loop-i-preserved
loop-i-preserved c =
    let l = c.loop-i in
    let fits : SFits w64 (get_or c.args.ts.now (l.i + 64 - 1) (pos 0)) = search rules in
    simp to_z-of_z (looking_iteration _ _ _ _ _ l.invariant (l.i + 64) (omega arith) (omega arith)
    (sym c.times_fall.ensures ∙ c.if-times_fall.false) _ (rw c.places_in_range.ensures refl))
