use Rattle.std.proofs.Common.{◌≡◌, subst, Bool, arith, rules, pos, get_or, SFits, w64, to_z-of_z}
use Rattle.write_rules.specs.Checks.{falls-first}
use Rattle.write_rules.specs.Blocks.{looked_of, places_in_range, looked_none}
use Rattle.write_rules.proofs.columns.look_after.Goals as goal

pub returns-then-ts-gt0 : goal.returns-then-ts-gt0
returns-then-ts-gt0 c =
    let a = c.args in
    let fits : SFits w64 (get_or a.ts.now 0 (pos 0)) = search rules in
    rw c.in-None.is
    (subst (λ (b : Bool). c.look.result ≡ looked_of b (places_in_range a.xs.now a.ys.now a.ps.now)) (falls-first a.ts.now) (simp to_z-of_z at c.look.ensures))

pub returns-else-ts-gt0 : goal.returns-else-ts-gt0
returns-else-ts-gt0 c =
    let a = c.args in
    rw c.in-None.is
    (looked_none a.xs.now a.ys.now a.ts.now a.ps.now c.if-ts-gt0.false (omega arith) (omega arith) (omega arith))
