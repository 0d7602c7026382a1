use Rattle.std.proofs.Common.{rules, sym, ◌∙◌, arith, ◌≡◌, ◌+◌}
use Rattle.header_text.proofs.NumberLaws as laws
use Rattle.header_text.proofs.number.digits.Goals as goal

pub returns-then-is_empty : goal.returns-then-is_empty
returns-then-is_empty c = laws.digits_none _ _ (search rules)

pub loop-i-init : goal.loop-i-init
loop-i-init c = let e : c.args.place + 0 ≡ c.args.place = omega arith in rw e (laws.digits-some _ _ (search rules))

pub returns-then-not-is_ascii_digit : goal.returns-then-not-is_ascii_digit
returns-then-not-is_ascii_digit c =
    laws.digits_stop _ _ _ _ _ c.loop-i.invariant c.loop-i-test.true (laws.not_digit _ _ (sym c.is_ascii_digit.ensures.value ∙ c.if-not-is_ascii_digit.true))

pub returns-in_default : goal.returns-in_default
returns-in_default c =
    laws.digits_stop _ _ _ _ _ c.loop-i.invariant c.loop-i-test.true
    (laws.value_none _ _ (sym c.is_ascii_digit.ensures.value ∙ c.if-not-is_ascii_digit.false) _ c.from.ensures _ c.append_digit.ensures c.in_default.is)

pub loop-i-preserved : goal.loop-i-preserved
loop-i-preserved c =
    let some =
    laws.value_some _ _ (sym c.is_ascii_digit.ensures.value ∙ c.if-not-is_ascii_digit.false) _ c.from.ensures _ c.append_digit.ensures _ c.in-Some.is in
    rw some.1 (laws.digits-next _ _ _ _ _ c.loop-i.invariant c.loop-i-test.true some.0)

pub returns : goal.returns
returns c = laws.digits-end _ _ _ _ _ c.loop-i.invariant c.loop-i-test.false
