use Rattle.std.proofs.Common.{rules, ◌∙◌}
use Rattle.header_text.proofs.NumberLaws as laws
use Rattle.header_text.proofs.number.read_number.Goals as goal

pub returns-in-empty : goal.returns-in-empty
returns-in-empty c = laws.read_none _ (search rules)

pub returns-in-43 : goal.returns-in-43
returns-in-43 c = c.digits.ensures ∙ laws.read_plus _ (search rules)

pub returns-in_default : goal.returns-in_default
returns-in_default c = c.digits-in_default.ensures ∙ laws.read_plain _ (search rules) (search rules)
