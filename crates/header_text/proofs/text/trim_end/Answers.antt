use Rattle.std.proofs.Common.{rules}
use Rattle.header_text.proofs.TextLaws as laws
use Rattle.header_text.proofs.text.trim_end.Goals as goal

pub returns-in-Some : goal.returns-in-Some
returns-in-Some c = laws.trim_last _ _ (search rules) (search rules) (search rules)

pub returns-in-None : goal.returns-in-None
returns-in-None c = laws.trim_none _ (search rules)
