use Rattle.std.proofs.Common.{rules, ◌∙◌}
use Rattle.header_text.proofs.SizeLaws as laws
use Rattle.header_text.proofs.size.geometry.Goals as goal

pub size_at-requires : goal.size_at-requires
size_at-requires c = (laws.parted _ c.args.old _ (search rules)).0

pub returns-in-Some : goal.returns-in-Some
returns-in-Some c = c.size_at.ensures ∙ (laws.parted _ _ _ (search rules)).1

pub returns-in-None : goal.returns-in-None
returns-in-None c = laws.whole _ _ (search rules)
