use Rattle.header_text.proofs.TextLaws as laws
use Rattle.header_text.proofs.text.tail_from.Goals as goal

pub returns : goal.returns
returns c = laws.count-drop _ _ _ c.until-n.ensures.first
