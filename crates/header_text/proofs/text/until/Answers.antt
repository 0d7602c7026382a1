use Rattle.std.proofs.Common.{rules, ◌∙◌}
use Rattle.std.proofs.lemmas.Iterator.{YieldsList-from_slice}
use Rattle.std.proofs.lemmas.Iterator.Search.{position_from_yields_List}
use Rattle.header_text.specs.Parts.{is_in}
use Rattle.header_text.proofs.TextLaws as laws
use Rattle.header_text.proofs.text.until.Goals as goal

pub returns-clause-first : goal.returns-clause-first
returns-clause-first c =
    c.unwrap_or.ensures
    ∙ laws.found-up_to _ _ _ (position_from_yields_List (is_in c.args.class) c.position.new.self _ c.position.result c.position.ensures.ran
    (YieldsList-from_slice c.args.s.now (search rules)) (λ x b q k. search rules))
