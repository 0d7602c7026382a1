use Rattle.std.proofs.Common.{rules, ◌∙◌}
use Rattle.std.proofs.lemmas.Iterator.{YieldsList-from_slice, YieldsList-from_zip}
use Rattle.std.proofs.lemmas.Iterator.Search.{all_from_yields_List}
use Rattle.header_text.proofs.TextLaws as laws
use Rattle.header_text.proofs.text.begins_with.Goals as goal

pub returns-then-name-s : goal.returns-then-name-s
returns-then-name-s c =
    all_from_yields_List laws.named c.all.new.self _ c.all.result c.all.ensures.ran
    (YieldsList-from_zip (YieldsList-from_slice c.args.s.now cc) (YieldsList-from_slice c.args.name.now cc))
    (λ x b q k. search rules)
    ∙ laws.begins-zip c.args.name.now c.args.s.now c.if-name-s.true

pub returns-else-name-s : goal.returns-else-name-s
returns-else-name-s c = search (rules, laws.begins-short)
