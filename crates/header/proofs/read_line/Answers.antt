-- One law for each key.
use Rattle.std.proofs.Common.{sym, ◌∙◌}
use Rattle.header.proofs.LineLaws as laws
use Rattle.header.proofs.read_line.Goals as goal

pub returns-then-is_word : goal.returns-then-is_word
returns-then-is_word c =
    let k = laws.parts _ _ _ _ c.line_body-body.ensures c.until-n.ensures.first c.trim-value.ensures in
    laws.line_geometry _ _ _ _ k _ (sym c.is_word.ensures ∙ c.if-is_word.true) c.geometry.ensures

pub returns-then-is_word-2 : goal.returns-then-is_word-2
returns-then-is_word-2 c =
    let k = laws.parts _ _ _ _ c.line_body-body.ensures c.until-n.ensures.first c.trim-value.ensures in
    laws.line_format _ _ _ _ k (sym c.is_word.ensures ∙ c.if-is_word.false) (sym c.is_word-2.ensures ∙ c.if-is_word-2.true)

pub returns-then-is_word-3 : goal.returns-then-is_word-3
returns-then-is_word-3 c =
    let k = laws.parts _ _ _ _ c.line_body-body.ensures c.until-n.ensures.first c.trim-value.ensures in
    laws.line_evt _ _ _ _ k (sym c.is_word.ensures ∙ c.if-is_word.false) (sym c.is_word-2.ensures ∙ c.if-is_word-2.false)
    (sym c.is_word-3.ensures ∙ c.if-is_word-3.true)

pub returns : goal.returns
returns c =
    let k = laws.parts _ _ _ _ c.line_body-body.ensures c.until-n.ensures.first c.trim-value.ensures in
    laws.line_other _ _ _ _ k (sym c.is_word.ensures ∙ c.if-is_word.false) (sym c.is_word-2.ensures ∙ c.if-is_word-2.false)
    (sym c.is_word-3.ensures ∙ c.if-is_word-3.false)
