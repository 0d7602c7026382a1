use Rattle.std.proofs.Common.{sym, ◌∙◌}
use Rattle.read_window.specs.Trim.{picked_none, picked_whole}
use Rattle.read_select.proofs.word.WideDecoderTrims.cut.Goals as goal

pub returns-then-v-eq0 : goal.returns-then-v-eq0
returns-then-v-eq0 c = let a = c.args in picked_none a.v a.win a.k c.if-v-eq0.true

pub returns-then-whole : goal.returns-then-whole
returns-then-whole c =
    picked_whole c.args.v c.args.win c.args.k c.requires.narrow.mask< (sym c.whole.ensures ∙ c.if-whole.true)
