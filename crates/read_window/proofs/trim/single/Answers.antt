use Rattle.std.proofs.Common.{sym, ◌∙◌}
use Rattle.read_window.specs.Trim.{single_in, single-numbered, single_out}
use Rattle.read_window.proofs.trim.single.Goals as goal

pub returns-then-spans : goal.returns-then-spans
returns-then-spans c =
    single_in c.args.v c.args.win c.args.k c.requires.0 c.requires.1
    (sym c.inside.ensures ∙ c.if-not-inside.false) (sym c.spans.ensures ∙ c.if-spans.true)

pub returns-else-spans : goal.returns-else-spans
returns-else-spans c =
    single-numbered c.args.v c.args.win c.args.k c.requires.0 c.requires.1
    (sym c.inside.ensures ∙ c.if-not-inside.false) (sym c.spans.ensures ∙ c.if-spans.false)

pub returns-then-not-inside : goal.returns-then-not-inside
returns-then-not-inside c =
    single_out c.args.v c.args.win c.args.k c.requires.0
    c.requires.1 (sym c.inside.ensures ∙ c.if-not-inside.true)
