use Rattle.std.proofs.Common.{◌+◌, sym, ◌∙◌, arith}
use Rattle.header_text.specs.Size.{both}
use Rattle.header_text.specs.Parts.{halves_at}
use Rattle.header_text.proofs.TextLaws.{tail-part}
use Rattle.header_text.proofs.size.size_at.Goals as goal

pub returns-in_err-width : goal.returns-in_err-width
unfolding halves_at both
returns-in_err-width c = c.from_residual.ensures ∙ rw (sym c.half.ensures ∙ c.in_err-width.was)

pub returns-in_err-height : goal.returns-in_err-height
unfolding halves_at both
returns-in_err-height c =
    c.from_residual-in_err-height.ensures
    ∙ rw (← tail-part c.args.s.now (c.args.n + 1) (omega arith), sym c.half.ensures ∙ c.in_ok-width.was, sym c.half-2.ensures ∙ c.in_err-height.was)

pub returns : goal.returns
unfolding halves_at both
returns c =
    rw (← tail-part c.args.s.now (c.args.n + 1) (omega arith), sym c.half.ensures ∙ c.in_ok-width.was, sym c.half-2.ensures ∙ c.in_ok-height.was)
