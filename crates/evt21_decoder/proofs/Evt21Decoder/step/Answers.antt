use mathlib.Core.Path.{sym, ◌∙◌}
use native.Mathlib.Omega.{arith}
use Rattle.evt21_decoder.specs.Range.{bounded_range21, bounded_narrow21}
use Rattle.evt21_decoder.proofs.Evt21Decoder.step.Goals as goal

pub narrow-requires : goal.narrow-requires
narrow-requires c =
    let a = c.args in
    rw (c.advance-s.ensures.1, c.evt2.ensures)
    (bounded_narrow21 a.word (bounded_range21 0 a.self (sym c.in_range.ensures ∙ c.if-in_range.true) (omega arith)))
