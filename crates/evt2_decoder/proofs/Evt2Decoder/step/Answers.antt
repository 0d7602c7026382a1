use mathlib.Core.Path.{sym, ◌∙◌}
use native.Mathlib.Omega.{arith}
use Rattle.evt2_decoder.specs.Range.{bounded_range2}
use Rattle.evt2_decoder.proofs.Evt2Decoder.step.Goals as goal
use Rattle.evt2_decoder.proofs.RangeLaws.{bounded_narrow2}

pub narrow-requires : goal.narrow-requires
narrow-requires c =
    let a = c.args in
    rw c.advance-s.ensures.1 (bounded_narrow2 a.word
    (bounded_range2 0 a.self (sym c.in_range.ensures ∙ c.if-in_range.true) (omega arith)))
