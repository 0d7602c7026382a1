use mathlib.Core.Path.{sym, ◌∙◌}
use native.Mathlib.Omega.{arith}
use Rattle.evt3_decoder.specs.Range.{bounded_range3, bounded_slim3}
use Rattle.evt3_decoder.proofs.Decoder.step.Goals as goal
use Rattle.evt3_decoder.proofs.RangeLaws.{bounded_narrow3, bounded_step3}

pub slim-requires : goal.slim-requires
slim-requires c =
    let a = c.args in
    rw (c.advance-s.ensures.0, c.widen.ensures.0) (bounded_slim3 (bounded_step3 0 a.self a.word
    (bounded_range3 1 a.self (sym c.in_range.ensures ∙ c.if-in_range.true)
    (omega arith) (omega arith))))

pub narrow-requires : goal.narrow-requires
narrow-requires c =
    let a = c.args in
    let widen = c.widen.ensures in
    rw (c.advance-s.ensures.1, widen.0) (bounded_narrow3 a.word (bounded_range3 0 a.self
    (sym c.in_range.ensures ∙ c.if-in_range.true)
    widen.1.column (omega arith)))
