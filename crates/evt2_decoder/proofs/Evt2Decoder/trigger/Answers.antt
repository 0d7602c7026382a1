use mathlib.Core.Path.{sym, ap, ◌∙◌}
use Prim.Native.Nat.{◌+◌}
use Rattle.evt_types.specs.Trigger.{first_trigger, owed_in_range}
use Rattle.evt2_decoder.specs.Triggers.{trigger_fields2}
use Rattle.evt2_decoder.proofs.Evt2Decoder.trigger.Goals as goal

pub returns-then-in_range : goal.returns-then-in_range
returns-then-in_range c =
    let a = c.args in
    owed_in_range _ _ (sym c.in_range.ensures ∙ c.if-in_range.true)
    (c.of_word.ensures ∙ ap first_trigger (trigger_fields2 a.self a.word c.bits-then-in_range.ensures
    (ap (λ n. a.self.time_high + n) c.bits.ensures) c.bits-then-in_range-2.ensures c.bits-then-in_range-3.ensures))
