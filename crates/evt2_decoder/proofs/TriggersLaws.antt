-- Laws of specs/Triggers.antt.
use Rattle.evt2_decoder.specs.{Evt2.other_word, Evt2.reader2, Evt2.step2, Evt2.vector2, declared.Evt2Decoder.Evt2Decoder}
use Rattle.evt_types.specs.{Event.events_of, Event.no_events, Event.no_events_lem, Layout.trigger_type, Layout.type2, Trigger.NoTriggerMatters}
use Rattle.evt_types.specs.{Trigger.without_triggers}
use Rattle.std.proofs.Common.{ap, arith, ◌∙◌}
use Rattle.std.specs.Prelude.{refl, ℕ, ◌≡◌}

-- a trigger word leaves the decoder as it is, its time too, and carries no event
pub trigger_alone2 : (d : Evt2Decoder) (w : ℕ) → type2 w ≡ trigger_type → (step2 d w ≡ d) × (vector2 d w ≡ no_events)
trigger_alone2 d w h = other_word d w (type2 w) refl (λ e. absurd (omega arith)) (omega arith)

pub without_triggers2 : NoTriggerMatters reader2 type2
without_triggers2 = without_triggers reader2 type2 (λ d w h. let a = trigger_alone2 d w h in (a.0, ap events_of a.1 ∙ no_events_lem))
