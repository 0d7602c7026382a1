-- Laws of specs/Triggers.antt.
use Rattle.evt3_decoder.specs.{Evt3.early_word, Evt3.reader3, Evt3.started_other, Evt3.step3, Evt3.vector3, declared.Decoder.Decoder}
use Rattle.evt_types.specs.{Event.events_of, Event.no_events, Event.no_events_lem, Layout.trigger_type, Layout.type3, Trigger.NoTriggerMatters}
use Rattle.evt_types.specs.{Trigger.without_triggers}
use Rattle.std.proofs.Common.{ap, arith, ◌∙◌}
use Rattle.std.specs.Prelude.{Bool, false, refl, true, ℕ, ◌≡◌, ◌≤◌}

-- a trigger word leaves the decoder as it is, its time too, and carries no event
pub trigger_alone3 : (d : Decoder) (w : ℕ) → type3 w ≡ trigger_type → (step3 d w ≡ d) × (vector3 d w ≡ no_events)
trigger_alone3 d w h = go d.initialised refl
  where
    not : (n : ℕ) → n ≤ 8 → type3 w ≡ n → ⊥
    not n l e = absurd (omega arith)

    go : (b : Bool) → d.initialised ≡ b → (step3 d w ≡ d) × (vector3 d w ≡ no_events)
    go true on =
        started_other d w (type3 w) refl on (not 0 (omega arith)) (not 2 (omega arith)) (not 3 (omega arith)) (not 4 (omega arith))
        (not 5 (omega arith)) (not 6 (omega arith)) (not 8 (omega arith))
    go false off = early_word d w (type3 w) refl (not 8 (omega arith)) off

pub without_triggers3 : NoTriggerMatters reader3 type3
without_triggers3 = without_triggers reader3 type3 (λ d w h. let a = trigger_alone3 d w h in (a.0, ap events_of a.1 ∙ no_events_lem))
