-- EVT 2.1: the trigger that a word carries.
use Rattle.std.specs.Prelude.{◌≡◌, List, ℕ, ◌+◌, ◌≤◌, length}
use Rattle.std.proofs.Common.{sym, ap, ◌∙◌, arith}
use Rattle.laws_stream.specs.{Machine.Machine, Machine.emits, Beside.emitting}
use Rattle.evt_types.specs.{Event.events_of, Event.no_events_lem, Event.no_events, Trigger.Trigger, Trigger.Small, Trigger.trigger_if, Trigger.NoTriggerMatters}
use Rattle.evt_types.specs.{Trigger.without_triggers, Layout.type21, Layout.time_low21, Layout.trigger_id21, Layout.trigger_value21, Layout.trigger_type}
use Rattle.evt_types.specs.Layout.{upper, upper_type, upper_low, upper_id, upper-value}
use Rattle.evt2_decoder.specs.{declared.Evt2Decoder.Evt2Decoder, Triggers.trigger2, Triggers.trigger_fields2, Triggers.few_triggers2, Triggers.small_trigger2}
use Rattle.evt21_decoder.specs.{declared.Evt21Decoder.Evt21Decoder, Evt21.as2, Evt21.of2, Evt21.step21, Evt21.vector21, Evt21.reader21, Evt21.wide2}
use Rattle.evt21_decoder.specs.{Evt21.other_word21, Evt21.emits-of2, Range.Bounded21}

abbrev pub trigger21 : Evt21Decoder → ℕ → List Trigger
trigger21 d w = trigger2 (as2 d) (upper w)

-- its own low bits give its time
abbrev pub trigger_in21 : Evt21Decoder → ℕ → Trigger
trigger_in21 d w = record { t = d.time_high + time_low21 w; id = trigger_id21 w; value = trigger_value21 w }

-- by its fields
pub trigger_fields21 : (d : Evt21Decoder) (w : ℕ) {k t i v : ℕ}
    → k ≡ type21 w → t ≡ d.time_high + time_low21 w → i ≡ trigger_id21 w → v ≡ trigger_value21 w
    → trigger_if d.initialised k (record { t = t; id = i; value = v }) ≡ trigger21 d w
trigger_fields21 d w is-k is_t is-i is-v =
    trigger_fields2 (as2 d) (upper w) (is-k ∙ sym (upper_type w)) (is_t ∙ ap (λ (n : ℕ). d.time_high + n) (sym (upper_low w)))
    (is-i ∙ sym (upper_id w)) (is-v ∙ sym (upper-value w))

-- the same states as the events' machine
abbrev pub triggers21 : Machine Evt21Decoder ℕ Trigger
triggers21 = emitting reader21 trigger21

-- for loops, as the events' `wide2`
abbrev pub wide_triggers2 : Machine Evt2Decoder ℕ Trigger
wide_triggers2 = emitting wide2 (λ d w. trigger2 d (upper w))

pub emits-triggers2 : (d : Evt2Decoder) (ws : List ℕ) → emits triggers21 (of2 d) ws ≡ emits wide_triggers2 d ws
emits-triggers2 = emits-of2 trigger21

-- a trigger word leaves the decoder as it is, its time too, and carries no event
pub trigger_alone21 : (d : Evt21Decoder) (w : ℕ) → type21 w ≡ trigger_type → (step21 d w ≡ d) × (vector21 d w ≡ no_events)
trigger_alone21 d w h = other_word21 d w (λ e. absurd (omega arith)) (omega arith)

pub without_triggers21 : NoTriggerMatters reader21 type21
without_triggers21 = without_triggers reader21 type21 (λ d w h. let a = trigger_alone21 d w h in (a.0, ap events_of a.1 ∙ no_events_lem))

pub few_triggers21 : (d : Evt21Decoder) (w : ℕ) → length (trigger21 d w) ≤ 1
few_triggers21 d w = few_triggers2 (as2 d) (upper w)

pub small_trigger21 : {n : ℕ} {d : Evt21Decoder} (w : ℕ) → Bounded21 n d → Small (trigger_in21 d w)
small_trigger21 {n} {d} w b = rw (← upper_low w, ← upper_id w, ← upper-value w) (small_trigger2 (upper w) b)
