-- EVT2: the trigger that a word carries.
use Rattle.std.specs.Prelude.{◌≡◌, List, ℕ, ◌+◌, ◌≤◌, length}
use Rattle.std.proofs.Common.{arith}
use Rattle.laws_stream.specs.{Machine.Machine, Beside.emitting}
use Rattle.evt_types.specs.Trigger.{Trigger, Small, trigger_if, trigger_few}
use Rattle.evt_types.specs.Layout.{type2, time_low2, trigger_id2, trigger_value2}
use Rattle.evt2_decoder.specs.{declared.Evt2Decoder.Evt2Decoder, Evt2.reader2, Range.Bounded2, Range.below2}

-- its own low bits give its time
abbrev pub trigger_in2 : Evt2Decoder → ℕ → Trigger
trigger_in2 d w = record { t = d.time_high + time_low2 w; id = trigger_id2 w; value = trigger_value2 w }

unfoldable pub trigger2 : Evt2Decoder → ℕ → List Trigger
trigger2 d w = trigger_if d.initialised (type2 w) (trigger_in2 d w)

-- by its fields
pub trigger_fields2 : (d : Evt2Decoder) (w : ℕ) {k t i v : ℕ} → k ≡ type2 w → t ≡ d.time_high + time_low2 w → i ≡ trigger_id2 w → v ≡ trigger_value2 w
    → trigger_if d.initialised k (record { t = t; id = i; value = v }) ≡ trigger2 d w
unfolding trigger2
trigger_fields2 d w is-k is_t is-i is-v = rw (is-k, is_t, is-i, is-v)

-- the same states as the events' machine
abbrev pub triggers2 : Machine Evt2Decoder ℕ Trigger
triggers2 = emitting reader2 trigger2

pub few_triggers2 : (d : Evt2Decoder) (w : ℕ) → length (trigger2 d w) ≤ 1
unfolding trigger2
few_triggers2 d w = trigger_few d.initialised (type2 w) (trigger_in2 d w)

pub small_trigger2 : {n : ℕ} {d : Evt2Decoder} (w : ℕ) → Bounded2 n d → Small (trigger_in2 d w)
small_trigger2 {n} {d} w b =
    let h = below2 d b.regular in
    record { t< = omega (arith, b.loops); id< = omega arith; value< = omega arith }
