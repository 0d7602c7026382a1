-- EVT3: the trigger that a word carries.
use Rattle.std.specs.Prelude.{◌≡◌, List, ℕ, ◌≤◌, length}
use Rattle.std.proofs.Common.{arith}
use Rattle.laws_stream.specs.{Machine.Machine, Beside.emitting}
use Rattle.evt_types.specs.Trigger.{Trigger, Small, trigger_if, trigger_few}
use Rattle.evt_types.specs.Layout.{type3, trigger_id3, trigger_value3}
use Rattle.evt3_decoder.specs.{declared.Decoder.Decoder, Evt3.reader3}
use Rattle.evt3_decoder.specs.Range.{Bounded3, below3, near3}

-- the current time
abbrev pub trigger_in3 : Decoder → ℕ → Trigger
trigger_in3 d w = record { t = d.time; id = trigger_id3 w; value = trigger_value3 w }

unfoldable pub trigger3 : Decoder → ℕ → List Trigger
trigger3 d w = trigger_if d.initialised (type3 w) (trigger_in3 d w)

-- by its fields
pub trigger_fields3 : (d : Decoder) (w : ℕ) {k i v : ℕ} → k ≡ type3 w → i ≡ trigger_id3 w → v ≡ trigger_value3 w
    → trigger_if d.initialised k (record { t = d.time; id = i; value = v }) ≡ trigger3 d w
unfolding trigger3
trigger_fields3 d w is-k is-i is-v = rw (is-k, is-i, is-v)

-- the same states as the events' machine
abbrev pub triggers3 : Machine Decoder ℕ Trigger
triggers3 = emitting reader3 trigger3

pub few_triggers3 : (d : Decoder) (w : ℕ) → length (trigger3 d w) ≤ 1
unfolding trigger3
few_triggers3 d w = trigger_few d.initialised (type3 w) (trigger_in3 d w)

pub small_trigger3 : {n : ℕ} {d : Decoder} (w : ℕ) → Bounded3 n d → Small (trigger_in3 d w)
small_trigger3 {n} {d} w b =
    let h = below3 d b.regular in
    let k = near3 d b.regular in
    record { t< = omega (arith, b.loops); id< = omega arith; value< = omega arith }
