-- The time-loop law of EVT2: which time words a decoder reads as the times that were meant.
use Rattle.std.specs.Prelude.{◌≡◌, refl, true, ℕ, suc, ◌+◌, ◌-◌, ◌*◌, ◌/◌, ◌%◌, ◌^◌, ◌≤◌, ◌<◌}
use Rattle.std.proofs.Common.{arith}
use Rattle.evt2_decoder.specs.{declared.Evt2Decoder.Evt2Decoder, Evt2.period2, Evt2.threshold2, Evt2.step2, Evt2.in_range2, Evt2.time_word_lem}
use Rattle.evt2_decoder.specs.{Range.regular_range2, Range.below2}
use Rattle.evt_types.specs.Layout.{type2, time_high2, grain2, time_word2, time_type2, time_high2_lem}
use Rattle.evt_types.specs.Tracking.{ticking_tracks}
use Rattle.laws_stream.proofs.LoopLaws.{never_twice}

-- a started decoder reads the time word of a coarse time t, from its own up to the period less the threshold later, as t
pub tracks2 : (d : Evt2Decoder) (t : ℕ) → in_range2 d ≡ true → d.initialised ≡ true → t % grain2 ≡ 0
    → d.time_high ≤ t → t ≤ d.time_high + (period2 - threshold2)
    → let after = step2 d (time_word2 (t / grain2 % 2 ^ 28)) in (after.high_loops ≡ t / period2) × (after.time_high ≡ t)
tracks2 d t r on whole later near =
    let high = t / grain2 % 2 ^ 28 in
    let high< : high < 2 ^ 28 = omega arith in
    let w = time_word2 high in
    let raw : time_high2 w * grain2 ≡ t % period2 = rw (time_high2_lem high high<) (omega arith) in
    rw (time_word_lem d w (type2 w) refl (time_type2 high high<)).0
    (ticking_tracks (2 ^ 28) grain2 threshold2 (omega arith) (omega arith) d.time_high d.time d.high_loops (time_high2 w * grain2) t
    ((regular_range2 d r).0.started on) raw later (omega arith))

-- of two time words in a row at most one counts a loop
pub never_twice2 : (d : Evt2Decoder) (v w : ℕ) → in_range2 d ≡ true → type2 v ≡ 8 → type2 w ≡ 8
    → (step2 d v).high_loops ≡ suc d.high_loops → (step2 (step2 d v) w).high_loops ≡ (step2 d v).high_loops
never_twice2 d v w r v-time w-time counts =
    let a = (time_word_lem d v (type2 v) refl v-time).0 in
    let one = rw a at counts in
    rw ((time_word_lem (step2 d v) w (type2 w) refl w-time).0, a, one)
    (never_twice period2 threshold2 d.time_high d.high_loops (time_high2 v * grain2) (omega arith) (below2 d (regular_range2 d r).0) one
    (time_high2 w * grain2))
