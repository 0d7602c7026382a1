-- The time-loop law of EVT 2.1: that of EVT 2.0.
use Rattle.std.specs.Prelude.{◌≡◌, true, ℕ, suc, ◌+◌, ◌-◌, ◌/◌, ◌%◌, ◌^◌, ◌≤◌}
use Rattle.std.proofs.Common.{◌∙◌}
use Rattle.evt2_decoder.specs.{Evt2.period2, Evt2.threshold2, Loops.tracks2, Loops.never_twice2}
use Rattle.evt_types.specs.Layout.{type21, grain2, time_word2, time_word21, upper, upper_type, bare_upper}
use Rattle.evt21_decoder.specs.{declared.Evt21Decoder.Evt21Decoder, Evt21.as2, Evt21.step21, Evt21.in_range21}

-- a started decoder reads the time word of a coarse time t, from its own up to the period less the threshold later, as t
pub tracks21 : (d : Evt21Decoder) (t : ℕ) → in_range21 d ≡ true → d.initialised ≡ true → t % grain2 ≡ 0
    → d.time_high ≤ t → t ≤ d.time_high + (period2 - threshold2)
    → let after = step21 d (time_word21 (t / grain2 % 2 ^ 28)) in (after.high_loops ≡ t / period2) × (after.time_high ≡ t)
tracks21 d t r on whole later near = rw (bare_upper (time_word2 (t / grain2 % 2 ^ 28))) (tracks2 (as2 d) t r on whole later near)

-- of two time words in a row at most one counts a loop
pub never_twice21 : (d : Evt21Decoder) (v w : ℕ) → in_range21 d ≡ true → type21 v ≡ 8 → type21 w ≡ 8
    → (step21 d v).high_loops ≡ suc d.high_loops → (step21 (step21 d v) w).high_loops ≡ (step21 d v).high_loops
never_twice21 d v w r v-time w-time = never_twice2 (as2 d) (upper v) (upper w) r (upper_type v ∙ v-time) (upper_type w ∙ w-time)
