-- The time-loop law of EVT3: which time words a decoder reads as the times that were meant.
use Rattle.std.specs.Prelude.{◌≡◌, refl, Bool, true, false, ℕ, suc, ◌+◌, ◌-◌, ◌*◌, ◌/◌, ◌%◌, ◌≤◌, ◌<◌}
use Rattle.std.proofs.Common.{arith}
use Rattle.evt3_decoder.specs.{declared.Decoder.Decoder, Evt3.period3, Evt3.threshold3, Evt3.step3, Evt3.in_range3, Evt3.started_word}
use Rattle.evt3_decoder.specs.{Evt3.first_word, Range.regular_range3, Range.below3}
use Rattle.evt_types.specs.{Layout.type3, Layout.time3, Layout.grain3, Layout.word3, Layout.word-type3, Layout.word-time3, Tracking.ticking_tracks}
use Rattle.laws_stream.proofs.LoopLaws.{never_twice}

-- a started decoder reads the time word of a coarse time t, from its own up to the period less the threshold later, as t
pub tracks3 : (d : Decoder) (t : ℕ) → in_range3 d ≡ true → d.initialised ≡ true → t % grain3 ≡ 0
    → d.time_base ≤ t → t ≤ d.time_base + (period3 - threshold3)
    → let after = step3 d (word3 8 (t / grain3 % 4096)) in (after.high_loops ≡ t / period3) × (after.time_base ≡ t)
tracks3 d t r on whole later near =
    let high = t / grain3 % 4096 in
    let high< : high < 4096 = omega arith in
    let w = word3 8 high in
    let raw : time3 w * grain3 ≡ t % period3 = rw (word-time3 8 high (omega arith) high<) (omega arith) in
    rw (started_word d w (type3 w) refl 8 (word-type3 8 high (omega arith) high<) on).0
    (ticking_tracks 4096 grain3 threshold3 (omega arith) (omega arith) d.time_base d.time d.high_loops (time3 w * grain3) t
    ((regular_range3 d r).0.started on).0 raw later (omega arith))

-- of two time words in a row at most one counts a loop
pub never_twice3 : (d : Decoder) (v w : ℕ) → in_range3 d ≡ true → type3 v ≡ 8 → type3 w ≡ 8
    → (step3 d v).high_loops ≡ suc d.high_loops → (step3 (step3 d v) w).high_loops ≡ (step3 d v).high_loops
never_twice3 d v w r v-time w-time counts = go d.initialised refl
  where
    go : (b : Bool) → d.initialised ≡ b → (step3 (step3 d v) w).high_loops ≡ (step3 d v).high_loops
    go true on =
        let a = (started_word d v (type3 v) refl 8 v-time on).0 in
        let one = rw a at counts in
        rw ((started_word (step3 d v) w (type3 w) refl 8 w-time (rw a)).0, a, one)
        (never_twice period3 threshold3 d.time_base d.high_loops (time3 v * grain3) (omega arith) (below3 d (regular_range3 d r).0) one
        (time3 w * grain3))
    go false off = let none : d.high_loops ≡ suc d.high_loops = rw (first_word d v (type3 v) refl v-time off).0 at counts in absurd (omega arith)
