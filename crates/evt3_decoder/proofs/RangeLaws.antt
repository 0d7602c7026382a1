-- Laws of specs/Range.antt.
use Rattle.evt3_decoder.specs.{Evt3.fresh3, Evt3.in_range3, Evt3.number, Evt3.period3, Evt3.reader3, Evt3.step3, Evt3.threshold3, Evt3.vector3, Range.Bounded3}
use Rattle.evt3_decoder.specs.{Range.Regular3, Range.below3, Range.goes_on3, Range.near3, Range.regular_fresh3, Range.row3, declared.Decoder.Decoder}
use Rattle.evt_types.specs.{Clock.Ticking, Clock.ticking_range, Clock.ticking_word, Event.Narrow, Layout.grain3, Layout.time3, Layout.type3, Layout.word_size3}
use Rattle.laws_stream.proofs.LoopLaws.{charge-one, loops_one}
use Rattle.laws_stream.specs.{Loop.charge, Loop.charge-fresh, Loop.charge-le, Loop.charge-run, Machine.run, Machine.run-keeps, Words.length-words}
use Rattle.laws_stream.specs.{Words.words_of}
use Rattle.std.proofs.Common.{ap, arith, le-leb, true≢false}
use Rattle.std.specs.Prelude.{Bool, List, false, length, refl, suc, true, ℕ, ◌%◌, ◌*◌, ◌+◌, ◌/◌, ◌<◌, ◌^◌, ◌≡◌, ◌≤◌}
use Rattle.evt3_decoder.specs.Evt3 as Evt3

sets3 : (d : Decoder) (coarse loops : ℕ) → Ticking 4096 grain3 coarse coarse loops → d.y < 2048 → Regular3 (Evt3.at_coarse d coarse loops)
sets3 d coarse loops t y = record { unstarted = λ h. absurd (true≢false h); started = λ h. (t, y) }

pub regular_step3 : (d : Decoder) (w : ℕ) → Regular3 d → Regular3 (step3 d w)
unfolding step3
regular_step3 d w r =
    let raw : time3 w < 4096 = omega arith in
    Evt3.by_kinds (λ k. Regular3 (Evt3.step_as k d w)) (type3 w) d.initialised
    (λ off. let z : d.high_loops ≡ 0 = ap (λ (e : Decoder). e.high_loops) (r.unstarted off) in
    sets3 d (time3 w * grain3) d.high_loops
    (record { low = omega arith; high = omega arith; whole = omega arith; past = omega arith; near = omega arith }) (row3 d r))
    (λ on. sets3 d _ _ (ticking_word 4096 grain3 (omega arith) (omega arith) threshold3 d.time_base d.high_loops (time3 w) raw) (row3 d r))
    (λ on. let t = r.started on in
    goes_on3 _ on (record { low = t.0.low; high = t.0.high; whole = t.0.whole; past = omega arith; near = omega arith }, t.1))
    (λ on. goes_on3 _ on ((r.started on).0, omega arith))
    (λ on. r)
    (λ on. goes_on3 _ on (r.started on))
    (λ on. goes_on3 _ on (r.started on))
    (λ on. goes_on3 _ on (r.started on))
    r

abbrev charge3 : Decoder → ℕ
charge3 d = charge period3 threshold3 d.time_base d.high_loops

slow3 : (d : Decoder) (w : ℕ) → Regular3 d → charge3 (step3 d w) ≤ charge3 d + 1
unfolding step3
slow3 d w r =
    let same : charge3 d ≤ charge3 d + 1 = omega arith in
    Evt3.by_kinds (λ k. charge3 (Evt3.step_as k d w) ≤ charge3 d + 1) (type3 w) d.initialised
    (λ off. let z : d.high_loops ≡ 0 = ap (λ (e : Decoder). e.high_loops) (r.unstarted off) in
    rw z (omega (arith, charge-le period3 threshold3 (time3 w * grain3) 0)))
    (λ on. charge-one period3 threshold3 d.time_base d.high_loops (time3 w * grain3) (omega arith) (below3 d r))
    (λ on. same) (λ on. same) (λ on. same) (λ on. same) (λ on. same) (λ on. same) same

range3 : (d : Decoder) → Regular3 d → d.high_loops ≤ 2 ^ 28 → in_range3 d ≡ true
range3 d r h = go d.initialised refl
  where
    go : (b : Bool) → d.initialised ≡ b → in_range3 d ≡ true
    go true e =
        let t = r.started e in
        let c = ticking_range 4096 grain3 (omega arith) (omega arith) (2 ^ 28) d.time_base d.time d.high_loops t.0 h in
        rw (e, c, le-leb d.y 2047 (omega (arith, t.1)))
    go false e = ap in_range3 (r.unstarted e)

-- at most 2^30 bytes from a fresh decoder
pub fresh_range3 : (l : List ℕ) → length l ≤ 2 ^ 30 → in_range3 (run reader3 fresh3 (words_of word_size3 l)) ≡ true
fresh_range3 l h =
    let ws = words_of word_size3 l in
    let few = charge-run period3 threshold3 reader3 (λ d. d.time_base) (λ d. d.high_loops) Regular3 regular_step3 slow3 fresh3 ws regular_fresh3 in
    range3 (run reader3 fresh3 ws) (run-keeps reader3 Regular3 regular_step3 fresh3 ws regular_fresh3)
    (omega (arith, few, charge-fresh period3 threshold3 (omega arith), length-words 2 l))

one3 : (d : Decoder) (w : ℕ) → d.base_x < 2 ^ 16 → ((step3 d w).high_loops ≤ suc d.high_loops) × ((step3 d w).base_x < 2 ^ 16)
unfolding step3
one3 d w x =
    let same : d.high_loops ≤ suc d.high_loops = omega arith in
    Evt3.by_kinds (λ k. ((Evt3.step_as k d w).high_loops ≤ suc d.high_loops) × ((Evt3.step_as k d w).base_x < 2 ^ 16)) (type3 w) d.initialised
    (λ off. (same, x)) (λ on. ((loops_one period3 threshold3 d.time_base d.high_loops (time3 w * grain3)).1, x))
    (λ on. (same, x)) (λ on. (same, x)) (λ on. (same, x)) (λ on. (same, omega arith)) (λ on. (same, omega arith)) (λ on. (same, omega arith)) (same, x)

pub bounded_step3 : (n : ℕ) (d : Decoder) (w : ℕ) → Bounded3 (suc n) d → Bounded3 n (step3 d w)
bounded_step3 n d w b =
    let o = one3 d w b.column in
    record { regular = regular_step3 d w b.regular; loops = omega (arith, b.loops, o.0); column = o.1 }

number_lt : (b : Bool) → number b < 2
number_lt true = omega arith
number_lt false = omega arith

pub bounded_narrow3 : {n : ℕ} {d : Decoder} (w : ℕ) → Bounded3 n d → Narrow (vector3 d w)
unfolding vector3
bounded_narrow3 {n} {d} w b =
    let h = below3 d b.regular in
    let t = near3 d b.regular in
    let y = row3 d b.regular in
    let l = b.loops in
    let late : d.time < 2 ^ 63 = omega arith in
    let none : Narrow (Evt3.vector_as Evt3.skip d w) = record { x< = omega arith; y< = omega arith; t< = omega arith; p< = omega arith; mask< = omega arith } in
    let some : (m : ℕ) → m < 2 ^ 32 → Narrow (Evt3.several d m) =
    λ m q. record { x< = b.column; y< = omega arith; t< = late; p< = number_lt d.polarity; mask< = q } in
    Evt3.by_kinds (λ k. Narrow (Evt3.vector_as k d w)) (type3 w) d.initialised
    (λ off. none) (λ on. none) (λ on. none) (λ on. none)
    (λ on. record { x< = omega arith; y< = omega arith; t< = late; p< = omega arith; mask< = omega arith })
    (λ on. none) (λ on. some (w / 2 ^ 0 % 2 ^ 12) (omega arith)) (λ on. some (w / 2 ^ 0 % 2 ^ 8) (omega arith)) none
