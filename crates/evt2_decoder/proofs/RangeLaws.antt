-- Laws of specs/Range.antt.
use Rattle.evt2_decoder.specs.{Evt2.fresh2, Evt2.in_range2, Evt2.period2, Evt2.reader2, Evt2.step2, Evt2.threshold2, Evt2.vector2, Range.Bounded2}
use Rattle.evt2_decoder.specs.{Range.Regular2, Range.below2, Range.regular_fresh2, declared.Evt2Decoder.Evt2Decoder}
use Rattle.evt_types.specs.{Clock.ticking_range, Clock.ticking_word, Event.Narrow, Layout.grain2, Layout.time_high2, Layout.type2, Layout.word_size2}
use Rattle.laws_stream.proofs.LoopLaws.{charge-one, loops_one}
use Rattle.laws_stream.specs.{Loop.charge, Loop.charge-fresh, Loop.charge-run, Machine.run, Machine.run-keeps, Words.length-words, Words.words_of}
use Rattle.std.proofs.Common.{ap, arith, sym, true≢false, ◌∙◌}
use Rattle.std.specs.Prelude.{Bool, List, false, length, refl, suc, true, ℕ, ◌*◌, ◌+◌, ◌^◌, ◌≡◌, ◌≤◌}
use Rattle.evt2_decoder.specs.Evt2 as Evt2

pub regular_step2 : (d : Evt2Decoder) (w : ℕ) → Regular2 d → Regular2 (step2 d w)
unfolding step2
regular_step2 d w r = Evt2.by_kinds (λ k. Regular2 (Evt2.step_as k d w)) (type2 w) d.initialised
    (record {
      unstarted = λ h. absurd (true≢false h);
      started = λ h. ticking_word (2 ^ 28) grain2 (omega arith) (omega arith) threshold2 d.time_high d.high_loops (time_high2 w) (omega arith);
    })
    (λ on q. record {
      unstarted = λ h. absurd (true≢false (sym on ∙ h));
      started = λ h. let t = r.started on in record { low = t.low; high = t.high; whole = t.whole; past = omega arith; near = omega arith };
    })
    r

abbrev charge2 : Evt2Decoder → ℕ
charge2 d = charge period2 threshold2 d.time_high d.high_loops

slow2 : (d : Evt2Decoder) (w : ℕ) → Regular2 d → charge2 (step2 d w) ≤ charge2 d + 1
unfolding step2
slow2 d w r = Evt2.by_kinds (λ k. charge2 (Evt2.step_as k d w) ≤ charge2 d + 1) (type2 w) d.initialised
    (charge-one period2 threshold2 d.time_high d.high_loops (time_high2 w * grain2) (omega arith) (below2 d r))
    (λ on q. omega arith) (omega arith)

range2 : (d : Evt2Decoder) → Regular2 d → d.high_loops ≤ 2 ^ 27 → in_range2 d ≡ true
range2 d r h = go d.initialised refl
  where
    go : (b : Bool) → d.initialised ≡ b → in_range2 d ≡ true
    go true e = rw e (ticking_range (2 ^ 28) grain2 (omega arith) (omega arith) (2 ^ 27) d.time_high d.time d.high_loops (r.started e) h)
    go false e = ap in_range2 (r.unstarted e)

-- at most 2^28 words from a fresh decoder
pub fresh_range_words2 : (ws : List ℕ) → length ws ≤ 2 ^ 28 → in_range2 (run reader2 fresh2 ws) ≡ true
fresh_range_words2 ws h =
    let few = charge-run period2 threshold2 reader2 (λ d. d.time_high) (λ d. d.high_loops) Regular2 regular_step2 slow2 fresh2 ws regular_fresh2 in
    range2 (run reader2 fresh2 ws) (run-keeps reader2 Regular2 regular_step2 fresh2 ws regular_fresh2)
    (omega (arith, few, charge-fresh period2 threshold2 (omega arith)))

-- which at most 2^30 bytes are
pub fresh_range2 : (l : List ℕ) → length l ≤ 2 ^ 30 → in_range2 (run reader2 fresh2 (words_of word_size2 l)) ≡ true
fresh_range2 l h = fresh_range_words2 (words_of word_size2 l) (omega (arith, length-words 4 l))

one2 : (d : Evt2Decoder) (w : ℕ) → (step2 d w).high_loops ≤ suc d.high_loops
unfolding step2
one2 d w = Evt2.by_kinds (λ k. (Evt2.step_as k d w).high_loops ≤ suc d.high_loops) (type2 w) d.initialised
    (loops_one period2 threshold2 d.time_high d.high_loops (time_high2 w * grain2)).1 (λ on q. omega arith) (omega arith)

pub bounded_step2 : (n : ℕ) (d : Evt2Decoder) (w : ℕ) → Bounded2 (suc n) d → Bounded2 n (step2 d w)
bounded_step2 n d w b = record { regular = regular_step2 d w b.regular; loops = omega (arith, b.loops, one2 d w) }

pub bounded_narrow2 : {n : ℕ} {d : Evt2Decoder} (w : ℕ) → Bounded2 n d → Narrow (vector2 d w)
unfolding vector2
bounded_narrow2 {n} {d} w b =
    let h = below2 d b.regular in
    let l = b.loops in
    let none : Narrow (Evt2.vector_as Evt2.skip d w) = record { x< = omega arith; y< = omega arith; t< = omega arith; p< = omega arith; mask< = omega arith } in
    Evt2.by_kinds (λ k. Narrow (Evt2.vector_as k d w)) (type2 w) d.initialised none
    (λ on q. record { x< = omega arith; y< = omega arith; t< = omega arith; p< = q; mask< = omega arith }) none
