-- Laws of specs/Loop.antt.
use Prim.Native.Nat.{suc, ℕ, ◌%◌, ◌*◌, ◌+◌, ◌/◌, ◌<◌, ◌≤◌}
use Rattle.laws_stream.specs.Loop.{charge, late, late-le, late_none, loops_after, next-loop, same-loop, time_after}
use Rattle.std.proofs.{Common.div-add-mod', Common.div-lt_iff_lt-mul, Common.inl, Common.inr, Common.le-div_iff_mul-le, Common.mod-lt, Common.sym, Common.◌∙◌}
use Rattle.std.proofs.{Math.Bool.false, Math.Bool.true, Math.Logic.⊎_elim}
use Rattle.std.specs.Prelude.{Bool, eqb, leb, refl, ◌≡◌, ◌⊎◌}
use borrow.Author.Tests.{eqb-false, eqb-true, le-leb, leb-false, leb-true}
use native.Mathlib.Omega.{arith}

module _ (period threshold : ℕ) where
  loop_cases : (old loops raw : ℕ)
      → ((old < raw + loops * period + threshold) × (loops_after period threshold old loops raw ≡ loops))
      ⊎ ((raw + loops * period + threshold ≤ old) × (loops_after period threshold old loops raw ≡ suc loops))
  loop_cases old loops raw = go (leb (raw + loops * period + threshold) old) refl
    where
      go : (b : Bool) → leb (raw + loops * period + threshold) old ≡ b
          → ((old < raw + loops * period + threshold) × (loops_after period threshold old loops raw ≡ loops))
          ⊎ ((raw + loops * period + threshold ≤ old) × (loops_after period threshold old loops raw ≡ suc loops))
      go true q =
          let h = leb-true (raw + loops * period + threshold) old q in
          inr (h, next-loop period threshold old loops raw h)
      go false q =
          let h = leb-false (raw + loops * period + threshold) old q in
          inl (h, same-loop period threshold old loops raw h)

  -- a time word counts at most one loop
  pub loops_one : (old loops raw : ℕ) → (loops ≤ loops_after period threshold old loops raw) × (loops_after period threshold old loops raw ≤ suc loops)
  loops_one old loops raw =
      ⊎_elim (λ c. (omega (arith, c.1), omega (arith, c.1))) (λ c. (omega (arith, c.1), omega (arith, c.1))) (loop_cases old loops raw)

  -- the time t, sent as `raw` in the same loop as the time before or in the next, is read as t
  pub tracks_same : (old loops raw t : ℕ) → t ≡ raw + loops * period → old < t + threshold → (loops_after period threshold old loops raw ≡ loops) × (time_after period threshold old loops raw ≡ t)
  unfolding time_after
  tracks_same old loops raw t e h =
      let l = same-loop period threshold old loops raw (omega arith) in
      (l, rw l (sym e))

  pub tracks_next : (old loops raw t : ℕ) → t ≡ raw + suc loops * period → t + threshold ≤ old + period
      → (loops_after period threshold old loops raw ≡ suc loops) × (time_after period threshold old loops raw ≡ t)
  unfolding time_after
  tracks_next old loops raw t e h =
      let l = next-loop period threshold old loops raw (omega arith) in
      (l, rw l (sym e))

  tracks_go : (b : Bool) (old t : ℕ) → eqb (t / period) (old / period) ≡ b → 0 < period → 0 < threshold → old ≤ t → t + threshold ≤ old + period
      → (loops_after period threshold old (old / period) (t % period) ≡ t / period) × (time_after period threshold old (old / period) (t % period) ≡ t)
  tracks_go true old t q p h le gap =
      let e = eqb-true (t / period) (old / period) q in
      let r = tracks_same old (old / period) (t % period) t (rw (← e) (omega (arith, div-add-mod' t period))) (omega arith) in
      (r.0 ∙ sym e, r.1)
  tracks_go false old t q p h le gap =
      let ne = eqb-false (t / period) (old / period) q in
      let up : old / period ≤ t / period = (le-div_iff_mul-le p).1 (omega (arith, div-add-mod' old period)) in
      let lt : t / period < suc (suc (old / period)) = (div-lt_iff_lt-mul p).1 (omega (arith, div-add-mod' old period, mod-lt old p)) in
      let e : t / period ≡ suc (old / period) = omega arith in
      let r = tracks_next old (old / period) (t % period) t (rw (← e) (omega (arith, div-add-mod' t period))) gap in
      (r.0 ∙ sym e, r.1)

  -- times that never fall, and that rise by no more than the period less the threshold at a time, are read as they are, however many periods go by
  pub tracks : (old t : ℕ) → 0 < period → 0 < threshold → old ≤ t → t + threshold ≤ old + period
      → (loops_after period threshold old (old / period) (t % period) ≡ t / period) × (time_after period threshold old (old / period) (t % period) ≡ t)
  tracks old t = tracks_go (eqb (t / period) (old / period)) old t refl

  -- ---- how many loops n time words can count

  -- two time words in a row never both count a loop
  pub never_twice : (old loops raw : ℕ) → period ≤ 2 * threshold → old < suc loops * period → loops_after period threshold old loops raw ≡ suc loops
      → (raw₂ : ℕ) → loops_after period threshold (time_after period threshold old loops raw) (suc loops) raw₂ ≡ suc loops
  unfolding time_after
  never_twice old loops raw two inside e raw₂ =
      ⊎_elim
      (λ c. absurd (omega (arith, e, c.1)))
      (λ c. rw e (same-loop period threshold (raw + suc loops * period) (suc loops) raw₂ (omega (arith, c.0))))
      (loop_cases old loops raw)

  late-one : (coarse loops : ℕ) → threshold + loops * period ≤ coarse → late period threshold coarse loops ≡ 1
  unfolding late
  late-one coarse loops h = rw le-leb

  pub charge-one : (old loops raw : ℕ) → period ≤ 2 * threshold → old < suc loops * period
      → charge period threshold (time_after period threshold old loops raw) (loops_after period threshold old loops raw) ≤ charge period threshold old loops + 1
  unfolding charge time_after
  charge-one old loops raw two inside =
      ⊎_elim
      (λ c. omega (arith, c.1, late-le period threshold (time_after period threshold old loops raw) (loops_after period threshold old loops raw)))
      (λ c. rw c.1 (omega (arith, late-one old loops (omega (arith, c.0)), late_none period threshold (raw + suc loops * period) (suc loops) (omega (arith, c.0)))))
      (loop_cases old loops raw)
