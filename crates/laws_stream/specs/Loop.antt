-- Time that is sent modulo a period, and how a reader tells that a period has gone by: for any period and threshold.
use Rattle.std.specs.Prelude.{◌≡◌, Bool, List, leb, length}
use Rattle.std.proofs.Math.Bool.{true, false, cond}
use Prim.Native.Nat.{ℕ, suc, ◌+◌, ◌*◌, ◌/◌, ◌≤◌, ◌<◌}
use native.Mathlib.Omega.{arith}
use borrow.Author.Tests.{lt-leb, le-leb}
use Rattle.laws_stream.specs.Machine.{Machine, run, run-bound}

module _ (period threshold : ℕ) where
  -- the loops after `raw` is read, where `old` was the time before: one more where the time would fall by the threshold or more
  unfoldable pub loops_after : (old loops raw : ℕ) → ℕ
  loops_after old loops raw = cond (leb (raw + loops * period + threshold) old) (suc loops) loops

  unfoldable pub time_after : (old loops raw : ℕ) → ℕ
  time_after old loops raw = raw + loops_after old loops raw * period

  pub same-loop : (old loops raw : ℕ) → old < raw + loops * period + threshold → loops_after old loops raw ≡ loops
  unfolding loops_after
  same-loop old loops raw h = rw lt-leb

  pub next-loop : (old loops raw : ℕ) → raw + loops * period + threshold ≤ old → loops_after old loops raw ≡ suc loops
  unfolding loops_after
  next-loop old loops raw h = rw le-leb

  -- and leaves the time in the period that it counts
  pub in_period : (old loops raw : ℕ) → raw < period
      → (loops_after old loops raw * period ≤ time_after old loops raw) × (time_after old loops raw < suc (loops_after old loops raw) * period)
  unfolding time_after
  in_period old loops raw h = (omega arith, omega arith)

  -- ---- how many loops n time words can count

  -- 1 where the next time word may count a loop
  unfoldable pub late : (coarse loops : ℕ) → ℕ
  late coarse loops = cond (leb (threshold + loops * period) coarse) 1 0

  -- what time words raise by at most 1 each: two for a loop, and one where the next may come at once
  unfoldable pub charge : (coarse loops : ℕ) → ℕ
  charge coarse loops = 2 * loops + late coarse loops

  pub late-le : (coarse loops : ℕ) → late coarse loops ≤ 1
  unfolding late
  late-le coarse loops = go (leb (threshold + loops * period) coarse)
    where
      go : (b : Bool) → cond b 1 0 ≤ 1
      go true = omega arith
      go false = omega arith

  pub late_none : (coarse loops : ℕ) → coarse < threshold + loops * period → late coarse loops ≡ 0
  unfolding late
  late_none coarse loops h = rw lt-leb

  pub charge_ge : (coarse loops : ℕ) → 2 * loops ≤ charge coarse loops
  unfolding charge
  charge_ge coarse loops = omega arith

  pub charge-le : (coarse loops : ℕ) → charge coarse loops ≤ 2 * loops + 1
  unfolding charge
  charge-le coarse loops = omega (arith, late-le coarse loops)

  -- a fresh reader
  pub charge-fresh : 0 < threshold → charge 0 0 ≡ 0
  unfolding charge
  charge-fresh h = omega (arith, late_none 0 0 (omega arith))

  -- n words count at most n / 2 loops, rounded up
  module _ {S W E : Type 0} (M : Machine S W E) (coarse loops : S → ℕ) (Inv : S → Type 0) (keeps : (s : S) (w : W) → Inv s → Inv (M.step s w))
      (slow : (s : S) (w : W) → Inv s → charge (coarse (M.step s w)) (loops (M.step s w)) ≤ charge (coarse s) (loops s) + 1) where
    pub charge-run : (s : S) (ws : List W) → Inv s → 2 * loops (run M s ws) ≤ charge (coarse s) (loops s) + length ws
    charge-run s ws i =
        omega (arith, charge_ge (coarse (run M s ws)) (loops (run M s ws)), run-bound M Inv keeps (λ u. charge (coarse u) (loops u)) slow s ws i)

    pub loops_run : (s : S) (ws : List W) → Inv s → loops (run M s ws) ≤ loops s + (length ws + 1) / 2
    loops_run s ws i = omega (arith, charge-run s ws i, charge-le (coarse s) (loops s))
