-- Passing over words as long as the events that have a number stay within a bound: how far that goes, and that a choice by number loses nothing by it.
use Rattle.std.specs.Prelude.{◌≡◌, Bool, ℕ, suc, ◌+◌, ◌-◌, ◌≤◌, ◌<◌, length, take}
use Rattle.std.proofs.Math.Path.{refl}
use Rattle.std.proofs.Common.{arith}
use Rattle.std.proofs.Math.Bool.{true, false}
use mathlib.Core.List.{List, [], ◌∷◌}
use Rattle.std.proofs.Math.Dec.{leb}
use Rattle.std.proofs.Math.ListN.{length-append}
use borrow.Author.Tests.{leb-true, le-leb, lt-leb}
use Rattle.laws_stream.specs.{Machine.Machine, Machine.run, Machine.emits, Slice.sift, Slice.sift-append}

-- how many words are passed over, how many numbered events they have, and the state behind them
pub record Over (S : Type 0) : Type 0 where
  pub words : ℕ
  pub count : ℕ
  pub state : S

abbrev pub here : {S : Type 0} → S → Over S
here s = record { words = 0; count = 0; state = s }

-- one more word, with m events
abbrev pub one_over : {S : Type 0} → ℕ → Over S → Over S
one_over m r = record { words = suc r.words; count = m + r.count; state = r.state }

abbrev pub over_if : {S : Type 0} → Bool → S → ℕ → Over S → Over S
over_if true s m r = one_over m r
over_if false s m r = here s

module _ {S W E : Type 0} (M : Machine S W E) (inside : E → Bool) where
  -- a word's events that have a number
  abbrev pub numbers_in : S → W → ℕ
  numbers_in s w = length (sift inside (M.emit s w))

  -- whole words, while their events number at most `most`
  unfoldable pub over : (most : ℕ) → S → List W → Over S
  over most s [] = here s
  over most s (w ∷ ws) = over_if (leb (numbers_in s w) most) s (numbers_in s w) (over (most - numbers_in s w) (M.step s w) ws)

  module _ (most : ℕ) (s : S) where
    pub over-nil : over most s [] ≡ here s
    unfolding over
    over-nil = refl

    module _ (w : W) (ws : List W) where
      pub over_on : numbers_in s w ≤ most → over most s (w ∷ ws) ≡ one_over (numbers_in s w) (over (most - numbers_in s w) (M.step s w) ws)
      unfolding over
      over_on h = rw (le-leb (numbers_in s w) most h)

      pub over_stop : most < numbers_in s w → over most s (w ∷ ws) ≡ here s
      unfolding over
      over_stop h = rw (lt-leb (numbers_in s w) most h)

  -- what it tells: the words' events, of which there are at most `most`, and the state behind them
  pub record Passes (most : ℕ) (s : S) (ws : List W) (r : Over S) : Type 0 where
    pub words : r.words ≤ length ws
    pub few : r.count ≤ most
    pub count : r.count ≡ length (sift inside (emits M s (take r.words ws)))
    pub state : r.state ≡ run M s (take r.words ws)

  pub over_passes : (most : ℕ) (s : S) (ws : List W) → Passes most s ws (over most s ws)
  unfolding over
  over_passes most s [] = record { words = omega arith; few = omega arith; count = refl; state = refl }
  over_passes most s (w ∷ ws) = go (leb (numbers_in s w) most) refl (over_passes (most - numbers_in s w) (M.step s w) ws)
    where
      go : (b : Bool) → leb (numbers_in s w) most ≡ b → {r : Over S} → Passes (most - numbers_in s w) (M.step s w) ws r
          → Passes most s (w ∷ ws) (over_if b s (numbers_in s w) r)
      go true e {r} p =
          let l = leb-true (numbers_in s w) most e in
          let behind = emits M (M.step s w) (take r.words ws) in
          record {
            words = omega (arith, p.words);
            few = omega (arith, p.few);
            count = rw (sift-append inside (M.emit s w) behind, length-append (sift inside (M.emit s w)) (sift inside behind)) (omega (arith, p.count));
            state = p.state;
          }
      go false e p = record { words = omega arith; few = omega arith; count = refl; state = refl }
