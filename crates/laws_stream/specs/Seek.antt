-- Seeking a time: the words that a machine can be taken over before its time reaches one, and what that leaves of a slice by time.
use Rattle.std.specs.Prelude.{◌≡◌, Bool, ◌&&◌, ◌||◌, take}
use Rattle.std.proofs.Math.Path.{refl}
use Rattle.std.proofs.Common.{sym, ap, ◌∙◌, add-zero}
use Rattle.std.proofs.Math.Bool.{true, false, or-false, or_assoc}
use mathlib.Core.List.{List, [], ◌∷◌}
use Prim.Native.Nat.{ℕ, suc, ◌+◌, ◌≤◌, ◌<◌}
use native.Mathlib.Omega.{arith}
use Rattle.std.proofs.Math.Dec.{ltb}
use Rattle.std.proofs.Math.ListN.{length}
use borrow.Author.Tests.{lt-ltb, le-ltb}
use Rattle.laws_stream.specs.Machine.{Machine, run}

-- where a seek ends: how many words were passed over, whether one of them that carries events left the state before a time, and the state
pub record Reach (S : Type 0) : Type 0 where
  pub words : ℕ
  pub stray : Bool
  pub state : S

module _ {S : Type 0} where
  abbrev pub stay : S → Reach S
  stay s = record { words = 0; stray = false; state = s }

  abbrev pub reach_if : Bool → S → (stray : Bool) → Reach S → Reach S
  reach_if true s f r = record { words = suc r.words; stray = f || r.stray; state = r.state }
  reach_if false s f r = stay s

  -- where c words were passed over before
  abbrev pub behind : ℕ → (stray : Bool) → Reach S → Reach S
  behind c f r = record { words = c + r.words; stray = f || r.stray; state = r.state }

  pub behind_none : (r : Reach S) → behind 0 false r ≡ r
  behind_none r = let e : 0 + r.words ≡ r.words = omega arith in ap (λ (n : ℕ). record { words = n; stray = r.stray; state = r.state }) e

  pub behind-stay : (c : ℕ) (f : Bool) (s : S) → behind c f (stay s) ≡ record { words = c; stray = f; state = s }
  behind-stay c f s = rw (add-zero, or-false)

  pub behind_more : (c : ℕ) (f g : Bool) (s : S) (r : Reach S) → behind c f (reach_if true s g r) ≡ behind (c + 1) (f || g) r
  behind_more c f g s r =
      let e : c + suc r.words ≡ c + 1 + r.words = omega arith in
      ap (λ (n : ℕ). record { words = n; stray = f || (g || r.stray); state = r.state }) e
      ∙ ap (λ (b : Bool). record { words = c + 1 + r.words; stray = b; state = r.state }) (sym (or_assoc f g r.stray))

module _ {S W E : Type 0} (M : Machine S W E) (time : S → ℕ) (carries : W → Bool) (t₀ t₁ : ℕ) where
  -- a word that carries events, and leaves the state before t₀
  abbrev pub strays : W → S → Bool
  strays w s = ltb (time s) t₀ && carries w

  -- over the words before the first that takes the state to t₁ or later
  unfoldable pub reach : S → List W → Reach S
  reach s [] = stay s
  reach s (w ∷ ws) = reach_if (ltb (time (M.step s w)) t₁) s (strays w (M.step s w)) (reach (M.step s w) ws)

  -- ---- one step

  pub reach-nil : (s : S) → reach s [] ≡ stay s
  unfolding reach
  reach-nil s = refl

  module _ (s : S) (w : W) (ws : List W) where
    pub reach_on : time (M.step s w) < t₁ → reach s (w ∷ ws) ≡ reach_if true s (strays w (M.step s w)) (reach (M.step s w) ws)
    unfolding reach
    reach_on h = rw (lt-ltb (time (M.step s w)) t₁ h)

    pub reach_stop : t₁ ≤ time (M.step s w) → reach s (w ∷ ws) ≡ stay s
    unfolding reach
    reach_stop h = rw (le-ltb (time (M.step s w)) t₁ h)

  -- ---- the state there

  pub reach_state : (s : S) (ws : List W) → (reach s ws).state ≡ run M s (take (reach s ws).words ws)
  unfolding reach
  reach_state s [] = refl
  reach_state s (w ∷ ws) = go (ltb (time (M.step s w)) t₁) (strays w (M.step s w)) (reach (M.step s w) ws) (reach_state (M.step s w) ws)
    where
      go : (b f : Bool) (r : Reach S) → r.state ≡ run M (M.step s w) (take r.words ws)
          → (reach_if b s f r).state ≡ run M s (take (reach_if b s f r).words (w ∷ ws))
      go true f r ih = ih
      go false f r ih = refl

  pub reach-most : (s : S) (ws : List W) → (reach s ws).words ≤ length ws
  unfolding reach
  reach-most s [] = omega arith
  reach-most s (w ∷ ws) = go (ltb (time (M.step s w)) t₁) (strays w (M.step s w)) (reach (M.step s w) ws) (reach-most (M.step s w) ws)
    where
      go : (b f : Bool) (r : Reach S) → r.words ≤ length ws → (reach_if b s f r).words ≤ suc (length ws)
      go true f r ih = omega arith
      go false f r ih = omega arith
