-- A machine that emits what another does, from a part of its state; and how many words come before the first of some kind.
use Rattle.std.specs.Prelude.{◌≡◌, Bool, drop}
use Rattle.std.proofs.Math.Path.{refl, ap}
use Rattle.std.proofs.Common.{◌∙◌, zero-mul, suc-mul}
use Rattle.std.proofs.Math.Bool.{true, false, cond}
use mathlib.Core.List.{List, [], ◌∷◌}
use Prim.Native.Nat.{ℕ, suc, ◌+◌, ◌*◌, ◌≤◌, ◌<◌}
use native.Mathlib.Omega.{arith}
use Rattle.std.proofs.Math.ListN.{length}
use Rattle.laws_stream.specs.{Machine.Machine, Machine.emits, Words.words_of, Words.words-end}

-- the words before the first that passes the test
unfoldable pub lead : (ℕ → Bool) → List ℕ → ℕ
lead p [] = 0
lead p (w ∷ ws) = cond (p w) 0 (suc (lead p ws))

module _ (p : ℕ → Bool) where
  pub lead-nil : lead p [] ≡ 0
  unfolding lead
  lead-nil = refl

  pub lead-here : (w : ℕ) (ws : List ℕ) → p w ≡ true → lead p (w ∷ ws) ≡ 0
  unfolding lead
  lead-here w ws h = ap (λ (b : Bool). cond b 0 (suc (lead p ws))) h

  pub lead_on : (w : ℕ) (ws : List ℕ) → p w ≡ false → lead p (w ∷ ws) ≡ suc (lead p ws)
  unfolding lead
  lead_on w ws h = ap (λ (b : Bool). cond b 0 (suc (lead p ws))) h

  pub lead-most : (ws : List ℕ) → lead p ws ≤ length ws
  unfolding lead
  lead-most [] = omega arith
  lead-most (w ∷ ws) = go (p w) (lead-most ws)
    where
      go : (b : Bool) → lead p ws ≤ length ws → cond b 0 (suc (lead p ws)) ≤ suc (length ws)
      go true h = omega arith
      go false h = omega arith

-- a loop that looks for it, at index i
pub record Leading (p : ℕ → Bool) (n : ℕ) (l : List ℕ) (i : ℕ) : Type 0 where
  pub within : i ≤ length l
  pub comes : i + lead p (words_of n (drop i l)) * n ≡ lead p (words_of n l) * n

pub leading_start : (p : ℕ → Bool) (n : ℕ) (l : List ℕ) → Leading p n l 0
leading_start p n l = record { within = omega arith; comes = omega arith }

module _ {p : ℕ → Bool} {n : ℕ} (pos : 0 < n) {l : List ℕ} {i : ℕ} (u : Leading p n l i) where
  none_before : lead p (words_of n (drop i l)) ≡ 0 → i ≡ lead p (words_of n l) * n
  none_before z =
      let e : lead p (words_of n (drop i l)) * n ≡ 0 = rw z (zero-mul n) in
      omega (arith, u.comes)

  pub leading_end : length l < i + n → i ≡ lead p (words_of n l) * n
  leading_end h = none_before (ap (lead p) (words-end n pos l i h) ∙ lead-nil p)

  module _ (h : i + n ≤ length l) (w : ℕ) (here : words_of n (drop i l) ≡ w ∷ words_of n (drop (i + n) l)) where
    pub leading_found : p w ≡ true → i ≡ lead p (words_of n l) * n
    leading_found e = none_before (ap (lead p) here ∙ lead-here p w (words_of n (drop (i + n) l)) e)

    pub leading-next : p w ≡ false → Leading p n l (i + n)
    leading-next e =
        let k = lead p (words_of n (drop (i + n) l)) in
        let on : lead p (words_of n (drop i l)) ≡ suc k = ap (lead p) here ∙ lead_on p w (words_of n (drop (i + n) l)) e in
        let s : lead p (words_of n (drop i l)) * n ≡ k * n + n = ap (λ (k : ℕ). k * n) on ∙ suc-mul k n in
        record { within = h; comes = omega (arith, u.comes, s) }

-- N emits what M does, from a part of M's state, once M is live. A fresh M emits nothing, and becomes live by a word that starts it.
pub record Follows {S T E : Type 0} (M : Machine S ℕ E) (N : Machine T ℕ E) (part : S → T) (live : S → Bool) (starts : ℕ → Bool) (fresh : S) : Type 0 where
  pub stays : (s : S) (w : ℕ) → live s ≡ true → live (M.step s w) ≡ true
  pub steps : (s : S) (w : ℕ) → live s ≡ true → part (M.step s w) ≡ N.step (part s) w
  pub same : (s : S) (w : ℕ) → live s ≡ true → M.emit s w ≡ N.emit (part s) w
  pub mute : (w : ℕ) → M.emit fresh w ≡ []
  pub idle : (w : ℕ) → starts w ≡ false → M.step fresh w ≡ fresh
  pub begins : (w : ℕ) → starts w ≡ true → (live (M.step fresh w) ≡ true) × (part (M.step fresh w) ≡ N.step (part fresh) w) × (N.emit (part fresh) w ≡ [])

-- none where it is started
abbrev pub skipped : Bool → (ℕ → Bool) → List ℕ → ℕ
skipped started p ws = cond started 0 (lead p ws)

pub skipped-most : (b : Bool) (p : ℕ → Bool) (ws : List ℕ) → skipped b p ws ≤ length ws
skipped-most true p ws = omega arith
skipped-most false p ws = lead-most p ws

module _ {S T E : Type 0} {M : Machine S ℕ E} {N : Machine T ℕ E} {part : S → T} {live : S → Bool} {starts : ℕ → Bool} {fresh : S}
    (f : Follows M N part live starts fresh) where
  follows_on : (s : S) (ws : List ℕ) → live s ≡ true → emits M s ws ≡ emits N (part s) ws
  follows_on s [] on = refl
  follows_on s (w ∷ ws) on = rw (f.same s w on, follows_on (M.step s w) ws (f.stays s w on), f.steps s w on)

  follows_off : (ws : List ℕ) → emits M fresh ws ≡ emits N (part fresh) (drop (lead starts ws) ws)
  unfolding lead
  follows_off [] = refl
  follows_off (w ∷ ws) = rw (f.mute w) (go (starts w) refl (follows_off ws))
    where
      go : (b : Bool) → starts w ≡ b → emits M fresh ws ≡ emits N (part fresh) (drop (lead starts ws) ws)
          → emits M (M.step fresh w) ws ≡ emits N (part fresh) (drop (cond b 0 (suc (lead starts ws))) (w ∷ ws))
      go true e ih = let h = f.begins w e in rw (h.2, ← h.1) (follows_on (M.step fresh w) ws h.0)
      go false e ih = rw (f.idle w e) ih

  pub follows : (s : S) (ws : List ℕ) → (live s ≡ false → s ≡ fresh) → emits M s ws ≡ emits N (part s) (drop (skipped (live s) starts ws) ws)
  follows s ws off = go (live s) refl
    where
      go : (b : Bool) → live s ≡ b → emits M s ws ≡ emits N (part s) (drop (skipped b starts ws) ws)
      go true e = follows_on s ws e
      go false e = rw (off e) (follows_off ws)
