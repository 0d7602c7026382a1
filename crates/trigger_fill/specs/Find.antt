-- How many words of some bytes pass a test, and blocks of which none does.
use Rattle.std.specs.Prelude.{◌≡◌, Bool, ℕ, zero, suc, not, eqb, ltb, ◌+◌, ◌*◌, ◌≤◌, ◌<◌, length, take, drop}
use Rattle.std.proofs.Math.Path.{refl}
use Rattle.std.proofs.Common.{sym, ap, ◌∙◌, add-mul, zero-mul, suc-mul, mul-le-mul_right, eqb-true, ltb-true, ltb-false}
use Rattle.std.proofs.Common.{length-drop, length-append, take-append-drop, drop-drop, length-take-le}
use Rattle.std.proofs.Math.Bool.{true, false, cond}
use mathlib.Core.List.{List, [], ◌∷◌, ◌++◌}
use native.Mathlib.Omega.{arith}
use Rattle.std.proofs.Math.Nat.{div-eq_of_eq-mul_left}
use Rattle.std.proofs.Math.Seq.{take-length}
use Rattle.laws_stream.specs.{Machine.All, Words.words_of, Words.value, Words.length-words, Words.words-next, Words.words-end}
use Rattle.evt_types.specs.Ahead.{ahead, ahead-some}
use Rattle.trigger_fill.specs.Follow.{lead, Leading, leading_start, leading-next, leading_found, leading_end}
use Rattle.trigger_count.specs.Chunks.{Front, chunk-words}
use Rattle.laws_stream.proofs.WordsLaws.{words_dropped, words_taken}

unfoldable pub tally : (ℕ → Bool) → List ℕ → ℕ
tally p [] = 0
tally p (w ∷ ws) = cond (p w) (suc (tally p ws)) (tally p ws)

module _ (p : ℕ → Bool) where
  tally-nil : tally p [] ≡ 0
  unfolding tally
  tally-nil = refl

  tally-next : (w : ℕ) (ws : List ℕ) → tally p (w ∷ ws) ≡ cond (p w) (suc (tally p ws)) (tally p ws)
  unfolding tally
  tally-next w ws = refl

  tally_none : (ws : List ℕ) → tally p ws ≡ 0 → All (λ w. p w ≡ false) ws
  unfolding tally
  tally_none [] h = tt
  tally_none (w ∷ ws) h = go (p w) refl (tally_none ws) h
    where
      go : (b : Bool) → p w ≡ b → (tally p ws ≡ 0 → All (λ w. p w ≡ false) ws) → cond b (suc (tally p ws)) (tally p ws) ≡ 0
          → (p w ≡ false) × All (λ w. p w ≡ false) ws
      go true e ih h = absurd (omega arith)
      go false e ih h = (e, ih h)

  -- words before the first that passes
  pub lead_none : (ws : List ℕ) → All (λ w. p w ≡ false) (take (lead p ws) ws)
  unfolding lead
  lead_none [] = tt
  lead_none (w ∷ ws) = go (p w) refl (lead_none ws)
    where
      go : (b : Bool) → p w ≡ b → All (λ w. p w ≡ false) (take (lead p ws) ws) → All (λ w. p w ≡ false) (take (cond b 0 (suc (lead p ws))) (w ∷ ws))
      go true e ih = tt
      go false e ih = (e, ih)

  lead-over : (a b : List ℕ) → All (λ w. p w ≡ false) a → lead p (a ++ b) ≡ length a + lead p b
  unfolding lead
  lead-over [] b h = omega arith
  lead-over (w ∷ a) b h = rw h.0 (omega (arith, lead-over a b h.1))

-- a loop that counts them, of which `rest` is left
pub record Tallying (p : ℕ → Bool) (n : ℕ) (l : List ℕ) (count : ℕ) (rest : List ℕ) : Type 0 where
  pub few : count + length rest ≤ length l
  pub comes : count + tally p (words_of n rest) ≡ tally p (words_of n l)

pub tallying_start : (p : ℕ → Bool) (n : ℕ) (l : List ℕ) → Tallying p n l 0 l
tallying_start p n l = record { few = omega arith; comes = omega arith }

module _ {p : ℕ → Bool} {n : ℕ} (pos : 0 < n) {l : List ℕ} {count : ℕ} {rest : List ℕ} (u : Tallying p n l count rest) where
  pub tallying_end : length rest < n → count ≡ tally p (words_of n l)
  tallying_end h = omega (arith, u.comes, ap (tally p) (words-end n pos rest 0 (omega arith)) ∙ tally-nil p)

  pub tallying_next : (x left : List ℕ) → rest ≡ x ++ left → length x ≡ n → (w : ℕ) → w ≡ value x → (more : ℕ) → more ≡ cond (p w) 1 0
      → Tallying p n l (count + more) left
  tallying_next x left e h w is_w more is =
      let here : tally p (words_of n rest) ≡ cond (p w) (suc (tally p (words_of n left))) (tally p (words_of n left)) =
      ap (λ (l : List ℕ). tally p (words_of n l)) e ∙ ap (tally p) (chunk-words n pos x left h) ∙ rw is_w (tally-next p (value x) (words_of n left)) in
      rw is (go (p w) here)
    where
      long : length rest ≡ n + length left
      long = ap length e ∙ length-append x left ∙ omega (arith, h)

      go : (b : Bool) → tally p (words_of n rest) ≡ cond b (suc (tally p (words_of n left))) (tally p (words_of n left))
          → Tallying p n l (count + cond b 1 0) left
      go true e = record { few = omega (arith, u.few, long, pos); comes = omega (arith, u.comes, e) }
      go false e = record { few = omega (arith, u.few, long); comes = omega (arith, u.comes, e) }

-- a block of m words of which none passes is passed over
module _ {p : ℕ → Bool} {n : ℕ} (pos : 0 < n) {l : List ℕ} {i : ℕ} (u : Leading p n l i) (m : ℕ) where
  leading-over : i + m * n ≤ length l → tally p (words_of n (take (m * n) (drop i l))) ≡ 0 → Leading p n l (i + m * n)
  leading-over h none =
      let rest = drop i l in
      let ws = words_of n rest in
      let fits : m * n ≤ length rest = omega (arith, length-drop i l) in
      let taken = words_taken n pos m rest fits in
      let long : length (take m ws) ≡ m =
      sym (ap length taken) ∙ length-words n (take (m * n) rest) ∙ div-eq_of_eq-mul_left pos (length-take-le (m * n) rest fits) in
      let k = lead p (words_of n (drop (i + m * n) l)) in
      let left : lead p (drop m ws) ≡ k =
      ap (lead p) (sym (words_dropped n pos m rest fits) ∙ ap (words_of n) (drop-drop (m * n) i l)) in
      let over : lead p ws ≡ m + k =
      ap (lead p) (sym (take-append-drop m ws)) ∙ lead-over p (take m ws) (drop m ws) (rw taken at (tally_none p (words_of n (take (m * n) rest)) none))
      ∙ omega (arith, long, left) in
      let e : lead p ws * n ≡ m * n + k * n = ap (λ (k : ℕ). k * n) over ∙ add-mul m k n in
      record { within = h; comes = omega (arith, u.comes, e) }

-- blocks of m words of which none passes are passed over
module _ {p : ℕ → Bool} {n : ℕ} (pos : 0 < n) {l : List ℕ} (m : ℕ) {blocks : ℕ} (u : Front (λ x. eqb (tally p (words_of n x)) 0) (m * n) l blocks) where
  leading_to : (k : ℕ) → k ≤ blocks → Leading p n l (k * (m * n))
  leading_to zero h = rw zero-mul (leading_start p n l)
  leading_to (suc k) h =
      let fits : k * (m * n) + m * n ≤ length l = omega (arith, u.within, mul-le-mul_right {m = suc k} {n = blocks} (m * n) h, suc-mul k (m * n)) in
      rw suc-mul (leading-over pos (leading_to k (omega arith)) m fits
      (eqb-true (tally p (words_of n (take (m * n) (drop (k * (m * n)) l)))) 0 (u.passes k (omega arith))))

  pub leading_blocks : Leading p n l (blocks * (m * n))
  leading_blocks = leading_to blocks (omega arith)

-- ---- words by chunks

-- a chunk is a word
pub chunk_word : (n : ℕ) (x : List ℕ) → length x ≡ n → ahead n x 0 ≡ value x
chunk_word n x h = rw (← h) (ahead-some (length x) x 0 (omega arith) ∙ ap value (take-length x))

module _ (p : ℕ → Bool) {n : ℕ} (pos : 0 < n) {l : List ℕ} {m : ℕ} (u : Front (λ x. not (p (value x))) n l m) where
  passed : (b : Bool) → not b ≡ true → b ≡ false
  passed true h = sym h
  passed false h = refl

  stopped : (b : Bool) → not b ≡ false → b ≡ true
  stopped true h = refl
  stopped false h = sym h

  words_to : (k : ℕ) → k ≤ m → Leading p n l (k * n)
  words_to zero h = rw zero-mul (leading_start p n l)
  words_to (suc k) h =
      let fits : k * n + n ≤ length l = omega (arith, u.within, mul-le-mul_right {m = suc k} {n = m} n h, suc-mul k n) in
      rw suc-mul (leading-next pos (words_to k (omega arith)) fits (value (take n (drop (k * n) l))) (words-next n pos l (k * n) fits)
      (passed (p (value (take n (drop (k * n) l)))) (u.passes k (omega arith))))

  pub lead_front : m * n ≡ lead p (words_of n l) * n
  lead_front = go (ltb (length l) (m * n + n)) refl
    where
      go : (b : Bool) → ltb (length l) (m * n + n) ≡ b → m * n ≡ lead p (words_of n l) * n
      go true e = leading_end pos (words_to m (omega arith)) (ltb-true (length l) (m * n + n) e)
      go false e =
          let fits = ltb-false (length l) (m * n + n) e in
          let w = value (take n (drop (m * n) l)) in
          leading_found pos (words_to m (omega arith)) fits w (words-next n pos l (m * n) fits) (stopped (p w) (u.stops fits))
