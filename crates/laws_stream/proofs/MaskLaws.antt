-- Laws of specs/Mask.antt.
use Rattle.laws_stream.specs.{Machine.All, Machine.all_map, Mask.Inc, Mask.bits, Mask.bits-zero, Mask.bits_even, Mask.bits_none, Mask.bits_odd, Mask.mask}
use Rattle.laws_stream.specs.{Mask.mask_shift, Mask.parity, Mask.trailing_even, Mask.trailing_odd, Order.greatest, Slice.sift}
use Rattle.std.proofs.{Common.add-one, Common.add-suc, Common.add-zero, Common.ap, Common.arith, Common.eqb-true, Common.ltb-false, Common.ltb-true}
use Rattle.std.proofs.{Common.pow_pos, Common.suc-add, Common.sym, Common.⊎_elim, Common.◌∙◌, Math.Pow.field, Math.Pow.mod-mod-pow, lemmas.Bool.eqb-false}
use Rattle.std.proofs.{lemmas.Nat.leading_top}
use Rattle.std.specs.{Int.Bits.and_self, Int.Bits.and_step, Int.Bits.bit_and, Int.Count.count_leading_zeros, Int.Count.count_trailing_zeros, Int.Count.ones}
use Rattle.std.specs.{Int.Count.ones_step, Prelude.Bool, Prelude.List, Prelude.[], Prelude.eqb, Prelude.false, Prelude.length, Prelude.ltb, Prelude.refl}
use Rattle.std.specs.{Prelude.suc, Prelude.true, Prelude.zero, Prelude.ℕ, Prelude.◌%◌, Prelude.◌*◌, Prelude.◌+◌, Prelude.◌-◌, Prelude.◌/◌, Prelude.◌<◌}
use Rattle.std.specs.{Prelude.◌^◌, Prelude.◌∷◌, Prelude.◌≡◌, Prelude.◌≤◌}

-- ---- the lowest bit, and the rest

bits_double : (k at n : ℕ) → bits (suc k) at (n * 2) ≡ bits k (suc at) n
bits_double k at n =
    let a : n * 2 % 2 ≡ 0 = omega arith in
    let b : n * 2 / 2 ≡ n = omega arith in
    bits_even k at (n * 2) a ∙ rw b

bits_double_one : (k at n : ℕ) → bits (suc k) at (n * 2 + 1) ≡ at ∷ bits k (suc at) n
bits_double_one k at n =
    let a : (n * 2 + 1) % 2 ≡ 1 = omega arith in
    let b : (n * 2 + 1) / 2 ≡ n = omega arith in
    bits_odd k at (n * 2 + 1) a ∙ rw b

pub bits-one : (k at : ℕ) → bits (suc k) at 1 ≡ at ∷ []
bits-one k at = bits_odd k at 1 refl ∙ ap (λ (l : List ℕ). at ∷ l) (bits-zero k (suc at))

-- the numbers below w are those of the bits below w's
pub bits_below : (k at m w : ℕ) → sift (λ c. ltb c w) (bits k at m) ≡ bits k at (m % 2 ^ (w - at))
bits_below zero at m w = rw (bits_none at m, bits_none at (m % 2 ^ (w - at)))
bits_below (suc k) at m w = go (ltb at w) refl (bits_below k (suc at) (m / 2) w)
  where
    go : (b : Bool) → ltb at w ≡ b → sift (λ c. ltb c w) (bits k (suc at) (m / 2)) ≡ bits k (suc at) (m / 2 % 2 ^ (w - suc at))
        → sift (λ c. ltb c w) (bits (suc k) at m) ≡ bits (suc k) at (m % 2 ^ (w - at))
    go true q ih =
        let l = ltb-true at w q in
        let j = w - suc at in
        let e : w - at ≡ suc j = omega arith in
        let r : m % 2 ^ suc j % 2 ≡ m % 2 = rw add-one at (mod-mod-pow m j 1) in
        let h : m % 2 ^ suc j / 2 ≡ m / 2 % 2 ^ j = rw add-one at (field m j 1) in
        rw e (⊎_elim
        (λ (z : m % 2 ≡ 0). rw (bits_even k at m z, bits_even k at (m % 2 ^ suc j) (r ∙ z), h) ih)
        (λ (z : m % 2 ≡ 1). rw (bits_odd k at m z, bits_odd k at (m % 2 ^ suc j) (r ∙ z), h, q, ih))
        (parity m))
    go false q ih =
        let l = ltb-false at w q in
        let a : w - at ≡ 0 = omega arith in
        let b : w - suc at ≡ 0 = omega arith in
        let n : m % 2 ^ 0 ≡ 0 = omega arith in
        let o : m / 2 % 2 ^ 0 ≡ 0 = omega arith in
        let t : sift (λ c. ltb c w) (bits k (suc at) (m / 2)) ≡ [] = ih ∙ rw (b, o) (bits-zero k (suc at)) in
        rw (a, n, bits-zero) (⊎_elim (λ (z : m % 2 ≡ 0). rw (bits_even k at m z) t) (λ (z : m % 2 ≡ 1). rw (bits_odd k at m z, q) t) (parity m))

-- ---- a loop over the bits: the lowest goes first, and is then cleared from the mask

clear_odd : (m : ℕ) → m % 2 ≡ 1 → bit_and m (m - 1) ≡ m / 2 * 2
clear_odd m e =
    let a : (m - 1) / 2 ≡ m / 2 = omega arith in
    let b : (m - 1) % 2 ≡ 0 = omega arith in
    and_step m (m - 1) ∙ rw (a, b, e, and_self) (omega arith)

clear_even : (m : ℕ) → m % 2 ≡ 0 → 0 < m → bit_and m (m - 1) ≡ bit_and (m / 2) (m / 2 - 1) * 2
clear_even m e h =
    let a : (m - 1) / 2 ≡ m / 2 - 1 = omega arith in
    let b : (m - 1) % 2 ≡ 1 = omega arith in
    and_step m (m - 1) ∙ rw (a, b, e) (omega arith)

pub low_bit : (k at m : ℕ) → 0 < m → m < 2 ^ k → bits k at m ≡ (at + count_trailing_zeros k m) ∷ bits k at (bit_and m (m - 1))
low_bit zero at m h l = absurd (omega arith)
low_bit (suc k) at m h l =
    ⊎_elim
    (λ (e : m % 2 ≡ 0).
    bits_even k at m e ∙ low_bit k (suc at) (m / 2) (omega arith) (omega arith)
    ∙ sym (simp (trailing_even k m e, clear_even m e h, bits_double, add-suc, suc-add)))
    (λ (e : m % 2 ≡ 1). bits_odd k at m e ∙ sym (simp (trailing_odd k m e, clear_odd m e, bits_double, add-zero)))
    (parity m)

-- ---- how many, between what, and the greatest

ones_zero : ones 0 ≡ 0
unfolding ones
ones_zero = refl

pub bits-count : (k at m : ℕ) → m < 2 ^ k → length (bits k at m) ≡ ones m
bits-count zero at m l =
    let z : m ≡ 0 = omega arith in
    ap length (bits_none at m) ∙ sym (ap ones z ∙ ones_zero)
bits-count (suc k) at m l =
    let ih : length (bits k (suc at) (m / 2)) ≡ ones (m / 2) = bits-count k (suc at) (m / 2) (omega arith) in
    ⊎_elim
    (λ (e : m % 2 ≡ 0). ap length (bits_even k at m e) ∙ omega (arith, ones_step m))
    (λ (e : m % 2 ≡ 1). ap length (bits_odd k at m e) ∙ omega (arith, ones_step m))
    (parity m)

pub bits_few : (k j at m : ℕ) → m < 2 ^ j → length (bits k at m) ≤ j
bits_few zero j at m h = rw bits_none (omega arith)
bits_few (suc k) zero at m h =
    let z : m ≡ 0 = omega arith in
    rw (z, bits-zero) (omega arith)
bits_few (suc k) (suc j) at m h =
    let ih : length (bits k (suc at) (m / 2)) ≤ j = bits_few k j (suc at) (m / 2) (omega arith) in
    ⊎_elim (λ (e : m % 2 ≡ 0). rw (bits_even k at m e) (omega arith)) (λ (e : m % 2 ≡ 1). rw (bits_odd k at m e) (omega arith)) (parity m)

pub bits_in : (k j at m : ℕ) → m < 2 ^ j → All (λ x. (at ≤ x) × (x < at + j)) (bits k at m)
bits_in zero j at m h = rw bits_none tt
bits_in (suc k) zero at m h =
    let z : m ≡ 0 = omega arith in
    rw (z, bits-zero) tt
bits_in (suc k) (suc j) at m h =
    let ih : All (λ x. (at ≤ x) × (x < at + suc j)) (bits k (suc at) (m / 2))
    = all_map _ _ (λ x q. (omega (arith, q.0), omega (arith, q.1))) (bits k (suc at) (m / 2)) (bits_in k j (suc at) (m / 2) (omega arith)) in
    ⊎_elim
    (λ (e : m % 2 ≡ 0). rw (bits_even k at m e) ih)
    (λ (e : m % 2 ≡ 1). rw (bits_odd k at m e) ((omega arith, omega arith), ih))
    (parity m)

-- where j is the highest set bit of m, and f never falls
module _ (f : ℕ → ℕ) (rises : (a b : ℕ) → a ≤ b → f a ≤ f b) where
  pub greatest-bits : (k j at m : ℕ) → 2 ^ j ≤ m → m < 2 ^ suc j → m < 2 ^ k → greatest f (bits k at m) ≡ f (at + j)
  greatest-bits zero j at m lo hi l = absurd (omega (arith, pow_pos j))
  greatest-bits (suc k) zero at m lo hi l =
      let one : m ≡ 1 = omega arith in
      rw (one, bits-one, add-zero) (omega arith)
  greatest-bits (suc k) (suc j) at m lo hi l =
      let ih : greatest f (bits k (suc at) (m / 2)) ≡ f (at + suc j)
      = greatest-bits k j (suc at) (m / 2) (omega arith) (omega arith) (omega arith) ∙ ap f (omega arith) in
      ⊎_elim
      (λ (e : m % 2 ≡ 0). ap (greatest f) (bits_even k at m e) ∙ ih)
      (λ (e : m % 2 ≡ 1). ap (greatest f) (bits_odd k at m e) ∙ omega (arith, ih, rises at (at + suc j) (omega arith)))
      (parity m)

  -- the same by the zeros above it, in any width that holds m
  pub greatest-leading : (k w at m : ℕ) → 0 < m → m < 2 ^ k → m < 2 ^ w → greatest f (bits k at m) ≡ f (at + (w - 1 - count_leading_zeros w m))
  greatest-leading k w at m h a b =
      let t = leading_top w m h b in
      let e : w - 1 - count_leading_zeros w m ≡ t.0 = omega (arith, t.1) in
      rw e (greatest-bits k t.0 at m t.2 t.3 a)

-- ---- a mask that was made of rising numbers has these for its bits

bits_go : (b : Bool) (k at to from x : ℕ) (xs : List ℕ) → eqb x at ≡ b → at ≤ from → to ≤ at + suc k → Inc from to (x ∷ xs)
    → ((from' : ℕ) (ys : List ℕ) → suc at ≤ from' → Inc from' to ys → bits k (suc at) (mask (suc at) ys) ≡ ys)
    → bits (suc k) at (mask at (x ∷ xs)) ≡ x ∷ xs
bits_go true k at to from x xs q h w i ih =
    let e = eqb-true x at q in
    let z : x - at ≡ 0 = omega arith in
    let s = mask_shift at to (suc x) xs (omega arith) i.2 in
    let m : mask at (x ∷ xs) ≡ mask (suc at) xs * 2 + 1 = rw (z, s) (omega arith) in
    ap (bits (suc k) at) m ∙ bits_double_one k at (mask (suc at) xs) ∙ rw (ih (suc x) xs (omega arith) i.2, e)
bits_go false k at to from x xs q h w i ih =
    let ne = eqb-false x at q in
    let up : suc at ≤ x = omega (arith, i.0) in
    let j : Inc (suc at) to (x ∷ xs) = (up, i.1, i.2) in
    ap (bits (suc k) at) (mask_shift at to (suc at) (x ∷ xs) (omega arith) j) ∙ bits_double k at (mask (suc at) (x ∷ xs)) ∙ ih (suc at) (x ∷ xs) (omega arith) j

pub bits-mask : (k at to from : ℕ) (xs : List ℕ) → at ≤ from → to ≤ at + k → Inc from to xs → bits k at (mask at xs) ≡ xs
bits-mask zero at to from [] h w i = bits_none at 0
bits-mask zero at to from (x ∷ xs) h w i = absurd (omega (arith, i.0, i.1))
bits-mask (suc k) at to from [] h w i = bits-zero (suc k) at
bits-mask (suc k) at to from (x ∷ xs) h w i = bits_go (eqb x at) k at to from x xs refl h w i (λ f ys g j. bits-mask k (suc at) to f ys g (omega arith) j)
