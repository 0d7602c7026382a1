-- Masks of bits for numbers in a window, and the numbers back, from the low bit up. For any width.
use Rattle.std.specs.Prelude.{◌≡◌, refl, ◌⊎◌, Bool, true, false, List, [], ◌∷◌, ℕ, zero, suc, ◌+◌, ◌-◌, ◌*◌, ◌/◌, ◌%◌, ◌^◌, ◌≤◌, ◌<◌, eqb}
use Rattle.std.proofs.Common.{sym, ap, ◌∙◌, inl, inr, ⊎_elim, arith, pow_pos, eqb-true}
use Rattle.std.specs.Int.Bits.{bit_and}
use Rattle.std.proofs.lemmas.Nat.{and_le_r}
use Rattle.std.specs.Int.Count.{count_trailing_zeros}
use Rattle.std.proofs.lemmas.Bool.{eqb-false}
use Rattle.laws_stream.specs.{Slice.onto, Order.greatest}

-- rising numbers, from `at` up to below `to`
abbrev pub Inc : ℕ → ℕ → List ℕ → Type 0
Inc at to [] = Unit
Inc at to (x ∷ xs) = (at ≤ x) × (x < to) × Inc (suc x) to xs

-- bit x - at for each x
abbrev pub mask : ℕ → List ℕ → ℕ
mask at [] = 0
mask at (x ∷ xs) = 2 ^ (x - at) + mask at xs

-- the numbers of the set bits among m's k low bits, the lowest first; the lowest bit has the number `at`
unfoldable pub bits : ℕ → ℕ → ℕ → List ℕ
bits zero at m = []
bits (suc k) at m = onto (eqb (m % 2) 1) at (bits k (suc at) (m / 2))

-- ---- the lowest bit, and the rest

pub parity : (m : ℕ) → (m % 2 ≡ 0) ⊎ (m % 2 ≡ 1)
parity m = split (m % 2) (omega arith)
  where
    split : (r : ℕ) → r < 2 → (r ≡ 0) ⊎ (r ≡ 1)
    split zero h = inl refl
    split (suc zero) h = inr refl
    split (suc (suc r)) h = inl (omega arith)

pub bits_none : (at m : ℕ) → bits zero at m ≡ []
unfolding bits
bits_none at m = refl

pub bits_even : (k at m : ℕ) → m % 2 ≡ 0 → bits (suc k) at m ≡ bits k (suc at) (m / 2)
unfolding bits
bits_even k at m e = rw e

pub bits_odd : (k at m : ℕ) → m % 2 ≡ 1 → bits (suc k) at m ≡ at ∷ bits k (suc at) (m / 2)
unfolding bits
bits_odd k at m e = rw e

pub bits-zero : (k at : ℕ) → bits k at 0 ≡ []
bits-zero zero at = bits_none at 0
bits-zero (suc k) at = bits_even k at 0 refl ∙ bits-zero k (suc at)

-- ---- a loop over the bits: the lowest goes first, and is then cleared from the mask

-- the mask falls
pub clear_lt : (m : ℕ) → 0 < m → bit_and m (m - 1) < m
clear_lt m h = omega (arith, and_le_r m (m - 1))

pub trailing_odd : (k m : ℕ) → m % 2 ≡ 1 → count_trailing_zeros (suc k) m ≡ 0
unfolding count_trailing_zeros
trailing_odd k m e = rw e

pub trailing_even : (k m : ℕ) → m % 2 ≡ 0 → count_trailing_zeros (suc k) m ≡ suc (count_trailing_zeros k (m / 2))
unfolding count_trailing_zeros
trailing_even k m e = rw e

-- the count of low zeros is the same in every width that holds m
pub trailing_wide : (k j m : ℕ) → 0 < m → m < 2 ^ k → m < 2 ^ j → count_trailing_zeros k m ≡ count_trailing_zeros j m
trailing_wide zero j m h a b = absurd (omega arith)
trailing_wide (suc k) zero m h a b = absurd (omega arith)
trailing_wide (suc k) (suc j) m h a b =
    ⊎_elim
    (λ (e : m % 2 ≡ 0). trailing_even k m e ∙ ap suc (trailing_wide k j (m / 2) (omega arith) (omega arith) (omega arith)) ∙ sym (trailing_even j m e))
    (λ (e : m % 2 ≡ 1). trailing_odd k m e ∙ sym (trailing_odd j m e))
    (parity m)

pub trailing_lt : (k j m : ℕ) → 0 < m → m < 2 ^ j → m < 2 ^ k → count_trailing_zeros k m < j
trailing_lt zero j m h a b = absurd (omega arith)
trailing_lt (suc k) zero m h a b = absurd (omega arith)
trailing_lt (suc k) (suc j) m h a b =
    ⊎_elim
    (λ (e : m % 2 ≡ 0). rw (trailing_even k m e) (omega (arith, trailing_lt k j (m / 2) (omega arith) (omega arith) (omega arith))))
    (λ (e : m % 2 ≡ 1). rw (trailing_odd k m e) (omega arith))
    (parity m)

-- ---- how many, between what, and the greatest

-- the greatest of some numbers, 0 of none
abbrev pub top : List ℕ → ℕ
top l = greatest (λ x. x) l

-- ---- a mask that was made of rising numbers has these for its bits

pub mask_shift : (at to from : ℕ) (xs : List ℕ) → suc at ≤ from → Inc from to xs → mask at xs ≡ mask (suc at) xs * 2
mask_shift at to from [] h i = refl
mask_shift at to from (x ∷ xs) h i =
    let ih = mask_shift at to (suc x) xs (omega (arith, i.0)) i.2 in
    let e : x - at ≡ suc (x - suc at) = omega (arith, i.0) in
    rw (e, ih) (omega arith)

lt_go : (b : Bool) (k at to from x : ℕ) (xs : List ℕ) → eqb x at ≡ b → at ≤ from → to ≤ at + suc k → Inc from to (x ∷ xs)
    → ((from' : ℕ) (ys : List ℕ) → suc at ≤ from' → Inc from' to ys → mask (suc at) ys < 2 ^ k)
    → mask at (x ∷ xs) < 2 ^ suc k
lt_go true k at to from x xs q h w i ih =
    let e = eqb-true x at q in
    let z : x - at ≡ 0 = omega arith in
    let s = mask_shift at to (suc x) xs (omega arith) i.2 in
    rw (z, s) (omega (arith, ih (suc x) xs (omega arith) i.2))
lt_go false k at to from x xs q h w i ih =
    let ne = eqb-false x at q in
    let up : suc at ≤ x = omega (arith, i.0) in
    let j : Inc (suc at) to (x ∷ xs) = (up, i.1, i.2) in
    rw (mask_shift at to (suc at) (x ∷ xs) (omega arith) j) (omega (arith, ih (suc at) (x ∷ xs) (omega arith) j))

pub mask_lt : (k at to from : ℕ) (xs : List ℕ) → at ≤ from → to ≤ at + k → Inc from to xs → mask at xs < 2 ^ k
mask_lt zero at to from [] h w i = omega arith
mask_lt zero at to from (x ∷ xs) h w i = absurd (omega (arith, i.0, i.1))
mask_lt (suc k) at to from [] h w i = pow_pos (suc k)
mask_lt (suc k) at to from (x ∷ xs) h w i = lt_go (eqb x at) k at to from x xs refl h w i (λ f ys g j. mask_lt k (suc at) to f ys g (omega arith) j)
