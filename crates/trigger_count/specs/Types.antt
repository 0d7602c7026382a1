-- Words of n bytes by their type, which is the high half of the last byte.
use Rattle.std.specs.Prelude.{◌≡◌, refl, Bool, true, false, cond, List, ◌++◌, ℕ, zero, suc, ◌+◌, ◌-◌, ◌*◌, ◌/◌, ◌%◌, ◌^◌, ◌≤◌, ◌<◌}
use Rattle.std.specs.Prelude.{eqb, ltb, length, take, drop, get_or}
use Rattle.std.proofs.Common.{ap, ◌∙◌, arith, add-zero, div-le_self, ltb-true, ltb-false, length-append, length-take, shr-shr, get_or-take, get_or-drop}
use Rattle.std.proofs.Math.ListN.{get_or-eq_default}
use Rattle.laws_stream.specs.{Part.between, Slice.onto, Slice.sift, Slice.sift-append}
use Rattle.laws_stream.specs.Words.{value, value-next, words_of, length-words, words-next, words_of-append}
use Rattle.evt_types.specs.Layout.{field}
use Rattle.read_columns.specs.Inside.{sift_few}

abbrev pub type_in : (n w : ℕ) → ℕ
type_in n = field (8 * n - 1) (8 * n - 4)

abbrev pub is_type : (n type w : ℕ) → Bool
is_type n type w = eqb (type_in n w) type

-- how many whole words of some bytes have a type
abbrev pub type_count : (n type : ℕ) → List ℕ → ℕ
type_count n type l = length (sift (is_type n type) (words_of n l))

-- of the word at i, by its last byte
abbrev pub type_at : (n : ℕ) → List ℕ → (i : ℕ) → ℕ
type_at n l i = get_or l (i + (n - 1)) 0 / 16

abbrev pub Bytes : List ℕ → Type 0
Bytes l = (i : ℕ) → get_or l i 0 < 256

pub bytes-between : (l : List ℕ) (i e : ℕ) → Bytes l → Bytes (between l i e)
bytes-between l i e small j = go (ltb j (e - i)) refl
  where
    go : (b : Bool) → ltb j (e - i) ≡ b → get_or (between l i e) j 0 < 256
    go true q = rw (get_or-take (e - i) (drop i l) j 0 (ltb-true j (e - i) q), get_or-drop) (small (i + j))
    go false q =
        let h : length (between l i e) ≤ j = omega (arith, ltb-false j (e - i) q, length-take (e - i) (drop i l)) in
        rw (get_or-eq_default (between l i e) 0 h) (omega arith)

module _ (l : List ℕ) (small : Bytes l) where
  -- of the value of 1 + k bytes
  top : (k i : ℕ) → i + k < length l → value (take (suc k) (drop i l)) / 2 ^ (8 * k + 4) % 2 ^ 4 ≡ get_or l (i + k) 0 / 16
  top zero i h =
      let v : value (take 1 (drop i l)) ≡ get_or l i 0 + 0 * 256 = value-next 0 l i (omega arith) in
      let b : get_or l i 0 / 16 % 16 ≡ get_or l i 0 / 16 = omega (arith, small i) in
      rw (v, add-zero, add-zero) b
  top (suc k) i h =
      let rest = value (take (suc k) (drop (suc i) l)) in
      let v : value (take (suc (suc k)) (drop i l)) / 256 ≡ rest = rw (value-next (suc k) l i (omega arith)) (omega (arith, small i)) in
      let e : 8 * suc k + 4 ≡ 8 + (8 * k + 4) = omega arith in
      let j : i + suc k ≡ suc i + k = omega arith in
      rw (e, ← shr-shr, v, j) (top k (suc i) (omega arith))

  -- of the word at i
  type_at_lem : (n i : ℕ) → 0 < n → i + n ≤ length l → type_in n (value (take n (drop i l))) ≡ type_at n l i
  type_at_lem n i pos h =
      let k = n - 1 in
      let is_n : n ≡ suc k = omega arith in
      let lo : 8 * n - 4 ≡ 8 * k + 4 = omega arith in
      let hi : suc (8 * n - 1) - (8 * n - 4) ≡ 4 = omega arith in
      rw (hi, lo) (ap (λ (m : ℕ). value (take m (drop i l)) / 2 ^ (8 * k + 4) % 2 ^ 4) is_n ∙ top k i (omega arith))

module _ (n : ℕ) (pos : 0 < n) (l : List ℕ) (small : Bytes l) (i : ℕ) (more : i + n ≤ length l) (type : ℕ) where
  abbrev word : ℕ
  word = value (take n (drop i l))

  pub type_is : is_type n type word ≡ eqb (type_at n l i) type
  type_is = ap (λ (k : ℕ). eqb k type) (type_at_lem l small n i pos more)

  pub count_next : type_count n type (drop i l) ≡ cond (eqb (type_at n l i) type) 1 0 + type_count n type (drop (i + n) l)
  count_next = rw (words-next n pos l i more, type_is) (go (eqb (type_at n l i) type))
    where
      go : (b : Bool) → length (onto b word (sift (is_type n type) (words_of n (drop (i + n) l)))) ≡ cond b 1 0 + type_count n type (drop (i + n) l)
      go true = omega arith
      go false = omega arith

pub count_few : (n type : ℕ) (l : List ℕ) → type_count n type l ≤ length l
count_few n type l = omega (arith, sift_few (is_type n type) (words_of n l), length-words n l, div-le_self (length l) n)

-- at a whole number of words
pub count-append : (n type : ℕ) → 0 < n → (k : ℕ) (a b : List ℕ) → length a ≡ k * n → type_count n type (a ++ b) ≡ type_count n type a + type_count n type b
count-append n type pos k a b h =
    rw (words_of-append n pos k a b h, sift-append (is_type n type))
    (length-append (sift (is_type n type) (words_of n a)) (sift (is_type n type) (words_of n b)))
