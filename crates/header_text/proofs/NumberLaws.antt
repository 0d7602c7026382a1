-- The loop over digits, and the sign before them.
use Prim.Native.Nat.{ℕ, ◌+◌, ◌*◌, ◌-◌, ◌^◌, ◌<◌, ◌≤◌}
use mathlib.Core.Path.{◌≡◌, refl, sym, ◌∙◌, ap}
use mathlib.Core.List.{List, [], ◌∷◌}
use mathlib.Core.Bool.{Bool, true, false}
use native.Mathlib.Omega.{arith}
use lib.ListN.{length, get_or, take, drop}
use lib.Dec.{ltb}
use borrow.Author.Tests.{eq-eqb, ne_eqb}
use Rattle.std.specs.Prelude.{Option, Some, None, Result, Ok, Err, cond}
use Rattle.std.specs.Char.{is_ascii_digit}
use Rattle.std.specs.Result.{result_ok}
use Rattle.header_text.specs.Place.{value-number, bad_number}
use Rattle.header_text.specs.Cases.{by_bool}
use Rattle.std.specs.Prelude.{ℕ}
use Rattle.header_text.specs.Number.{is_digit, goes_on_lem, digits_from, digits_at, read_of, number_of}
use Rattle.header_text.proofs.TextLaws.{at_drop, at-end, tail-part}

pub digits-some : (place : ℕ) (s : List ℕ) → (length s ≡ 0 → ⊥) → digits_from place 0 s ≡ digits_at place s
unfolding digits_at
digits-some place [] h = absurd (h refl)
digits-some place (b ∷ s) h = refl

pub digits_none : (place : ℕ) (s : List ℕ) → length s ≡ 0 → Err place ≡ digits_at place s
unfolding digits_at
digits_none place [] h = refl
digits_none place (b ∷ s) h = absurd (omega arith)

digit-same : (b : ℕ) → is_ascii_digit b ≡ is_digit b
unfolding is_digit
digit-same b = grind arith

pub not_digit : (n b : ℕ) → is_ascii_digit b ≡ false → goes_on_lem n b ≡ false
unfolding goes_on_lem
not_digit n b e = rw (sym (digit-same b) ∙ e)

-- by what `append_digit` answers of the digit b
module _ (n b : ℕ) (digit : is_ascii_digit b ≡ true) (d : ℕ) (d_is : d ≡ b - 48) (r : Option ℕ)
    (answers : r ≡ cond (ltb (n * 10 + d) (2 ^ 64)) (Some (n * 10 + d)) None) where
  is : r ≡ cond (ltb (n * 10 + (b - 48)) (2 ^ 64)) (Some (n * 10 + (b - 48))) None
  is = rw d_is at answers

  goes : (t : Bool) → ltb (n * 10 + (b - 48)) (2 ^ 64) ≡ t → goes_on_lem n b ≡ t
  unfolding goes_on_lem
  goes t e = rw (sym (digit-same b) ∙ digit) e

  pub value_none : r ≡ None → goes_on_lem n b ≡ false
  value_none e = by_bool (ltb (n * 10 + (b - 48)) (2 ^ 64)) (λ t. let no : None ≡ Some (n * 10 + (b - 48)) = sym e ∙ rw t at is in absurd cc) (goes false)

  pub value_some : (m : ℕ) → r ≡ Some m → (goes_on_lem n b ≡ true) × (m ≡ n * 10 + (b - 48))
  value_some m e =
      by_bool (ltb (n * 10 + (b - 48)) (2 ^ 64)) (λ t. let yes : Some m ≡ Some (n * 10 + (b - 48)) = sym e ∙ rw t at is in (goes true t, cc))
      (λ t. let no : Some m ≡ None = sym e ∙ rw t at is in absurd cc)

-- the digits before the byte i are read, and their value is n
module _ (s : List ℕ) (place n i : ℕ) (all : Result ℕ ℕ) (inv : digits_from (place + i) n (drop i s) ≡ all) where
  pub digits-end : length s ≤ i → Ok n ≡ all
  unfolding digits_from
  digits-end h = rw (at-end s i h) at inv

  module _ (h : i < length s) where
    pub digits_stop : goes_on_lem n (get_or s i 0) ≡ false → Err (place + i) ≡ all
    unfolding digits_from
    digits_stop e = rw (at_drop s i h, e) at inv

    pub digits-next : goes_on_lem n (get_or s i 0) ≡ true → digits_from (place + (i + 1)) (n * 10 + (get_or s i 0 - 48)) (drop (i + 1) s) ≡ all
    unfolding digits_from
    digits-next e = let q : place + (i + 1) ≡ place + i + 1 = omega arith in rw q (rw (at_drop s i h, e) at inv)

pub read_none : (s : List ℕ) → length s ≡ 0 → Err 0 ≡ read_of s
unfolding read_of
read_none [] h = refl
read_none (b ∷ s) h = absurd (omega arith)

pub read_plus : (s : List ℕ) → get_or s 0 0 ≡ 43 → digits_at 1 (take (length s - 1) (drop 1 s)) ≡ read_of s
unfolding read_of
read_plus [] e = absurd (omega arith)
read_plus (b ∷ s) e = ap (digits_at 1) (tail-part (b ∷ s) 1 (omega arith)) ∙ rw (eq-eqb b 43 e)

pub read_plain : (s : List ℕ) → (length s ≡ 0 → ⊥) → (get_or s 0 0 ≡ 43 → ⊥) → digits_at 0 s ≡ read_of s
unfolding read_of
read_plain [] h e = absurd (h refl)
read_plain (b ∷ s) h e = rw (ne_eqb b 43 e)

pub read_ok : (s : List ℕ) → result_ok (read_of s) ≡ number_of s
read_ok s = go (read_of s) refl
  where
    go : (r : Result ℕ ℕ) → read_of s ≡ r → result_ok (read_of s) ≡ number_of s
    go (Ok n) e = ap result_ok e ∙ sym (value-number s n e)
    go (Err k) e = ap result_ok e ∙ sym (bad_number s k e)
