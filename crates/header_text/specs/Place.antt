-- From where on a text begins no number: the place that the reader tells is that one, and there is no other.
use Prim.Native.Nat.{ℕ, zero, suc, ◌+◌, ◌*◌, ◌-◌, ◌^◌, ◌<◌, ◌≤◌}
use Rattle.std.specs.Prelude.{◌≡◌, refl, List, [], ◌∷◌, ◌++◌, length, take, replicate, ltb, eqb}
use Rattle.std.proofs.Math.Path.{sym, ap}
use Rattle.std.proofs.Common.{◌∙◌, arith}
use Rattle.std.specs.Prelude.{Option, Some, None, Result, Ok, Err}
use Rattle.std.proofs.Math.Bool.{true, false, and-false}
use borrow.Author.Tests.{lt-ltb, le-ltb, ltb-true, ltb-false}
use Rattle.std.specs.Prelude.{ℕ}
use Rattle.header_text.specs.Cases.{by_bool}
use Rattle.header_text.specs.Number.{is_digit, all_digits, digits_value, number_from, digits_of, number_of, goes_on_lem, digits_from, digits_at, read_of}

-- the text begins some number
pub record Begins (s : List ℕ) : Type 0 where
  pub rest : List ℕ
  pub value : ℕ
  pub number : number_of (s ++ rest) ≡ Some value

-- what stands before the place begins some number, and with the byte there it begins none; at the length the text is none
pub record Place (s : List ℕ) (k : ℕ) : Type 0 where
  pub within : k ≤ length s
  pub before : Begins (take k s)
  pub here : k < length s → Begins (take (suc k) s) → ⊥
  pub ended : k ≡ length s → number_of s ≡ None

-- ---- a byte behind digits of value n: the reader goes on there, or stops

value_ge : (n : ℕ) (s : List ℕ) → n ≤ digits_value n s
unfolding digits_value
value_ge n [] = omega arith
value_ge n (b ∷ s) = omega (arith, value_ge (n * 10 + (b - 48)) s)

pub number-end : (n : ℕ) → n < 2 ^ 64 → number_from n [] ≡ Some n
unfolding number_from all_digits digits_value
number-end n h = rw (lt-ltb n (2 ^ 64) h)

module _ (n b : ℕ) where
  abbrev next : ℕ
  next = n * 10 + (b - 48)

  pub stop_none : goes_on_lem n b ≡ false → (s : List ℕ) → number_from n (b ∷ s) ≡ None
  unfolding goes_on_lem number_from all_digits digits_value
  stop_none e s =
      by_bool (is_digit b)
      (λ d. rw (le-ltb (digits_value next s) (2 ^ 64) (omega (arith, value_ge next s, ltb-false next (2 ^ 64) (rw d at e))), and-false))
      (λ d. rw d)

  module _ (e : goes_on_lem n b ≡ true) where
    go_both : (is_digit b ≡ true) × (ltb next (2 ^ 64) ≡ true)
    unfolding goes_on_lem
    go_both = by_bool (is_digit b) (λ d. (d, rw d at e)) (λ d. let no : false ≡ true = rw d at e in (d ∙ no, cc))

    pub go_number : (s : List ℕ) → number_from n (b ∷ s) ≡ number_from next s
    unfolding number_from all_digits digits_value
    go_number s = rw go_both.0

    pub go_fits : next < 2 ^ 64
    go_fits = ltb-true next (2 ^ 64) go_both.1

-- ---- numbers and answers

-- an answer without its place
known : Result ℕ ℕ → Option ℕ
known (Ok n) = Some n
known (Err k) = None

from_known : (place n : ℕ) (s : List ℕ) → n < 2 ^ 64 → known (digits_from place n s) ≡ number_from n s
unfolding known digits_from
from_known place n [] h = sym (number-end n h)
from_known place n (b ∷ s) h =
    by_bool (goes_on_lem n b) (λ e. rw (e, go_number n b e s) (from_known (place + 1) (n * 10 + (b - 48)) s (go_fits n b e)))
    (λ e. rw (e, stop_none n b e s))

at_known : (place : ℕ) (s : List ℕ) → known (digits_at place s) ≡ digits_of s
unfolding known digits_at digits_of
at_known place [] = refl
at_known place (b ∷ s) = from_known place 0 (b ∷ s) (omega arith)

read_known : (s : List ℕ) → known (read_of s) ≡ number_of s
unfolding known read_of number_of
read_known [] = refl
read_known (b ∷ s) = by_bool (eqb b 43) (λ e. rw e (at_known 1 s)) (λ e. rw e (at_known 0 (b ∷ s)))

-- the reader gives a value exactly of numbers, and theirs
module _ (s : List ℕ) where
  pub value-number : (n : ℕ) → read_of s ≡ Ok n → number_of s ≡ Some n
  unfolding known
  value-number n e = sym (read_known s) ∙ ap known e

  pub bad_number : (k : ℕ) → read_of s ≡ Err k → number_of s ≡ None
  unfolding known
  bad_number k e = sym (read_known s) ∙ ap known e

  pub number-value : (n : ℕ) → number_of s ≡ Some n → read_of s ≡ Ok n
  number-value n h = go (read_of s) refl
    where
      go : (r : Result ℕ ℕ) → read_of s ≡ r → read_of s ≡ Ok n
      go (Ok m) e = cc (value-number m e)
      go (Err k) e = cc (bad_number k e)

zero-first : (b : ℕ) (s : List ℕ) → digits_of (48 ∷ b ∷ s) ≡ digits_of (b ∷ s)
unfolding digits_of number_from all_digits digits_value is_digit
zero-first b s = refl

-- zeros before digits change nothing, however many
pub zeros_first : (k b : ℕ) (s : List ℕ) → digits_of (replicate k 48 ++ (b ∷ s)) ≡ digits_of (b ∷ s)
zeros_first zero b s = refl
zeros_first (suc zero) b s = zero-first b s
zeros_first (suc (suc k)) b s = zero-first 48 (replicate k 48 ++ (b ∷ s)) ∙ zeros_first (suc k) b s

zeros_digits : (k : ℕ) → digits_of (48 ∷ replicate k 48) ≡ Some 0
unfolding digits_of number_from all_digits digits_value is_digit
zeros_digits zero = refl
zeros_digits (suc k) = zero-first 48 (replicate k 48) ∙ zeros_digits k

-- and alone they are the number 0
pub zeros_value : (k : ℕ) → read_of (replicate (suc k) 48) ≡ Ok 0
unfolding number_of
zeros_value k = number-value (48 ∷ replicate k 48) 0 (zeros_digits k)
