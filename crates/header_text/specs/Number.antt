-- Decimal numbers, and what the reader answers.
use Rattle.std.specs.Prelude.{ℕ, ◌+◌, ◌*◌, ◌-◌, ◌^◌, List, [], ◌∷◌, Bool, true, cond, ◌&&◌, leb, ltb, eqb}
use Rattle.std.specs.Prelude.{Option, Some, None, Result, Ok, Err}

unfoldable pub is_digit : ℕ → Bool
is_digit b = leb 48 b && leb b 57

unfoldable pub all_digits : List ℕ → Bool
all_digits [] = true
all_digits (b ∷ s) = is_digit b && all_digits s

-- the value of decimal digits that follow digits of value n
unfoldable pub digits_value : ℕ → List ℕ → ℕ
digits_value n [] = n
digits_value n (b ∷ s) = digits_value (n * 10 + (b - 48)) s

-- ---- what a number is

-- what follows digits of value n: the number, if all of it are digits and it stays below 2^64
unfoldable pub number_from : ℕ → List ℕ → Option ℕ
number_from n s = cond (all_digits s && ltb (digits_value n s) (2 ^ 64)) (Some (digits_value n s)) None

-- one or more digits
unfoldable pub digits_of : List ℕ → Option ℕ
digits_of [] = None
digits_of (b ∷ s) = number_from 0 (b ∷ s)

-- a number: a `+` or none, then digits
unfoldable pub number_of : List ℕ → Option ℕ
number_of [] = None
number_of (b ∷ s) = cond (eqb b 43) (digits_of s) (digits_of (b ∷ s))

-- ---- what the reader answers

-- behind digits of value n the byte b can belong: a digit with which the value stays below 2^64
unfoldable pub goes_on_lem : (n b : ℕ) → Bool
goes_on_lem n b = is_digit b && ltb (n * 10 + (b - 48)) (2 ^ 64)

-- behind digits of value n, whose next byte is at the place: the value, or the first place whose byte can't belong
unfoldable pub digits_from : (place n : ℕ) → List ℕ → Result ℕ ℕ
digits_from place n [] = Ok n
digits_from place n (b ∷ s) = cond (goes_on_lem n b) (digits_from (place + 1) (n * 10 + (b - 48)) s) (Err place)

-- where one or more digits are to begin
unfoldable pub digits_at : (place : ℕ) → List ℕ → Result ℕ ℕ
digits_at place [] = Err place
digits_at place (b ∷ s) = digits_from place 0 (b ∷ s)

-- to a text: the place is counted from its first byte
unfoldable pub read_of : List ℕ → Result ℕ ℕ
read_of [] = Err 0
read_of (b ∷ s) = cond (eqb b 43) (digits_at 1 s) (digits_at 0 (b ∷ s))
