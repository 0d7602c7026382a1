-- The numbers that the number reader returns to C.
use Rattle.std.specs.Prelude.{Result, Ok, Err}
use Rattle.std.specs.Prelude.{ℕ}
use Rattle.c_values.specs.declared.number.PropheseeNumber.{PropheseeNumber}

-- the value of a number, or the place of a text that is none
abbrev pub answer_of : Result ℕ ℕ → PropheseeNumber
answer_of (Ok n) = record { value = n; place = 0; valid = 1 }
answer_of (Err k) = record { value = 0; place = k; valid = 0 }
