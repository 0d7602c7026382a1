-- Worked examples of the number reader, computed.
use Prim.Native.Nat.{ℕ}
use mathlib.Core.Path.{◌≡◌, refl}
use mathlib.Core.List.{List, [], ◌∷◌}
use Rattle.std.specs.Prelude.{Ok, Err}
use Rattle.header_text.specs.Number.{is_digit, goes_on_lem, digits_from, digits_at, read_of}

-- `1844674407370955161`: one digit short of 2^64 - 1 and of 2^64
abbrev most : List ℕ → List ℕ
most s = 49 ∷ 56 ∷ 52 ∷ 52 ∷ 54 ∷ 55 ∷ 52 ∷ 52 ∷ 48 ∷ 55 ∷ 51 ∷ 55 ∷ 48 ∷ 57 ∷ 53 ∷ 53 ∷ 49 ∷ 54 ∷ 49 ∷ s

-- nothing, `+`, `12a`, `++1`, 2^64 without and with a sign, 2^64 - 1, that with a `0` behind, `+007`
pub worked :
    read_of [] ∷ read_of (43 ∷ []) ∷ read_of (49 ∷ 50 ∷ 97 ∷ []) ∷ read_of (43 ∷ 43 ∷ 49 ∷ [])
    ∷ read_of (most (54 ∷ [])) ∷ read_of (43 ∷ most (54 ∷ [])) ∷ read_of (most (53 ∷ [])) ∷ read_of (most (53 ∷ 48 ∷ []))
    ∷ read_of (43 ∷ 48 ∷ 48 ∷ 55 ∷ [])
    ∷ []
    ≡ Err 0 ∷ Err 1 ∷ Err 2 ∷ Err 1
    ∷ Err 19 ∷ Err 20 ∷ Ok 18446744073709551615 ∷ Err 20
    ∷ Ok 7
    ∷ []
unfolding is_digit goes_on_lem digits_from digits_at read_of
worked = refl
