-- Bytes and texts: blanks, where a text parts, trimming, and names whose case is ignored.
use Rattle.std.specs.Prelude.{ℕ, ◌+◌, List, [], ◌∷◌, reverse, Bool, true, false, cond, not, ◌&&◌, ◌||◌, length, leb, ltb, eqb}

-- a blank: bytes 9 to 13, and 32
unfoldable pub is_blank : ℕ → Bool
is_blank b = eqb b 32 || leb 9 b && leb b 13

abbrev pub not_blank : ℕ → Bool
not_blank b = not (is_blank b)

abbrev pub not_percent : ℕ → Bool
not_percent b = not (eqb b 37)

abbrev pub not_ascii : ℕ → Bool
not_ascii b = leb 128 b

-- the byte x itself
abbrev pub is_byte : ℕ → ℕ → Bool
is_byte x b = eqb b x

-- what stands before the first byte with the property p: all, where none has it
unfoldable pub up_to : (ℕ → Bool) → List ℕ → List ℕ
up_to p [] = []
up_to p (b ∷ s) = cond (p b) [] (b ∷ up_to p s)

-- the first byte with the property p, and what follows it: nothing, where none has it
unfoldable pub from : (ℕ → Bool) → List ℕ → List ℕ
from p [] = []
from p (b ∷ s) = cond (p b) (b ∷ s) (from p s)

-- some byte has the property p
unfoldable pub any : (ℕ → Bool) → List ℕ → Bool
any p [] = false
any p (b ∷ s) = cond (p b) true (any p s)

-- all but the first byte
unfoldable pub rest_of : List ℕ → List ℕ
rest_of [] = []
rest_of (b ∷ s) = s

-- without the blanks at the start, at the end, at both
unfoldable pub trim_start : List ℕ → List ℕ
trim_start s = from not_blank s

unfoldable pub trim_end : List ℕ → List ℕ
trim_end s = reverse (trim_start (reverse s))

unfoldable pub trim_of : List ℕ → List ℕ
trim_of s = trim_end (trim_start s)

-- a letter `A` to `Z` in lowercase, any other byte as it is
unfoldable pub lower_of : ℕ → ℕ
lower_of b = cond (ltb b 65) b (cond (ltb 90 b) b (b + 32))

-- a text begins with a name in lowercase, the text's case ignored
unfoldable pub begins : List ℕ → List ℕ → Bool
begins [] s = true
begins (n ∷ ns) [] = false
begins (n ∷ ns) (b ∷ s) = eqb (lower_of b) n && begins ns s

-- a text is the name, its case ignored
unfoldable pub same : List ℕ → List ℕ → Bool
same name s = eqb (length s) (length name) && begins name s
