-- The lines of the header, what a line says, its key and its value.
use Rattle.std.specs.Prelude.{ℕ, List, [], ◌∷◌, ◌++◌, Bool, false, cond, length, eqb}
use Rattle.header_text.specs.Text.{is_blank, not_percent, up_to, from, trim_of, same}

-- a line trimmed, without the `%`s that it leads with, and trimmed again
unfoldable pub body_of : List ℕ → List ℕ
body_of l = trim_of (from not_percent (trim_of l))

-- the key: up to the first blank
unfoldable pub key_of : List ℕ → List ℕ
key_of l = up_to is_blank (body_of l)

-- the value: the trimmed remainder
unfoldable pub value_of : List ℕ → List ℕ
value_of l = trim_of (from is_blank (body_of l))

abbrev pub end_name : List ℕ
end_name = 101 ∷ 110 ∷ 100 ∷ []

-- an end line: trimming leaves just `end`, its case ignored
unfoldable pub is_end : List ℕ → Bool
is_end l = same end_name (body_of l)

-- a byte put before the first line
unfoldable pub joined : ℕ → List (List ℕ) → List (List ℕ)
joined b [] = (b ∷ []) ∷ []
joined b (l ∷ ls) = (b ∷ l) ∷ ls

-- the lines of a recording: each runs through its newline, the last may run to the end
unfoldable pub lines_of : List ℕ → List (List ℕ)
lines_of [] = []
lines_of (b ∷ s) = cond (eqb b 10) ((b ∷ []) ∷ lines_of s) (joined b (lines_of s))

unfoldable pub starts_percent : List ℕ → Bool
starts_percent [] = false
starts_percent (b ∷ s) = eqb b 37

-- the lines before the first that does not begin with `%`
unfoldable pub leading : List (List ℕ) → List (List ℕ)
leading [] = []
leading (l ∷ ls) = cond (starts_percent l) (l ∷ leading ls) []

-- the lines up to the first end line, that one too
unfoldable pub through_end : List (List ℕ) → List (List ℕ)
through_end [] = []
through_end (l ∷ ls) = l ∷ cond (is_end l) [] (through_end ls)

-- the header's lines
unfoldable pub header_lines : List ℕ → List (List ℕ)
header_lines s = through_end (leading (lines_of s))

-- the bytes of lines
unfoldable pub joined_lines : List (List ℕ) → List ℕ
joined_lines [] = []
joined_lines (l ∷ ls) = l ++ joined_lines ls

-- the header's bytes
unfoldable pub header_bytes : List ℕ → List ℕ
header_bytes s = joined_lines (header_lines s)

-- the body starts right after the header's lines
unfoldable pub body_start : List ℕ → ℕ
body_start s = length (header_bytes s)
