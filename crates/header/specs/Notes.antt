-- What the code keeps of the lines. No contract of a public function cites these definitions.
use Rattle.std.specs.Prelude.{ℕ, suc, List, [], ◌∷◌, cond, eqb}
use Rattle.header.specs.declared.{Seen.Seen}
use Rattle.header.specs.Lines.{body_start}
use Rattle.header.specs.Header.{Said, said_by}

-- how long the first line is
unfoldable pub line_length : List ℕ → ℕ
line_length [] = 0
line_length (b ∷ s) = cond (eqb b 10) 1 (suc (line_length s))

-- what the parts of the recording say
abbrev pub said_of : Seen → Said
said_of seen = record { format = seen.format.now; evt = seen.evt.now; size = seen.size }

-- where the body starts, and what the lines before it say
unfoldable pub scan_of : List ℕ → ℕ × Said
scan_of s = (body_start s, said_by s)
