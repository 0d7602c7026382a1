-- What the header says, and what it comes to for a whole recording.
use Rattle.std.specs.Prelude.{ℕ, ◌≡◌, List, [], ◌∷◌, Bool, false, cond, ◌||◌, length, ltb, eqb}
use Rattle.evt_types.specs.declared.Encoding.TheVariants.{Evt2, Evt21, Evt3}
use Rattle.evt_types.specs.declared.Refusal.TheVariants.{InvalidSensorSize, UnknownEncoding, HeaderNotAscii, TooLong}
use Rattle.std.specs.Prelude.{Option, Some, None, Result, Ok, Err}
use Rattle.evt_types.specs.declared.SensorSize.{SensorSize}
use Rattle.evt_types.specs.declared.Refusal.{Refusal}
use Rattle.evt_types.specs.declared.Encoding.{Encoding}
use Rattle.evt_types.specs.{Num.most_bytes, Num.encoding_number, Outcome.Outcome, Outcome.refuse, Outcome.give, Outcome.on_outcome, Outcome.verdict}
use Rattle.evt_types.specs.{Told.Told, Told.accepted, Told.told}
use Rattle.header.specs.declared.Header as header
use Rattle.header_text.specs.{Text.not_ascii, Text.any, Text.begins, Text.same, Size.geometry_of}
use Rattle.header.specs.Lines.{header_lines, joined_lines, key_of, value_of}

-- ---- the keys, and what their values begin with

abbrev pub geometry_name : List ℕ
geometry_name = 103 ∷ 101 ∷ 111 ∷ 109 ∷ 101 ∷ 116 ∷ 114 ∷ 121 ∷ []

abbrev pub format_name : List ℕ
format_name = 102 ∷ 111 ∷ 114 ∷ 109 ∷ 97 ∷ 116 ∷ []

abbrev pub evt_name : List ℕ
evt_name = 101 ∷ 118 ∷ 116 ∷ []

abbrev pub evt2 : List ℕ
evt2 = 101 ∷ 118 ∷ 116 ∷ 50 ∷ []

abbrev pub evt21 : List ℕ
evt21 = 101 ∷ 118 ∷ 116 ∷ 50 ∷ 49 ∷ []

abbrev pub evt3 : List ℕ
evt3 = 101 ∷ 118 ∷ 116 ∷ 51 ∷ []

abbrev pub two : List ℕ
two = 50 ∷ []

abbrev pub two_one_lem : List ℕ
two_one_lem = 50 ∷ 46 ∷ 49 ∷ []

abbrev pub three : List ℕ
three = 51 ∷ []

-- ---- what the lines say

-- the values of the last `format` and `evt` line, empty where there is none, and the size
pub record Said : Type 0 where
  pub format : List ℕ
  pub evt : List ℕ
  pub size : Option SensorSize

abbrev pub nothing : Said
nothing = record { format = []; evt = []; size = None }

-- after one more line: its value takes the place of what an earlier line said
unfoldable pub read_line : Said → List ℕ → Said
read_line said l =
    cond (same geometry_name (key_of l))
    (record { format = said.format; evt = said.evt; size = geometry_of (value_of l) said.size })
    (cond (same format_name (key_of l))
    (record { format = value_of l; evt = said.evt; size = said.size })
    (cond (same evt_name (key_of l))
    (record { format = said.format; evt = value_of l; size = said.size })
    said))

-- line after line
unfoldable pub read_all : Said → List (List ℕ) → Said
read_all said [] = said
read_all said (l ∷ ls) = read_all (read_line said l) ls

unfoldable pub said_by : List ℕ → Said
said_by s = read_all nothing (header_lines s)

-- EVT3 if the format begins `evt3` or the evt value begins `3`; else EVT2.1 for `evt21` or `2.1`; else EVT2 for `evt2` or `2`
unfoldable pub encoding_of : Said → Option Encoding
encoding_of said =
    cond (begins evt3 said.format || begins three said.evt) (Some Evt3)
    (cond (begins evt21 said.format || begins two_one_lem said.evt) (Some Evt21)
    (cond (begins evt2 said.format || begins two said.evt) (Some Evt2) None))

-- the size that holds: the caller's, or without one the header's
unfoldable pub size_that_holds : Option SensorSize → Option SensorSize → Option SensorSize
size_that_holds None read = read
size_that_holds (Some s) read = Some s

unfoldable pub has_zero : Option SensorSize → Bool
has_zero None = false
has_zero (Some s) = eqb s.width 0 || eqb s.height 0

-- ---- what a header comes to: a refusal, or what it says

-- 2 where it names no encoding, 1 for a zero in the size
unfoldable pub with_encoding : (at : ℕ) → Option SensorSize → Option Encoding → Outcome header.Header
with_encoding at size None = refuse UnknownEncoding
with_encoding at size (Some e) =
    cond (has_zero size) (refuse InvalidSensorSize) (give (record { data_offset = at; sensor_size = size; encoding = e }))

-- n bytes with these header lines: 4 over 2^30 bytes, 3 for a header byte from 128 on, then 2 and 1, by the size that holds: the first of
-- them that applies
unfoldable pub lines_outcome : (n : ℕ) → List (List ℕ) → (given : Option SensorSize) → Outcome header.Header
lines_outcome n ls given =
    cond (ltb most_bytes n) (refuse TooLong)
    (cond (any not_ascii (joined_lines ls)) (refuse HeaderNotAscii)
    (with_encoding (length (joined_lines ls)) (size_that_holds given (read_all nothing ls).size) (encoding_of (read_all nothing ls))))

abbrev pub header_outcome : List ℕ → (given : Option SensorSize) → Outcome header.Header
header_outcome s given = lines_outcome (length s) (header_lines s) given

-- ---- what is read off an outcome

abbrev pub answer_by : Outcome header.Header → Result header.Header Refusal
answer_by = on_outcome Err Ok

unfoldable pub header_of : List ℕ → (given : Option SensorSize) → Result header.Header Refusal
header_of s given = answer_by (header_outcome s given)

-- whether a size is known (0 or 1), its width and its height
abbrev pub size_values : Option SensorSize → List ℕ
size_values None = 0 ∷ 0 ∷ 0 ∷ []
size_values (Some s) = 1 ∷ s.width ∷ s.height ∷ []

-- body start, encoding and size
abbrev pub header_values : header.Header → List ℕ
header_values h = h.data_offset ∷ encoding_number h.encoding ∷ size_values h.sensor_size

abbrev pub header_verdict : List ℕ → (given : Option SensorSize) → Told
header_verdict s given = verdict header_values (header_outcome s given)

-- ---- promises

-- what an answer tells
abbrev pub told_header : Result header.Header Refusal → Told
told_header (Ok h) = accepted (header_values h)
told_header (Err r) = told r

-- what `parse_header` promises of its answer r
pub record Parsed (s : List ℕ) (given : Option SensorSize) (r : Result header.Header Refusal) : Type 0 where
  pub is_told : told_header r ≡ header_verdict s given
  pub answer : r ≡ header_of s given
