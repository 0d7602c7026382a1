-- Laws of the definitions that callers cite: the header is a part of the recording, where an end line stands in it, one that doesn't name EVT2.1,
-- the verdict is what the answer tells, answers are told apart, and what an acceptance says.
use Rattle.std.specs.Prelude.{ℕ, ◌≤◌, ◌≡◌, refl, List, [], ◌∷◌, ◌++◌, Bool, true, false, cond, ◌||◌, length, get_or, ltb, eqb}
use Rattle.std.proofs.Common.{sym, ◌∙◌, ap, arith}
use Rattle.evt_types.specs.declared.{Encoding.Encoding, Encoding.TheVariants.Evt2, Encoding.TheVariants.Evt21, Encoding.TheVariants.Evt3}
use Rattle.evt_types.specs.declared.Refusal.TheVariants.{HeaderNotAscii, TooLong}
use Rattle.std.specs.Prelude.{Option, Some, None, Result, Ok, Err}
use Rattle.evt_types.specs.declared.SensorSize.{SensorSize}
use Rattle.evt_types.specs.declared.Refusal.{Refusal}
use Rattle.evt_types.specs.Told.{Told, told, told-apart, told-numbered, naturals, accepted-naturals}
use Rattle.header.specs.declared.Header as header
use Rattle.header_text.specs.{Cases.by_bool, Text.not_ascii, Text.any, Text.begins}
use Rattle.header.specs.Lines.{is_end, joined, lines_of, leading, through_end, header_lines, joined_lines, header_bytes, body_start}
use Rattle.header.specs.Header.{evt2, evt21, evt3, two, two_one_lem, three, Said, said_by, encoding_of, size_that_holds, has_zero, size_values, header_values}
use Rattle.header.specs.Header.{told_header, with_encoding, lines_outcome, header_outcome, answer_by, header_of, header_verdict}
use Rattle.evt_types.specs.Num.{most_bytes, encoding_number}
use Rattle.laws_stream.specs.Machine.{All}
use Rattle.evt_types.specs.Outcome.{Outcome, refuse, give, verdict}

-- ---- the header is a part of the recording

bytes-joined : (b : ℕ) (ls : List (List ℕ)) → joined_lines (joined b ls) ≡ b ∷ joined_lines ls
unfolding joined_lines joined
bytes-joined b [] = refl
bytes-joined b (l ∷ ls) = refl

pub lines_whole : (s : List ℕ) → joined_lines (lines_of s) ≡ s
unfolding joined_lines lines_of
lines_whole [] = refl
lines_whole (b ∷ s) =
    by_bool (eqb b 10) (λ e. rw e (ap (λ (t : List ℕ). b ∷ t) (lines_whole s)))
    (λ e. rw e (bytes-joined b (lines_of s) ∙ ap (λ (t : List ℕ). b ∷ t) (lines_whole s)))

-- ---- where an end line stands

-- no header line would follow an end line: there is none, or what follows it doesn't begin with `%`
abbrev pub NoLineBehind : List (List ℕ) → Type 0
NoLineBehind [] = Unit
NoLineBehind (l ∷ []) = Unit
NoLineBehind (l ∷ m ∷ ls) = (is_end l ≡ false) × NoLineBehind (m ∷ ls)

-- THEN A HEADER READS as if end lines had no meaning: it is all the leading lines that begin with `%`
pub lines_as_before : (s : List ℕ) → NoLineBehind (leading (lines_of s)) → header_lines s ≡ leading (lines_of s)
unfolding header_lines through_end
lines_as_before s = all_through (leading (lines_of s))
  where
    all_through : (ls : List (List ℕ)) → NoLineBehind ls → through_end ls ≡ ls
    all_through [] h = refl
    all_through (l ∷ []) h = by_bool (is_end l) (λ e. rw e) (λ e. rw e)
    all_through (l ∷ m ∷ ls) h = rw h.0 (ap (λ (k : List (List ℕ)). l ∷ k) (all_through (m ∷ ls) h.1))

-- THE FIRST END LINE is the last of the header, whatever stands behind it
pub at-end : (s : List ℕ) (before : List (List ℕ)) (l : List ℕ) (behind : List (List ℕ)) → leading (lines_of s) ≡ before ++ l ∷ behind
    → All (λ k. is_end k ≡ false) before → is_end l ≡ true → header_lines s ≡ before ++ l ∷ []
unfolding header_lines through_end
at-end s before l behind is none ends = rw is (through before none)
  where
    through : (ls : List (List ℕ)) → All (λ k. is_end k ≡ false) ls → through_end (ls ++ l ∷ behind) ≡ ls ++ l ∷ []
    through [] h = rw ends
    through (k ∷ ls) h = rw h.0 (ap (λ (m : List (List ℕ)). k ∷ m) (through ls h.1))

-- ---- a header that doesn't name EVT2.1

-- the encoding, where there is no EVT2.1
abbrev pub named_before : Said → Option Encoding
named_before said =
    cond (begins evt3 said.format || begins three said.evt) (Some Evt3)
    (cond (begins evt2 said.format || begins two said.evt) (Some Evt2) None)

-- A HEADER WHOSE FORMAT DOESN'T BEGIN `evt21` AND WHOSE EVT VALUE DOESN'T BEGIN `2.1` is answered as if there were no EVT2.1
pub named_as_before : (s : List ℕ) (given : Option SensorSize) → begins evt21 (said_by s).format ≡ false → begins two_one_lem (said_by s).evt ≡ false
    → header_outcome s given
    ≡ cond (ltb most_bytes (length s)) (refuse TooLong)
    (cond (any not_ascii (header_bytes s)) (refuse HeaderNotAscii)
    (with_encoding (body_start s) (size_that_holds given (said_by s).size) (named_before (said_by s))))
unfolding lines_outcome header_bytes body_start said_by encoding_of
named_as_before s given format evt = rw (format, evt)

-- ---- the verdict is what the answer tells

told_by : (o : Outcome header.Header) → told_header (answer_by o) ≡ verdict header_values o
told_by (refuse r) = refl
told_by (give h) = refl

pub verdict_of : (s : List ℕ) (given : Option SensorSize) → told_header (header_of s given) ≡ header_verdict s given
unfolding header_of
verdict_of s given = told_by (header_outcome s given)

-- ---- no two answers are told alike

abbrev meant : List ℕ → header.Header
meant v =
    record {
      data_offset = get_or v 0 0;
      sensor_size = cond (eqb (get_or v 2 0) 0) None (Some (record { width = get_or v 3 0; height = get_or v 4 0 }));
      encoding = cond (eqb (get_or v 1 0) 2) Evt2 (cond (eqb (get_or v 1 0) 21) Evt21 Evt3);
    }

meant-values : (at : ℕ) (size : Option SensorSize) (e : Encoding)
    → meant (at ∷ encoding_number e ∷ size_values size) ≡ record { data_offset = at; sensor_size = size; encoding = e }
meant-values at None Evt2 = refl
meant-values at None Evt21 = refl
meant-values at None Evt3 = refl
meant-values at (Some s) Evt2 = refl
meant-values at (Some s) Evt21 = refl
meant-values at (Some s) Evt3 = refl

meant-told : (h : header.Header) → meant (naturals (told_header (Ok h)).values) ≡ h
meant-told h = ap meant (accepted-naturals (header_values h)) ∙ meant-values h.data_offset h.sensor_size h.encoding

abbrev number : Told → ℕ
number t = t.number

pub told_header-apart : (a b : Result header.Header Refusal) → told_header a ≡ told_header b → a ≡ b
told_header-apart (Ok h) (Ok k) e =
    ap Ok (sym (meant-told h) ∙ ap (λ (t : Told). meant (naturals t.values)) e ∙ meant-told k)
told_header-apart (Ok h) (Err r) e =
    let z : 0 ≡ (told r).number = ap number e in
    absurd (omega (arith, told-numbered r))
told_header-apart (Err r) (Ok h) e =
    let z : (told r).number ≡ 0 = ap number e in
    absurd (omega (arith, told-numbered r))
told_header-apart (Err r) (Err q) e = ap Err (told-apart r q e)

-- ---- what an acceptance says

pub record Accepted (s : List ℕ) (given : Option SensorSize) (h : header.Header) : Type 0 where
  pub short : length s ≤ most_bytes
  pub start : h.data_offset ≡ body_start s
  pub within : h.data_offset ≤ length s
  pub size : h.sensor_size ≡ size_that_holds given (said_by s).size
  pub positive : has_zero h.sensor_size ≡ false

-- a header is refused by 1 to 4
pub header_four : (s : List ℕ) (given : Option SensorSize) → (told_header (header_of s given)).number ≤ 4
unfolding header_of lines_outcome header_bytes body_start said_by with_encoding
header_four s given =
    go (ltb most_bytes (length s)) (any not_ascii (header_bytes s)) (body_start s) (size_that_holds given (said_by s).size) (encoding_of (said_by s))
  where
    go : (long high : Bool) (at : ℕ) (size : Option SensorSize) (n : Option Encoding)
        → (told_header (answer_by (cond long (refuse TooLong) (cond high (refuse HeaderNotAscii) (with_encoding at size n))))).number ≤ 4
    go true high at size n = omega arith
    go false true at size n = omega arith
    go false false at size None = omega arith
    go false false at size (Some e) = by_bool (has_zero size) (λ z. rw z (omega arith)) (λ z. rw z (omega arith))

-- and never by 1 where a size without a zero is given
pub header_sized : (s : List ℕ) (given : Option SensorSize) → ((read : Option SensorSize) → has_zero (size_that_holds given read) ≡ false)
    → (told_header (header_of s given)).number ≡ 1 → ⊥
unfolding header_of lines_outcome header_bytes body_start said_by with_encoding
header_sized s given fine =
    let read = (said_by s).size in
    go (ltb most_bytes (length s)) (any not_ascii (header_bytes s)) (body_start s) (size_that_holds given read) (fine read) (encoding_of (said_by s))
  where
    go : (long high : Bool) (at : ℕ) (size : Option SensorSize) → has_zero size ≡ false → (n : Option Encoding)
        → (told_header (answer_by (cond long (refuse TooLong) (cond high (refuse HeaderNotAscii) (with_encoding at size n))))).number ≡ 1 → ⊥
    go true high at size z n e = omega arith
    go false true at size z n e = omega arith
    go false false at size z None e = omega arith
    go false false at size z (Some k) e = let e' = rw z at e in omega (arith, e')
