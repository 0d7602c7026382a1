-- Laws of specs/Laws.antt.
use Rattle.evt_types.specs.{Num.most_bytes, Outcome.Outcome, Outcome.give, Outcome.given-unless, Outcome.never_given, Outcome.refuse}
use Rattle.std.specs.Prelude.{Option, Some, None, Ok}
use Rattle.evt_types.specs.declared.SensorSize.{SensorSize}
use Rattle.evt_types.specs.declared.Encoding.{Encoding}
use Rattle.evt_types.specs.{declared.Refusal.TheVariants.UnknownEncoding}
use Rattle.header.specs.{Header.answer_by, Header.encoding_of, Header.has_zero, Header.header_of, Header.header_outcome, Header.lines_outcome, Header.said_by}
use Rattle.header.specs.{Header.size_that_holds, Header.with_encoding, Laws.Accepted, Laws.NoLineBehind, Laws.lines_as_before, Laws.lines_whole}
use Rattle.header.specs.{Lines.body_start, Lines.header_bytes, Lines.header_lines, Lines.is_end, Lines.joined_lines, Lines.leading, Lines.lines_of}
use Rattle.header.specs.{Lines.starts_percent, Lines.through_end}
use Rattle.header_text.specs.{Cases.by_bool, Text.any, Text.not_ascii}
use Rattle.std.proofs.Common.{ap, append-nil, append_assoc, arith, length-take, ltb-false, sym, take_at, ◌∙◌}
use Rattle.std.specs.Prelude.{List, [], false, length, ltb, refl, take, ℕ, ◌++◌, ◌∷◌, ◌≡◌, ◌≤◌}
use Rattle.header.specs.declared.Header as header

-- ---- the header is a part of the recording

leading-part : (ls : List (List ℕ)) → (t : List ℕ) × (joined_lines ls ≡ joined_lines (leading ls) ++ t)
unfolding joined_lines leading
leading-part [] = ([], refl)
leading-part (l ∷ ls) =
    let r = leading-part ls in
    by_bool (starts_percent l) (λ e. (r.0, rw e (ap (λ (t : List ℕ). l ++ t) r.1 ∙ sym (append_assoc l (joined_lines (leading ls)) r.0))))
    (λ e. (l ++ joined_lines ls, rw e))

through_part : (ls : List (List ℕ)) → (t : List ℕ) × (joined_lines ls ≡ joined_lines (through_end ls) ++ t)
unfolding joined_lines through_end
through_part [] = ([], refl)
through_part (l ∷ ls) =
    let r = through_part ls in
    by_bool (is_end l) (λ e. (joined_lines ls, rw e (ap (λ (t : List ℕ). t ++ joined_lines ls) (sym (append-nil l)))))
    (λ e. (r.0, rw e (ap (λ (t : List ℕ). l ++ t) r.1 ∙ sym (append_assoc l (joined_lines (through_end ls)) r.0))))

pub header_part : (s : List ℕ) → take (body_start s) s ≡ header_bytes s
unfolding body_start header_bytes header_lines
header_part s =
    let r = leading-part (lines_of s) in
    let q = through_part (leading (lines_of s)) in
    let front = joined_lines (through_end (leading (lines_of s))) in
    let e : s ≡ front ++ (q.0 ++ r.0) =
    sym (lines_whole s) ∙ r.1 ∙ ap (λ (t : List ℕ). t ++ r.0) q.1 ∙ append_assoc front q.0 r.0 in
    ap (take (length front)) e ∙ take_at front (q.0 ++ r.0) _ refl

pub body-within : (s : List ℕ) → body_start s ≤ length s
unfolding body_start
body-within s = omega (arith, length-take (body_start s) s, ap length (header_part s))

-- ---- where an end line stands

pub as_before : (s : List ℕ) (given : Option SensorSize) → NoLineBehind (leading (lines_of s))
    → header_outcome s given ≡ lines_outcome (length s) (leading (lines_of s)) given
as_before s given h = rw (lines_as_before s h)

-- ---- what an acceptance says

given_by : (o : Outcome header.Header) (h : header.Header) → answer_by o ≡ Ok h → o ≡ give h
given_by (refuse r) h e = let no : ◌≡◌ {A = ℕ} 0 1 = cc in absurd (omega arith)
given_by (give g) h e = cc

named_by : (at : ℕ) (size : Option SensorSize) (n : Option Encoding) (h : header.Header) → with_encoding at size n ≡ give h
    → (has_zero size ≡ false) × ((at ≡ h.data_offset) × (size ≡ h.sensor_size))
unfolding with_encoding
named_by at size None h e = never_given h UnknownEncoding e
named_by at size (Some n) h e =
    let z = given-unless h (has_zero size) _ _ e in
    let k : record { data_offset = at; sensor_size = size; encoding = n } ≡ h = same-given _ h z.1 in
    (z.0, (ap (λ (x : header.Header). x.data_offset) k, ap (λ (x : header.Header). x.sensor_size) k))
  where
    same-given : (g h : header.Header) → give g ≡ give h → g ≡ h
    same-given g h e = cc

pub of_accepted : (s : List ℕ) (given : Option SensorSize) (h : header.Header) → header_of s given ≡ Ok h → Accepted s given h
unfolding header_of lines_outcome header_bytes body_start said_by
of_accepted s given h e =
    let a = given-unless h (ltb most_bytes (length s)) _ _ (given_by (header_outcome s given) h e) in
    let b = given-unless h (any not_ascii (header_bytes s)) _ _ a.1 in
    let k = named_by (body_start s) (size_that_holds given (said_by s).size) (encoding_of (said_by s)) h b.1 in
    record {
      short = ltb-false most_bytes (length s) a.0;
      start = sym k.1.0;
      within = omega (arith, body-within s, k.1.0);
      size = sym k.1.1;
      positive = ap has_zero (sym k.1.1) ∙ k.0;
    }
