-- The answer, way by way.
use Rattle.std.specs.Option.{option_or}
use Rattle.std.proofs.lemmas.Bool.{lt-leb, le-leb}
use Rattle.std.specs.Str.{IsAscii, IsNotAscii}
use Rattle.std.proofs.Common.{ℕ, zero, suc, leb, ◌<◌, ◌≤◌, ◌≡◌, refl, sym, ◌∙◌, ap, List, [], ◌∷◌, Bool, true, false, cond, arith, length, take, lt-ltb, le-ltb}
use Rattle.evt_types.specs.declared.{Encoding.Encoding, Refusal.TheVariants.InvalidSensorSize, Refusal.TheVariants.UnknownEncoding}
use Rattle.std.specs.Prelude.{Option, Some, None, Result, Err}
use Rattle.evt_types.specs.declared.SensorSize.{SensorSize}
use Rattle.evt_types.specs.declared.Refusal.{Refusal}
use Rattle.header.specs.declared.Header as header
use Rattle.evt_types.specs.declared.{Refusal.TheVariants.HeaderNotAscii, Refusal.TheVariants.TooLong}
use Rattle.header_text.specs.Text.{not_ascii, any}
use Rattle.header.specs.Lines.{header_bytes, body_start}
use Rattle.header.specs.Header.{Said, said_by, encoding_of}
use Rattle.header.specs.Header.{size_that_holds, has_zero, with_encoding, lines_outcome, answer_by, told_header, header_of, Parsed}
use Rattle.evt_types.specs.Num.{most_bytes}
use Rattle.evt_types.specs.Outcome.{refuse, give}
use Rattle.header.specs.Notes.{scan_of}
use Rattle.header_text.specs.Cases.{by_bool}
use Rattle.header.specs.Laws.{verdict_of}
use Rattle.header.proofs.HeaderLaws.{body-within, header_part}

-- ---- the answer

-- the first that is known
pub or-holds : (given read : Option SensorSize) → option_or given read ≡ size_that_holds given read
unfolding size_that_holds
or-holds None read = refl
or-holds (Some s) read = refl

-- as `is_ascii` tells it
pub ascii : (s : List ℕ) → IsAscii s → any not_ascii s ≡ false
unfolding any
ascii [] h = refl
ascii (b ∷ s) h = rw (lt-leb 128 b (h 0)) (ascii s (λ i. h (suc i)))

pub not-ascii : (s : List ℕ) → IsNotAscii s → any not_ascii s ≡ true
unfolding any
not-ascii [] (i, h) = absurd (omega arith)
not-ascii (b ∷ s) (zero, h) = rw (le-leb 128 b h)
not-ascii (b ∷ s) (suc i, h) = by_bool (leb 128 b) (λ e. rw e) (λ e. rw e (not-ascii s (i, h)))

module _ (s : List ℕ) (given : Option SensorSize) where
  pub parsed : (r : Result header.Header Refusal) → r ≡ header_of s given → Parsed s given r
  parsed r e = record { is_told = ap told_header e ∙ verdict_of s given; answer = e }

  pub answer_long : most_bytes < length s → Err TooLong ≡ header_of s given
  unfolding header_of lines_outcome header_bytes body_start said_by
  answer_long h = rw (lt-ltb most_bytes (length s) h)

  module _ (h : length s ≤ most_bytes) (at : ℕ) (said : Said) (e : (at, said) ≡ scan_of s) where
    scan_at : at ≡ body_start s
    unfolding scan_of
    scan_at = ap (λ (p : ℕ × Said). p.0) e

    scan_said : said ≡ said_by s
    unfolding scan_of
    scan_said = ap (λ (p : ℕ × Said). p.1) e

    pub scan_within : at ≤ length s
    scan_within = omega (arith, scan_at, body-within s)

    scan_part : take at s ≡ header_bytes s
    scan_part = rw scan_at (header_part s)

    pub answer-high : any not_ascii (take at s) ≡ true → Err HeaderNotAscii ≡ header_of s given
    unfolding header_of lines_outcome header_bytes body_start said_by
    answer-high q = rw (le-ltb most_bytes (length s) h, sym (ap (any not_ascii) scan_part) ∙ q)

    module _ (q : any not_ascii (take at s) ≡ false) where
      answer-from : answer_by (with_encoding at (size_that_holds given said.size) (encoding_of said)) ≡ header_of s given
      unfolding header_of lines_outcome header_bytes body_start said_by
      answer-from = rw (le-ltb most_bytes (length s) h, sym (ap (any not_ascii) scan_part) ∙ q, scan_at, scan_said)

      pub answer_none : encoding_of said ≡ None → Err UnknownEncoding ≡ header_of s given
      unfolding with_encoding
      answer_none d = rw d at answer-from

      module _ (n : Encoding) (d : encoding_of said ≡ Some n) (size : Option SensorSize) (f : size ≡ size_that_holds given said.size) where
        pub answer_sized : (z : Bool) → has_zero size ≡ z
            → answer_by (cond z (refuse InvalidSensorSize) (give (record { data_offset = at; sensor_size = size; encoding = n }))) ≡ header_of s given
        unfolding with_encoding
        answer_sized z q = rw (← q, f) (rw d at answer-from)
