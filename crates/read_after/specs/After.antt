-- The decoder after words and after a recording's body, and what it tells.
use Rattle.std.specs.Prelude.{◌≡◌, refl, true, false, cond, List, [], ◌∷◌, ℕ, ◌≤◌, ◌<◌, ltb, length, drop}
use Rattle.std.proofs.Common.{sym, ◌∙◌, arith, length-drop}
use Rattle.std.proofs.Math.Path.{subst}
use borrow.Author.Tests.{lt-ltb, le-ltb}
use Rattle.evt_types.specs.declared.{Refusal.Refusal, Refusal.TheVariants.TooLong, Refusal.TheVariants.StateOutOfRange}
use Rattle.std.specs.Prelude.{Option, Some, Result, Ok, Err}
use Rattle.evt_types.specs.declared.SensorSize.{SensorSize}
use Rattle.evt_types.specs.{Num.most_bytes, Outcome.Outcome, Outcome.refuse, Outcome.give, Outcome.on_outcome, Outcome.verdict}
use Rattle.evt_types.specs.Told.{Told, told, accepted, told-numbered}
use Rattle.evt3_decoder.specs.Evt3.{number}
use Rattle.evt_codec.specs.declared.{codec.Codec.Codec, codec.Codec.TheVariants.Evt2, codec.Codec.TheVariants.Evt21, codec.Codec.TheVariants.Evt3}
use Rattle.evt_codec.specs.{Codec.fresh_c, Codec.in_range_c, Codec.codec_after}
use Rattle.header.specs.declared.Header as header
use Rattle.header.specs.{Header.header_of, Header.size_that_holds, Header.has_zero, Header.told_header, Laws.header_four, Laws.header_sized}
use Rattle.read_fill.specs.Laws.{range_fresh}
use Rattle.header.proofs.HeaderLaws.{of_accepted}

-- 4 over 2^30 bytes, 10 for a decoder out of range, else the decoder after all whole words
unfoldable pub after_outcome : Codec → List ℕ → Outcome Codec
after_outcome c words =
    cond (ltb most_bytes (length words)) (refuse TooLong)
    (cond (in_range_c c) (give (codec_after c words)) (refuse StateOutOfRange))

-- a recording: what its header is refused for, or the decoder after its body
abbrev pub after_header : Result header.Header Refusal → List ℕ → Outcome Codec
after_header (Err r) recording = refuse r
after_header (Ok h) recording = give (codec_after (fresh_c h.encoding) (drop h.data_offset recording))

-- any size that is given keeps the header's from being judged (1)
abbrev pub some_size : Option SensorSize
some_size = Some (record { width = 1; height = 1 })

-- 4, 3, 2
unfoldable pub after_raw_outcome : List ℕ → Outcome Codec
after_raw_outcome recording = after_header (header_of recording some_size) recording

-- ---- what is read off an outcome

abbrev pub after_answer : Outcome Codec → Result Codec Refusal
after_answer = on_outcome Err Ok

-- encoding, started or not, coarse time, time and loops; of EVT3 row, base column and polarity too
abbrev pub codec_values : Codec → List ℕ
codec_values (Evt2 d) = 2 ∷ number d.initialised ∷ d.time_high ∷ d.time ∷ d.high_loops ∷ []
codec_values (Evt21 d) = 21 ∷ number d.initialised ∷ d.time_high ∷ d.time ∷ d.high_loops ∷ []
codec_values (Evt3 d) =
    3 ∷ number d.initialised ∷ d.time_base ∷ d.time ∷ d.high_loops ∷ d.y ∷ d.base_x ∷ number d.polarity ∷ []

abbrev pub after_verdict : Outcome Codec → Told
after_verdict = verdict codec_values

-- ---- promises

-- what an answer tells
abbrev pub told_after : Result Codec Refusal → Told
told_after (Ok c) = accepted (codec_values c)
told_after (Err r) = told r

-- what an answer r with this outcome promises
pub record Afters (outcome : Outcome Codec) (r : Result Codec Refusal) : Type 0 where
  pub is_told : told_after r ≡ after_verdict outcome
  pub is_answer : r ≡ after_answer outcome

-- ---- laws: which answer is right, by the outcome of each test

module _ (c : Codec) (words : List ℕ) where
  by_outcome : (o : Outcome Codec) → after_outcome c words ≡ o → Afters (after_outcome c words) (after_answer o)
  by_outcome o e = subst (λ (k : Outcome Codec). Afters k (after_answer o)) (sym e) (go o)
    where
      go : (o : Outcome Codec) → Afters o (after_answer o)
      go (refuse r) = record { is_told = refl; is_answer = refl }
      go (give d) = record { is_told = refl; is_answer = refl }

  pub after_long : most_bytes < length words → Afters (after_outcome c words) (Err TooLong)
  unfolding after_outcome
  after_long h = by_outcome (refuse TooLong) (rw (lt-ltb most_bytes (length words) h))

  module _ (short : length words ≤ most_bytes) where
    pub after_unfit : in_range_c c ≡ false → Afters (after_outcome c words) (Err StateOutOfRange)
    unfolding after_outcome
    after_unfit h = by_outcome (refuse StateOutOfRange) (rw (le-ltb most_bytes (length words) short, h))

    pub after-words : in_range_c c ≡ true → (d : Codec) → d ≡ codec_after c words → Afters (after_outcome c words) (Ok d)
    unfolding after_outcome
    after-words h d e = by_outcome (give d) (rw (le-ltb most_bytes (length words) short, h, e))

-- ---- a body: a fresh decoder is in range, and what the header was read from is short enough

module _ (recording : List ℕ) (a : Result header.Header Refusal) (is-header : a ≡ header_of recording some_size) where
  by_header : {r : Result Codec Refusal} → Afters (after_header a recording) r → Afters (after_raw_outcome recording) r
  unfolding after_raw_outcome
  by_header {r} h = subst (λ (k : Result header.Header Refusal). Afters (after_header k recording) r) is-header h

  pub raw_refused : (r : Refusal) → a ≡ Err r → Afters (after_raw_outcome recording) (Err r)
  raw_refused r e = by_header (rw e (record { is_told = refl; is_answer = refl }))

  module _ (h : header.Header) (e : a ≡ Ok h) where
    body-short : length (drop h.data_offset recording) ≤ most_bytes
    body-short = rw length-drop (omega (arith, (of_accepted recording some_size h (sym is-header ∙ e)).short))

    pub raw_after : {r : Result Codec Refusal} (c : Codec) → c ≡ fresh_c h.encoding → Afters (after_outcome c (drop h.data_offset recording)) r
        → Afters (after_raw_outcome recording) r
    unfolding after_outcome
    raw_after c f after =
        by_header (rw e (rw (f, le-ltb most_bytes (length (drop h.data_offset recording)) body-short, range_fresh h.encoding) at after))

-- A RECORDING IS REFUSED BY 2, 3 OR 4, whatever size its header tells
abbrev pub TwoToFour : Outcome Codec → Type 0
TwoToFour (refuse r) = (2 ≤ (told r).number) × ((told r).number ≤ 4)
TwoToFour (give c) = Unit

pub raw_numbers : (recording : List ℕ) → TwoToFour (after_raw_outcome recording)
unfolding after_raw_outcome has_zero size_that_holds
raw_numbers recording = go (header_of recording some_size) (header_sized recording some_size (λ read. refl)) (header_four recording some_size)
  where
    go : (a : Result header.Header Refusal) → ((told_header a).number ≡ 1 → ⊥) → (told_header a).number ≤ 4 → TwoToFour (after_header a recording)
    go (Err r) some few = (omega (arith, told-numbered r, some), few)
    go (Ok h) some few = tt
