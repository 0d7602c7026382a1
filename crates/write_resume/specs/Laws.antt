-- Behind which decoders a writer resumes, that it is in range, what it holds, and what it is behind words and recordings.
use Rattle.std.specs.Prelude.{◌≡◌, refl, Bool, true, false, List, ℕ, ◌*◌, ◌/◌, ◌≤◌, ◌<◌, ltb, pos, length, drop}
use Rattle.std.proofs.Common.{sym, ap, ◌∙◌, arith}
use borrow.Author.Tests.{lt-ltb, le-ltb, ltb-true}
use Rattle.laws_stream.specs.Machine.{and_both}
use Rattle.evt_types.specs.{declared.Encoding.Encoding, declared.Refusal.Refusal, declared.Refusal.TheVariants.StateOutOfRange, Num.most_bytes}
use Rattle.evt_types.specs.Outcome.{refuse, give, given_if}
use Rattle.evt_types.specs.declared.Encoding.TheVariants as E
use Rattle.evt2_decoder.specs.Range.{bounded_range2}
use Rattle.evt21_decoder.specs.Range.{bounded_range21}
use Rattle.evt3_decoder.specs.Range.{regular_range3}
use Rattle.evt_codec.specs.declared.{codec.Codec.Codec, codec.Codec.TheVariants.Evt2, codec.Codec.TheVariants.Evt21, codec.Codec.TheVariants.Evt3}
use Rattle.evt_codec.specs.Codec.{fresh_c, encoding_of, started_c, coarse_c, in_range_c, codec_after, encoding_after, encoding_fresh}
use Rattle.read_fill.specs.Laws.{range_fresh}
use Rattle.std.specs.Prelude.{Some, Ok, Err}
use Rattle.header.specs.declared.Header as header
use Rattle.header.specs.Header.{header_of}
use Rattle.read_after.specs.After.{after_outcome, after_raw_outcome, some_size}
use Rattle.write_rules.specs.{declared.RawEventSink.RawEventSink, Range.time_bound, Range.grain_of, Range.sink_in_range}
use Rattle.write_rules.specs.{Range.sink_not_before, Rules.resumed_sink}
use Rattle.write_resume.specs.Resume.{resumable, resume_outcome, resume_words_outcome, resume_raw_outcome, raw_encoding}

-- ---- the clock of a decoder in range

-- the coarse time is a whole number of grains
whole-coarse : (c : Codec) → in_range_c c ≡ true → started_c c ≡ true → coarse_c c / grain_of (encoding_of c) * grain_of (encoding_of c) ≡ coarse_c c
whole-coarse (Evt2 d) fit on = omega (arith, ((bounded_range2 0 d fit (omega arith)).regular.started on).whole)
whole-coarse (Evt21 d) fit on = omega (arith, ((bounded_range21 0 d fit (omega arith)).regular.started on).whole)
whole-coarse (Evt3 d) fit on = omega (arith, ((regular_range3 d fit).0.started on).0.whole)

-- ---- behind a decoder

pub resume_out_of_range : (c : Codec) → in_range_c c ≡ false → resume_outcome c ≡ refuse StateOutOfRange
unfolding resume_outcome
resume_out_of_range c unfit = rw unfit

module _ (c : Codec) (fit : in_range_c c ≡ true) where
  -- the coarse time decides
  pub resume-given : coarse_c c < time_bound → resume_outcome c ≡ give (resumed_sink (encoding_of c) (started_c c) (coarse_c c))
  unfolding resume_outcome
  resume-given h = rw (fit, lt-ltb (coarse_c c) time_bound h)

  pub resume-late : time_bound ≤ coarse_c c → resume_outcome c ≡ refuse StateOutOfRange
  unfolding resume_outcome
  resume-late h = rw (fit, le-ltb (coarse_c c) time_bound h)

  -- AFTER IT no event may be below the decoder's coarse time
  pub resume_not_before : started_c c ≡ true → sink_not_before (resumed_sink (encoding_of c) (started_c c) (coarse_c c)) ≡ Some (pos (coarse_c c))
  resume_not_before on = rw on (ap (λ (t : ℕ). Some (pos t)) (whole-coarse c fit on))

-- ---- EVERY WRITER THAT IS GIVEN IS IN RANGE

held_below : (e : Encoding) (coarse : ℕ) → coarse < time_bound → coarse / grain_of e * grain_of e < time_bound
held_below E.Evt2 coarse h = omega arith
held_below E.Evt21 coarse h = omega arith
held_below E.Evt3 coarse h = omega arith

sink_fits : (e : Encoding) (started : Bool) (coarse : ℕ) → coarse < time_bound → sink_in_range (resumed_sink e started coarse) ≡ true
sink_fits e true coarse h = rw (lt-ltb (coarse / grain_of e * grain_of e) time_bound (held_below e coarse h))
sink_fits e false coarse h = refl

pub resumed_in_range : (c : Codec) (s : RawEventSink) → resume_outcome c ≡ give s → sink_in_range s ≡ true
unfolding resume_outcome
resumed_in_range c s h =
    let g = given_if s (resumable c) _ _ h in
    let late = ltb-true (coarse_c c) time_bound (and_both (in_range_c c) (ltb (coarse_c c) time_bound) g.0).1 in
    let is : resumed_sink (encoding_of c) (started_c c) (coarse_c c) ≡ s = cc g.1 in
    ap sink_in_range (sym is) ∙ sink_fits (encoding_of c) (started_c c) (coarse_c c) late

-- ---- behind words

module _ (e : Encoding) (words : List ℕ) (short : length words ≤ most_bytes) where
  abbrev pub behind : Codec
  behind = codec_after (fresh_c e) words

  pub words-behind : resume_words_outcome words e ≡ resume_outcome behind
  unfolding after_outcome
  words-behind = rw (le-ltb most_bytes (length words) short, range_fresh e)

-- ---- behind a recording's body

module _ (recording : List ℕ) where
  pub raw_encoding_unknown : (r : Refusal) → header_of recording some_size ≡ Err r → raw_encoding recording ≡ E.Evt2
  unfolding after_raw_outcome
  raw_encoding_unknown r e = rw e

  module _ (h : header.Header) (e : header_of recording some_size ≡ Ok h) where
    pub raw_behind : resume_raw_outcome recording ≡ resume_outcome (codec_after (fresh_c h.encoding) (drop h.data_offset recording))
    unfolding after_raw_outcome
    raw_behind = rw e

    pub raw_encoding_lem : raw_encoding recording ≡ h.encoding
    unfolding after_raw_outcome
    raw_encoding_lem = rw e (encoding_after (fresh_c h.encoding) (drop h.data_offset recording) ∙ encoding_fresh h.encoding)
