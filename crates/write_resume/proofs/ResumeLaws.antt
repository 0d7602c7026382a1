-- Laws of specs/Laws.antt.
use Rattle.evt21_decoder.specs.Range.{bounded_range21}
use Rattle.evt2_decoder.specs.{Range.bounded_range2, declared.Evt2Decoder.Evt2Decoder}
use Rattle.evt3_decoder.specs.{Range.regular_range3, declared.Decoder.Decoder}
use Rattle.evt_codec.specs.{Codec.coarse_c, Codec.encoding_after, Codec.encoding_fresh, Codec.encoding_of, Codec.fresh_c, Codec.in_range_c, Codec.started_c}
use Rattle.evt_codec.specs.{declared.codec.Codec.Codec, declared.codec.Codec.TheVariants.Evt2, declared.codec.Codec.TheVariants.Evt21}
use Rattle.evt_codec.specs.{declared.codec.Codec.TheVariants.Evt3}
use Rattle.evt_types.specs.{Num.most_bytes, Outcome.Outcome, Outcome.give, Outcome.given_then, declared.Encoding.Encoding}
use Rattle.read_fill.specs.Laws.{fresh_range}
use Rattle.std.proofs.Common.{ap, arith, ◌∙◌}
use Rattle.std.specs.Prelude.{List, false, length, true, ℕ, ◌<◌, ◌≡◌, ◌≤◌}
use Rattle.write_resume.specs.{Laws.behind, Laws.resume-given, Laws.resumed_in_range, Laws.words-behind, Resume.resume_after, Resume.resume_outcome}
use Rattle.write_resume.specs.{Resume.resume_words_outcome}
use Rattle.write_rules.specs.{Range.sink_in_range, Range.time_bound, Rules.fresh_sink, Rules.resumed_sink, declared.RawEventSink.RawEventSink}

-- ---- the clock of a decoder in range

unstarted_coarse : (c : Codec) → in_range_c c ≡ true → started_c c ≡ false → coarse_c c ≡ 0
unstarted_coarse (Evt2 d) fit off = ap (λ (d : Evt2Decoder). d.time_high) ((bounded_range2 0 d fit (omega arith)).regular.unstarted off)
unstarted_coarse (Evt21 d) fit off = ap (λ (d : Evt2Decoder). d.time_high) ((bounded_range21 0 d fit (omega arith)).regular.unstarted off)
unstarted_coarse (Evt3 d) fit off = ap (λ (d : Decoder). d.time_base) ((regular_range3 d fit).0.unstarted off)

-- ---- behind a decoder

module _ (c : Codec) (fit : in_range_c c ≡ true) where
  -- BEFORE THE FIRST TIME WORD: a fresh writer that sends no header
  pub resume-fresh : started_c c ≡ false → resume_outcome c ≡ give (fresh_sink (encoding_of c) false)
  resume-fresh off = resume-given c fit (omega (arith, unstarted_coarse c fit off)) ∙ rw off

-- ---- EVERY WRITER THAT IS GIVEN IS IN RANGE

-- behind words and recordings too
pub behind_in_range : (o : Outcome Codec) (s : RawEventSink) → resume_after o ≡ give s → sink_in_range s ≡ true
behind_in_range o s h = let g = given_then s o resume_outcome h in resumed_in_range g.0 s g.1.1

-- ---- behind words

module _ (e : Encoding) (words : List ℕ) (short : length words ≤ most_bytes) where
  -- then 10 comes for the coarse time alone
  pub words-given : coarse_c (behind e words short) < time_bound → resume_words_outcome words e ≡ give (resumed_sink e (started_c (behind e words short)) (coarse_c (behind e words short)))
  words-given h =
      words-behind e words short ∙ resume-given (behind e words short) (fresh_range e words short) h
      ∙ ap (λ (k : Encoding). give (resumed_sink k (started_c (behind e words short)) (coarse_c (behind e words short)))) (encoding_after (fresh_c e) words ∙ encoding_fresh e)
