-- Laws of specs/Promises.antt.
use Rattle.c_decoder.specs.{Decoder.codec_in, Decoder.is_decoder, Decoder.numbers_in, declared.decoder.PropheseeDecoder.PropheseeDecoder}
use Rattle.c_resume.specs.{Promises.resumed_numbers, Promises.resumed_numbers_lem, Resume.resume_outcome_c, Resume.resume_words_outcome_c, Resume.resumed_of}
use Rattle.c_values.specs.{Codec.codec_of, Encoding.encoding_of, Encoding.is_known, Flags.both, declared.codec.DecoderNumbers.DecoderNumbers}
use Rattle.c_writer.specs.{Laws.writer-fresh, Writer.flat_sink, Writer.writer_of, declared.writer.PropheseeSink.PropheseeSink}
use Rattle.evt_codec.specs.{Codec.encoding_of as codec_encoding, declared.codec.Codec.Codec}
use Rattle.evt_types.specs.{Outcome.Outcome, declared.Encoding.Encoding, declared.Encoding.TheVariants.Evt2, declared.Encoding.TheVariants.Evt21}
use Rattle.evt_types.specs.{declared.Encoding.TheVariants.Evt3}
use Rattle.std.proofs.Common.{ap, sym, ◌∙◌}
use Rattle.std.specs.Prelude.{List, false, refl, true, ℕ, ◌≡◌}
use Rattle.write_resume.specs.{Resume.Resumes, Resume.resume_outcome, Resume.resume_words_outcome, declared.Resumed.Resumed}
use Rattle.write_rules.specs.{Rules.fresh_sink, declared.RawEventSink.RawEventSink}

encoding_in : (e : Encoding) (n : DecoderNumbers) → codec_encoding (codec_of e n) ≡ e
encoding_in Evt2 n = refl
encoding_in Evt21 n = refl
encoding_in Evt3 n = refl

-- of a known encoding's number
fresh-numbers : (n : ℕ) (o : Outcome RawEventSink) → is_known n ≡ true
    → resumed_of (flat_sink (fresh_sink (encoding_of n) false)) o ≡ resumed_of (writer_of n 0) o
fresh-numbers n o h = ap (λ (s : PropheseeSink). resumed_of s o) (sym (writer-fresh n 0 h))

-- numbers that are a decoder's
pub resumes_decoder : (d : PropheseeDecoder) → is_decoder d ≡ true → (c : Codec) → c ≡ codec_in d
    → (r : Resumed) → Resumes (codec_encoding c) (resume_outcome c) r → resumed_numbers r ≡ resumed_of (writer_of d.encoding 0) (resume_outcome_c d)
resumes_decoder d h c is r k =
    resumed_numbers_lem (rw is at k) ∙ rw (encoding_in (encoding_of d.encoding) (numbers_in d))
    (fresh-numbers d.encoding (resume_outcome (codec_in d)) (both (is_known d.encoding) _ h).0 ∙ rw h)

-- words of a known encoding
pub resumes_words : (words : List ℕ) (n : ℕ) → is_known n ≡ true → (e : Encoding) → e ≡ encoding_of n
    → (r : Resumed) → Resumes e (resume_words_outcome words e) r → resumed_numbers r ≡ resumed_of (writer_of n 0) (resume_words_outcome_c words n)
resumes_words words n h e is r k =
    resumed_numbers_lem (rw is at k) ∙ fresh-numbers n (resume_words_outcome words (encoding_of n)) h ∙ rw h
