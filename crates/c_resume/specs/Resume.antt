-- What resuming comes to in the C interface, and its answer in numbers.
use Rattle.std.specs.Prelude.{cond, List, ℕ}
use Rattle.evt_types.specs.{declared.Refusal.TheVariants.StateOutOfRange, Outcome.Outcome, Outcome.refuse, Outcome.give, Told.told}
use Rattle.write_rules.specs.declared.RawEventSink.{RawEventSink}
use Rattle.write_resume.specs.Resume.{resume_outcome, resume_words_outcome}
use Rattle.c_values.specs.Encoding.{coded_outcome}
use Rattle.c_decoder.specs.{declared.decoder.PropheseeDecoder.PropheseeDecoder, Decoder.is_decoder, Decoder.codec_in}
use Rattle.c_writer.specs.{declared.writer.PropheseeSink.PropheseeSink, Writer.flat_sink}
use Rattle.c_resume.specs.declared.resume.PropheseeResumed.{PropheseeResumed}

-- 10 for numbers that are no decoder's, else as the library has it
abbrev pub resume_outcome_c : PropheseeDecoder → Outcome RawEventSink
resume_outcome_c d = cond (is_decoder d) (resume_outcome (codec_in d)) (refuse StateOutOfRange)

-- 2 for an unknown encoding, behind 4
abbrev pub resume_words_outcome_c : (words : List ℕ) → (encoding : ℕ) → Outcome RawEventSink
resume_words_outcome_c words n = coded_outcome n words (resume_words_outcome words)

-- on a refusal a fresh writer
abbrev pub resumed_of : (fresh : PropheseeSink) → Outcome RawEventSink → PropheseeResumed
resumed_of fresh (refuse r) = record { sink = fresh; refusal = (told r).number }
resumed_of fresh (give s) = record { sink = flat_sink s; refusal = 0 }
