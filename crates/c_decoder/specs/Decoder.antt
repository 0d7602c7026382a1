-- A decoder, the events of a word and one of them as numbers and back, and what decoding promises.
use Rattle.std.specs.Prelude.{Bool, cond, ◌&&◌, List, ℕ, pos, length}
use Rattle.std.specs.Prelude.{Option, Some, None}
use Rattle.evt_types.specs.declared.{Refusal.TheVariants.StateOutOfRange, RawEvent.RawEvent, vector.EventVector.EventVector}
use Rattle.evt_types.specs.{Event.narrowed, Num.encoding_number, Outcome.Outcome, Outcome.refuse, Outcome.give, Told.told}
use Rattle.evt_codec.specs.{declared.codec.Codec.Codec, Codec.encoding_of as codec_encoding, Codec.in_range_c, Codec.step_c, Codec.vector_c}
use Rattle.read_after.specs.After.{after_outcome}
use Rattle.c_values.specs.{declared.codec.DecoderNumbers.DecoderNumbers, Codec.numbers_of, Codec.is_codec, Codec.codec_of, Encoding.is_known}
use Rattle.c_values.specs.{Encoding.encoding_of, Encoding.behind_too_long}
use Rattle.c_decoder.specs.{declared.decoder.PropheseeDecoded.PropheseeDecoded, declared.decoder.PropheseeDecoder.PropheseeDecoder}
use Rattle.c_decoder.specs.{declared.decoder.PropheseeEvent.PropheseeEvent, declared.decoder.PropheseeNext.PropheseeNext}
use Rattle.c_decoder.specs.{declared.decoder.PropheseeStepped.PropheseeStepped, declared.decoder.PropheseeVector.PropheseeVector}

-- ---- a decoder

abbrev pub numbers_in : PropheseeDecoder → DecoderNumbers
numbers_in d = record {
  initialised = d.initialised;
  time_base = d.time_base;
  time = d.time;
  high_loops = d.high_loops;
  y = d.y;
  base_x = d.base_x;
  polarity = d.polarity;
}

abbrev pub is_decoder : PropheseeDecoder → Bool
is_decoder d = is_known d.encoding && is_codec (encoding_of d.encoding) (numbers_in d)

abbrev pub codec_in : PropheseeDecoder → Codec
codec_in d = codec_of (encoding_of d.encoding) (numbers_in d)

abbrev pub decoder_by : (encoding : ℕ) → DecoderNumbers → PropheseeDecoder
decoder_by e n = record {
  time_base = n.time_base;
  time = n.time;
  high_loops = n.high_loops;
  encoding = e;
  y = n.y;
  base_x = n.base_x;
  initialised = n.initialised;
  polarity = n.polarity;
}

abbrev pub decoder_of : Codec → PropheseeDecoder
decoder_of c = decoder_by (encoding_number (codec_encoding c)) (numbers_of c)

abbrev pub new_decoder : (encoding : ℕ) → PropheseeDecoder
new_decoder e =
    decoder_by e (record { initialised = 0; time_base = 0; time = 0; high_loops = 0; y = 0; base_x = 0; polarity = 0 })

-- ---- the events of a word

abbrev pub vector_of : EventVector → PropheseeVector
vector_of v = record { t = v.t; mask = v.mask; x = v.x; y = v.y; p = v.p }

abbrev pub vector_in : PropheseeVector → EventVector
vector_in v = record { x = v.x; y = v.y; t = v.t; p = v.p; mask = v.mask }

abbrev pub no_vector : PropheseeVector
no_vector = record { t = pos 0; mask = 0; x = 0; y = 0; p = 0 }

abbrev pub event_of : RawEvent → PropheseeEvent
event_of e = record { t = e.t; x = e.x; y = e.y; p = e.p }

-- all 0 where the vector has no event
abbrev pub next_numbers : Option (RawEvent × EventVector) → PropheseeNext
next_numbers None = record { rest = no_vector; event = record { t = pos 0; x = 0; y = 0; p = 0 }; some = 0 }
next_numbers (Some (e, v)) = record { rest = vector_of v; event = event_of e; some = 1 }

-- ---- one word

pub record DecodedWord : Type 0 where
  pub next : Codec
  pub events : EventVector

-- 10 for a decoder out of range
abbrev pub word_outcome : Codec → List ℕ → Outcome DecodedWord
word_outcome c bytes = cond (in_range_c c) (give (record { next = step_c c bytes; events = narrowed (vector_c c bytes) })) (refuse StateOutOfRange)

-- and for numbers that are no decoder's
abbrev pub word_outcome_c : PropheseeDecoder → List ℕ → Outcome DecodedWord
word_outcome_c d bytes = cond (is_decoder d) (word_outcome (codec_in d) bytes) (refuse StateOutOfRange)

-- a refusal returns the given decoder
abbrev pub decoded_of : PropheseeDecoder → Outcome DecodedWord → PropheseeDecoded
decoded_of given (refuse r) = record { decoder = given; events = no_vector; refusal = (told r).number }
decoded_of given (give w) = record { decoder = decoder_of w.next; events = vector_of w.events; refusal = 0 }

-- ---- all whole words

-- 10 for numbers that are no decoder's, behind 4
abbrev pub after_outcome_c : PropheseeDecoder → List ℕ → Outcome Codec
after_outcome_c d words = cond (is_decoder d) (after_outcome (codec_in d) words) (refuse (behind_too_long (length words) StateOutOfRange))

abbrev pub stepped_of : PropheseeDecoder → Outcome Codec → PropheseeStepped
stepped_of given (refuse r) = record { decoder = given; refusal = (told r).number }
stepped_of given (give c) = record { decoder = decoder_of c; refusal = 0 }
