-- The outcome that an answer to decoding tells of.
use Rattle.std.specs.Prelude.{◌≡◌, refl, Bool, true, false, cond, List, ℕ}
use Rattle.std.proofs.Common.{ap, ◌∙◌}
use Rattle.std.specs.Prelude.{Result, Ok, Err}
use Rattle.evt_types.specs.declared.Refusal.{Refusal}
use Rattle.evt_types.specs.declared.vector.EventVector.{EventVector}
use Rattle.evt_types.specs.{declared.Refusal.TheVariants.StateOutOfRange, Event.narrowed, Owed.decode_answer}
use Rattle.evt_types.specs.Outcome.{Outcome, refuse, give}
use Rattle.evt_types.specs.declared.vector.Decoded.{Decoded}
use Rattle.evt_codec.specs.{declared.codec.Codec.Codec, Codec.in_range_c, Codec.step_c, Codec.vector_c}
use Rattle.evt_codec.specs.Decode.{DecodedC}
use Rattle.read_after.specs.After.{after_answer}
use Rattle.c_decoder.specs.{Decoder.DecodedWord, Decoder.word_outcome}

abbrev pub word_by : (next : Codec) → Result EventVector Refusal → Outcome DecodedWord
word_by next (Ok v) = give (record { next = next; events = v })
word_by next (Err r) = refuse r

abbrev pub codec_by : Result Codec Refusal → Outcome Codec
codec_by (Ok c) = give c
codec_by (Err r) = refuse r

-- ---- laws

pub word_by_lem : (c : Codec) (bytes : List ℕ) (r : Decoded Codec) → DecodedC c bytes r → word_by r.next r.answer ≡ word_outcome c bytes
word_by_lem c bytes r h = (λ i. word_by (h.is_next i) (h.is_answer i)) ∙ go (in_range_c c)
  where
    go : (ok : Bool) → word_by (cond ok (step_c c bytes) c) (decode_answer ok (vector_c c bytes))
        ≡ cond ok (give (record { next = step_c c bytes; events = narrowed (vector_c c bytes) })) (refuse StateOutOfRange)
    go true = refl
    go false = refl

pub codec_by_lem : (a : Result Codec Refusal) (o : Outcome Codec) → a ≡ after_answer o → codec_by a ≡ o
codec_by_lem a (refuse r) e = ap codec_by e
codec_by_lem a (give c) e = ap codec_by e
