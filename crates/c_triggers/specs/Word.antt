-- The trigger of one word as numbers, and what a decoder's numbers and some bytes come to.
use Rattle.std.specs.Prelude.{cond, List, ℕ, pos}
use Rattle.std.specs.Prelude.{Option, Some, None, Result, Ok, Err}
use Rattle.evt_types.specs.declared.Refusal.{Refusal}
use Rattle.evt_types.specs.declared.RawTrigger.{RawTrigger}
use Rattle.evt_types.specs.declared.{Refusal.TheVariants.StateOutOfRange}
use Rattle.evt_types.specs.{Outcome.Outcome, Outcome.refuse, Told.told, Trigger.Trigger, Trigger.trigger_outcome, Trigger.trigger_answer}
use Rattle.evt_codec.specs.{Codec.in_range_c, Triggers.trigger_c}
use Rattle.c_decoder.specs.{declared.decoder.PropheseeDecoder.PropheseeDecoder, Decoder.is_decoder, Decoder.codec_in}
use Rattle.c_triggers.specs.declared.word.PropheseeTrigger.{PropheseeTrigger}

-- 10 for numbers that are no decoder's, and for a decoder out of range
abbrev pub trigger_outcome_c : PropheseeDecoder → List ℕ → Outcome (List Trigger)
trigger_outcome_c d bytes = cond (is_decoder d) (trigger_outcome (in_range_c (codec_in d)) (trigger_c (codec_in d) bytes)) (refuse StateOutOfRange)

-- ---- in numbers

abbrev pub no_trigger : (refusal : ℕ) → PropheseeTrigger
no_trigger n = record { t = pos 0; refusal = n; id = 0; value = 0; some = 0 }

abbrev pub answer_numbers : Result (Option RawTrigger) Refusal → PropheseeTrigger
answer_numbers (Ok (Some g)) = record { t = g.t; refusal = 0; id = g.id; value = g.value; some = 1 }
answer_numbers (Ok None) = no_trigger 0
answer_numbers (Err r) = no_trigger (told r).number

-- the first of the triggers, which are at most one
abbrev pub trigger_numbers : Outcome (List Trigger) → PropheseeTrigger
trigger_numbers o = answer_numbers (trigger_answer o)
