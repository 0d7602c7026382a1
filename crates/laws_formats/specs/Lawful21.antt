-- EVT 2.1: the decoder understands the writer. It reads the upper half of a word as in EVT2.
use Rattle.std.specs.Prelude.{List, ℕ}
use Rattle.laws_stream.specs.Format.{Format}
use Rattle.evt_types.specs.Event.{Event}
use Rattle.evt21_decoder.specs.declared.Evt21Decoder.{Evt21Decoder}
use Rattle.evt21_decoder.specs.Evt21.{as2}
use Rattle.write_buffer.specs.declared.EncoderState.{EncoderState}
use Rattle.evt3_run_rules.specs.Runs.{Run, given}
use Rattle.evt21_encoder.specs.Evt21.{Valid21, writer21}
use Rattle.evt_codec.specs.Reader.{evt21}
use Rattle.laws_formats.specs.Ready.{format_by, IfSent}
use Rattle.laws_formats.specs.Lawful2.{Ready2, High2}

abbrev pub Ready21 : Evt21Decoder → List Event → Type 0
Ready21 d es = Ready2 (as2 d) es

-- the decoder has the coarse time of the half h
abbrev pub High21 : Evt21Decoder → (h : ℕ) → Type 0
High21 d h = High2 (as2 d) h

abbrev pub format21 : Format Evt21Decoder EncoderState Run Event
format21 = format_by evt21 writer21 given Valid21 Ready21 (λ v d. IfSent v.time_high (High21 d))
