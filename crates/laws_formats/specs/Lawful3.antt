-- EVT3: the decoder understands the writer.
use Rattle.std.specs.Prelude.{◌≡◌}
use Rattle.std.proofs.Math.Bool.{true}
use mathlib.Core.List.{List}
use Prim.Native.Nat.{ℕ, ◌+◌, ◌*◌}
use Rattle.laws_stream.specs.Format.{Format}
use Rattle.evt_types.specs.Event.{Event}
use Rattle.evt3_decoder.specs.declared.Decoder.{Decoder}
use Rattle.evt_types.specs.Layout.{grain3}
use Rattle.evt3_decoder.specs.Evt3.{period3}
use Rattle.write_buffer.specs.declared.EncoderState.{EncoderState}
use Rattle.evt3_run_rules.specs.Runs.{Run, given, Valid}
use Rattle.evt3_lead_words.specs.Evt3.{writer3}
use Rattle.evt3_lead_words.specs.Evt3.{loop_of}
use Rattle.evt_codec.specs.Reader.{evt3}
use Rattle.laws_formats.specs.Ready.{format_by, Ready, IfSent}

abbrev pub Ready3 : Decoder → List Event → Type 0
Ready3 d es = Ready period3 d.time_base d.time d.high_loops es

-- the decoder has the coarse time of the half h
abbrev pub High3 : Decoder → (h : ℕ) → Type 0
High3 d h = (d.initialised ≡ true) × (d.time_base ≡ h * grain3)

-- what the writer takes for sent is what the decoder has
pub record Agree3 (v : EncoderState) (d : Decoder) : Type 0 where
  pub highs : IfSent v.time_high (High3 d)
  pub lows : IfSent v.time_low (λ l. d.time ≡ d.time_base + l)
  pub rows : IfSent v.y (λ y. d.y ≡ y)
  pub loops : d.high_loops ≡ loop_of v.time_high

abbrev pub format3 : Format Decoder EncoderState Run Event
format3 = format_by evt3 writer3 given Valid Ready3 Agree3
