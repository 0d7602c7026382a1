-- EVT2: the decoder understands the writer.
use Rattle.std.specs.Prelude.{◌≡◌, refl, true, List, [], ◌∷◌, ℕ, ◌+◌, ◌*◌, ◌/◌, ◌%◌, ◌^◌, ◌≤◌, ◌<◌}
use Rattle.std.proofs.Common.{◌∙◌, arith}
use Rattle.laws_stream.specs.{Format.Format, Order.rise_first}
use Rattle.evt_types.specs.Event.{Event, no_events}
use Rattle.evt2_decoder.specs.declared.Evt2Decoder.{Evt2Decoder}
use Rattle.evt_types.specs.Layout.{type2, time_low2, x2, y2, event-type2, event_low2, event-x2, event-y2, time_type2, time_high2_lem}
use Rattle.evt_types.specs.Layout.{grain2}
use Rattle.evt2_decoder.specs.Evt2 as Reader
use Rattle.evt2_decoder.specs.Evt2.{period2, threshold2, step2, vector2, time_word_lem, event-word}
use Rattle.read_columns.specs.Inside.{clock}
use Rattle.write_buffer.specs.declared.EncoderState.{EncoderState}
use Rattle.evt2_encoder.specs.Evt2.{high_word2, word_of2, writer2}
use Rattle.evt_codec.specs.Reader.{evt2}
use Rattle.laws_formats.specs.Ready.{format_by, sayable, Ready, IfSent, Sayable, sayable-true}
use Rattle.laws_stream.proofs.LoopLaws.{tracks_same}

abbrev pub Ready2 : Evt2Decoder → List Event → Type 0
Ready2 d es = Ready period2 d.time_high d.time d.high_loops es

-- the decoder has the coarse time of the half h
abbrev pub High2 : Evt2Decoder → (h : ℕ) → Type 0
High2 d h = (d.initialised ≡ true) × (d.time_high ≡ h * grain2)

abbrev pub format2 : Format Evt2Decoder EncoderState Event Event
format2 = format_by evt2 writer2 (λ e. e ∷ []) (λ e. Unit) Ready2 (λ v d. IfSent v.time_high (High2 d))

-- ---- an event's word, at the coarse time that the event has

module _ (d : Evt2Decoder) (e : Event) (f : Sayable e) (on : d.initialised ≡ true) (at : d.time_high ≡ e.t / grain2 * grain2) where
  abbrev pub w : ℕ
  w = word_of2 e

  pub p<2 : e.p % 2 < 2
  p<2 = omega arith

  pub low< : e.t % grain2 < 64
  low< = omega arith

  pub x<2048 : e.x % 2048 < 2048
  x<2048 = omega arith

  pub y<2048 : e.y % 2048 < 2048
  y<2048 = omega arith

  is_p : type2 w ≡ e.p
  is_p = event-type2 (e.p % 2) (e.t % grain2) (e.x % 2048) (e.y % 2048) p<2 low< x<2048 y<2048 ∙ omega (arith, f.p<)

  is_x : x2 w ≡ e.x
  is_x = event-x2 (e.p % 2) (e.t % grain2) (e.x % 2048) (e.y % 2048) p<2 low< x<2048 y<2048 ∙ omega (arith, f.x<)

  is_y : y2 w ≡ e.y
  is_y = event-y2 (e.p % 2) (e.t % grain2) (e.x % 2048) (e.y % 2048) p<2 low< x<2048 y<2048 ∙ omega (arith, f.y<)

  is_t : d.time_high + time_low2 w ≡ e.t
  is_t = rw (event_low2 (e.p % 2) (e.t % grain2) (e.x % 2048) (e.y % 2048) p<2 low< x<2048 y<2048, at) (omega arith)

  by_event : (step2 d w ≡ Reader.step_as Reader.event d w) × (vector2 d w ≡ Reader.vector_as Reader.event d w)
  by_event = event-word d w (type2 w) refl (omega (arith, is_p, f.p<)) on

  pub event_vector : vector2 d w ≡ record { x = e.x; y = e.y; t = e.t; p = e.p; mask = 1 }
  event_vector = by_event.1 ∙ rw (is_x, is_y, is_t, is_p)

  pub event_steps : step2 d w ≡ record { initialised = d.initialised; time_high = d.time_high; time = e.t; high_loops = d.high_loops }
  event_steps = by_event.0 ∙ rw is_t

-- ---- the word that sends the coarse half of an event's time, to a decoder that is ready for the event

-- the decoder after it
abbrev pub risen : Evt2Decoder → (t : ℕ) → Evt2Decoder
risen d t = record { initialised = true; time_high = t / grain2 * grain2; time = t / grain2 * grain2; high_loops = d.high_loops }

module _ (d : Evt2Decoder) (e : Event) (more : List Event) (rd : Ready2 d (e ∷ more)) where
  abbrev q : ℕ
  q = e.t / grain2 % 2 ^ 28

  abbrev high : ℕ
  high = high_word2 e.t

  by_time_lem : (step2 d high ≡ Reader.step_as Reader.time_high_lem d high) × (vector2 d high ≡ Reader.vector_as Reader.time_high_lem d high)
  by_time_lem = time_word_lem d high (type2 high) refl (time_type2 q (omega arith))

  pub high_vector : vector2 d high ≡ no_events
  high_vector = by_time_lem.1

  pub high_steps : step2 d high ≡ risen d e.t
  high_steps =
      let f = sayable-true e rd.rises.0.fine in
      let le : d.time_high ≤ e.t = omega (arith, rd.past, rd.rises.0.rises) in
      let none : d.high_loops ≡ 0 = omega (arith, rd.counted, rd.below) in
      let top : e.t < period2 = f.t< in
      let k = tracks_same period2 threshold2 d.time_high d.high_loops (q * 64) (e.t / grain2 * grain2) (omega arith) (omega arith) in
      by_time_lem.0 ∙ rw (time_high2_lem q (omega arith), k.0, k.1)

  pub high_ready : Ready2 (risen d e.t) (e ∷ more)
  high_ready =
      let f = sayable-true e rd.rises.0.fine in
      record {
        counted = omega (arith, rd.counted, rd.below, f.t<);
        below = omega (arith, f.t<);
        past = omega arith;
        rises = rise_first clock sayable d.time (e.t / grain2 * grain2) e more (omega arith) rd.rises;
      }
