-- Each encoding as a format whose writer is given an append's events at a time, over the definitions that contracts cite.
use Rattle.std.specs.Prelude.{◌≡◌, refl, Bool, true, false, cond, List, ◌∷◌, ℕ, ◌/◌, ◌≤◌, ◌<◌}
use Rattle.std.proofs.Common.{sym, ap, subst, ◌∙◌, arith}
use Rattle.evt_types.specs.Event.{Event}
use Rattle.laws_stream.specs.{Machine.Machine, Machine.Note, Machine.All, Machine.run, Machine.run-keeps, Words.words_of}
use Rattle.laws_stream.specs.Format.{Format}
use Rattle.laws_stream.specs.{Stream.decode, Order.Rise, Order.rise_all, Slice.Past, Slice.reached, Slice.past_then}
use Rattle.evt_types.specs.declared.{Encoding.Encoding, Encoding.TheVariants.Evt2, Encoding.TheVariants.Evt21, Encoding.TheVariants.Evt3}
use Rattle.std.specs.Prelude.{Some, None}
use Rattle.evt_types.specs.{Layout.grain2}
use Rattle.evt2_decoder.specs.{declared.Evt2Decoder.Evt2Decoder, Evt2.period2, Range.Regular2}
use Rattle.evt21_decoder.specs.Evt21.{as2}
use Rattle.evt3_decoder.specs.{declared.Decoder.Decoder, Evt3.period3}
use Rattle.evt_codec.specs.{declared.codec.Codec.Codec, Reader.View, Reader.reader_of, Codec.view_of, Codec.events_from, Sound.sound_of}
use Rattle.write_rules.specs.Rules.{held_state}
use Rattle.read_columns.specs.Inside.{inside, clock}
use Rattle.read_window.specs.declared.Window.{Window}
use Rattle.read_select.specs.Uses.{is_timely, PastWords, PastOver}
use Rattle.write_buffer.specs.{declared.EncoderState.EncoderState, Sent.fresh_state}
use Rattle.write_words.specs.Encode.{encode_notes, encode_state, encode_size}
use Rattle.laws_formats.specs.{Ready.limit, Ready.sayable, Ready.IfSent, Lawful2.High2, Lawful3.Agree3, Lawful2.Ready2, Lawful2.format2}
use Rattle.laws_formats.specs.Lawful21.{Ready21}
use Rattle.laws_formats.specs.{Lawful21.format21, Lawful3.Ready3, Lawful3.format3}

-- a decoder of the encoding
abbrev pub StateOf : Encoding → Type 0
StateOf e = (reader_of e).State

abbrev pub codec_of : (e : Encoding) → StateOf e → Codec
codec_of e = (reader_of e).codec

abbrev pub fresh_of : (e : Encoding) → StateOf e
fresh_of e = (reader_of e).fresh

-- a writer that is given the events of one append after another
abbrev pub appender : Encoding → Machine EncoderState (List Event) (Note ℕ Event)
appender e = record { step = encode_state e; emit = encode_notes e }

abbrev pub ReadyOf : (e : Encoding) → StateOf e → List Event → Type 0
ReadyOf Evt2 d es = Ready2 d es
ReadyOf Evt21 d es = Ready21 d es
ReadyOf Evt3 d es = Ready3 d es

abbrev pub AgreeOf : (e : Encoding) → EncoderState → StateOf e → Type 0
AgreeOf Evt2 v d = format2.Agree v d
AgreeOf Evt21 v d = format21.Agree v d
AgreeOf Evt3 v d = format3.Agree v d

abbrev pub format_of : (e : Encoding) → Format (StateOf e) EncoderState (List Event) Event
format_of e = record {
  size = encode_size e;
  reader = (reader_of e).machine;
  start = fresh_of e;
  writer = appender e;
  fresh = fresh_state;
  given = λ g. g;
  Valid = λ g. Unit;
  Ready = ReadyOf e;
  Agree = AgreeOf e;
}

-- ---- in the words of a codec

-- both sides have words of one size
size_is : (e : Encoding) → (reader_of e).size ≡ encode_size e
size_is Evt2 = refl
size_is Evt21 = refl
size_is Evt3 = refl

pub events_are : (e : Encoding) (d : StateOf e) (l : List ℕ) → events_from (codec_of e d) l ≡ decode (encode_size e) (reader_of e).machine d l
events_are e d l =
    ap (λ (v : View). decode v.reader.size v.reader.machine v.state l) (view_of e d)
    ∙ ap (λ (n : ℕ). decode n (reader_of e).machine d l) (size_is e)

-- a fresh decoder is ready for all that can be said
pub fresh_ready : (e : Encoding) (es : List Event) → Rise clock sayable 0 es → ReadyOf e (fresh_of e) es
fresh_ready Evt2 es r = record { counted = omega arith; below = omega arith; past = omega arith; rises = r }
fresh_ready Evt21 es r = record { counted = omega arith; below = omega arith; past = omega arith; rises = r }
fresh_ready Evt3 es r = record { counted = omega arith; below = omega arith; past = omega arith; rises = r }

-- ---- a writer that resumes behind a decoder

-- the coarse time is a whole number of grains
whole_half : (d : Evt2Decoder) (b : Bool) → Regular2 d → d.initialised ≡ b → IfSent (cond b (Some (d.time_high / grain2)) None) (High2 d)
whole_half d true r on = (on, omega (arith, (r.started on).whole))
whole_half d false r on = tt

-- IT AGREES with the decoder: what it holds is what the decoder has
pub held_agrees : (e : Encoding) (d : StateOf e) → (reader_of e).Regular d → AgreeOf e (held_state e ((reader_of e).started d) ((reader_of e).coarse d)) d
held_agrees Evt2 d r = whole_half d d.initialised r refl
held_agrees Evt21 d r = whole_half (as2 d) d.initialised r refl
held_agrees Evt3 d r = go d.initialised refl
  where
    go : (b : Bool) → d.initialised ≡ b → Agree3 (held_state Evt3 b d.time_base) d
    go true on =
        let k = (r.started on).0 in
        record { highs = (on, omega (arith, k.whole)); lows = tt; rows = tt; loops = omega (arith, k.low, k.high, k.whole) }
    go false off = record { highs = tt; lows = tt; rows = tt; loops = ap (λ (d : Decoder). d.high_loops) (r.unstarted off) }

-- a fresh writer agrees where no loop was counted
pub fresh_agrees : (e : Encoding) (d : StateOf e) → (reader_of e).loops d ≡ 0 → AgreeOf e fresh_state d
fresh_agrees Evt2 d z = tt
fresh_agrees Evt21 d z = tt
fresh_agrees Evt3 d z = record { highs = tt; lows = tt; rows = tt; loops = z }

-- the times of the first loop
abbrev pub first_loop : Encoding → ℕ
first_loop Evt2 = period2
first_loop Evt21 = period2
first_loop Evt3 = period3

-- a decoder that is ready for an event in its first loop has counted none, and every decoder that is ready is before the limit
pub ready_first : (e : Encoding) (d : StateOf e) (a : Event) (es : List Event) → ReadyOf e d (a ∷ es) → a.t < first_loop e → (reader_of e).loops d ≡ 0
ready_first Evt2 d a es rd h = omega (arith, rd.counted, rd.below)
ready_first Evt21 d a es rd h = omega (arith, rd.counted, rd.below)
ready_first Evt3 d a es rd h = omega (arith, rd.counted, rd.past, rd.rises.0.rises)

pub ready_coarse : (e : Encoding) (d : StateOf e) (es : List Event) → ReadyOf e d es
    → ((reader_of e).coarse d < limit) × ((reader_of e).coarse d ≤ (reader_of e).time d)
ready_coarse Evt2 d es rd = (rd.below, rd.past)
ready_coarse Evt21 d es rd = (rd.below, rd.past)
ready_coarse Evt3 d es rd = (rd.below, rd.past)

-- what a decoder keeps that started fresh
pub regular_run : (e : Encoding) (ws : List ℕ) → (reader_of e).Regular (run (reader_of e).machine (fresh_of e) ws)
regular_run e ws =
    let S = sound_of e in
    run-keeps (reader_of e).machine (reader_of e).Regular S.regular_steps (fresh_of e) ws
    (S.regular _ (fresh_of e) (S.range 0 (fresh_of e) S.fresh_range (omega arith)))

-- ---- time

pub ready_rises : (e : Encoding) (d : StateOf e) (es : List Event) → ReadyOf e d es → Rise clock sayable ((reader_of e).time d) es
ready_rises Evt2 d es rd = rd.rises
ready_rises Evt21 d es rd = rd.rises
ready_rises Evt3 d es rd = rd.rises

-- no event to come is before the decoder's time
pub ready_ahead : (e : Encoding) (d : StateOf e) (es : List Event) → ReadyOf e d es → All (λ a. (reader_of e).time d ≤ clock a) es
ready_ahead e d es rd = rise_all clock sayable ((reader_of e).time d) es (ready_rises e d es rd)

pub past-over : (e : Encoding) (win : Window) (d : StateOf e) (l : List ℕ)
    → Past (reader_of e).machine (is_timely win) (reached (reader_of e).started (reader_of e).time win.t1) d (words_of (encode_size e) l)
    → PastOver win (codec_of e d) l
past-over e win d l p =
    let R = reader_of e in
    let q = subst (λ (n : ℕ). Past R.machine (is_timely win) (reached R.started R.time win.t1) d (words_of n l)) (sym (size_is e)) p in
    subst (λ (v : View). PastWords win v (words_of v.reader.size l)) (sym (view_of e d))
    (past_then R.machine (inside win.width win.height) (is_timely win) (reached R.started R.time win.t1) d (words_of R.size l) q)
