-- Events that an encoding can say, and a decoder that is ready for them.
use Rattle.std.specs.Prelude.{◌≡◌, Bool, true, ◌&&◌, List, [], ◌∷◌, ℕ, ◌/◌, ◌^◌, ◌≤◌, ◌<◌, min, leb, ltb}
use Rattle.std.proofs.Common.{sym, subst, true≢false, arith, leb-true, ltb-true, eqb-true}
use Rattle.laws_stream.specs.{Machine.Machine, Machine.Note, Machine.and_both, Format.Format, Mask.bits-zero, Order.Rise}
use Rattle.std.specs.Prelude.{Option, Some, None}
use Rattle.evt_types.specs.{Event.Event, Event.events_of}
use Rattle.evt_types.specs.Event.{no_events}
use Rattle.evt_codec.specs.Reader.{Reader}
use Rattle.read_columns.specs.Inside.{clock}
use Rattle.write_buffer.specs.{declared.EncoderState.EncoderState, Columns.event, Sent.fresh_state, Sent.sent_is}
use Rattle.laws_stream.proofs.MaskLaws.{bits-one}

-- the times that a writer's words can say: rule 7's bound is not above it
abbrev pub limit : ℕ
limit = 2 ^ 34

-- the events that a writer's words can say
abbrev pub sayable : Event → Bool
sayable e = leb e.x 2047 && (leb e.y 2047 && (leb e.p 1 && ltb e.t limit))

-- a decoder with this clock, loops counted, can take these events next: they can be said, their times don't fall, and none is before the decoder's time
pub record Ready (period coarse time loops : ℕ) (es : List Event) : Type 0 where
  pub counted : loops ≡ coarse / period
  pub below : coarse < limit
  pub past : coarse ≤ time
  pub rises : Rise clock sayable time es

-- what the writer takes for sent, if anything, is as P says
abbrev pub IfSent : Option ℕ → (P : ℕ → Type 0) → Type 0
IfSent None P = Unit
IfSent (Some q) P = P q

-- an encoding, by its decoder and its writer
abbrev pub format_by : (R : Reader) {I : Type 0} → Machine EncoderState I (Note ℕ Event) → (given : I → List Event) (Valid : I → Type 0)
    → (R.State → List Event → Type 0) → (EncoderState → R.State → Type 0) → Format R.State EncoderState I Event
format_by R writer given Valid Ready Agree = record {
  size = R.size;
  reader = R.machine;
  writer = writer;
  start = R.fresh;
  fresh = fresh_state;
  given = given;
  Valid = Valid;
  Ready = Ready;
  Agree = Agree;
}

-- ---- laws

pub holds_sent : (o : Option ℕ) (P : ℕ → Type 0) (q : ℕ) → IfSent o P → sent_is o q ≡ true → P q
holds_sent None P q h e = absurd (true≢false (sym e))
holds_sent (Some g) P q h e = subst P (eqb-true g q e) h

pub record Sayable (e : Event) : Type 0 where
  pub x< : e.x < 2048
  pub y< : e.y < 2048
  pub p< : e.p < 2
  pub t< : e.t < limit

pub sayable-true : (e : Event) → sayable e ≡ true → Sayable e
sayable-true e h =
    let a = and_both (leb e.x 2047) (leb e.y 2047 && (leb e.p 1 && ltb e.t limit)) h in
    let b = and_both (leb e.y 2047) (leb e.p 1 && ltb e.t limit) a.1 in
    let c = and_both (leb e.p 1) (ltb e.t limit) b.1 in
    record {
      x< = omega (arith, leb-true e.x 2047 a.0);
      y< = omega (arith, leb-true e.y 2047 b.0);
      p< = omega (arith, leb-true e.p 1 c.0);
      t< = ltb-true e.t limit c.1;
    }

-- the events of a word that has none, and of one that has one
pub no_event : events_of no_events ≡ []
no_event = rw (bits-zero 32 0)

pub one-event : (x y t p : ℕ) → x < 65536 → events_of (record { x = x; y = y; t = t; p = p; mask = 1 }) ≡ event x y t p ∷ []
one-event x y t p h =
    let e : min x 65535 ≡ x = omega arith in
    rw (bits-one 31 x, e)
