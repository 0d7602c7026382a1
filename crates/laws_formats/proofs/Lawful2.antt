-- Laws of specs/Lawful2.antt.
use Rattle.evt2_decoder.specs.{Evt2.reader2, Evt2.step2, declared.Evt2Decoder.Evt2Decoder}
use Rattle.evt2_encoder.specs.Evt2.{encode2, encode_notes2, high_sent2, high_word2, word_of2}
use Rattle.evt_types.specs.{Event.Event, Event.events_of, Layout.event_fits2, Layout.grain2, Layout.time_fits2}
use Rattle.laws_formats.specs.{Lawful2.High2, Lawful2.Ready2, Lawful2.event_steps, Lawful2.event_vector, Lawful2.format2, Lawful2.high_ready}
use Rattle.laws_formats.specs.{Lawful2.high_steps, Lawful2.high_vector, Lawful2.low<, Lawful2.p<2, Lawful2.risen, Lawful2.w, Lawful2.x<2048, Lawful2.y<2048}
use Rattle.laws_formats.specs.{Ready.Sayable, Ready.holds_sent, Ready.no_event, Ready.one-event, Ready.sayable-true}
use Rattle.laws_stream.specs.{Format.Good, Format.Lawful, Machine.run, Machine.words}
use Rattle.std.proofs.Common.{ap, arith, ◌∙◌}
use Rattle.std.specs.Prelude.{Bool, List, [], false, refl, true, ◌%◌, ◌*◌, ◌++◌, ◌/◌, ◌^◌, ◌∷◌, ◌≡◌}
use Rattle.write_buffer.specs.Sent.{carries, due}

-- ---- an event's word, at the coarse time that the event has

module _ (d : Evt2Decoder) (e : Event) (f : Sayable e) (on : d.initialised ≡ true) (at : d.time_high ≡ e.t / grain2 * grain2) where
  said_event : (more : List Event) → Ready2 d (e ∷ more) → Good format2 d (carries (w d e f on at) e ∷ []) more × High2 (step2 d (w d e f on at)) (e.t / grain2)
  said_event more rd = (
    record {
      ready = rd;
      fits = event_fits2 (e.p % 2) (e.t % grain2) (e.x % 2048) (e.y % 2048) (p<2 d e f on at) (low< d e f on at) (x<2048 d e f on at) (y<2048 d e f on at);
      says = ap events_of (event_vector d e f on at) ∙ one-event e.x e.y e.t e.p (omega (arith, f.x<));
      rest = rw (event_steps d e f on at) (record { counted = rd.counted; below = rd.below; past = omega (arith, at); rises = rd.rises.1 });
    },
    rw (event_steps d e f on at) (on, at),
  )

-- ---- the law

group_as : (b : Bool) (d : Evt2Decoder) (e : Event) (more : List Event) → (b ≡ true → High2 d (e.t / grain2)) → Ready2 d (e ∷ more)
    → let ns = due b (high_word2 e.t) ++ (carries (word_of2 e) e ∷ []) in Good format2 d ns more × High2 (run reader2 d (words ns)) (e.t / grain2)
group_as true d e more h rd = said_event d e (sayable-true e rd.rises.0.fine) (h refl).0 (h refl).1 more rd
group_as false d e more h rd =
    let up = high_steps d e more rd in
    let r = said_event (risen d e.t) e (sayable-true e rd.rises.0.fine) refl refl more (high_ready d e more rd) in (
      record {
        ready = rd;
        fits = time_fits2 (e.t / grain2 % 2 ^ 28) (omega arith);
        says = ap events_of (high_vector d e more rd) ∙ no_event;
        rest = rw up r.0;
      },
      rw up r.1,
    )

pub lawful2 : Lawful format2
unfolding encode2
lawful2 = record {
  sized = omega arith;
  noted = λ v e va. encode_notes2 v e;
  starts = tt;
  group = λ v d e more va ag rd. group_as (high_sent2 v e) d e more (holds_sent v.time_high (High2 d) (e.t / grain2) ag) rd;
}
