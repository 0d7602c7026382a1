-- Laws of specs/Lawful21.antt.
use Rattle.evt21_decoder.specs.{Evt21.as2, Evt21.of2, Evt21.reader21, Evt21.step21, Evt21.vector21, Evt21.wide, declared.Evt21Decoder.Evt21Decoder}
use Rattle.evt21_encoder.specs.Evt21.{Block, Valid21, block_of, encode21, encode_notes21, high_word21, mask_of, mask_small21, vector_events21, vector_of21}
use Rattle.evt21_encoder.specs.Evt21.{word_fits21, word_of21}
use Rattle.evt2_decoder.specs.Evt2.{step2, vector2}
use Rattle.evt2_encoder.specs.Evt2.{high_sent2, high_word2, word_of2}
use Rattle.evt3_run_rules.specs.Runs.{Run, first_of, given, run_of, spread}
use Rattle.evt_types.specs.{Event.Event, Event.events_of, Layout.bare_mask, Layout.bare_upper, Layout.built_mask, Layout.built_upper, Layout.grain2}
use Rattle.evt_types.specs.{Layout.mask21, Layout.upper, declared.vector.Vector.Vector}
use Rattle.laws_formats.specs.{Lawful2.event_steps, Lawful2.event_vector, Lawful2.high_ready, Lawful2.high_steps, Lawful2.high_vector, Lawful2.risen}
use Rattle.laws_formats.specs.{Lawful21.High21, Lawful21.Ready21, Lawful21.format21, Ready.IfSent, Ready.Sayable, Ready.holds_sent, Ready.no_event}
use Rattle.laws_formats.specs.{Ready.sayable, Ready.sayable-true}
use Rattle.laws_stream.specs.{Format.Good, Format.Lawful, Machine.Note, Machine.run, Machine.words, Order.rise_suffix}
use Rattle.read_columns.specs.Inside.{clock}
use Rattle.std.proofs.{Common.ap, Common.append-nil, Common.arith, Common.one-mul, Common.◌∙◌, Math.Path.subst⁻¹}
use Rattle.std.specs.Prelude.{Bool, List, [], false, refl, true, ℕ, ◌%◌, ◌*◌, ◌++◌, ◌/◌, ◌^◌, ◌∷◌, ◌≡◌}
use Rattle.write_buffer.specs.{Columns.event, Sent.due, declared.EncoderState.EncoderState}

abbrev carries_run : Run → Note ℕ Event
carries_run r = record { word = word_of21 r; events = given r }

-- ---- a run's word, at the coarse time that the run has: what EVT2 makes of an event at the block's first column, with the mask

module _ (t y p x : ℕ) (xs : List ℕ) (block : Block (x ∷ xs)) (d : Evt21Decoder) (more : List Event) (rd : Ready21 d (spread t y p (x ∷ xs) ++ more))
    (on : d.initialised ≡ true) (at : d.time_high ≡ t / grain2 * grain2) where
  abbrev r : Run
  r = run_of t y p (x ∷ xs)

  abbrev w : ℕ
  w = word_of21 r

  abbrev first : Event
  first = event (block_of x) y t p

  f : Sayable (event x y t p)
  f = sayable-true (event x y t p) rd.rises.0.fine

  g : Sayable first
  g = record { x< = omega (arith, f.x<); y< = f.y<; p< = f.p<; t< = f.t< }

  is_upper : upper w ≡ word_of2 first
  is_upper = built_upper (word_of2 first) (mask_of (x ∷ xs) % 2 ^ 32) (omega arith)

  is_mask : mask21 w ≡ mask_of (x ∷ xs)
  is_mask = built_mask (word_of2 first) (mask_of (x ∷ xs) % 2 ^ 32) (omega arith) ∙ omega (arith, mask_small21 block)

  run_vector : vector21 d w ≡ vector_of21 r
  run_vector =
      (λ i. wide (vector2 (as2 d) (is_upper i)) (is_mask i))
      ∙ ap (λ (v : Vector). wide v (mask_of (x ∷ xs))) (event_vector (as2 d) first g on at) ∙ rw one-mul

  run_steps : step2 (as2 d) (upper w) ≡ record { initialised = d.initialised; time_high = d.time_high; time = t; high_loops = d.high_loops }
  run_steps = ap (step2 (as2 d)) is_upper ∙ event_steps (as2 d) first g on at

  said_run : Good format21 d (carries_run r ∷ []) more × High21 (step21 d w) (t / grain2)
  said_run = (
    record {
      ready = rd;
      fits = word_fits21 (first_of r) (mask_of (x ∷ xs));
      says = ap events_of run_vector ∙ vector_events21 r block (omega (arith, f.x<));
      rest = rw run_steps (record {
        counted = rd.counted;
        below = rd.below;
        past = omega (arith, at);
        rises = rise_suffix clock sayable t (spread t y p xs) more rd.rises.1;
      });
    },
    rw run_steps (on, at),
  )

-- ---- the law

group_as : (b : Bool) (t y p x : ℕ) (xs : List ℕ) → Block (x ∷ xs) → (d : Evt21Decoder) (more : List Event) → (b ≡ true → High21 d (t / grain2))
    → let r = run_of t y p (x ∷ xs) in Ready21 d (given r ++ more)
    → let ns = due b (high_word21 t) ++ (carries_run r ∷ []) in Good format21 d ns more × High21 (run reader21 d (words ns)) (t / grain2)
group_as true t y p x xs block d more h rd = said_run t y p x xs block d more rd (h refl).0 (h refl).1
group_as false t y p x xs block d more h rd =
    let e = event x y t p in
    let es = spread t y p xs ++ more in
    let up = ap (step2 (as2 d)) (bare_upper (high_word2 t)) ∙ high_steps (as2 d) e es rd in
    let none : events_of (vector21 d (high_word21 t)) ≡ [] =
    (λ i. events_of (wide (vector2 (as2 d) (bare_upper (high_word2 t) i)) (bare_mask (high_word2 t) i)))
    ∙ ap (λ (v : Vector). events_of (wide v 0)) (high_vector (as2 d) e es rd) ∙ no_event in
    let s = said_run t y p x xs block (of2 (risen (as2 d) t)) more (high_ready (as2 d) e es rd) refl refl in
    let noted = append-nil (spread t y p (x ∷ xs)) in (
      record { ready = subst⁻¹ (λ (l : List Event). Ready21 d (l ++ more)) noted rd; fits = omega arith; says = none; rest = rw up s.0 },
      rw up s.1,
    )

group21 : (v : EncoderState) (d : Evt21Decoder) (t y p : ℕ) (xs : List ℕ) (more : List Event) → let r = run_of t y p xs in
    Valid21 r → IfSent v.time_high (High21 d) → Ready21 d (given r ++ more)
    → Good format21 d (encode21 v r) more × High21 (run reader21 d (words (encode21 v r))) (t / grain2)
unfolding encode21
group21 v d t y p [] more block ag rd = absurd (omega (arith, block.some))
group21 v d t y p (x ∷ xs) more block ag rd =
    let e = event x y t p in group_as (high_sent2 v e) t y p x xs block d more (holds_sent v.time_high (High21 d) (t / grain2) ag) rd

pub lawful21 : Lawful format21
lawful21 = record {
  sized = omega arith;
  noted = λ v r va. encode_notes21 v r;
  starts = tt;
  group = λ v d r more va ag rd. group21 v d r.t r.y r.p r.xs more va ag rd;
}
