-- The iterations of the encodings' loops that count, from what the code has at hand.
use Rattle.std.specs.Prelude.{◌≡◌, refl, Bool, true, false, List, ℕ, ◌+◌, ◌-◌, ◌/◌, ◌≤◌, ◌<◌, max, length}
use Rattle.std.proofs.Common.{sym, ap, ◌∙◌, arith, add-zero}
use Rattle.laws_stream.specs.{Words.words_of, Order.greatest, Stream.after}
use Rattle.evt_types.specs.{Ahead.ahead, Ahead.ahead-some, declared.vector.Vector.Vector, Layout.time_low2, Layout.word_size3, Layout.word_size2}
use Rattle.evt_types.specs.Layout.{word_size21, upper, mask21}
use Rattle.evt2_decoder.specs.{declared.Evt2Decoder.Evt2Decoder, Evt2.step2, Evt2.vector2, Evt2.reader2, Range.Bounded2}
use Rattle.evt_types.specs.declared.vector.Step.{Step}
use Rattle.evt21_decoder.specs.{Evt21.of2, Evt21.wide, Evt21.reader21, Range.Bounded21}
use Rattle.evt3_decoder.specs.{declared.Decoder.Decoder, Evt3.vector3, Evt3.reader3, Evt3.slimmed, Range.Bounded3}
use Rattle.read_columns.specs.Inside.{inside_of, column_bound, clock, latest_of}
use Rattle.read_fill.specs.{Iteration.Iteration, Iteration.inside_all}
use Rattle.read_fill.specs.Loops as Loops
use Rattle.evt_codec.specs.{declared.codec.Codec.TheVariants.Evt3, Sound.sound2, Sound.sound21, Sound.bounded_words}
use Rattle.read_count.specs.{declared.evt3_step.CountingStep.CountingStep, Counting.Counting, Counting.counting_few, Counting.counting_next}
use Rattle.read_count.specs.{Counting.counting_end, Passing.Passing, Passing.Reached, Passing.passing_stop, Passing.passing_next}
use Rattle.read_count.specs.{Evt2Inside.key_bound, Evt2Inside.is_event_inside, Evt2Inside.one_if, Evt2Inside.event-count, Evt2Inside.event_step}
use Rattle.read_count.specs.{Evt3Inside.inside_count, Evt3Inside.inside_counted, Evt3Step.AgreesWithStep, Evt3Step.decoder_of}
use Rattle.read_count.specs.Evt3Step.{counted_vector}
use Rattle.evt2_decoder.proofs.RangeLaws.{bounded_step2}
use Rattle.evt3_decoder.proofs.RangeLaws.{bounded_step3}

-- ---- EVT2

-- at a word w, which was read ahead
pub record Word2 (width height : ℕ) (bytes : List ℕ) (s : Evt2Decoder) (bound i w : ℕ) : Type 0 where
  pub more : i + (word_size2 - 1) < length bytes
  pub is_word : w ≡ ahead word_size2 bytes i
  pub is_bound : bound ≡ key_bound s.initialised width

-- it is an event inside the sensor, or adds nothing
module _ {width height : ℕ} {bytes : List ℕ} {s : Evt2Decoder} {bound i w : ℕ} (a : Word2 width height bytes s bound i w) where
  iteration : (s' : Evt2Decoder) → s' ≡ step2 s w → Iteration word_size2 reader2 bytes s i s' (vector2 s w)
  iteration s' is = Loops.iteration sound2 (omega (arith, a.more)) a.is_word is refl

  found : {b : Bool} → is_event_inside bound height w ≡ b → one_if b ≡ length (inside_of width height (vector2 s w))
  found e = sym (event-count width height s w ∙ ap one_if (rw a.is_bound at e))

  module _ (e : is_event_inside bound height w ≡ true) (t : ℕ) (is_t : t ≡ s.time_high + time_low2 w) where
    abbrev stamped : Evt2Decoder
    stamped = record { initialised = s.initialised; time_high = s.time_high; time = t; high_loops = s.high_loops }

    is_timed_lem : stamped ≡ step2 s w
    is_timed_lem = ap (λ (t : ℕ). record { initialised = s.initialised; time_high = s.time_high; time = t; high_loops = s.high_loops }) is_t
        ∙ sym (event_step width height s w (rw a.is_bound at e)).0

    its_time : t ≡ (vector2 s w).t
    its_time = is_t ∙ sym (event_step width height s w (rw a.is_bound at e)).1

  -- counting
  module _ {s₀ : Evt2Decoder} {n top : ℕ} (u : Counting word_size2 reader2 Bounded2 width height s₀ bytes s n top i) where
    pub event_few : is_event_inside bound height w ≡ true → n + 1 ≤ length (inside_all word_size2 reader2 width height s₀ bytes)
    event_few e = omega (arith, found e, counting_few (omega arith) bounded_step2 u (iteration (step2 s w) refl))

    pub event-next : (e : is_event_inside bound height w ≡ true) (t : ℕ) (is_t : t ≡ s.time_high + time_low2 w) {top' : ℕ} → top' ≡ max top (latest_of 1 t)
        → Counting word_size2 reader2 Bounded2 width height s₀ bytes (stamped e t is_t) (n + 1) top' (i + word_size2)
    event-next e t is_t {top'} is-top =
        counting_next (omega arith) bounded_step2 u (iteration (stamped e t is_t) (is_timed_lem e t is_t)) 1 (found e) top' (rw (its_time e t is_t) at is-top)

    pub other_next : is_event_inside bound height w ≡ false → {s' : Evt2Decoder} → s' ≡ step2 s w
        → Counting word_size2 reader2 Bounded2 width height s₀ bytes s' n top (i + word_size2)
    other_next e {s'} is = rw add-zero at (counting_next (omega arith) bounded_step2 u (iteration s' is) 0 (found e) top (omega arith))

  -- passing over
  module _ {most : ℕ} {s₀ : Evt2Decoder} {n : ℕ} (u : Passing word_size2 reader2 Bounded2 width height most s₀ bytes s n i) where
    pub event_stop : is_event_inside bound height w ≡ true → most ≤ n → Reached word_size2 reader2 Bounded2 width height most s₀ bytes i n s
    event_stop e l = passing_stop (omega arith) bounded_step2 u (iteration (step2 s w) refl) (found e) (omega arith)

    pub event_pass : (e : is_event_inside bound height w ≡ true) (t : ℕ) (is_t : t ≡ s.time_high + time_low2 w) → n < most
        → Passing word_size2 reader2 Bounded2 width height most s₀ bytes (stamped e t is_t) (n + 1) (i + word_size2)
    event_pass e t is_t l = passing_next (omega arith) bounded_step2 u (iteration (stamped e t is_t) (is_timed_lem e t is_t)) (found e) (omega arith)

    pub other_pass : is_event_inside bound height w ≡ false → {s' : Evt2Decoder} → s' ≡ step2 s w
        → Passing word_size2 reader2 Bounded2 width height most s₀ bytes s' n (i + word_size2)
    other_pass e {s'} is = rw add-zero at (passing_next (omega arith) bounded_step2 u (iteration s' is) (found e) (omega arith))

-- ---- EVT2.1, over the decoder of EVT2 that the loops keep

-- at a word w: its step, and how many of its events are inside
pub record Word21 (width height bound : ℕ) (bytes : List ℕ) (s : Evt2Decoder) (i w : ℕ) (r : Step Evt2Decoder) (m : ℕ) : Type 0 where
  pub more : i + (word_size21 - 1) < length bytes
  pub is_word : w ≡ ahead word_size21 bytes i
  pub is_step : (r.next ≡ step2 s (upper w)) × (r.events ≡ wide (vector2 s (upper w)) (mask21 w))
  pub is_bound : bound ≡ column_bound width
  pub is_count : m ≡ inside_count r.events.x r.events.y r.events.mask bound height

module _ {width height bound : ℕ} {bytes : List ℕ} {s : Evt2Decoder} {i w : ℕ} {r : Step Evt2Decoder} {m n : ℕ}
    (a : Word21 width height bound bytes s i w r m) (b : Bounded21 n (of2 s)) where
  pub iteration21 : Iteration word_size21 reader21 bytes (of2 s) i (of2 r.next) r.events
  iteration21 = Loops.iteration sound21 (omega (arith, a.more)) a.is_word (ap of2 a.is_step.0) a.is_step.1

  pub counted21 : m ≡ length (inside_of width height r.events)
  counted21 =
      let v = r.events in
      let small = Loops.word_narrow sound21 b a.is_step.1 in
      a.is_count ∙ ap (λ (k : ℕ). inside_count v.x v.y v.mask k height) a.is_bound
      ∙ sym (inside_counted width height v small.x< small.mask<)

-- ---- EVT3

-- the loop's own form e of the decoder d
pub started3 : {d e : Decoder} (l : List ℕ) → e ≡ d → Bounded3 (length l / word_size3) d → Bounded3 (length (words_of word_size3 l)) e
started3 l is b = rw is (bounded_words (Evt3 _) l b)

pub ended3 : {width height : ℕ} {bytes : List ℕ} {d e s : Decoder} {n top i : ℕ} → e ≡ d → Counting word_size3 reader3 Bounded3 width height e bytes s n top i
    → length bytes < i + word_size3
    → (r : Decoder) → r ≡ s
    → (n ≡ length (inside_all word_size3 reader3 width height d bytes))
    × (top ≡ greatest clock (inside_all word_size3 reader3 width height d bytes)) × (r ≡ after word_size3 reader3 d bytes)
ended3 is u h r is-r = rw (← is, is-r) (counting_end (omega arith) bounded_step3 u h)

pub reached3 : {width height most : ℕ} {bytes : List ℕ} {d e s : Decoder} {n i : ℕ} → e ≡ d
    → Reached word_size3 reader3 Bounded3 width height most e bytes i n s → (r : Decoder) → r ≡ s
    → Reached word_size3 reader3 Bounded3 width height most d bytes i n r
reached3 is u r is-r = rw (← is, is-r) u

-- at a word w, which was read ahead: its step by tables, and how many of its events are inside
pub record Word3 (width height bound : ℕ) (bytes : List ℕ) (s : Decoder) (i w : ℕ) (r : CountingStep) (m : ℕ) : Type 0 where
  pub more : i + (word_size3 - 1) < length bytes
  pub is_word : w ≡ ahead word_size3 bytes i
  pub agrees : AgreesWithStep s w r
  pub is_bound : bound ≡ column_bound width
  pub is_count : m ≡ inside_count r.x r.next.y r.mask bound height

module _ {width height bound : ℕ} {bytes : List ℕ} {s : Decoder} {i w : ℕ} {r : CountingStep} {m : ℕ} (a : Word3 width height bound bytes s i w r m) where
  abbrev seen : Vector
  seen = counted_vector r (vector3 s w).p

  iteration' : Iteration word_size3 reader3 bytes s i (slimmed (decoder_of r.next)) seen
  iteration' = record {
    word = w;
    more = omega (arith, a.more);
    is_word = a.is_word ∙ ahead-some word_size3 bytes i (omega (arith, a.more));
    is_next = ap slimmed a.agrees.next;
    is_events = a.agrees.same;
  }

  counted : m ≡ length (inside_of width height seen)
  counted = a.is_count ∙ ap (λ (k : ℕ). inside_count r.x r.next.y r.mask k height) a.is_bound
      ∙ sym (inside_counted width height seen a.agrees.column (omega (arith, a.agrees.mask)))

  module _ {s₀ : Decoder} {n top : ℕ} (u : Counting word_size3 reader3 Bounded3 width height s₀ bytes s n top i) where
    pub word3_few : n + m ≤ length (inside_all word_size3 reader3 width height s₀ bytes)
    word3_few = omega (arith, counted, counting_few (omega arith) bounded_step3 u iteration')

    pub word3-next : {top' : ℕ} → top' ≡ max top (latest_of m r.next.time)
        → Counting word_size3 reader3 Bounded3 width height s₀ bytes (slimmed (decoder_of r.next)) (n + m) top' (i + word_size3)
    word3-next {top'} is-top = counting_next (omega arith) bounded_step3 u iteration' m counted top' is-top

  module _ {most : ℕ} {s₀ : Decoder} {n : ℕ} (u : Passing word_size3 reader3 Bounded3 width height most s₀ bytes s n i) where
    pub word3_stop : most - n < m → Reached word_size3 reader3 Bounded3 width height most s₀ bytes i n s
    word3_stop l = passing_stop (omega arith) bounded_step3 u iteration' counted l

    pub word3_pass : m ≤ most - n → Passing word_size3 reader3 Bounded3 width height most s₀ bytes (slimmed (decoder_of r.next)) (n + m) (i + word_size3)
    word3_pass l = passing_next (omega arith) bounded_step3 u iteration' counted l
