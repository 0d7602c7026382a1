-- EVT2: what a word does to a decoder, and the events that it carries.
use Rattle.std.specs.Prelude.{◌≡◌, refl, Bool, true, false, cond, ◌&&◌, ℕ, ◌+◌, ◌-◌, ◌*◌, ◌^◌, ◌≤◌, ◌<◌, eqb, ltb}
use Rattle.std.proofs.Math.Path.{ap}
use Rattle.std.proofs.Common.{arith, eq-eqb, ne_eqb, lt-ltb, le-ltb, ltb-true}
use Rattle.laws_stream.specs.{Loop.loops_after, Loop.time_after, Machine.Machine}
use Rattle.evt2_decoder.specs.declared.Evt2Decoder.{Evt2Decoder}
use Rattle.evt_types.specs.{declared.vector.Vector.Vector, Clock.either, Event.Event, Event.events_of, Event.no_events, Clock.clock_in_range}
use Rattle.evt_types.specs.{Layout.type2, Layout.time_low2, Layout.x2, Layout.y2, Layout.time_high2, Layout.grain2}

abbrev pub fresh2 : Evt2Decoder
fresh2 = record { initialised = false; time_high = 0; time = 0; high_loops = 0 }

abbrev pub period2 : ℕ
period2 = 2 ^ 34

abbrev pub threshold2 : ℕ
threshold2 = 2 ^ 34 - 2 ^ 30

-- type 8 sets the time; types 0 and 1 are events, once the time is set; others do nothing
pub data Kind : Type 0 where
  time_high_lem event skip : Kind

abbrev pub kind_of : ℕ → Bool → Kind
kind_of type started = cond (eqb type 8) time_high_lem (cond started (cond (ltb type 2) event skip) skip)

abbrev pub step_as : Kind → Evt2Decoder → ℕ → Evt2Decoder
step_as time_high_lem d w =
    let raw = time_high2 w * grain2 in
    record {
      initialised = true;
      time_high = time_after period2 threshold2 d.time_high d.high_loops raw;
      time = time_after period2 threshold2 d.time_high d.high_loops raw;
      high_loops = loops_after period2 threshold2 d.time_high d.high_loops raw;
    }
step_as event d w = record { initialised = d.initialised; time_high = d.time_high; time = d.time_high + time_low2 w; high_loops = d.high_loops }
step_as skip d w = d

abbrev pub vector_as : Kind → Evt2Decoder → ℕ → Vector
vector_as time_high_lem d w = no_events
vector_as event d w = record { x = x2 w; y = y2 w; t = d.time_high + time_low2 w; p = type2 w; mask = 1 }
vector_as skip d w = no_events

unfoldable pub step2 : Evt2Decoder → ℕ → Evt2Decoder
step2 d w = step_as (kind_of (type2 w) d.initialised) d w

unfoldable pub vector2 : Evt2Decoder → ℕ → Vector
vector2 d w = vector_as (kind_of (type2 w) d.initialised) d w

abbrev pub reader2 : Machine Evt2Decoder ℕ Event
reader2 = record { step = step2; emit = λ d w. events_of (vector2 d w) }

-- ---- out of range (10)

abbrev pub in_range2 : Evt2Decoder → Bool
in_range2 d =
    cond d.initialised (clock_in_range period2 grain2 (2 ^ 27) d.time_high d.time d.high_loops)
    (eqb d.time_high 0 && (eqb d.time 0 && eqb d.high_loops 0))

-- bounds under which no sum of a step wraps
pub record Sane2 (d : Evt2Decoder) : Type 0 where
  pub loops : d.high_loops < 2 ^ 29
  pub high : d.time_high < 2 ^ 63

-- ---- which rule a word of type k goes by

module _ (d : Evt2Decoder) (w k : ℕ) (is-type : k ≡ type2 w) where
  abbrev By : Kind → Type 0
  By r = (step2 d w ≡ step_as r d w) × (vector2 d w ≡ vector_as r d w)

  by_rule : (r : Kind) → kind_of k d.initialised ≡ r → By r
  unfolding step2 vector2
  by_rule r e =
      let e' : kind_of (type2 w) d.initialised ≡ r = rw (← is-type) e in
      (ap (λ (r : Kind). step_as r d w) e', ap (λ (r : Kind). vector_as r d w) e')

  pub time_word_lem : k ≡ 8 → By time_high_lem
  time_word_lem h = by_rule time_high_lem (rw (eq-eqb k 8 h))

  pub event-word : k < 2 → d.initialised ≡ true → By event
  event-word h s = by_rule event (rw (ne_eqb k 8 (omega arith), s, lt-ltb k 2 h))

  pub early_word : k < 2 → d.initialised ≡ false → By skip
  early_word h s = by_rule skip (rw (ne_eqb k 8 (omega arith), s))

  pub other_word : (k ≡ 8 → ⊥) → 2 ≤ k → By skip
  other_word h l = by_rule skip (rw (ne_eqb k 8 h, le-ltb k 2 l) (same d.initialised))
    where
      same : (b : Bool) → cond b skip skip ≡ skip
      same true = refl
      same false = refl

-- what holds by each rule holds of every word
pub by_kinds : (P : Kind → Type 0) (type : ℕ) (started : Bool) → P time_high_lem → (started ≡ true → type < 2 → P event) → P skip → P (kind_of type started)
by_kinds P type true h e k = either P (eqb type 8) h (one (ltb type 2) refl)
  where
    one : (b : Bool) → ltb type 2 ≡ b → P (cond b event skip)
    one true q = e refl (ltb-true type 2 q)
    one false q = k
by_kinds P type false h e k = either P (eqb type 8) h k
