-- EVT3: what a word does to a decoder, and the events that it carries.
use Rattle.std.specs.Prelude.{◌≡◌, refl, Bool, true, false, cond, not, ◌&&◌, ℕ, ◌+◌, ◌*◌, ◌^◌, ◌<◌, min, eqb, leb}
use Rattle.std.proofs.Math.Path.{ap}
use Rattle.std.proofs.Common.{eqb-true, eq-eqb, ne_eqb}
use Rattle.laws_stream.specs.{Loop.loops_after, Loop.time_after, Machine.Machine}
use Rattle.evt3_decoder.specs.declared.{Decoder.Decoder, WideDecoder.WideDecoder}
use Rattle.evt_types.specs.{declared.vector.Vector.Vector, Clock.either, Event.Event, Event.events_of, Event.no_events, Clock.clock_in_range}
use Rattle.evt_types.specs.{Layout.type3, Layout.y3, Layout.x3, Layout.polarity3, Layout.mask12, Layout.mask8, Layout.time3, Layout.grain3}

abbrev pub fresh3 : Decoder
fresh3 = record { initialised = false; time_base = 0; time = 0; y = 0; base_x = 0; polarity = false; high_loops = 0 }

abbrev pub period3 : ℕ
period3 = 2 ^ 24

abbrev pub threshold3 : ℕ
threshold3 = 16732160

pub data Kind : Type 0 where
  first_time time_high_lem time_low_lem addr_y addr_x base_x_lem vect12 vect8 skip : Kind

-- of a started decoder
abbrev pub kind_on : ℕ → Kind
kind_on type =
    cond (eqb type 0) addr_y (cond (eqb type 2) addr_x (cond (eqb type 3) base_x_lem (cond (eqb type 4) vect12 (cond (eqb type 5) vect8
    (cond (eqb type 6) time_low_lem (cond (eqb type 8) time_high_lem skip))))))

-- before the first type 8, all other words are ignored, and that one counts no loop
abbrev pub kind_of : ℕ → Bool → Kind
kind_of type started = cond started (kind_on type) (cond (eqb type 8) first_time skip)

-- the time is the coarse time
abbrev pub at_coarse : Decoder → (coarse loops : ℕ) → Decoder
at_coarse d coarse loops = record {
  initialised = true;
  time_base = coarse;
  time = coarse;
  y = d.y;
  base_x = d.base_x;
  polarity = d.polarity;
  high_loops = loops;
}

abbrev pub at : Decoder → (time y base : ℕ) → Bool → Decoder
at d time y base polarity = record {
  initialised = d.initialised;
  time_base = d.time_base;
  time = time;
  y = y;
  base_x = base;
  polarity = polarity;
  high_loops = d.high_loops;
}

-- the base column after a mask of n bits, empty or not: at most 65,535
abbrev pub past : ℕ → Decoder → Decoder
past n d = at d d.time d.y (min (d.base_x + n) 65535) d.polarity

abbrev pub step_as : Kind → Decoder → ℕ → Decoder
step_as first_time d w = at_coarse d (time3 w * grain3) d.high_loops
step_as time_high_lem d w =
    let raw = time3 w * grain3 in
    at_coarse d (time_after period3 threshold3 d.time_base d.high_loops raw) (loops_after period3 threshold3 d.time_base d.high_loops raw)
step_as time_low_lem d w = at d (d.time_base + time3 w) d.y d.base_x d.polarity
step_as addr_y d w = at d d.time (y3 w) d.base_x d.polarity
step_as addr_x d w = d
step_as base_x_lem d w = at d d.time d.y (x3 w) (eqb (polarity3 w) 1)
step_as vect12 d w = past 12 d
step_as vect8 d w = past 8 d
step_as skip d w = d

abbrev pub number : Bool → ℕ
number true = 1
number false = 0

-- the event at column x
abbrev pub single : Decoder → (x p : ℕ) → Vector
single d x p = record { x = x; y = d.y; t = d.time; p = p; mask = 1 }

-- the events of a mask, from the base column on
abbrev pub several : Decoder → (mask : ℕ) → Vector
several d mask = record { x = d.base_x; y = d.y; t = d.time; p = number d.polarity; mask = mask }

abbrev pub vector_as : Kind → Decoder → ℕ → Vector
vector_as addr_x d w = single d (x3 w) (polarity3 w)
vector_as vect12 d w = several d (mask12 w)
vector_as vect8 d w = several d (mask8 w)
vector_as first_time d w = no_events
vector_as time_high_lem d w = no_events
vector_as time_low_lem d w = no_events
vector_as addr_y d w = no_events
vector_as base_x_lem d w = no_events
vector_as skip d w = no_events

unfoldable pub step3 : Decoder → ℕ → Decoder
step3 d w = step_as (kind_of (type3 w) d.initialised) d w

unfoldable pub vector3 : Decoder → ℕ → Vector
vector3 d w = vector_as (kind_of (type3 w) d.initialised) d w

abbrev pub reader3 : Machine Decoder ℕ Event
reader3 = record { step = step3; emit = λ d w. events_of (vector3 d w) }

-- ---- out of range (10)

abbrev pub is_zero : Decoder → Bool
is_zero d = eqb d.time_base 0 && (eqb d.time 0 && (eqb d.y 0 && (eqb d.base_x 0 && (not d.polarity && eqb d.high_loops 0))))

abbrev pub in_range3 : Decoder → Bool
in_range3 d =
    cond d.initialised (clock_in_range period3 grain3 (2 ^ 28) d.time_base d.time d.high_loops && leb d.y 2047)
    (is_zero d)

-- ---- the same decoder in the loops' struct

abbrev pub widened : Decoder → WideDecoder
widened d = record {
  initialised = d.initialised;
  time_base = d.time_base;
  time = d.time;
  y = d.y;
  base_x = d.base_x;
  polarity = d.polarity;
  high_loops = d.high_loops;
}

abbrev pub slimmed : WideDecoder → Decoder
slimmed d = record {
  initialised = d.initialised;
  time_base = d.time_base;
  time = d.time;
  y = d.y;
  base_x = d.base_x;
  polarity = d.polarity;
  high_loops = d.high_loops;
}

pub record Slim (d : WideDecoder) : Type 0 where
  pub row : d.y < 2 ^ 16
  pub column : d.base_x < 2 ^ 16

-- bounds under which no sum of a step wraps
pub record Sane3 (d : WideDecoder) : Type 0 where
  pub loops : d.high_loops < 2 ^ 38
  pub base : d.time_base < 2 ^ 62

-- ---- which rule a word of type k goes by

module _ (d : Decoder) (w k : ℕ) (is-type : k ≡ type3 w) where
  abbrev By : Kind → Type 0
  By r = (step3 d w ≡ step_as r d w) × (vector3 d w ≡ vector_as r d w)

  by_rule : (r : Kind) → kind_of k d.initialised ≡ r → By r
  unfolding step3 vector3
  by_rule r e =
      let e' : kind_of (type3 w) d.initialised ≡ r = rw (← is-type) e in
      (ap (λ (r : Kind). step_as r d w) e', ap (λ (r : Kind). vector_as r d w) e')

  -- a started decoder, and a type that has a rule
  pub started_word : (n : ℕ) → k ≡ n → d.initialised ≡ true → By (kind_on n)
  started_word n h s = by_rule (kind_on n) (rw (s, h))

  pub started_other : d.initialised ≡ true → (k ≡ 0 → ⊥) → (k ≡ 2 → ⊥) → (k ≡ 3 → ⊥) → (k ≡ 4 → ⊥)
      → (k ≡ 5 → ⊥) → (k ≡ 6 → ⊥) → (k ≡ 8 → ⊥) → By skip
  started_other s a b c e f g h = by_rule skip (rw (s, ne_eqb k 0 a, ne_eqb k 2 b, ne_eqb k 3 c, ne_eqb k 4 e, ne_eqb k 5 f, ne_eqb k 6 g, ne_eqb k 8 h))

  pub first_word : k ≡ 8 → d.initialised ≡ false → By first_time
  first_word h s = by_rule first_time (rw (s, eq-eqb k 8 h))

  pub early_word : (k ≡ 8 → ⊥) → d.initialised ≡ false → By skip
  early_word h s = by_rule skip (rw (s, ne_eqb k 8 h))

-- what holds by each rule holds of every word
pub by_kinds : (P : Kind → Type 0) (type : ℕ) (started : Bool) → (started ≡ false → P first_time) → (started ≡ true → P time_high_lem) → (started ≡ true → P time_low_lem)
    → (started ≡ true → P addr_y) → (started ≡ true → P addr_x) → (started ≡ true → P base_x_lem) → (started ≡ true → P vect12) → (started ≡ true → P vect8) → P skip
    → P (kind_of type started)
by_kinds P type true f h l y x b v u k =
    either P (eqb type 0) (y refl) (either P (eqb type 2) (x refl) (either P (eqb type 3) (b refl) (either P (eqb type 4) (v refl)
    (either P (eqb type 5) (u refl) (either P (eqb type 6) (l refl) (either P (eqb type 8) (h refl) k))))))
by_kinds P type false f h l y x b v u k = either P (eqb type 8) (f refl) k

-- a type that has a rule, or none of these
pub by_type : (P : ℕ → Type 0) (k : ℕ) → P 0 → P 2 → P 3 → P 4 → P 5 → P 6 → P 8
    → (eqb k 0 ≡ false → eqb k 2 ≡ false → eqb k 3 ≡ false → eqb k 4 ≡ false → eqb k 5 ≡ false → eqb k 6 ≡ false → eqb k 8 ≡ false → P k) → P k
by_type P k p0 p2 p3 p4 p5 p6 p8 other =
    at 0 p0 (λ e0. at 2 p2 (λ e2. at 3 p3 (λ e3. at 4 p4 (λ e4. at 5 p5 (λ e5. at 6 p6 (λ e6. at 8 p8 (λ e8. other e0 e2 e3 e4 e5 e6 e8)))))))
  where
    at : (n : ℕ) → P n → (eqb k n ≡ false → P k) → P k
    at n g f = go (eqb k n) refl
      where
        go : (t : Bool) → eqb k n ≡ t → P k
        go true e = rw (eqb-true k n e) g
        go false e = f e
