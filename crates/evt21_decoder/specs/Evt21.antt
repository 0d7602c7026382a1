-- EVT 2.1: a word does what its upper half does in EVT 2.0, and an event word has an event for each bit of its mask.
use Rattle.std.specs.Prelude.{◌≡◌, refl, Bool, true, false, List, [], ◌∷◌, map, ℕ, ◌+◌, ◌*◌, ◌≤◌, ◌<◌}
use Rattle.std.proofs.Common.{sym, ap, zero-mul, one-mul, mul-zero}
use Rattle.laws_stream.specs.{Loop.loops_after, Loop.time_after, Mask.bits-zero, Machine.Machine, Machine.run, Machine.emits, Beside.emitting}
use Rattle.evt2_decoder.specs.{declared.Evt2Decoder.Evt2Decoder, Evt2.fresh2, Evt2.period2, Evt2.threshold2, Evt2.step2, Evt2.vector2, Evt2.reader2}
use Rattle.evt2_decoder.specs.Evt2.{in_range2, time_word_lem, event-word, early_word, other_word}
use Rattle.evt21_decoder.specs.declared.Evt21Decoder.{Evt21Decoder}
use Rattle.evt_types.specs.{declared.vector.Vector.Vector, Event.Event, Event.event_at, Event.events_of, Event.no_events}
use Rattle.evt_types.specs.Layout.{type2, grain2, type21, time_low21, x21, y21, mask21, time_high21, upper, upper_type, upper_low, upper-x, upper-y, upper_time}

-- the same numbers as a decoder of EVT 2.0
abbrev pub as2 : Evt21Decoder → Evt2Decoder
as2 d = record { initialised = d.initialised; time_high = d.time_high; time = d.time; high_loops = d.high_loops }

abbrev pub of2 : Evt2Decoder → Evt21Decoder
of2 d = record { initialised = d.initialised; time_high = d.time_high; time = d.time; high_loops = d.high_loops }

-- an event of EVT 2.0 (mask 1), or none (mask 0), with the mask m
abbrev pub wide : Vector → ℕ → Vector
wide v m = record { x = v.x; y = v.y; t = v.t; p = v.p; mask = v.mask * m }

abbrev pub fresh21 : Evt21Decoder
fresh21 = of2 fresh2

abbrev pub step21 : Evt21Decoder → ℕ → Evt21Decoder
step21 d w = of2 (step2 (as2 d) (upper w))

abbrev pub vector21 : Evt21Decoder → ℕ → Vector
vector21 d w = wide (vector2 (as2 d) (upper w)) (mask21 w)

abbrev pub reader21 : Machine Evt21Decoder ℕ Event
reader21 = record { step = step21; emit = λ d w. events_of (vector21 d w) }

-- out of range (10)
abbrev pub in_range21 : Evt21Decoder → Bool
in_range21 d = in_range2 (as2 d)

-- ---- what a word does, by its type

module _ (d : Evt21Decoder) (w : ℕ) where
  abbrev Does : Evt21Decoder → Vector → Type 0
  Does after v = (step21 d w ≡ after) × (vector21 d w ≡ v)

  type_above : type21 w ≡ type2 (upper w)
  type_above = sym (upper_type w)

  -- the coarse time, by the loop rule of EVT 2.0
  pub time_word21_lem : type21 w ≡ 8
      → let raw = time_high21 w * grain2 in
      let coarse = time_after period2 threshold2 d.time_high d.high_loops raw in
      let loops = loops_after period2 threshold2 d.time_high d.high_loops raw in
      Does (record { initialised = true; time_high = coarse; time = coarse; high_loops = loops }) no_events
  time_word21_lem h = let e = time_word_lem (as2 d) (upper w) (type21 w) type_above h in rw (e.0, e.1, upper_time w, zero-mul) (refl, refl)

  -- an event word of a started decoder sets the time, whatever its mask
  pub event_word21_lem : type21 w < 2 → d.initialised ≡ true
      → let t = d.time_high + time_low21 w in
      Does (record { initialised = d.initialised; time_high = d.time_high; time = t; high_loops = d.high_loops })
      (record { x = x21 w; y = y21 w; t = t; p = type21 w; mask = mask21 w })
  event_word21_lem h on =
      let e = event-word (as2 d) (upper w) (type21 w) type_above h on in
      rw (e.0, e.1, upper_low w, upper-x w, upper-y w, upper_type w, one-mul) (refl, refl)

  -- an empty one too: no event, and the time is set all the same
  pub empty_mask21 : type21 w < 2 → d.initialised ≡ true → mask21 w ≡ 0
      → ((step21 d w).time ≡ d.time_high + time_low21 w) × (events_of (vector21 d w) ≡ [])
  empty_mask21 h on empty =
      let v = vector2 (as2 d) (upper w) in
      (ap (λ (u : Evt21Decoder). u.time) (event_word21_lem h on).0, rw (empty, mul-zero) (ap (map (event_at (wide v 0))) (bits-zero 32 v.x)))

  -- before the first time word, and of another type: nothing
  pub early_word21 : type21 w < 2 → d.initialised ≡ false → Does d no_events
  early_word21 h off = let e = early_word (as2 d) (upper w) (type21 w) type_above h off in rw (e.0, e.1, zero-mul) (refl, refl)

  pub other_word21 : (type21 w ≡ 8 → ⊥) → 2 ≤ type21 w → Does d no_events
  other_word21 h l = let e = other_word (as2 d) (upper w) (type21 w) type_above h l in rw (e.0, e.1, zero-mul) (refl, refl)

-- ---- for loops, which keep a decoder of EVT 2.0

abbrev pub wide2 : Machine Evt2Decoder ℕ Event
wide2 = record { step = λ d w. step2 d (upper w); emit = λ d w. events_of (wide (vector2 d (upper w)) (mask21 w)) }

pub run-wide2 : (d : Evt2Decoder) (ws : List ℕ) → run reader21 (of2 d) ws ≡ of2 (run wide2 d ws)
run-wide2 d [] = refl
run-wide2 d (w ∷ ws) = run-wide2 (step2 d (upper w)) ws

-- whatever words are to emit
pub emits-of2 : {F : Type 0} (f : Evt21Decoder → ℕ → List F) (d : Evt2Decoder) (ws : List ℕ)
    → emits (emitting reader21 f) (of2 d) ws ≡ emits (emitting wide2 (λ d. f (of2 d))) d ws
emits-of2 f d [] = refl
emits-of2 f d (w ∷ ws) = rw (emits-of2 f (step2 d (upper w)) ws)

pub emits-wide2 : (d : Evt2Decoder) (ws : List ℕ) → emits reader21 (of2 d) ws ≡ emits wide2 d ws
emits-wide2 = emits-of2 reader21.emit

-- its states are those of EVT 2.0 over the upper halves
pub run-upper : (d : Evt2Decoder) (ws : List ℕ) → run wide2 d ws ≡ run reader2 d (map upper ws)
run-upper d [] = refl
run-upper d (w ∷ ws) = run-upper (step2 d (upper w)) ws
