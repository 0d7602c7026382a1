-- EVT2 for counting: which words are events inside the sensor, in the code's form, and what such a word does.
use Rattle.std.specs.Prelude.{◌≡◌, refl, Bool, true, false, cond, ◌&&◌, [], ℕ, ◌+◌, ◌*◌, ◌≤◌, ◌<◌, ◌^◌, min, ltb, length}
use Rattle.std.proofs.Common.{sym, ap, ◌∙◌, true≢false, arith, ltb-true, ltb-false, lt-ltb, le-ltb}
use Rattle.laws_stream.specs.Slice.{onto}
use Rattle.evt2_decoder.specs.declared.Evt2Decoder.{Evt2Decoder}
use Rattle.evt_types.specs.{declared.vector.Vector.Vector, Layout.field, Layout.type2, Layout.time_low2, Layout.x2, Layout.y2, Num.is_inside}
use Rattle.evt2_decoder.specs.Evt2.{event, step_as, vector_as, step2, vector2, event-word, by_kinds}
use Rattle.read_columns.specs.Inside.{inside_of, inside_at, first_of, inside_none, inside_one}

-- a bound of the column with the row below it, for a decoder that has started
abbrev pub key_bound : Bool → ℕ → ℕ
key_bound on width = cond on (min width 2048 * 2048) 0

-- what is above the polarity, the column and the row
abbrev pub key_of : ℕ → ℕ
key_of w = field 31 29 w * 2 ^ 29 + field 21 0 w

abbrev pub is_event_inside : (bound height w : ℕ) → Bool
is_event_inside bound height w = ltb (key_of w) bound && ltb (y2 w) height

module _ (bound height w : ℕ) where
  pub event_by_row : key_of w < bound → ltb (y2 w) height ≡ is_event_inside bound height w
  event_by_row h = rw (lt-ltb (key_of w) bound h)

  pub event_not : bound ≤ key_of w → false ≡ is_event_inside bound height w
  event_not h = rw (le-ltb (key_of w) bound h)

abbrev pub one_if : Bool → ℕ
one_if true = 1
one_if false = 0

one-onto : {E : Type 0} (b : Bool) (e : E) → length (onto b e []) ≡ one_if b
one-onto true e = refl
one-onto false e = refl

-- a word of another type, or to a decoder that hasn't started, has no events
quiet2 : (d : Evt2Decoder) (w : ℕ) → 2 ≤ type2 w → (vector2 d w).mask ≡ 0
unfolding vector2
quiet2 d w h = by_kinds (λ k. (vector_as k d w).mask ≡ 0) (type2 w) d.initialised refl (λ on q. absurd (omega arith)) refl

early2 : (d : Evt2Decoder) (w : ℕ) → d.initialised ≡ false → (vector2 d w).mask ≡ 0
unfolding vector2
early2 d w e = by_kinds (λ k. (vector_as k d w).mask ≡ 0) (type2 w) d.initialised refl (λ on q. absurd (true≢false (sym on ∙ e))) refl

module _ (width height w : ℕ) where
  -- an event's key is its column and row
  key_event : type2 w < 2 → ltb (key_of w) (min width 2048 * 2048) ≡ ltb (x2 w) width
  key_event h = go (ltb (x2 w) width) refl
    where
      go : (b : Bool) → ltb (x2 w) width ≡ b → ltb (key_of w) (min width 2048 * 2048) ≡ b
      go true e = let l = ltb-true (x2 w) width e in lt-ltb (key_of w) (min width 2048 * 2048) (omega arith)
      go false e = let l = ltb-false (x2 w) width e in le-ltb (key_of w) (min width 2048 * 2048) (omega arith)

  key_other : 2 ≤ type2 w → ltb (key_of w) (min width 2048 * 2048) ≡ false
  key_other h = le-ltb (key_of w) (min width 2048 * 2048) (omega arith)

module _ (width height : ℕ) (d : Evt2Decoder) (w : ℕ) where
  abbrev inside_now : Bool
  inside_now = is_event_inside (key_bound d.initialised width) height w

  silent : (vector2 d w).mask ≡ 0 → length (inside_of width height (vector2 d w)) ≡ 0
  silent e = ap length (ap (inside_at width height (vector2 d w)) e ∙ inside_none width height (vector2 d w))

  -- how many of the word's events are inside
  pub event-count : length (inside_of width height (vector2 d w)) ≡ one_if inside_now
  event-count = go d.initialised refl (ltb (type2 w) 2) refl
    where
      go : (on : Bool) → d.initialised ≡ on → (b : Bool) → ltb (type2 w) 2 ≡ b
          → length (inside_of width height (vector2 d w)) ≡ one_if (is_event_inside (key_bound d.initialised width) height w)
      go true e true q =
          let h = ltb-true (type2 w) 2 q in
          let f : is_event_inside (key_bound d.initialised width) height w ≡ is_inside width height (x2 w) (y2 w) = rw (e, key_event width height w h) in
          ap length (ap (inside_of width height) (event-word d w (type2 w) refl h e).1 ∙ inside_one width height (vector_as event d w) refl (omega arith))
          ∙ one-onto (is_inside width height (x2 w) (y2 w)) (first_of (vector_as event d w)) ∙ sym (ap one_if f)
      go true e false q =
          let h = ltb-false (type2 w) 2 q in
          let f : is_event_inside (key_bound d.initialised width) height w ≡ false = rw (e, key_other width height w h) in
          silent (quiet2 d w h) ∙ sym (ap one_if f)
      go false e b q =
          let f : is_event_inside (key_bound d.initialised width) height w ≡ false = rw (e, le-ltb (key_of w) 0 (omega arith)) in
          silent (early2 d w e) ∙ sym (ap one_if f)

  -- what it does: the time is the event's
  pub event_step : inside_now ≡ true → (step2 d w ≡ step_as event d w) × ((vector2 d w).t ≡ d.time_high + time_low2 w)
  event_step s = go d.initialised refl (ltb (type2 w) 2) refl
    where
      go : (on : Bool) → d.initialised ≡ on → (b : Bool) → ltb (type2 w) 2 ≡ b
          → (step2 d w ≡ step_as event d w) × ((vector2 d w).t ≡ d.time_high + time_low2 w)
      go true e true q =
          let r = event-word d w (type2 w) refl (ltb-true (type2 w) 2 q) e in
          (r.0, ap (λ (v : Vector). v.t) r.1)
      go true e false q =
          let h = ltb-false (type2 w) 2 q in
          let f : is_event_inside (key_bound d.initialised width) height w ≡ false = rw (e, key_other width height w h) in
          absurd (true≢false (sym s ∙ f))
      go false e b q =
          let f : is_event_inside (key_bound d.initialised width) height w ≡ false = rw (e, le-ltb (key_of w) 0 (omega arith)) in
          absurd (true≢false (sym s ∙ f))
