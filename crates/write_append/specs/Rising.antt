-- The events of an append that the rules let pass: within 7's bounds, their times never fall, and none is below the time that the writer may not go below.
use Rattle.std.specs.Prelude.{◌≡◌, refl, Bool, true, false, ◌&&◌, List, [], ◌∷◌, ℕ, ◌+◌, ◌/◌, ◌^◌, ◌≤◌, ltb, leb, ℤ, pos, negsuc, length}
use Rattle.std.proofs.Common.{sym, subst, true≢false, arith, eqb-true, ltb-true, ltb-false, le-ltb}
use Rattle.std.specs.Int.Signed.{lt_z, non_neg}
use Rattle.laws_stream.specs.{Machine.and_both, Order.Rise, Order.last_of}
use Rattle.std.specs.Prelude.{Option, Some, None}
use Rattle.evt_types.specs.{Event.Event, Num.natural, Layout.grain3}
use Rattle.evt_types.specs.declared.{Encoding.Encoding, Encoding.TheVariants.Evt2, Encoding.TheVariants.Evt21, Encoding.TheVariants.Evt3}
use Rattle.evt3_decoder.specs.Evt3.{period3}
use Rattle.evt3_lead_words.specs.Evt3.{loop_of}
use Rattle.write_buffer.specs.{declared.EncoderState.EncoderState, Columns.events_in}
use Rattle.write_words.specs.Encode.{encode_state, loop_clock, Paced, loops_ahead}
use Rattle.write_rules.specs.declared.{RawEventSink.RawEventSink}
use Rattle.write_rules.specs.Range.{time_bound, time_in_range, every, at_most, falls, falls_after, belongs, not_before, sink_not_before}
use Rattle.write_rules.specs.Range.{last_in_range, sink_in_range}
use Rattle.write_rules.specs.Checks.{Checked, or_neither}
use Rattle.write_append.specs.Append.{last_after}

abbrev pub clock : Event → ℕ
clock e = e.t

-- within 7's bounds
abbrev pub in_bounds : Event → Bool
in_bounds e = leb e.x 2047 && (leb e.y 2047 && (leb e.p 1 && ltb e.t time_bound))

abbrev pub Rises : ℕ → List Event → Type 0
Rises = Rise clock in_bounds

-- the earliest time that an event may have
abbrev pub earliest : Option ℤ → ℕ
earliest None = 0
earliest (Some t) = natural t

-- ---- columns

as_pos : (t : ℤ) → non_neg t ≡ true → t ≡ pos (natural t)
as_pos (pos n) h = refl
as_pos (negsuc n) h = absurd (true≢false (sym h))

not_below : (t : ℤ) (from : ℕ) → non_neg t ≡ true → lt_z t (pos from) ≡ false → from ≤ natural t
not_below (pos n) from h k = ltb-false n from k
not_below (negsuc n) from h k = absurd (true≢false (sym h))

not_negative : (t : ℤ) → non_neg t ≡ true → lt_z t (pos 0) ≡ false
not_negative (pos n) h = le-ltb n 0 (omega arith)
not_negative (negsuc n) h = absurd (true≢false (sym h))

columns_rise : (from : ℕ) (l : Option ℤ) (xs ys : List ℕ) (ts : List ℤ) (ps : List ℕ) → length ys ≡ length xs → length ts ≡ length xs
    → length ps ≡ length xs → earliest l ≡ from
    → falls (pos from) ts ≡ false → every (at_most 2047) xs ≡ true → every (at_most 2047) ys ≡ true → every (at_most 1) ps ≡ true → every time_in_range ts ≡ true
    → Rises from (events_in xs ys ts ps) × (earliest (last_after l ts) ≡ last_of clock in_bounds from (events_in xs ys ts ps))
unfolding falls every last_after
columns_rise from l [] ys [] ps ey et ep el f hx hy hp ht = (tt, el)
columns_rise from l [] ys (t ∷ ts) ps ey et ep el f hx hy hp ht = absurd (omega arith)
columns_rise from l (x ∷ xs) [] ts ps ey et ep el f hx hy hp ht = absurd (omega arith)
columns_rise from l (x ∷ xs) (y ∷ ys) [] ps ey et ep el f hx hy hp ht = absurd (omega arith)
columns_rise from l (x ∷ xs) (y ∷ ys) (t ∷ ts) [] ey et ep el f hx hy hp ht = absurd (omega arith)
columns_rise from l (x ∷ xs) (y ∷ ys) (t ∷ ts) (p ∷ ps) ey et ep el f hx hy hp ht =
    let g = or_neither (lt_z t (pos from)) (falls t ts) f in
    let ax = and_both (at_most 2047 x) (every (at_most 2047) xs) hx in
    let ay = and_both (at_most 2047 y) (every (at_most 2047) ys) hy in
    let ap' = and_both (at_most 1 p) (every (at_most 1) ps) hp in
    let at = and_both (time_in_range t) (every time_in_range ts) ht in
    let b = and_both (non_neg t) (ltb (natural t) time_bound) at.0 in
    let f' : falls (pos (natural t)) ts ≡ false = subst (λ (z : ℤ). falls z ts ≡ false) (as_pos t b.0) g.1 in
    let r = columns_rise (natural t) (Some t) xs ys ts ps (omega arith) (omega arith) (omega arith) refl f' ax.1 ay.1 ap'.1 at.1 in
    ((record { rises = not_below t from b.0 g.0; fine = rw (ax.0, ay.0, ap'.0, b.1) }, r.0), r.1)

-- from the writer's time on, or from 0 where it has none
falls-from : (e : Encoding) (held : Option ℕ) (l : Option ℤ) (ts : List ℤ) → falls_after (not_before e held l) ts ≡ false → every time_in_range ts ≡ true
    → (v : EncoderState) (n : ℕ) → last_in_range e v n l ≡ true → falls (pos (earliest (not_before e held l))) ts ≡ false
unfolding falls every
falls-from e None None [] f h v n k = refl
falls-from e None None (t ∷ ts) f h v n k =
    let a = and_both (time_in_range t) (every time_in_range ts) h in
    let b = and_both (non_neg t) (ltb (natural t) time_bound) a.0 in
    rw (not_negative t b.0) f
falls-from e (Some g) None ts f h v n k = f
falls-from e held (Some t) ts f h v n k =
    let a = and_both (time_in_range t) _ k in
    let b = and_both (non_neg t) (ltb (natural t) time_bound) a.0 in
    subst (λ (z : ℤ). falls z ts ≡ false) (as_pos t b.0) f

module _ (s : RawEventSink) (xs ys : List ℕ) (ts : List ℤ) (ps : List ℕ) (k : Checked s xs ys ts ps) where
  abbrev from : ℕ
  from = earliest (sink_not_before s)

  abbrev events : List Event
  events = events_in xs ys ts ps

  pub checked_rise : Rises from events × (earliest (last_after (sink_not_before s) ts) ≡ last_of clock in_bounds from events)
  checked_rise =
      let z = k.sized in
      let a = and_both (every (at_most 2047) xs) _ k.events in
      let b = and_both (every (at_most 2047) ys) _ a.1 in
      let d = and_both (every (at_most 1) ps) (every time_in_range ts) b.1 in
      let f = falls-from s.version s.state.time_high s.last_t ts k.rising d.1 s.state s.n_events k.in_range_lem in
      columns_rise from (sink_not_before s) xs ys ts ps z.same-y z.same-t z.same_p refl f a.0 b.0 d.0 d.1

  pub append_rise : Rises from events
  append_rise = checked_rise.0

-- ---- the writer's time after it

pub state_none : (e : Encoding) (v : EncoderState) → encode_state e v [] ≡ v
state_none Evt2 v = refl
state_none Evt21 v = refl
state_none Evt3 v = refl

-- ---- loops

rise_loops : (held from : ℕ) (es : List Event) → held ≤ from / period3 → Rises from es → Rise loop_clock (λ e. true) held es
rise_loops held from [] h r = tt
rise_loops held from (e ∷ es) h r =
    (record { rises = omega (arith, r.0.rises); fine = refl }, rise_loops (loop_clock e) e.t es (omega arith) r.1)

last_few : (held from : ℕ) (es : List Event) → Rises from es → last_of loop_clock (λ e. true) held es ≤ held + 1023
last_few held from [] r = omega arith
last_few held from (e ∷ es) r = few (loop_clock e) (bound e r.0.fine) e.t es r.1
  where
    bound : (e : Event) → in_bounds e ≡ true → loop_clock e ≤ 1023
    bound e h =
        let a = and_both (leb e.x 2047) _ h in
        let b = and_both (leb e.y 2047) _ a.1 in
        let c = and_both (leb e.p 1) _ b.1 in
        omega (arith, ltb-true e.t time_bound c.1)

    few : (k : ℕ) → k ≤ 1023 → (from : ℕ) (es : List Event) → Rises from es → last_of loop_clock (λ e. true) k es ≤ held + 1023
    few k h from [] r = omega arith
    few k h from (e ∷ es) r = few (loop_clock e) (bound e r.0.fine) e.t es r.1

-- the loop of what is held is none after that of the writer's time
held-loop : (v : EncoderState) (n : ℕ) (l : Option ℤ) → last_in_range Evt3 v n l ≡ true
    → loop_of v.time_high ≤ earliest (not_before Evt3 v.time_high l) / period3
held-loop v n l h = go v.time_high l refl h
  where
    go : (held : Option ℕ) (l : Option ℤ) → v.time_high ≡ held → last_in_range Evt3 v n l ≡ true → loop_of held ≤ earliest (not_before Evt3 held l) / period3
    go None l e k = omega arith
    go (Some g) None e k = omega arith
    go (Some g) (Some t) e k =
        let a = and_both (time_in_range t) _ k in
        let b = and_both (leb n (2 ^ 62)) _ a.1 in
        let c = and_both (belongs v.time_high (natural t / grain3)) _ b.1 in
        omega (arith, eqb-true g (natural t / grain3) (rw e at c.0))

-- events that rise from there pass few loops, none backwards
pub rises_paced : (s : RawEventSink) (es : List Event) → sink_in_range s ≡ true → Rises (earliest (sink_not_before s)) es
    → Paced s.version s.state es × (loops_ahead s.state es ≤ 1023)
rises_paced s es k r =
    (go s.version refl, omega (arith, last_few (loop_of s.state.time_high) (earliest (sink_not_before s)) es r))
  where
    go : (e : Encoding) → s.version ≡ e → Paced e s.state es
    go Evt2 q = tt
    go Evt21 q = tt
    go Evt3 q =
        rise_loops (loop_of s.state.time_high) (earliest (sink_not_before s)) es
        (rw q (held-loop s.state s.n_events s.last_t (rw q at k))) r
