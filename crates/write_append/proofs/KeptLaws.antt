-- Laws of specs/Laws.antt.
use Rattle.evt21_encoder.specs.Pass21.{run_events21}
use Rattle.evt2_encoder.specs.Evt2.{writer2}
use Rattle.evt3_lead_words.specs.Evt3.{writer3}
use Rattle.evt3_run_rules.specs.Runs.{Run, first_of, follow, glue, goes, goes-true, prepend, run_at, runs, runs-at, single}
use Rattle.evt_types.specs.{Event.Event, Num.natural, declared.Encoding.Encoding, declared.Encoding.TheVariants.Evt2, declared.Encoding.TheVariants.Evt21}
use Rattle.std.specs.Prelude.{Option, Some, None}
use Rattle.evt_types.specs.{declared.Encoding.TheVariants.Evt3}
use Rattle.laws_stream.specs.Machine.{and_both, run}
use Rattle.std.proofs.{Common.ap, Common.arith, Common.sym, Common.◌∙◌, Math.Nat.add-zero}
use Rattle.std.specs.Prelude.{Bool, List, [], cond, drop, false, leb, length, refl, true, ℕ, ℤ, ◌%◌, ◌+◌, ◌/◌, ◌^◌, ◌∷◌, ◌≡◌, ◌≤◌}
use Rattle.write_append.specs.{Append.accepts, Append.append_outcome, Append.last_after, Append.next_sink, Append.sink_after, Ends.accepts_checked}
use Rattle.write_append.specs.{Ends.by_acceptance, Laws.LastFine, Rising.state_none}
use Rattle.write_buffer.specs.{Columns.event, Columns.events_in, declared.EncoderState.EncoderState}
use Rattle.write_rules.proofs.ChecksLaws.{checked_of}
use Rattle.write_rules.specs.{Checks.Checked, Range.at_most, Range.belongs, Range.every, Range.held_in_range, Range.is_nothing, Range.last_in_range}
use Rattle.write_rules.specs.{Range.sink_in_range, Range.time_in_range}
use Rattle.write_rules.specs.{declared.RawEventSink.RawEventSink}
use Rattle.write_words.specs.Encode.{encode_state}
use borrow.Author.Tests.{eq-eqb, le-leb}

-- ---- THE RANGE IS KEPT, the bound on the count aside

abbrev last_event : Event → List Event → Event
last_event e [] = e
last_event e (f ∷ es) = last_event f es

-- what a writer has sent after some events: the halves and the row of the last
abbrev sent3 : Event → EncoderState
sent3 e = record { time_high = Some (e.t / 4096); time_low = Some (e.t % 4096); y = Some e.y }

glue_go : (b : Bool) (v u : EncoderState) (e : Event) (r : Run) (rs : List Run) → goes e.t e.y e.p e.x (first_of r) ≡ b
    → run writer3 v (cond b (prepend e r ∷ rs) (single e ∷ r ∷ rs)) ≡ run writer3 u (r ∷ rs)
glue_go true v u e r rs q = let g = goes-true e.t e.y e.p e.x (first_of r) q in rw (g.is_t, g.is_y)
glue_go false v u e r rs q = refl

run_last3 : (v : EncoderState) (e : Event) (es : List Event) → run writer3 v (runs (e ∷ es)) ≡ sent3 (last_event e es)
run_last3 v e [] = refl
run_last3 v e (f ∷ es) =
    let n = follow f.t f.y f.p f.x es in
    let r = run_at f n es in
    let rs = runs (drop n es) in
    ap (λ (l : List Run). run writer3 v (glue e l)) (runs-at f es)
    ∙ glue_go (goes e.t e.y e.p e.x (first_of r)) v v e r rs refl
    ∙ ap (run writer3 v) (sym (runs-at f es)) ∙ run_last3 v f es

run_last2 : (v : EncoderState) (e : Event) (es : List Event)
    → run writer2 v (e ∷ es) ≡ record { time_high = Some ((last_event e es).t / 64); time_low = v.time_low; y = v.y }
run_last2 v e [] = refl
run_last2 v e (f ∷ es) = run_last2 (record { time_high = Some (e.t / 64); time_low = v.time_low; y = v.y }) f es

last_fine : (k : Option ℤ) (x y : ℕ) (t : ℤ) (p : ℕ) (xs ys : List ℕ) (ts : List ℤ) (ps : List ℕ) → length ys ≡ length xs
    → length ts ≡ length xs → length ps ≡ length xs
    → every (at_most 2047) (y ∷ ys) ≡ true → every time_in_range (t ∷ ts) ≡ true
    → LastFine (last_event (event x y (natural t) p) (events_in xs ys ts ps)) (last_after k (t ∷ ts))
unfolding every last_after
last_fine k x y t p [] ys [] ps ey et ep hy ht =
    record { time = t; is_last = refl; fine = (and_both (time_in_range t) _ ht).0; same = refl; row = (and_both (at_most 2047 y) _ hy).0 }
last_fine k x y t p [] ys (t₂ ∷ ts) ps ey et ep hy ht = absurd (omega arith)
last_fine k x y t p (x₂ ∷ xs) [] ts ps ey et ep hy ht = absurd (omega arith)
last_fine k x y t p (x₂ ∷ xs) (y₂ ∷ ys) [] ps ey et ep hy ht = absurd (omega arith)
last_fine k x y t p (x₂ ∷ xs) (y₂ ∷ ys) (t₂ ∷ ts) [] ey et ep hy ht = absurd (omega arith)
last_fine k x y t p (x₂ ∷ xs) (y₂ ∷ ys) (t₂ ∷ ts) (p₂ ∷ ps) ey et ep hy ht =
    last_fine (Some t) x₂ y₂ t₂ p₂ xs ys ts ps (omega arith) (omega arith) (omega arith) (and_both (at_most 2047 y) _ hy).1 (and_both (time_in_range t) _ ht).1

-- in EVT2 nothing but the high half is ever sent
only_high : (v : EncoderState) (n : ℕ) (l : Option ℤ) → last_in_range Evt2 v n l ≡ true → (is_nothing v.time_low ≡ true) × (is_nothing v.y ≡ true)
only_high v n None h =
    let a = and_both (held_in_range Evt2 v.time_high) _ h in
    let b = and_both (is_nothing v.time_low) _ a.1 in
    (b.0, (and_both (is_nothing v.y) _ b.1).0)
only_high v n (Some t) h =
    let a = and_both (time_in_range t) _ h in
    let b = and_both (leb n (2 ^ 62)) _ a.1 in
    let c = and_both (belongs v.time_high (natural t / 64)) _ b.1 in
    and_both (is_nothing v.time_low) (is_nothing v.y) c.1

-- EVT 2.1 has EVT2's ranges
same-held : (held : Option ℕ) → held_in_range Evt21 held ≡ held_in_range Evt2 held
same-held None = refl
same-held (Some h) = refl

same_range : (v : EncoderState) (n : ℕ) (l : Option ℤ) → last_in_range Evt21 v n l ≡ last_in_range Evt2 v n l
same_range v n None = rw (same-held v.time_high)
same_range v n (Some t) = refl

after-high : (v : EncoderState) (n m : ℕ) (k : Option ℤ) (f : Event) (es : List Event) (l : Option ℤ) → m ≤ 2 ^ 62
    → last_in_range Evt2 v n k ≡ true → (t : ℤ) → l ≡ Some t → time_in_range t ≡ true → natural t ≡ (last_event f es).t
    → last_in_range Evt2 (run writer2 v (f ∷ es)) m l ≡ true
after-high v n m k f es l h q t is fine same =
    let o = only_high v n k q in
    rw (is, run_last2 v f es, ← same, fine, le-leb m (2 ^ 62) h, eq-eqb (natural t / 64) (natural t / 64) refl, o.0, o.1)

after-some : (e : Encoding) (v : EncoderState) (n m : ℕ) (k : Option ℤ) (f : Event) (es : List Event) (l : Option ℤ) → m ≤ 2 ^ 62
    → last_in_range e v n k ≡ true → LastFine (last_event f es) l
    → last_in_range e (encode_state e v (f ∷ es)) m l ≡ true
after-some Evt2 v n m k f es l h q r = after-high v n m k f es l h q r.time r.is_last r.fine r.same
after-some Evt21 v n m k f es l h q r =
    rw (same_range (encode_state Evt21 v (f ∷ es)) m l, run_events21 v (f ∷ es))
    (after-high v n m k f es l h (sym (same_range v n k) ∙ q) r.time r.is_last r.fine r.same)
after-some Evt3 v n m k f es l h q r =
    rw (
      r.is_last,
      run_last3 v f es,
      ← r.same,
      r.fine,
      le-leb m (2 ^ 62) h,
      eq-eqb (natural r.time / 4096) (natural r.time / 4096) refl,
      eq-eqb (natural r.time % 4096) (natural r.time % 4096) refl,
      r.row,
    )

kept_as : (s : RawEventSink) (xs ys : List ℕ) (ts : List ℤ) (ps : List ℕ) → Checked s xs ys ts ps → s.n_events + length xs ≤ 2 ^ 62
    → sink_in_range (next_sink s xs ys ts ps) ≡ true
unfolding last_after
kept_as s [] ys [] ps c h = rw (state_none s.version s.state, add-zero s.n_events) c.in_range_lem
kept_as s [] ys (t ∷ ts) ps c h = absurd (omega (arith, c.sized.same-t))
kept_as s (x ∷ xs) [] ts ps c h = absurd (omega (arith, c.sized.same-y))
kept_as s (x ∷ xs) (y ∷ ys) [] ps c h = absurd (omega (arith, c.sized.same-t))
kept_as s (x ∷ xs) (y ∷ ys) (t ∷ ts) [] c h = absurd (omega (arith, c.sized.same_p))
kept_as s (x ∷ xs) (y ∷ ys) (t ∷ ts) (p ∷ ps) c h =
    let z = c.sized in
    let a = and_both (every (at_most 2047) (x ∷ xs)) _ c.events in
    let b = and_both (every (at_most 2047) (y ∷ ys)) _ a.1 in
    let d = and_both (every (at_most 1) (p ∷ ps)) (every time_in_range (t ∷ ts)) b.1 in
    let r = last_fine s.last_t x y t p xs ys ts ps
    (omega (arith, z.same-y)) (omega (arith, z.same-t)) (omega (arith, z.same_p)) b.0 d.1 in
    after-some s.version s.state s.n_events (s.n_events + length (x ∷ xs)) s.last_t
    (event x y (natural t) p) (events_in xs ys ts ps) _ h c.in_range_lem r

pub range_kept : (s : RawEventSink) (width height : ℕ) (xs ys : List ℕ) (ts : List ℤ) (ps : List ℕ) (room : ℕ)
    → let o = append_outcome s width height xs ys ts ps room in
    accepts o ≡ true → s.n_events + length xs ≤ 2 ^ 62 → sink_in_range (sink_after s o) ≡ true
range_kept s width height xs ys ts ps room q h =
    rw ((by_acceptance s width height xs ys ts ps room).0, q)
    (kept_as s xs ys ts ps (checked_of s xs ys ts ps (accepts_checked s width height xs ys ts ps room q).0) h)
