-- What the loops of a check keep, and what a check that is passed says.
use Rattle.std.specs.Prelude.{◌≡◌, refl, Bool, true, false, cond, ◌&&◌, ◌||◌, List, [], ◌∷◌, ℕ, zero, suc, ◌+◌, ◌-◌, ◌*◌, ◌/◌, ◌^◌, ◌≤◌, ◌<◌, ltb, leb, length, get_or, drop, ℤ, pos, negsuc}
use Rattle.std.proofs.Common.{sym, ap, ◌∙◌, true≢false, arith, add-one, drop_of_length-le, eqb-true, leb-true, ltb-true, ltb-false, lt-ltb, le-ltb, le-leb}
use Rattle.std.proofs.Math.Bool.{and-true, and_assoc}
use Rattle.std.specs.List.{fold}
use Rattle.std.specs.Int.Bits.{bit_or}
use Rattle.std.proofs.Math.Seq.{drop-cons}
use Rattle.std.specs.Int.Signed.{lt_z, non_neg}
use Rattle.laws_stream.specs.Machine.{and_both}
use Rattle.evt_types.specs.declared.{Encoding.Encoding, Encoding.TheVariants.Evt2, Encoding.TheVariants.Evt21, Encoding.TheVariants.Evt3, Refusal.Refusal}
use Rattle.evt_types.specs.declared.Refusal.TheVariants.{EventOutOfRange}
use Rattle.std.specs.Prelude.{Option, Some, None, Result, Ok, Err}
use Rattle.evt_types.specs.{Outcome.Outcome, Outcome.refuse, Outcome.give, Outcome.given_if, Num.natural}
use Rattle.write_buffer.specs.{declared.EncoderState.EncoderState, Columns.Sized, Columns.Whole, Every.or_most}
use Rattle.write_rules.specs.declared.{RawEventSink.RawEventSink}
use Rattle.write_rules.specs.Range.{time_bound, time_in_range, every, at_most, events_in_range, falls, falls_after, same_lengths}
use Rattle.write_rules.specs.Range.{grain_of, sink_not_before, held_in_range, last_in_range, sink_in_range}
use Rattle.write_rules.specs.Rules.{lengths_outcome, check_outcome, check_of}

pub or_neither : (a b : Bool) → (a || b) ≡ false → (a ≡ false) × (b ≡ false)
or_neither true b h = absurd (true≢false h)
or_neither false b h = (refl, h)

-- ---- a column whose elements are gathered by `|`: all are below a power of two where the result is

gathered_from : (k most a : ℕ) (xs : List ℕ) → suc most ≡ 2 ^ k → leb (fold bit_or a xs) most ≡ (leb a most && every (at_most most) xs)
unfolding every
gathered_from k most a [] e = sym (and-true (leb a most))
gathered_from k most a (x ∷ xs) e =
    gathered_from k most (bit_or a x) xs e ∙ rw (or_most k most a x e) (and_assoc (leb a most) (leb x most) (every (at_most most) xs))

pub gathered : (k most : ℕ) (xs : List ℕ) → suc most ≡ 2 ^ k → leb (fold bit_or 0 xs) most ≡ every (at_most most) xs
gathered k most xs e = gathered_from k most 0 xs e ∙ rw (le-leb 0 most (omega arith)) refl

-- ---- times that don't fall

module _ (ts : List ℤ) where
  falls_at : (from : ℤ) (i : ℕ) → i < length ts → falls from (drop i ts) ≡ (lt_z (get_or ts i (pos 0)) from || falls (get_or ts i (pos 0)) (drop (i + 1) ts))
  unfolding falls
  falls_at from i h = rw (add-one, drop-cons ts i (pos 0) h)

  pub falls_yes : (from : ℤ) (i : ℕ) → i < length ts → lt_z (get_or ts i (pos 0)) from ≡ true → falls from (drop i ts) ≡ true
  falls_yes from i h e = falls_at from i h ∙ rw e

  pub falls_no : (from : ℤ) (i : ℕ) → i < length ts → lt_z (get_or ts i (pos 0)) from ≡ false
      → falls from (drop i ts) ≡ falls (get_or ts i (pos 0)) (drop (i + 1) ts)
  falls_no from i h e = falls_at from i h ∙ rw e

  pub falls-end : (from : ℤ) (i : ℕ) → length ts ≤ i → falls from (drop i ts) ≡ false
  unfolding falls
  falls-end from i h = rw (drop_of_length-le ts h)

lt_z_self : (t : ℤ) → lt_z t t ≡ false
lt_z_self (pos n) = le-ltb n n (omega arith)
lt_z_self (negsuc n) = le-ltb n n (omega arith)

-- the first is never before itself
pub falls-first : (ts : List ℤ) → falls (get_or ts 0 (pos 0)) ts ≡ falls_after None ts
unfolding falls
falls-first [] = refl
falls-first (t ∷ ts) = rw (lt_z_self t)

pub falls_never : (l : Option ℤ) (ts : List ℤ) → falls_after l ts ≡ false → falls_after None ts ≡ false
unfolding falls
falls_never None ts h = h
falls_never (Some t) [] h = refl
falls_never (Some t) (u ∷ ts) h = (or_neither (lt_z u t) (falls u ts) h).1

abbrev pub last_of : ℤ → List ℤ → ℤ
last_of t ts = get_or (t ∷ ts) (length ts) (pos 0)

-- the last is not before the first
last-late : (b : ℕ) (ts : List ℤ) → falls (pos b) ts ≡ false → b ≤ natural (last_of (pos b) ts)
unfolding falls
last-late b [] h = omega arith
last-late b (pos m ∷ ts) h =
    let g = or_neither (ltb m b) (falls (pos m) ts) h in
    omega (arith, ltb-false m b g.0, last-late m ts g.1)
last-late b (negsuc m ∷ ts) h = absurd (true≢false h)

between_fine : (t u : ℤ) (ts : List ℤ) → lt_z u t ≡ false → falls u ts ≡ false → time_in_range t ≡ true → time_in_range (last_of u ts) ≡ true
    → time_in_range u ≡ true
between_fine (negsuc a) u ts h f p q = absurd (true≢false (sym p))
between_fine (pos a) (negsuc b) ts h f p q = absurd (true≢false h)
between_fine (pos a) (pos b) ts h f p q =
    let last = and_both (non_neg (last_of (pos b) ts)) (ltb (natural (last_of (pos b) ts)) time_bound) q in
    lt-ltb b time_bound (omega (arith, last-late b ts f, ltb-true (natural (last_of (pos b) ts)) time_bound last.1))

middle : (a b c : Bool) → (a ≡ true → c ≡ true → b ≡ true) → (a && (b && c)) ≡ (a && c)
middle false b c h = refl
middle true b true h = rw (h refl refl)
middle true true false h = refl
middle true false false h = refl

twice : (a : Bool) → (a && true) ≡ (a && a)
twice true = refl
twice false = refl

ends_go : (t : ℤ) (ts : List ℤ) → falls t ts ≡ false → every time_in_range (t ∷ ts) ≡ (time_in_range t && time_in_range (last_of t ts))
unfolding falls every
ends_go t [] h = twice (time_in_range t)
ends_go t (u ∷ ts) h =
    let g = or_neither (lt_z u t) (falls u ts) h in
    ap (λ (b : Bool). time_in_range t && b) (ends_go u ts g.1)
    ∙ middle (time_in_range t) (time_in_range u) (time_in_range (last_of u ts)) (between_fine t u ts g.0 g.1)

-- of times in order the first and the last tell
pub times_ends : (ts : List ℤ) → 0 < length ts → falls_after None ts ≡ false
    → (time_in_range (get_or ts 0 (pos 0)) && time_in_range (get_or ts (length ts - 1) (pos 0))) ≡ every time_in_range ts
times_ends [] h f = absurd (omega arith)
times_ends (t ∷ ts) h f = let n : suc (length ts) - 1 ≡ length ts = omega arith in rw n (sym (ends_go t ts f))

pub every_none : {A : Type 0} (f : A → Bool) (l : List A) → length l ≤ 0 → every f l ≡ true
unfolding every
every_none f [] h = refl
every_none f (a ∷ l) h = absurd (omega arith)

every-at : {A : Type 0} (f : A → Bool) (d : A) (l : List A) → f d ≡ true → every f l ≡ true → (i : ℕ) → f (get_or l i d) ≡ true
unfolding every
every-at f d [] e h i = e
every-at f d (a ∷ l) e h zero = (and_both (f a) (every f l) h).0
every-at f d (a ∷ l) e h (suc i) = every-at f d l e (and_both (f a) (every f l) h).1 i

-- rule 7 for one event
pub record EventFine (x y : ℕ) (t : ℤ) (p : ℕ) : Type 0 where
  pub fine_x : x ≤ 2047
  pub fine_y : y ≤ 2047
  pub fine_p : p ≤ 1
  pub whole : non_neg t ≡ true
  pub fine_t : natural t < time_bound

pub event_fine : (xs ys : List ℕ) (ts : List ℤ) (ps : List ℕ) → events_in_range xs ys ts ps ≡ true → (i : ℕ)
    → EventFine (get_or xs i 0) (get_or ys i 0) (get_or ts i (pos 0)) (get_or ps i 0)
event_fine xs ys ts ps h i =
    let a = and_both (every (at_most 2047) xs) _ h in
    let b = and_both (every (at_most 2047) ys) _ a.1 in
    let c = and_both (every (at_most 1) ps) _ b.1 in
    let t = get_or ts i (pos 0) in
    let d = and_both (non_neg t) (ltb (natural t) time_bound) (every-at time_in_range (pos 0) ts refl c.1 i) in
    record {
      fine_x = leb-true (get_or xs i 0) 2047 (every-at (at_most 2047) 0 xs refl a.0 i);
      fine_y = leb-true (get_or ys i 0) 2047 (every-at (at_most 2047) 0 ys refl b.0 i);
      fine_p = leb-true (get_or ps i 0) 1 (every-at (at_most 1) 0 ps refl c.0 i);
      whole = d.0;
      fine_t = ltb-true (natural t) time_bound d.1;
    }

-- ---- what a check says of its outcome

pub check_given : (o : Outcome Unit) → check_of o ≡ (Ok tt) → o ≡ give tt
check_given (refuse r) e = let no : ◌≡◌ {A = ℕ} 0 1 = cc in absurd (omega arith)
check_given (give u) e = refl

pub check_refused : (o : Outcome Unit) (r : Refusal) → check_of o ≡ Err r → o ≡ refuse r
check_refused (refuse q) r e = cc
check_refused (give u) r e = let no : ◌≡◌ {A = ℕ} 0 1 = cc in absurd (omega arith)

-- ---- what the check of the lengths says

abbrev pub lengths : (xs ys : List ℕ) (ts : List ℤ) (ps : List ℕ) → Outcome Unit
lengths xs ys ts ps = lengths_outcome (length xs) (length ys) (length ts) (length ps)

module _ (xs ys : List ℕ) (ts : List ℤ) (ps : List ℕ) (c : Result (Unit {0}) Refusal) (is : c ≡ check_of (lengths xs ys ts ps)) where
  pub lengths-passed : c ≡ (Ok tt) → (same_lengths (length xs) (length ys) (length ts) (length ps) ≡ true) × (leb (length xs) (2 ^ 28) ≡ true)
  lengths-passed h =
      let a = given_if tt (same_lengths (length xs) (length ys) (length ts) (length ps)) _ _ (check_given (lengths xs ys ts ps) (sym is ∙ h)) in
      (a.0, (given_if tt (leb (length xs) (2 ^ 28)) _ _ a.1).0)

  -- what they refuse is refused
  pub lengths_failed : (s : RawEventSink) → sink_in_range s ≡ true → (why : Refusal) → c ≡ Err why → c ≡ check_of (check_outcome s xs ys ts ps)
  lengths_failed s r why h = h ∙ rw (r, check_refused (lengths xs ys ts ps) why (sym is ∙ h))

  -- behind them, and where no time falls, the events decide
  pub events_decide : (s : RawEventSink) → sink_in_range s ≡ true → c ≡ (Ok tt) → falls_after (sink_not_before s) ts ≡ false
      → (b : Bool) → b ≡ events_in_range xs ys ts ps → check_of (cond b (give tt) (refuse EventOutOfRange)) ≡ check_of (check_outcome s xs ys ts ps)
  events_decide s r h d b e = let l = lengths-passed h in rw (r, l.0, l.1, d, e)

-- ---- a high half that is held without a last time

pub held-bound : (e : Encoding) (h : ℕ) → held_in_range e (Some h) ≡ true → h * grain_of e < 2 ^ 34
held-bound e h r = ltb-true (h * grain_of e) time_bound r

module _ (a b c d : ℕ) (below : a < b → c < d) (above : b ≤ a → d ≤ c) where
  same_go : (x : Bool) → ltb a b ≡ x → ltb a b ≡ ltb c d
  same_go true h = h ∙ sym (lt-ltb c d (below (ltb-true a b h)))
  same_go false h = h ∙ sym (le-ltb c d (above (ltb-false a b h)))

  same_test : ltb a b ≡ ltb c d
  same_test = same_go (ltb a b) refl

-- its bound without a product
pub held_as : (e : Encoding) (h : ℕ) → ltb h (time_bound / grain_of e) ≡ held_in_range e (Some h)
held_as Evt2 h = same_test h (time_bound / grain_of Evt2) (h * grain_of Evt2) time_bound (λ l. omega arith) (λ l. omega arith)
held_as Evt21 h = same_test h (time_bound / grain_of Evt21) (h * grain_of Evt21) time_bound (λ l. omega arith) (λ l. omega arith)
held_as Evt3 h = same_test h (time_bound / grain_of Evt3) (h * grain_of Evt3) time_bound (λ l. omega arith) (λ l. omega arith)

pub grain_some : (e : Encoding) → 0 < grain_of e
grain_some Evt2 = omega arith
grain_some Evt21 = omega arith
grain_some Evt3 = omega arith

pub held_of : (e : Encoding) (v : EncoderState) (n : ℕ) (l : Option ℤ) → last_in_range e v n l ≡ true → l ≡ None → held_in_range e v.time_high ≡ true
held_of e v n None h is = (and_both (held_in_range e v.time_high) _ h).0
held_of e v n (Some t) h is = let no : ◌≡◌ {A = ℕ} 0 1 = cc in absurd (omega arith)

-- ---- what a check that is passed says

pub sized_of : (xs ys : List ℕ) (ts : List ℤ) (ps : List ℕ) → same_lengths (length xs) (length ys) (length ts) (length ps) ≡ true
    → length xs ≤ 2 ^ 28 → Sized xs ys ts ps
sized_of xs ys ts ps h f =
    let a = and_both _ _ h in
    let b = and_both _ _ a.1 in
    record {
      few = f;
      same-y = eqb-true (length ys) (length xs) a.0;
      same-t = eqb-true (length ts) (length xs) b.0;
      same_p = eqb-true (length ps) (length xs) b.1;
    }

-- a writer in range, and columns that it can be given
pub record Checked (s : RawEventSink) (xs ys : List ℕ) (ts : List ℤ) (ps : List ℕ) : Type 0 where
  pub in_range_lem : sink_in_range s ≡ true
  pub count : s.n_events ≤ 2 ^ 62
  pub sized : Sized xs ys ts ps
  pub whole : Whole ts
  pub rising : falls_after (sink_not_before s) ts ≡ false
  pub events : events_in_range xs ys ts ps ≡ true

-- ---- a time, by its sign

pub time_early : (t : ℤ) → lt_z t (pos 0) ≡ true → false ≡ time_in_range t
time_early (pos n) h = absurd (omega (arith, ltb-true n 0 h))
time_early (negsuc n) h = refl

pub time_late : (t : ℤ) → lt_z t (pos 0) ≡ false → ltb (natural t) time_bound ≡ time_in_range t
time_late (pos n) h = refl
time_late (negsuc n) h = absurd (true≢false h)
