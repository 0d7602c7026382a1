-- EVT3: where runs end, as the bits of a number.
use Rattle.std.specs.Prelude.{◌≡◌, Bool, cond, List, ltb, eqb, ℤ, pos, length, get_or}
use Rattle.std.proofs.Math.Path.{refl}
use Rattle.std.proofs.Common.{sym, ap, ◌∙◌, add-zero, zero-add, suc-add, pow-suc, shr-shr, lt-ltb, le-ltb, ltb-true, ltb-false, eq-eqb, ne_eqb}
use Rattle.std.proofs.Math.Bool.{true, false}
use Prim.Native.Nat.{ℕ, zero, suc, ◌+◌, ◌-◌, ◌*◌, ◌/◌, ◌%◌, ◌^◌, ◌≤◌, ◌<◌}
use native.Mathlib.Omega.{arith}
use Rattle.std.proofs.Math.Nat.{pow-le-pow_right}
use Rattle.std.specs.Int.Count.{under, count_trailing_zeros}
use Rattle.laws_stream.specs.Mask.{trailing_lt}
use Rattle.evt_types.specs.{Event.Event, Num.natural}
use Rattle.evt3_run_rules.specs.{declared.Found.Found, Runs.goes, Runs.goes-true, Runs.follow, Runs.follow_by}
use Rattle.write_buffer.specs.Columns.{Sized, event_of, events_past, events-at, events-end}

-- the second event goes on the run of the first
abbrev pub joins : Event → Event → Bool
joins a b = goes a.t a.y a.p a.x b

abbrev pub time_at : List ℤ → ℕ → ℕ
time_at ts i = natural (get_or ts i (pos 0))

abbrev pub stop_if : (more joined : Bool) → ℕ
stop_if more joined = cond more (cond joined 0 1) 1

stop_as : (b c : Bool) → stop_if b c ≤ 1
stop_as true true = omega arith
stop_as true false = omega arith
stop_as false c = omega arith

module _ (xs ys : List ℕ) (ts : List ℤ) (ps : List ℕ) where
  -- how many events go on the run that starts at i
  abbrev pub go_on : ℕ → ℕ
  go_on i = let a = event_of xs ys ts ps i in follow a.t a.y a.p a.x (events_past xs ys ts ps (i + 1))

  -- the event after i goes on the run of i
  abbrev pub joins_next : ℕ → Bool
  joins_next i = joins (event_of xs ys ts ps i) (event_of xs ys ts ps (i + 1))

  -- 1 where the event after i doesn't go on its run, or there is none
  abbrev pub stop_at : ℕ → ℕ
  stop_at i = stop_if (ltb (i + 1) (length xs)) (joins (event_of xs ys ts ps i) (event_of xs ys ts ps (i + 1)))

  -- k of these from i on, the first the lowest bit
  unfoldable pub marks : (k i : ℕ) → ℕ
  marks zero i = 0
  marks (suc k) i = stop_at i + 2 * marks k (i + 1)

  -- 63, or those that are left
  abbrev pub marks_left : ℕ → ℕ
  marks_left i = cond (ltb (i + 63) (length xs)) 63 (length xs - i)

  abbrev pub marks_from : ℕ → ℕ
  marks_from i = marks (marks_left i) i

  -- some of the marks from i on
  pub record Marked (i mask : ℕ) : Type 0 where
    pub k : ℕ
    pub few : k ≤ 63
    pub is : mask ≡ marks k i

  -- the end of the run at i, and marks from there on
  pub record Finds (i : ℕ) (r : Found) : Type 0 where
    pub is_end_lem : r.end ≡ i + 1 + go_on i
    pub marked : Marked r.end r.mask

  -- ---- laws

  pub stop_le : (i : ℕ) → stop_at i ≤ 1
  stop_le i = stop_as (ltb (i + 1) (length xs)) (joins (event_of xs ys ts ps i) (event_of xs ys ts ps (i + 1)))

  stop_inside : (i : ℕ) → stop_at i ≡ 0 → i + 1 < length xs
  stop_inside i = go (ltb (i + 1) (length xs)) refl
    where
      go : (b : Bool) → ltb (i + 1) (length xs) ≡ b → stop_if b (joins (event_of xs ys ts ps i) (event_of xs ys ts ps (i + 1))) ≡ 0 → i + 1 < length xs
      go true q e = ltb-true (i + 1) (length xs) q
      go false q e = absurd (omega arith)

  pub stop_is : (k : ℕ) (c : Bool) → k + 1 < length xs → joins (event_of xs ys ts ps k) (event_of xs ys ts ps (k + 1)) ≡ c → cond c 0 1 ≡ stop_at k
  stop_is k c h e = rw (lt-ltb (k + 1) (length xs) h, e)

  pub marks_none : (i : ℕ) → marks 0 i ≡ 0
  unfolding marks
  marks_none i = refl

  pub marks-some : (k i : ℕ) → marks (suc k) i ≡ stop_at i + 2 * marks k (i + 1)
  unfolding marks
  marks-some k i = refl

  -- none is known
  pub marks_start : Marked 0 0
  marks_start = record { k = 0; few = omega arith; is = sym (marks_none 0) }

  pub marks-lt : (k i : ℕ) → marks k i < 2 ^ k
  marks-lt zero i = omega (arith, marks_none i)
  marks-lt (suc k) i = rw (marks-some k i, pow-suc) (omega (arith, marks-lt k (i + 1), stop_le i))

  -- from n further on
  marks_shift : (n k i : ℕ) → marks (n + k) i / 2 ^ n ≡ marks k (i + n)
  marks_shift zero k i = rw (zero-add, add-zero) (omega arith)
  marks_shift (suc n) k i =
      let m = marks (n + k) (i + 1) in
      let half : (stop_at i + 2 * m) / 2 ≡ m = omega (arith, stop_le i) in
      let to : i + 1 + n ≡ i + suc n = omega arith in
      let pow = ap (λ (e : ℕ). (stop_at i + 2 * m) / 2 ^ e) (let e : suc n ≡ 1 + n = omega arith in e) in
      rw (suc-add, marks-some (n + k) i) (pow ∙ sym (shr-shr (stop_at i + 2 * m) 1 n) ∙ rw half (marks_shift n k (i + 1) ∙ rw to))

  -- ---- the marks found one by one, the last first

  pub record Gathering (i j mask : ℕ) : Type 0 where
    pub above : i ≤ j
    pub inside : j < length xs
    pub below : j ≤ i + marks_left i
    pub is_mask : mask ≡ marks (i + marks_left i - j) j

  pub left_full : (i : ℕ) → i + 63 < length xs → marks_left i ≡ 63
  left_full i h = rw (lt-ltb (i + 63) (length xs) h)

  left-rest : (i : ℕ) → length xs ≤ i + 63 → marks_left i ≡ length xs - i
  left-rest i h = rw (le-ltb (i + 63) (length xs) h)

  pub left_few : (i : ℕ) → marks_left i ≤ 63
  left_few i = go (ltb (i + 63) (length xs)) refl
    where
      go : (b : Bool) → ltb (i + 63) (length xs) ≡ b → cond b 63 (length xs - i) ≤ 63
      go true q = omega arith
      go false q = omega (arith, ltb-false (i + 63) (length xs) q)

  pub gather_full : (i : ℕ) → i + 63 < length xs → Gathering i (i + 63) 0
  gather_full i h =
      let f = left_full i h in
      let z : i + 63 - (i + 63) ≡ 0 = omega arith in
      record { above = omega arith; inside = h; below = omega arith; is_mask = rw (f, z) (sym (marks_none (i + 63))) }

  pub gather_rest : (i : ℕ) → i < length xs → length xs ≤ i + 63 → Gathering i (length xs - 1) 1
  gather_rest i h k =
      let f = left-rest i k in
      let one : i + (length xs - i) - (length xs - 1) ≡ 1 = omega arith in
      let last : stop_at (length xs - 1) ≡ 1 = rw (le-ltb (length xs - 1 + 1) (length xs) (omega arith)) in
      record {
        above = omega arith;
        inside = omega arith;
        below = omega arith;
        is_mask = rw (f, one) (sym (marks-some 0 (length xs - 1) ∙ rw (last, marks_none)));
      }

  module _ {i j mask : ℕ} (g : Gathering i j mask) where
    pub gather_small : mask < 2 ^ 63
    gather_small =
        let n = i + marks_left i - j in
        let le : 2 ^ n ≤ 2 ^ 63 = pow-le-pow_right (omega arith) {j = 63} (omega (arith, left_few i, g.above)) in
        omega (arith, g.is_mask, marks-lt n j)

    pub gather_iteration : i < j → (s : ℕ) → s ≡ stop_at (j - 1) → Gathering i (j - 1) (2 * mask + s)
    gather_iteration h s e =
        let n : i + marks_left i - (j - 1) ≡ suc (i + marks_left i - j) = omega (arith, g.below) in
        let up : j - 1 + 1 ≡ j = omega arith in
        let next = ap (marks (i + marks_left i - j)) up in
        record {
          above = omega arith;
          inside = omega (arith, g.inside);
          below = omega (arith, g.below);
          is_mask = rw n (sym (marks-some (i + marks_left i - j) (j - 1) ∙ omega (arith, next, g.is_mask, e)));
        }

    pub gather_end : j ≤ i → mask ≡ marks_from i
    gather_end h =
        let e : j ≡ i = omega (arith, g.above) in
        let n : i + marks_left i - i ≡ marks_left i = omega arith in
        g.is_mask ∙ rw (e, n)

  -- ---- the search for the end of a run

  -- from j on it goes on as from i on
  pub record Along (i j : ℕ) : Type 0 where
    pub inside : j < length xs
    pub further : i ≤ j
    pub same : j + go_on j ≡ i + go_on i

  pub along_start : (i : ℕ) → i < length xs → Along i i
  along_start i h = record { inside = h; further = omega arith; same = refl }

  pub record Seeking (i j m : ℕ) : Type 0 where
    pub along : Along i j
    pub marked : Marked j m

  -- falls with each iteration
  abbrev pub seek_left : (j m : ℕ) → ℕ
  seek_left j m = length xs - j + cond (eqb m 0) 1 0

  left_le : (b : Bool) → cond b 1 0 ≤ 1
  left_le true = omega arith
  left_le false = omega arith

  pub seek_less : (j k m m' : ℕ) → j < length xs → m ≡ 0 → Along (j + 63) k → seek_left k m' < seek_left j m
  seek_less j k m m' h e a = rw (eq-eqb m 0 e) (omega (arith, left_le (eqb m' 0), a.further))

  pub seek_done : (j m m' : ℕ) → m ≡ 0 → (m' ≡ 0 → ⊥) → seek_left j m' < seek_left j m
  seek_done j m m' e n = rw (eq-eqb m 0 e, ne_eqb m' 0 n) (omega arith)

  pub marked_few : {j m : ℕ} → Marked j m → 0 < m → count_trailing_zeros 64 m < 63
  marked_few {j} {m} k p =
      let small : 2 ^ k.k ≤ 2 ^ 63 = pow-le-pow_right (omega arith) {j = 63} k.few in
      let lt : m < 2 ^ 63 = omega (arith, marks-lt k.k j, k.is) in
      trailing_lt 64 63 m p lt (omega arith)

  module _ (sized : Sized xs ys ts ps) where
    -- the event after i tells whether the run at i goes on
    go_is : (b c : Bool) (i : ℕ) → ltb (i + 1) (length xs) ≡ b → joins (event_of xs ys ts ps i) (event_of xs ys ts ps (i + 1)) ≡ c
        → go_on i ≡ under (stop_if b c) (go_on (i + 1))
    unfolding follow_by
    go_is true true i p q =
        let g = goes-true _ _ _ _ (event_of xs ys ts ps (i + 1)) q in
        rw (events-at xs ys ts ps sized (i + 1) (ltb-true (i + 1) (length xs) p), q, g.is_t, g.is_y, g.is_p)
    go_is true false i p q = rw (events-at xs ys ts ps sized (i + 1) (ltb-true (i + 1) (length xs) p), q)
    go_is false c i p q = rw (events-end xs ys ts ps sized (i + 1) (ltb-false (i + 1) (length xs) p))

    pub goes_on : (i : ℕ) → go_on i ≡ under (stop_at i) (go_on (i + 1))
    goes_on i = go_is (ltb (i + 1) (length xs)) (joins (event_of xs ys ts ps i) (event_of xs ys ts ps (i + 1))) i refl refl

    -- the lowest bit that is set
    trailing_as : (s m g w : ℕ) → s ≤ 1 → 0 < s + 2 * m → (0 < m → count_trailing_zeros w m ≡ g) → count_trailing_zeros (suc w) (s + 2 * m) ≡ under s g
    unfolding count_trailing_zeros
    trailing_as zero m g w h p e =
        let r : (0 + 2 * m) % 2 ≡ 0 = omega arith in
        let d : (0 + 2 * m) / 2 ≡ m = omega arith in
        rw (r, d) (ap suc (e (omega arith)))
    trailing_as (suc zero) m g w h p e = let r : (1 + 2 * m) % 2 ≡ 1 = omega arith in rw r
    trailing_as (suc (suc s)) m g w h p e = absurd (omega arith)

    pub marks_trailing : (k w i : ℕ) → k ≤ w → 0 < marks k i → count_trailing_zeros w (marks k i) ≡ go_on i
    marks_trailing zero w i h p = absurd (omega (arith, marks_none i))
    marks_trailing (suc k) zero i h p = absurd (omega arith)
    marks_trailing (suc k) (suc w) i h p =
        let rest = trailing_as (stop_at i) (marks k (i + 1)) (go_on (i + 1)) w (stop_le i) in
        rw (marks-some k i) (rest (rw (marks-some k i) at p) (λ q. marks_trailing k w (i + 1) (omega arith) q) ∙ sym (goes_on i))

    -- no bit is set: the run goes on for as many events
    pub marks_pass : (k i : ℕ) → i < length xs → marks k i ≡ 0 → (i + go_on i ≡ i + k + go_on (i + k)) × (i + k < length xs)
    marks_pass zero i h e = rw add-zero (refl, h)
    marks_pass (suc k) i h e =
        let none : stop_at i + 2 * marks k (i + 1) ≡ 0 = sym (marks-some k i) ∙ e in
        let s : stop_at i ≡ 0 = omega arith in
        let g : go_on i ≡ suc (go_on (i + 1)) = goes_on i ∙ ap (λ (d : ℕ). under d (go_on (i + 1))) s in
        let ih = marks_pass k (i + 1) (stop_inside i s) (omega arith) in
        let to : i + suc k ≡ i + 1 + k = omega arith in
        rw to (omega (arith, ih.0), ih.1)

    pub seek_start : (i m : ℕ) → i < length xs → Marked i m → Seeking i i m
    seek_start i m h k = record { along = along_start i h; marked = k }

    module _ {i j m : ℕ} (s : Seeking i j m) (m' : ℕ) (is : m' ≡ marks_from j) where
      pub seek_found : Seeking i j m'
      seek_found = record { along = s.along; marked = record { k = marks_left j; few = left_few j; is = is } }

      module _ (z : m' ≡ 0) where
        -- no end is among 63 events
        pub seek_along : Along j (j + 63)
        seek_along =
            let p = marks_pass (marks_left j) j s.along.inside (sym is ∙ z) in
            let full : marks_left j ≡ 63 = go (ltb (j + 63) (length xs)) refl p.1 in
            record { inside = omega (arith, full, p.1); further = omega arith; same = sym (rw full at p.0) }
          where
            go : (b : Bool) → ltb (j + 63) (length xs) ≡ b → j + cond b 63 (length xs - j) < length xs → cond b 63 (length xs - j) ≡ 63
            go true q h = refl
            go false q h = absurd (omega arith)

        pub seek_next : (k : ℕ) → Along (j + 63) k → Seeking i k m'
        seek_next k a = record {
          along = record { inside = a.inside; further = omega (arith, a.further, s.along.further); same = a.same ∙ seek_along.same ∙ s.along.same };
          marked = record { k = 0; few = omega arith; is = z ∙ sym (marks_none k) };
        }

    pub seek_end : {i j m : ℕ} → Seeking i j m → 0 < m → (r : Found) → r.end ≡ j + 1 + count_trailing_zeros 64 m → r.mask ≡ m / 2 ^ count_trailing_zeros 64 m / 2
        → Finds i r
    seek_end {i} {j} {m} s p r e f =
        let k = s.marked.k in
        let is = s.marked.is in
        let z : count_trailing_zeros 64 m ≡ go_on j = rw is (marks_trailing k 64 j (omega (arith, s.marked.few)) (rw is at p)) in
        let small : 2 ^ k ≤ 2 ^ 63 = pow-le-pow_right (omega arith) {j = 63} s.marked.few in
        let lt : count_trailing_zeros 64 m < k = trailing_lt 64 k m p (rw is (marks-lt k j)) (omega (arith, marks-lt k j, is)) in
        let n = k - (go_on j + 1) in
        let all : k ≡ go_on j + suc n = omega (arith, z) in
        let rest : m / 2 ^ go_on j ≡ marks (suc n) (j + go_on j) = rw is (ap (λ (l : ℕ). marks l j / 2 ^ go_on j) all ∙ marks_shift (go_on j) (suc n) j) in
        let next : m / 2 ^ go_on j / 2 ≡ marks n (j + go_on j + 1) = rw (rest, marks-some n (j + go_on j)) (omega (arith, stop_le (j + go_on j))) in
        let to : r.end ≡ j + go_on j + 1 = omega (arith, e, z) in
        record {
          is_end_lem = omega (arith, to, s.along.same);
          marked = record { k = n; few = omega (arith, s.marked.few); is = f ∙ rw (z, to) next };
        }
