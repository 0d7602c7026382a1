-- The binary search finds the record that a slice starts at.
use Rattle.std.specs.Prelude.{◌≡◌, ℕ, zero, suc, ◌+◌, ◌-◌, ◌<◌, ◌≤◌, Bool, true, false, cond, List, [], ◌∷◌, length, nat_lt}
use Rattle.std.proofs.Math.Path.{refl}
use Rattle.std.proofs.Common.{sym, ap, ◌∙◌, true≢false, not-suc-le-zero, le_of_suc-le-suc, arith, ltb-true, ltb-false, lt-ltb, le-ltb}
use Rattle.laws_stream.specs.Machine.{All}
use Rattle.index_build.specs.{declared.Checkpoint.Checkpoint, Nth.nth, Nth.blank}
use Rattle.index_records.specs.{declared.Choice.Choice, Start.Parted, Start.last_passing, Choose.passes_of, Choose.Chose}
use Rattle.index_records.specs.BinarySearch.{middle_of, parting, chosen_of}

-- ---- records that are parted

module _ (p : Checkpoint → Bool) where
  all-at : (l : List Checkpoint) → All (λ d. p d ≡ false) l → (i : ℕ) → i < length l → p (nth l i) ≡ false
  all-at [] a i h = absurd (not-suc-le-zero h)
  all-at (c ∷ cs) a zero h = a.0
  all-at (c ∷ cs) a (suc i) h = all-at cs a.1 i (le_of_suc-le-suc h)

  parted-at : (l : List Checkpoint) → Parted p l → (i j : ℕ) → i ≤ j → j < length l → p (nth l i) ≡ false → p (nth l j) ≡ false
  parted-at [] a i j o h e = absurd (not-suc-le-zero h)
  parted-at (c ∷ cs) a zero zero o h e = e
  parted-at (c ∷ cs) a zero (suc j) o h e = all-at cs (a.0 e) j (le_of_suc-le-suc h)
  parted-at (c ∷ cs) a (suc i) zero o h e = absurd (not-suc-le-zero o)
  parted-at (c ∷ cs) a (suc i) (suc j) o h e = parted-at cs a.1 i j (le_of_suc-le-suc o) (le_of_suc-le-suc h) e

  -- the first k pass and no more
  last-at : (c : Checkpoint) (l : List Checkpoint) (k : ℕ) → k ≤ length l → ((i : ℕ) → i < k → p (nth l i) ≡ true)
      → ((i : ℕ) → k ≤ i → i < length l → p (nth l i) ≡ false) → last_passing p c l ≡ nth (c ∷ l) k
  last-at c [] zero h f g = refl
  last-at c [] (suc k) h f g = absurd (not-suc-le-zero h)
  last-at c (d ∷ ds) zero h f g =
      ap (λ (b : Bool). last_passing p (cond b d c) ds) (g 0 (omega arith) (omega arith))
      ∙ last-at c ds zero (omega arith) (λ i l. absurd (not-suc-le-zero l)) (λ i a b. g (suc i) (omega arith) (omega arith))
  last-at c (d ∷ ds) (suc k) h f g =
      ap (λ (b : Bool). last_passing p (cond b d c) ds) (f 0 (omega arith))
      ∙ last-at d ds k (le_of_suc-le-suc h) (λ i l. f (suc i) (omega arith)) (λ i a b. g (suc i) (omega arith) (omega arith))

-- ---- between lo and hi it isn't known which pass

pub record Bracket (p : Checkpoint → Bool) (l : List Checkpoint) (lo hi : ℕ) : Type 0 where
  pub order : lo ≤ hi
  pub within : hi ≤ length l
  pub front : Parted p l → (i : ℕ) → i < lo → p (nth l i) ≡ true
  pub back : Parted p l → (i : ℕ) → hi ≤ i → i < length l → p (nth l i) ≡ false

module _ (p : Checkpoint → Bool) where
  bracket_start : (l : List Checkpoint) → Bracket p l 0 (length l)
  bracket_start l = record {
    order = omega arith;
    within = omega arith;
    front = λ h i a. absurd (not-suc-le-zero a);
    back = λ h i a b. absurd (none i a b);
  }
    where
      none : (i : ℕ) → length l ≤ i → i < length l → ⊥
      none i a b = omega arith

  -- both ends have met
  bracket_end : (c : Checkpoint) (cs : List Checkpoint) (lo hi : ℕ) → Bracket p (c ∷ cs) lo hi → hi ≤ lo → Parted p (c ∷ cs)
      → nth (c ∷ cs) (lo - 1) ≡ last_passing p c cs
  bracket_end c cs zero hi w m h =
      sym (last-at p c cs zero (omega arith) (λ i l. absurd (not-suc-le-zero l)) (λ i a b. w.back h (suc i) (omega arith) (omega arith)))
  bracket_end c cs (suc k) hi w m h =
      let before : suc k - 1 ≡ k = omega arith in
      ap (nth (c ∷ cs)) before
      ∙ sym (last-at p c cs k (omega (arith, w.order, w.within)) (λ i l. w.front h (suc i) (omega arith))
      (λ i a b. w.back h (suc i) (omega arith) (omega arith)))

  module _ (l : List Checkpoint) (lo hi : ℕ) (w : Bracket p l lo hi) (some : lo < hi) where
    bracket_up : p (nth l (middle_of lo hi)) ≡ true → Bracket p l (middle_of lo hi + 1) hi
    bracket_up e = record {
      order = omega arith;
      within = w.within;
      front = λ h i a. go h i a (p (nth l i)) refl;
      back = w.back;
    }
      where
        go : Parted p l → (i : ℕ) → i < middle_of lo hi + 1 → (b : Bool) → p (nth l i) ≡ b → p (nth l i) ≡ true
        go h i a true q = q
        go h i a false q = absurd (true≢false (sym e ∙ parted-at p l h i (middle_of lo hi) (omega arith) (omega (arith, w.within)) q))

    bracket_down : p (nth l (middle_of lo hi)) ≡ false → Bracket p l lo (middle_of lo hi)
    bracket_down e = record {
      order = omega arith;
      within = omega (arith, w.within);
      front = w.front;
      back = λ h i a b. parted-at p l h (middle_of lo hi) i a b e;
    }

-- ---- the search

module _ (asked : Choice) (l : List Checkpoint) where
  abbrev ok : Checkpoint → Bool
  ok = passes_of asked

  -- a search that may take that long takes no longer
  enough : (m k lo hi : ℕ) → hi - lo ≤ m → hi - lo ≤ k → parting asked l m lo hi ≡ parting asked l k lo hi
  enough zero zero lo hi a b = refl
  enough zero (suc k) lo hi a b = rw (le-ltb lo hi (omega (arith, a)))
  enough (suc m) zero lo hi a b = rw (le-ltb lo hi (omega (arith, b)))
  enough (suc m) (suc k) lo hi a b =
      go (nat_lt lo hi) refl (ok (nth l (middle_of lo hi)))
      (λ h. enough m k (middle_of lo hi + 1) hi (omega arith) (omega arith))
      (λ h. enough m k lo (middle_of lo hi) (omega arith) (omega arith))
    where
      go : (t : Bool) → nat_lt lo hi ≡ t → (v : Bool)
          → (lo < hi → parting asked l m (middle_of lo hi + 1) hi ≡ parting asked l k (middle_of lo hi + 1) hi)
          → (lo < hi → parting asked l m lo (middle_of lo hi) ≡ parting asked l k lo (middle_of lo hi))
          → cond t (cond v (parting asked l m (middle_of lo hi + 1) hi) (parting asked l m lo (middle_of lo hi))) lo
          ≡ cond t (cond v (parting asked l k (middle_of lo hi + 1) hi) (parting asked l k lo (middle_of lo hi))) lo
      go false p v up down = refl
      go true p true up down = up (ltb-true lo hi p)
      go true p false up down = down (ltb-true lo hi p)

  -- ---- a loop that searches

  -- between lo and hi it isn't known which pass
  pub record Searches (lo hi : ℕ) : Type 0 where
    pub order : lo ≤ hi
    pub within : hi ≤ length l
    pub same : parting asked l (hi - lo) lo hi ≡ parting asked l (length l) 0 (length l)

  pub searches_first : Searches 0 (length l)
  searches_first = record { order = omega arith; within = omega arith; same = enough (length l - 0) (length l) 0 (length l) (omega arith) (omega arith) }

  module _ (lo hi : ℕ) (s : Searches lo hi) where
    module _ (h : lo < hi) where
      -- with one iteration taken
      next : cond (ok (nth l (middle_of lo hi)))
          (parting asked l (length l) (middle_of lo hi + 1) hi)
          (parting asked l (length l) lo (middle_of lo hi)) ≡ parting asked l (length l) 0 (length l)
      next =
          rw (lt-ltb lo hi h) at (enough (suc (length l)) (hi - lo) lo hi (omega (arith, s.within)) (omega arith)) ∙ s.same

      pub searches_up : ok (nth l (middle_of lo hi)) ≡ true → Searches (middle_of lo hi + 1) hi
      searches_up e = record {
        order = omega arith;
        within = s.within;
        same = enough (hi - (middle_of lo hi + 1)) (length l) (middle_of lo hi + 1) hi (omega arith) (omega (arith, s.within)) ∙ rw e at next;
      }

      pub searches_down : ok (nth l (middle_of lo hi)) ≡ false → Searches lo (middle_of lo hi)
      searches_down e = record {
        order = omega arith;
        within = omega (arith, s.within);
        same = enough (middle_of lo hi - lo) (length l) lo (middle_of lo hi) (omega arith) (omega (arith, s.within)) ∙ rw e at next;
      }

    pub searches_end : hi ≤ lo → nth l (lo - 1) ≡ chosen_of asked l
    unfolding chosen_of
    searches_end h = ap (λ (k : ℕ). nth l (k - 1)) (enough 0 (hi - lo) lo hi (omega arith) (omega arith) ∙ s.same)

  pub chosen_none : length l ≡ 0 → blank ≡ chosen_of asked l
  unfolding chosen_of
  chosen_none h = go l h
    where
      go : (k : List Checkpoint) → length k ≡ 0 → blank ≡ nth k (parting asked k (length k) 0 (length k) - 1)
      go [] h = refl
      go (c ∷ cs) h = absurd (omega (arith, h))

  -- ---- what it finds

  found_at : (lo hi : ℕ) → Bracket ok l lo hi → hi ≤ lo → Chose asked l (nth l (lo - 1))
  found_at lo hi = go l
    where
      go : (k : List Checkpoint) → Bracket ok k lo hi → hi ≤ lo → Chose asked k (nth k (lo - 1))
      go [] w h = tt
      go (c ∷ cs) w h = bracket_end ok c cs lo hi w h

  found : (m lo hi : ℕ) → hi - lo ≤ m → Bracket ok l lo hi → Chose asked l (nth l (parting asked l m lo hi - 1))
  found zero lo hi h w = found_at lo hi w (omega (arith, h))
  found (suc m) lo hi h w =
      go (nat_lt lo hi) refl (ok (nth l (middle_of lo hi))) refl
      (λ k. found m (middle_of lo hi + 1) hi (omega arith)) (λ k. found m lo (middle_of lo hi) (omega arith))
    where
      go : (t : Bool) → nat_lt lo hi ≡ t → (v : Bool) → ok (nth l (middle_of lo hi)) ≡ v
          → (lo < hi → Bracket ok l (middle_of lo hi + 1) hi → Chose asked l (nth l (parting asked l m (middle_of lo hi + 1) hi - 1)))
          → (lo < hi → Bracket ok l lo (middle_of lo hi) → Chose asked l (nth l (parting asked l m lo (middle_of lo hi) - 1)))
          → Chose asked l (nth l
          (cond t (cond v (parting asked l m (middle_of lo hi + 1) hi) (parting asked l m lo (middle_of lo hi))) lo - 1))
      go false p v q up down = found_at lo hi w (ltb-false lo hi p)
      go true p true q up down = let some = ltb-true lo hi p in up some (bracket_up ok l lo hi w some q)
      go true p false q up down = let some = ltb-true lo hi p in down some (bracket_down ok l lo hi w some q)

  -- the last record that passes, or else the first, where none passes behind one that doesn't
  pub chosen : (r : Checkpoint) → r ≡ chosen_of asked l → Chose asked l r
  unfolding chosen_of
  chosen r is = rw is (found (length l) 0 (length l) (omega arith) (bracket_start ok l))
