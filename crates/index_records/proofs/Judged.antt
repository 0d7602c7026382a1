-- Laws of specs/JudgeLaws.antt.
use Rattle.evt_codec.specs.Codec.{in_range_c}
use Rattle.index_build.specs.{declared.Checkpoint.Checkpoint, declared.RawSliceSource.RawSliceSource}
use Rattle.index_records.specs.{Choose.passes_of, InRange.index_in_range, InRange.record_in_range, InRange.records_in_range}
use Rattle.index_records.specs.{Judge.is_other, JudgeLaws.Before}
use Rattle.index_records.specs.Due.{Admits, admits_of, due_behind, due_first, judged_from, place_of}
use Rattle.index_records.specs.{JudgeLaws.Good, JudgeLaws.last-all, Start.Parted, Start.last_passing}
use Rattle.index_records.specs.declared.{Due.Due, Choice.Choice, Choice.TheVariants.ByNumber, Choice.TheVariants.ByTime}
use Rattle.laws_stream.specs.Machine.{All, all_map, and_both}
use Rattle.std.proofs.{Common.arith, Common.eqb-true, Common.le-leb, Common.le-ltb, Common.leb-false, Common.leb-true}
use Rattle.std.proofs.{Common.lt-ltb, Common.ltb-false, Common.ltb-true, Common.sym, Common.ap, Common.◌∙◌, Math.Path.refl}
use Rattle.std.proofs.{lemmas.Bool.lt-leb, lemmas.Bool.not-true}
use Rattle.std.specs.Prelude.{Bool, List, [], None, Option, Some, cond, false, int_le, int_lt, leb, nat_le, nat_lt, negsuc, not, pos, true, ℕ, ℤ, ◌+◌}
use Rattle.std.specs.Prelude.{length, suc, true, ◌&&◌, ◌==◌, ◌^◌, ◌∷◌, ◌≡◌, ◌≤◌}

-- ---- one after another, as the code judges

-- the code's tests of a record come to the rule's, at whichever offset is due
pub admits_is : (s : RawSliceSource) (due : Due) (c : Checkpoint) → Admits s due c (admits_of s due c)
admits_is s due c offset p = ap (λ (o : Option ℕ). admits_of s (at-offset o) c) p ∙ go (nat_lt offset (2 ^ 64)) refl
  where
    at-offset : Option ℕ → Due
    at-offset o = record { offset = o; count = due.count; time = due.time }

    go : (b : Bool) → nat_lt offset (2 ^ 64) ≡ b → admits_of s (at-offset (cond b (Some offset) None)) c ≡ record_in_range s offset due.count due.time c
    go true q = rw q
    go false q = rw q

-- the test is one that says as much: the code's `admits_of` is one
module _ (s : RawSliceSource) (test : Due → Checkpoint → Bool) (says : (due : Due) (c : Checkpoint) → Admits s due c (test due c)) where
  judged-from : (offset : ℕ) (due : Due) → due.offset ≡ place_of offset → (l : List Checkpoint)
      → judged_from s test due l ≡ records_in_range s offset due.count due.time l
  judged-from offset due p [] = refl
  judged-from offset due p (c ∷ cs) =
      go (record_in_range s offset due.count due.time c) refl
      (λ h. judged-from (offset + s.spacing) (due_behind s c) (ap (λ (o : ℕ). place_of (o + s.spacing)) h) cs)
    where
      rest : Bool
      rest = judged_from s test (due_behind s c) cs

      later : Bool
      later = records_in_range s (offset + s.spacing) c.event_index c.time cs

      go : (b : Bool) → record_in_range s offset due.count due.time c ≡ b → (c.byte_offset ≡ offset → rest ≡ later)
          → test due c && rest ≡ record_in_range s offset due.count due.time c && later
      go true q ih =
          let admitted = and_both (nat_lt offset (2 ^ 64)) _ q in
          let stands = eqb-true c.byte_offset offset (and_both (c.byte_offset == offset) _ admitted.1).0 in
          ap (λ (b : Bool). b && rest) (says due c offset p ∙ q) ∙ ih stands ∙ sym (ap (λ (b : Bool). b && later) q)
      go false q ih = ap (λ (b : Bool). b && rest) (says due c offset p ∙ q) ∙ sym (ap (λ (b : Bool). b && later) q)

  -- RULE 10, as the code judges it
  pub judged_in_range : (records : List Checkpoint) → nat_lt 0 (length records) && judged_from s test (due_first s) records ≡ index_in_range s records
  unfolding index_in_range
  judged_in_range [] = refl
  judged_in_range (c ∷ cs) =
      ap (λ (b : Bool). b && judged_from s test (due_first s) (c ∷ cs)) (lt-ltb 0 (suc (length cs)) (omega arith))
      ∙ judged-from s.data_offset (due_first s) refl (c ∷ cs)

-- ---- the records of an index in range

le_z_trans : (a b c : ℤ) → int_le a b ≡ true → int_le b c ≡ true → int_le a c ≡ true
le_z_trans (pos a) (pos b) (pos c) p q = le-leb a c (omega (arith, leb-true a b p, leb-true b c q))
le_z_trans (pos a) (pos b) (negsuc c) p q = q
le_z_trans (pos a) (negsuc b) (pos c) p q = cc
le_z_trans (pos a) (negsuc b) (negsuc c) p q = p
le_z_trans (negsuc a) (pos b) (pos c) p q = refl
le_z_trans (negsuc a) (pos b) (negsuc c) p q = cc
le_z_trans (negsuc a) (negsuc b) (pos c) p q = refl
le_z_trans (negsuc a) (negsuc b) (negsuc c) p q = le-leb c a (omega (arith, leb-true b a p, leb-true c b q))

lt_z_falls : (a b t : ℤ) → int_le a b ≡ true → int_lt a t ≡ false → int_lt b t ≡ false
lt_z_falls (pos a) (pos b) (pos t) p q = le-ltb b t (omega (arith, leb-true a b p, ltb-false a t q))
lt_z_falls (pos a) (pos b) (negsuc t) p q = refl
lt_z_falls (pos a) (negsuc b) t p q = let z : ◌≡◌ {A = ℕ} 0 1 = cc in absurd (omega arith)
lt_z_falls (negsuc a) (pos b) (pos t) p q = let z : ◌≡◌ {A = ℕ} 0 1 = cc in absurd (omega arith)
lt_z_falls (negsuc a) (pos b) (negsuc t) p q = refl
lt_z_falls (negsuc a) (negsuc b) (pos t) p q = q
lt_z_falls (negsuc a) (negsuc b) (negsuc t) p q = le-ltb t b (omega (arith, leb-true b a p, ltb-false t a q))

module _ (s : RawSliceSource) where
  -- the tests of one record, passed
  record Admitted (offset count : ℕ) (time : ℤ) (c : Checkpoint) : Type 0 where
    good : int_le (pos 0) time ≡ true → Good s c
    counts : count ≤ c.event_index
    times : int_le time c.time ≡ true

  tested : (offset count : ℕ) (time : ℤ) (c : Checkpoint) → record_in_range s offset count time c ≡ true → Admitted offset count time c
  tested offset count time c h =
      let n = c.event_index in
      let a = and_both (nat_lt offset (2 ^ 64)) _ h in
      let b = and_both (c.byte_offset == offset) _ a.1 in
      let d = and_both (not (is_other c.codec s.encoding)) _ b.1 in
      let e = and_both (in_range_c c.codec) _ d.1 in
      let f = and_both (nat_le count n) _ e.1 in
      let g = and_both (nat_le n (2 ^ 33)) _ f.1 in
      let k = and_both (nat_le n s.n_events) (int_le time c.time) g.1 in
      record {
        good = λ t. record {
          place = omega (arith, ltb-true offset (2 ^ 64) a.0, eqb-true c.byte_offset offset b.0);
          same = not-true (is_other c.codec s.encoding) d.0;
          decoder = e.0;
          few = leb-true n (2 ^ 33) g.0;
          within = leb-true n s.n_events k.0;
          since = le_z_trans (pos 0) time c.time t k.1;
        };
        counts = leb-true count n f.0;
        times = k.1;
      }

  -- each by itself, and none falls below what it is compared with
  abbrev Ranged : (count : ℕ) (time : ℤ) → Checkpoint → Type 0
  Ranged count time c = Good s c × ((count ≤ c.event_index) × (int_le time c.time ≡ true))

  all_ranged : (offset count : ℕ) (time : ℤ) (cs : List Checkpoint) → int_le (pos 0) time ≡ true → records_in_range s offset count time cs ≡ true
      → All (Ranged count time) cs
  all_ranged offset count time [] t h = tt
  all_ranged offset count time (c ∷ cs) t h =
      let a = and_both (record_in_range s offset count time c) (records_in_range s (offset + s.spacing) c.event_index c.time cs) h in
      let p = tested offset count time c a.0 in
      let g = p.good t in (
        (g, (p.counts, p.times)),
        all_map (Ranged c.event_index c.time) (Ranged count time)
            (λ d r. (r.0, (omega (arith, p.counts, r.1.0), le_z_trans time c.time d.time p.times r.1.1))) cs
            (all_ranged (offset + s.spacing) c.event_index c.time cs g.since a.1),
      )

  parted-from : (p : Checkpoint → Bool) → ((c d : Checkpoint) → Before c d → p c ≡ false → p d ≡ false)
      → (offset count : ℕ) (time : ℤ) (cs : List Checkpoint) → int_le (pos 0) time ≡ true → records_in_range s offset count time cs ≡ true → Parted p cs
  parted-from p falls offset count time [] t h = tt
  parted-from p falls offset count time (c ∷ cs) t h =
      let a = and_both (record_in_range s offset count time c) (records_in_range s (offset + s.spacing) c.event_index c.time cs) h in
      let since = ((tested offset count time c a.0).good t).since in (
        (λ q. all_map (Ranged c.event_index c.time) (λ d. p d ≡ false) (λ d r. falls c d (record { counts = r.1.0; times = r.1.1 }) q) cs
            (all_ranged (offset + s.spacing) c.event_index c.time cs since a.1)),
        parted-from p falls (offset + s.spacing) c.event_index c.time cs since a.1,
      )

  module _ (records : List Checkpoint) (ok : index_in_range s records ≡ true) where
    pub all_good : All (Good s) records
    unfolding index_in_range
    all_good = go records ok
      where
        go : (records : List Checkpoint) → index_in_range s records ≡ true → All (Good s) records
        go [] h = tt
        go (c ∷ cs) h = all_map (Ranged 0 (pos 0)) (Good s) (λ d r. r.0) (c ∷ cs) (all_ranged s.data_offset 0 (pos 0) (c ∷ cs) refl h)

    -- a binary search finds the last record that passes, where what fails at a record fails at all behind it
    pub parted : (p : Checkpoint → Bool) → ((c d : Checkpoint) → Before c d → p c ≡ false → p d ≡ false) → Parted p records
    unfolding index_in_range
    parted p falls = go records ok
      where
        go : (records : List Checkpoint) → index_in_range s records ≡ true → Parted p records
        go [] h = tt
        go (c ∷ cs) h = parted-from p falls s.data_offset 0 (pos 0) (c ∷ cs) refl h

    pub parted-count : (i : ℕ) → Parted (λ c. leb c.event_index i) records
    parted-count i =
        parted (λ c. leb c.event_index i) (λ c d b q. lt-leb d.event_index i (omega (arith, leb-false c.event_index i q, b.counts)))

    pub parted_time : (t : ℤ) → Parted (λ c. int_lt c.time t) records
    parted_time t = parted (λ c. int_lt c.time t) (λ c d b q. lt_z_falls c.time d.time t b.times q)

    pub parted_passes : (asked : Choice) → Parted (passes_of asked) records
    parted_passes (ByNumber number) = parted-count number
    parted_passes (ByTime time) = parted_time time

-- ---- the record that a slice starts at

pub last_good : (s : RawSliceSource) (p : Checkpoint → Bool) (c : Checkpoint) (cs : List Checkpoint) → index_in_range s (c ∷ cs) ≡ true
    → Good s (last_passing p c cs)
last_good s p c cs ok = last-all (Good s) p c cs (all_good s (c ∷ cs) ok)
