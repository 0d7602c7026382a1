-- An EVT3 step by tables, for counting: the decoder after a word, and the word's events in a shorter form.
use Rattle.std.specs.Prelude.{◌≡◌, refl, ◌⊎◌, Bool, true, false, cond, ℕ, ◌+◌, ◌-◌, ◌/◌, ◌%◌, ◌≤◌, ◌<◌, ◌^◌, min, eqb}
use Rattle.std.proofs.Common.{sym, ◌∙◌, inl, inr, true≢false, arith, eqb-true, ne_eqb}
use Rattle.std.proofs.Math.Path.{ap, subst}
use mathlib.Core.List.{List}
use Rattle.std.specs.Int.Bits.{bit_and, and_zero_r}
use Rattle.std.proofs.lemmas.Nat.{and_mask}
use Rattle.std.proofs.Math.ListN.{get_or}
use Rattle.laws_stream.specs.Mask.{bits-zero}
use Rattle.evt_types.specs.{declared.vector.Vector.Vector, Event.events_of, Layout.type3, Layout.y3, Layout.x3, Layout.time3}
use Rattle.evt3_decoder.specs.declared.{Decoder.Decoder, WideDecoder.WideDecoder}
use Rattle.evt3_decoder.specs.Evt3.{Kind, vect12, vect8, kind_on, kind_of, step_as, vector_as, step3, vector3, widened, slimmed, by_kinds}
use Rattle.read_count.specs.declared.{evt3_step.CountingDecoder.CountingDecoder, evt3_step.CountingStep.CountingStep}
use Rattle.read_count.specs.Tables.{table_of, table_at}

-- the loop's decoder: its polarity is bit 11 of the last word of type 3
abbrev pub decoder_of : CountingDecoder → WideDecoder
decoder_of d = record {
  initialised = d.initialised;
  time_base = d.time_base;
  time = d.time;
  y = d.y;
  base_x = d.base_x;
  polarity = eqb (d.base_word / 2 ^ 11 % 2 ^ 1) 1;
  high_loops = d.high_loops;
}

-- by how much a word of type k moves the base column, and which of its bits are events
abbrev pub span_of : ℕ → ℕ
span_of k = cond (eqb k 4) 12 (cond (eqb k 5) 8 0)

abbrev pub vect_of : ℕ → ℕ
vect_of k = cond (eqb k 4) 4095 (cond (eqb k 5) 255 0)

unfoldable pub span_table : List ℕ
span_table = table_of span_of 16

unfoldable pub vect_table : List ℕ
vect_table = table_of vect_of 16

module _ (l : List ℕ) (k : ℕ) (h : k < 16) where
  pub span-at : l ≡ span_table → get_or l k 0 ≡ span_of k
  unfolding span_table
  span-at e = ap (λ (l : List ℕ). get_or l k 0) e ∙ table_at span_of 16 k h

  pub vect_at : l ≡ vect_table → get_or l k 0 ≡ vect_of k
  unfolding vect_table
  vect_at e = ap (λ (l : List ℕ). get_or l k 0) e ∙ table_at vect_of 16 k h

pub span_small : (k : ℕ) → span_of k ≤ 12
span_small k = go (eqb k 4) (eqb k 5)
  where
    go : (a b : Bool) → cond a 12 (cond b 8 0) ≤ 12
    go true b = omega arith
    go false true = omega arith
    go false false = omega arith

-- a polarity without a word
pub base_word_sign : (p : Bool) → eqb (cond p 2048 0 / 2 ^ 11 % 2 ^ 1) 1 ≡ p
base_word_sign true = refl
base_word_sign false = refl

-- what the code computes, by the word's type k
abbrev pub started_step_as : ℕ → CountingDecoder → ℕ → CountingStep
started_step_as k d w = record {
  next = record {
    initialised = d.initialised;
    time_base = d.time_base;
    time = cond (eqb k 6) (d.time_base + time3 w) d.time;
    y = cond (eqb k 0) (y3 w) d.y;
    base_x = cond (eqb k 3) (x3 w) (min (d.base_x + span_of k) 65535);
    base_word = cond (eqb k 3) w d.base_word;
    high_loops = d.high_loops;
  };
  x = cond (eqb k 2) (x3 w) d.base_x;
  mask = cond (eqb k 2) 1 (bit_and w (vect_of k));
}

abbrev pub started_step : CountingDecoder → ℕ → CountingStep
started_step d w = started_step_as (type3 w) d w

-- the events that it stands for, of polarity p
abbrev pub counted_vector : CountingStep → ℕ → Vector
counted_vector r p = record { x = r.x; y = r.next.y; t = r.next.time; p = p; mask = r.mask }

-- r is as good as the step to d by the vector v
pub record Agrees (d : Decoder) (v : Vector) (r : CountingStep) : Type 0 where
  pub next : decoder_of r.next ≡ widened d
  pub mask : r.mask < 2 ^ 12
  pub column : r.x < 65536
  pub same : events_of v ≡ events_of (counted_vector r v.p)

abbrev pub AgreesWithStep : Decoder → ℕ → CountingStep → Type 0
AgreesWithStep d w r = Agrees (step3 d w) (vector3 d w) r

-- a mask without bits
nil : (v u : Vector) → v.mask ≡ 0 → u.mask ≡ 0 → events_of v ≡ events_of u
nil v u e f = rw (e, f, bits-zero 32 v.x, bits-zero 32 u.x)

-- another form of the mask
masked : (v : Vector) (m : ℕ) → v.mask ≡ m → events_of v ≡ events_of (record { x = v.x; y = v.y; t = v.t; p = v.p; mask = m })
masked v m e = ap (λ (m : ℕ). events_of (record { x = v.x; y = v.y; t = v.t; p = v.p; mask = m })) e

low_bits : (w k : ℕ) → w / 2 ^ 0 % 2 ^ k ≡ bit_and w (2 ^ k - 1)
low_bits w k = ap (λ (n : ℕ). n % 2 ^ k) (omega arith) ∙ sym (and_mask w k)

module _ (d : CountingDecoder) (w : ℕ) (column : d.base_x < 65536) where
  still : min (d.base_x + 0) 65535 ≡ d.base_x
  still = omega arith

  abbrev Good : ℕ → Type 0
  Good k = Agrees (step_as (kind_on k) (slimmed (decoder_of d)) w) (vector_as (kind_on k) (slimmed (decoder_of d)) w) (started_step_as k d w)

  no_bits : bit_and w 0 ≡ 0
  no_bits = and_zero_r w

  good0 : Good 0
  good0 = record { next = rw still; mask = rw no_bits (omega arith); column = column; same = nil _ _ refl no_bits }

  good1 : Good 1
  good1 = record { next = rw still; mask = rw no_bits (omega arith); column = column; same = nil _ _ refl no_bits }

  good2 : Good 2
  good2 = record { next = rw still; mask = omega arith; column = omega arith; same = refl }

  good3 : Good 3
  good3 = record { next = refl; mask = rw no_bits (omega arith); column = column; same = nil _ _ refl no_bits }

  good4 : Good 4
  good4 =
      record
      { next = refl; mask = rw (and_mask w 12) (omega arith); column = column; same = masked (vector_as vect12 (slimmed (decoder_of d)) w) _ (low_bits w 12) }

  good5 : Good 5
  good5 =
      record
      { next = refl; mask = rw (and_mask w 8) (omega arith); column = column; same = masked (vector_as vect8 (slimmed (decoder_of d)) w) _ (low_bits w 8) }

  good6 : Good 6
  good6 = record { next = rw still; mask = rw no_bits (omega arith); column = column; same = nil _ _ refl no_bits }

  -- by type 1 where k is none of those that have a rule
  good : (k : ℕ) → (k ≡ 8 → ⊥) → Good k
  good k h =
      at 0 good0 (λ e0. at 2 good2 (λ e2. at 3 good3 (λ e3. at 4 good4 (λ e4. at 5 good5 (λ e5. at 6 good6 (λ e6.
      rw (e0, e2, e3, e4, e5, e6, ne_eqb k 8 h) good1))))))
    where
      at : (n : ℕ) → Good n → (eqb k n ≡ false → Good k) → Good k
      at n g f = go (eqb k n) refl
        where
          go : (t : Bool) → eqb k n ≡ t → Good k
          go true e = rw (eqb-true k n e) g
          go false e = f e

  pub started_agrees : d.initialised ≡ true → (type3 w ≡ 8 → ⊥) → AgreesWithStep (slimmed (decoder_of d)) w (started_step d w)
  unfolding step3 vector3
  started_agrees e h =
      let is : kind_of (type3 w) d.initialised ≡ kind_on (type3 w) = rw e in
      subst (λ (k : Kind). Agrees (step_as k (slimmed (decoder_of d)) w) (vector_as k (slimmed (decoder_of d)) w) (started_step d w)) (sym is)
      (good (type3 w) h)

-- ---- the step itself, of any decoder

-- before the start, and by type 8, there are no events
quiet3 : (d : Decoder) (w : ℕ) → (d.initialised ≡ false) ⊎ (type3 w ≡ 8) → (vector3 d w).mask ≡ 0
unfolding vector3
quiet3 d w (inl e) = by_kinds (λ k. (vector_as k d w).mask ≡ 0) (type3 w) d.initialised (λ o. refl) off off off off off off off refl
  where
    off : {A : Type 0} → d.initialised ≡ true → A
    off o = absurd (true≢false (sym o ∙ e))
quiet3 d w (inr e) = rw e (go d.initialised)
  where
    go : (b : Bool) → (vector_as (kind_of 8 b) d w).mask ≡ 0
    go true = refl
    go false = refl

pub quiet_agrees : (d : Decoder) (w : ℕ) → (d.initialised ≡ false) ⊎ (type3 w ≡ 8) → (r : CountingStep) → decoder_of r.next ≡ widened (step3 d w)
    → r.x ≡ 0 → r.mask ≡ 0 → AgreesWithStep d w r
quiet_agrees d w e r is_next is_x is_mask =
    record { next = is_next; mask = rw is_mask (omega arith); column = rw is_x (omega arith); same = nil _ _ (quiet3 d w e) is_mask }
