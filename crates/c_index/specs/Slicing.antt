-- What a slice returns, in numbers, and promises.
use Rattle.std.specs.Prelude.{◌≡◌, Bool, true, false, cond, ◌&&◌, List, ℕ, ◌≤◌, ◌<◌, leb, ℤ, length}
use Rattle.std.proofs.Common.{sym, le-leb}
use Rattle.std.proofs.lemmas.Bool.{lt-leb}
use Rattle.evt_types.specs.{declared.Refusal.Refusal, Event.Event, Outcome.Outcome, Told.Told, Told.told}
use Rattle.read_rules.specs.Read.{shortest, Handed}
use Rattle.index_build.specs.declared.{Checkpoint.Checkpoint, RawSliceSource.RawSliceSource}
use Rattle.index_records.specs.InRange.{index_in_range}
use Rattle.slice_rules.specs.Slice.{index_events, time_events, slice_outcome, slice_verdict, slice_handed}
use Rattle.c_values.specs.{Encoding.is_known, Encoding.encoding_of, Reading.value_of, Reading.count_of, Reading.no_value}
use Rattle.c_index.specs.{declared.opening.PropheseeSource.PropheseeSource, declared.slices.PropheseeSlice.PropheseeSlice, Records.checkpoints_in}

-- ---- an index

abbrev pub source_of : PropheseeSource → RawSliceSource
source_of s = record {
  encoding = encoding_of s.encoding;
  spacing = s.spacing;
  data_offset = s.data_offset;
  len = s.len;
  width = s.width;
  height = s.height;
  n_events = s.n_events;
}

-- how many of the lent records are used: none where the encoding is unknown or fewer are lent than the source tells
abbrev pub used_records : PropheseeSource → (lent : ℕ) → ℕ
used_records s lent = cond (is_known s.encoding && leb s.records lent) s.records 0

module _ (s : PropheseeSource) (lent : ℕ) where
  pub used_unknown : is_known s.encoding ≡ false → 0 ≡ used_records s lent
  used_unknown known = rw known

  pub used_few : is_known s.encoding ≡ true → lent < s.records → 0 ≡ used_records s lent
  used_few known few = rw (known, lt-leb s.records lent few)

  pub used_all : is_known s.encoding ≡ true → s.records ≤ lent → s.records ≡ used_records s lent
  used_all known enough = rw (known, le-leb s.records lent enough)

-- without a record the index is out of range (10)
abbrev pub records_in : PropheseeSource → List (List ℕ) → List Checkpoint
records_in s l = checkpoints_in (encoding_of s.encoding) (used_records s (length l)) l

-- ---- the answer

-- an acceptance tells the count
abbrev pub sliced_of : Told → PropheseeSlice
sliced_of t = record { told = count_of t; count = value_of t 0; refusal = t.number }

pub refused-slice : (r : Refusal) (n k : ℕ) → n ≡ (told r).number → k ≡ count_of (told r) → record { told = k; count = 0; refusal = n } ≡ sliced_of (told r)
refused-slice r n k p q = λ i. record { told = q i; count = sym (no_value r 0) i; refusal = p i }

-- what a slice promises: its outcome is that of the library's own contracts
pub record SlicesC (outcome : Outcome (List Event)) (r : PropheseeSlice)
    (xs₀ ys₀ : List ℕ) (ts₀ : List ℤ) (ps₀ xs ys : List ℕ) (ts : List ℤ) (ps : List ℕ) : Type 0 where
  pub is_answer : r ≡ sliced_of (slice_verdict outcome)
  pub columns : Handed (slice_handed outcome) xs₀ ys₀ ts₀ ps₀ xs ys ts ps

-- of the events asked for; `ok`: whether the index is in range
abbrev pub SlicesFromC : List ℕ → RawSliceSource → (ok : Bool) → (asked : List Event) → PropheseeSlice
    → (xs₀ ys₀ : List ℕ) (ts₀ : List ℤ) (ps₀ xs ys : List ℕ) (ts : List ℤ) (ps : List ℕ) → Type 0
SlicesFromC recording s ok asked r xs₀ ys₀ ts₀ ps₀ = SlicesC (slice_outcome recording s ok asked (shortest xs₀ ys₀ ts₀ ps₀)) r xs₀ ys₀ ts₀ ps₀

-- of those that an index's records lead to
abbrev pub SlicesByC : List ℕ → PropheseeSource → (records : List (List ℕ)) → (asked : RawSliceSource → List Checkpoint → List Event) → PropheseeSlice
    → (xs₀ ys₀ : List ℕ) (ts₀ : List ℤ) (ps₀ xs ys : List ℕ) (ts : List ℤ) (ps : List ℕ) → Type 0
SlicesByC recording s l asked =
    let source = source_of s in
    let records = records_in s l in
    SlicesFromC recording source (index_in_range source records) (asked source records)

abbrev pub SlicesIndexC : List ℕ → PropheseeSource → (records : List (List ℕ)) → (i0 i1 : ℕ) → PropheseeSlice
    → (xs₀ ys₀ : List ℕ) (ts₀ : List ℤ) (ps₀ xs ys : List ℕ) (ts : List ℤ) (ps : List ℕ) → Type 0
SlicesIndexC recording s l i0 i1 = SlicesByC recording s l (λ source records. index_events recording source records i0 i1)

abbrev pub SlicesTimeC : List ℕ → PropheseeSource → (records : List (List ℕ)) → (t0 t1 : ℤ) → PropheseeSlice
    → (xs₀ ys₀ : List ℕ) (ts₀ : List ℤ) (ps₀ xs ys : List ℕ) (ts : List ℤ) (ps : List ℕ) → Type 0
SlicesTimeC recording s l t0 t1 = SlicesByC recording s l (λ source records. time_events recording source records t0 t1)
