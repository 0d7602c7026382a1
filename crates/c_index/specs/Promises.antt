-- From what the library promises to what the C interface does.
use Rattle.std.specs.Prelude.{◌≡◌, List, ℕ, ℤ}
use Rattle.std.proofs.Common.{ap, subst, ◌∙◌}
use Rattle.evt_types.specs.{Event.Event}
use Rattle.index_build.specs.declared.{Checkpoint.Checkpoint, RawSliceSource.RawSliceSource}
use Rattle.index_records.specs.InRange.{index_in_range}
use Rattle.std.specs.Prelude.{Result}
use Rattle.evt_types.specs.declared.Refusal.{Refusal}
use Rattle.slice_rules.specs.{Slice.told_slice, Slice.index_events, Slice.time_events, Slice.SlicesFrom}
use Rattle.slice_rules.specs.Slice.{SlicesIndex, SlicesTime}
use Rattle.c_index.specs.{declared.opening.PropheseeSource.PropheseeSource, declared.slices.PropheseeSlice.PropheseeSlice}
use Rattle.c_index.specs.{Slicing.source_of, Slicing.records_in, Slicing.sliced_of, Slicing.SlicesFromC}
use Rattle.c_index.specs.{Slicing.SlicesIndexC, Slicing.SlicesTimeC}

-- a slice over the records that a source tells of
module _ (recording : List ℕ) (l : List (List ℕ)) (given : PropheseeSource) {s : RawSliceSource} (is_s : s ≡ source_of given)
    {records : List Checkpoint} (are_records : records ≡ records_in given l) {a : Result ℕ Refusal} {r : PropheseeSlice} (is-r : r ≡ sliced_of (told_slice a)) where
  sliced : (f : RawSliceSource → List Checkpoint → List Event) {xs₀ ys₀ : List ℕ} {ts₀ : List ℤ} {ps₀ xs ys : List ℕ} {ts : List ℤ} {ps : List ℕ}
      → SlicesFrom recording s (index_in_range s records) (f s records) a xs₀ ys₀ ts₀ ps₀ xs ys ts ps
      → SlicesFromC recording (source_of given) (index_in_range (source_of given) (records_in given l)) (f (source_of given) (records_in given l)) r
      xs₀ ys₀ ts₀ ps₀ xs ys ts ps
  sliced f {xs₀} {ys₀} {ts₀} {ps₀} {xs} {ys} {ts} {ps} h =
      let g = source_of given in
      subst (λ (cs : List Checkpoint). SlicesFromC recording g (index_in_range g cs) (f g cs) r xs₀ ys₀ ts₀ ps₀ xs ys ts ps) are_records
      (subst (λ (k : RawSliceSource). SlicesFromC recording k (index_in_range k records) (f k records) r xs₀ ys₀ ts₀ ps₀ xs ys ts ps) is_s
      (record { is_answer = is-r ∙ ap sliced_of h.is_told; columns = h.columns }))

  pub sliced_index : (i0 i1 : ℕ) {xs₀ ys₀ : List ℕ} {ts₀ : List ℤ} {ps₀ xs ys : List ℕ} {ts : List ℤ} {ps : List ℕ}
      → SlicesIndex recording s records i0 i1 a xs₀ ys₀ ts₀ ps₀ xs ys ts ps
      → SlicesIndexC recording given l i0 i1 r xs₀ ys₀ ts₀ ps₀ xs ys ts ps
  sliced_index i0 i1 h = sliced (λ (k : RawSliceSource) (cs : List Checkpoint). index_events recording k cs i0 i1) h

  pub sliced_time : (t0 t1 : ℤ) {xs₀ ys₀ : List ℕ} {ts₀ : List ℤ} {ps₀ xs ys : List ℕ} {ts : List ℤ} {ps : List ℕ}
      → SlicesTime recording s records t0 t1 a xs₀ ys₀ ts₀ ps₀ xs ys ts ps
      → SlicesTimeC recording given l t0 t1 r xs₀ ys₀ ts₀ ps₀ xs ys ts ps
  sliced_time t0 t1 h = sliced (λ (k : RawSliceSource) (cs : List Checkpoint). time_events recording k cs t0 t1) h
