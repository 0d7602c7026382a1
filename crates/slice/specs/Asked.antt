-- A slice of what is asked for, over an index's records.
use Rattle.std.specs.Prelude.{Bool, List, ℕ, ℤ}
use Rattle.index_build.specs.declared.{Checkpoint.Checkpoint, RawSliceSource.RawSliceSource}
use Rattle.std.specs.Prelude.{Result}
use Rattle.evt_types.specs.declared.Refusal.{Refusal}
use Rattle.slice_rules.specs.{declared.Asked.Asked, From.SlicesFrom, From.passed_from, Laws.Began}

-- it is one from the record chosen to start at, where the records are in range
pub record SlicesAsked (recording : List ℕ) (s : RawSliceSource) (records : List Checkpoint) (asked : Asked) (r : Result ℕ Refusal)
    (xs₀ ys₀ : List ℕ) (ts₀ : List ℤ) (ps₀ xs ys : List ℕ) (ts : List ℤ) (ps : List ℕ) : Type 0 where
  pub ok : Bool
  pub start : Checkpoint
  pub began : Began s records asked ok start
  pub slices : SlicesFrom recording s ok (passed_from recording asked.window start) r xs₀ ys₀ ts₀ ps₀ xs ys ts ps
