-- A binary search among records.
use Rattle.std.specs.Prelude.{ℕ, zero, suc, ◌+◌, ◌-◌, ◌/◌, cond, List, length, nat_lt}
use Rattle.index_build.specs.{declared.Checkpoint.Checkpoint, Nth.nth}
use Rattle.index_records.specs.{declared.Choice.Choice, Choose.passes_of}

abbrev pub middle_of : (lo hi : ℕ) → ℕ
middle_of lo hi = lo + (hi - lo) / 2

-- the records of l before `lo` pass, those from `hi` on don't: where both meet, with at most m halvings more
abbrev pub parting : Choice → List Checkpoint → (m lo hi : ℕ) → ℕ
parting asked l zero lo hi = lo
parting asked l (suc m) lo hi =
    cond (nat_lt lo hi)
    (cond (passes_of asked (nth l (middle_of lo hi)))
    (parting asked l m (middle_of lo hi + 1) hi)
    (parting asked l m lo (middle_of lo hi)))
    lo

-- the record that it finds: the one before there, or else the first; without a record, a blank one
unfoldable pub chosen_of : Choice → List Checkpoint → Checkpoint
chosen_of asked l = nth l (parting asked l (length l) 0 (length l) - 1)
