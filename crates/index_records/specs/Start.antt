-- The record that a slice starts at.
use Rattle.std.specs.Prelude.{◌≡◌, Bool, false, cond, List, [], ◌∷◌}
use Rattle.laws_stream.specs.Machine.{All}
use Rattle.index_build.specs.declared.Checkpoint.{Checkpoint}

-- the last of the records that passes, or else c
abbrev pub last_passing : (Checkpoint → Bool) → Checkpoint → List Checkpoint → Checkpoint
last_passing p c [] = c
last_passing p c (d ∷ ds) = last_passing p (cond (p d) d c) ds

-- no record that passes stands behind one that doesn't: then a binary search finds the last one
abbrev pub Parted : (Checkpoint → Bool) → List Checkpoint → Type 0
Parted p [] = Unit
Parted p (c ∷ cs) = (p c ≡ false → All (λ d. p d ≡ false) cs) × Parted p cs
