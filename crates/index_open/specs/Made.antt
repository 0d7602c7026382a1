-- What the making of a builder's records says.
use Rattle.std.specs.Prelude.{◌≡◌, List, ℕ}
use Rattle.std.specs.Prelude.{Result, Ok}
use Rattle.evt_types.specs.declared.Refusal.{Refusal}
use Rattle.index_build.specs.declared.Opening.{Opening}
use Rattle.index_build.specs.declared.{Builder.Builder, Checkpoint.Checkpoint}
use Rattle.index_build.specs.{Build.builder_at, Build.concluded, Stage.laid_to}

-- the records of ys became zs, and r is the answer
pub record Made (l : List ℕ) (first : Builder) (r : Result Opening Refusal) (ys zs : List Checkpoint) : Type 0 where
  pub is_answer : r ≡ Ok (concluded (builder_at l first first.cap))
  pub laid : zs ≡ laid_to l first ys first.cap
