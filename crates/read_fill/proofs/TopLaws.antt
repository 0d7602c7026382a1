-- A fold by the maximum.
use Rattle.std.specs.Prelude.{◌≡◌, List, [], ◌∷◌, ℕ, max}
use Rattle.std.proofs.Common.{◌∙◌, arith}
use Rattle.std.specs.List.{fold}
use Rattle.laws_stream.specs.Mask.{top}

pub fold_max : (a : ℕ) (l : List ℕ) → fold max a l ≡ max a (top l)
fold_max a [] = omega arith
fold_max a (x ∷ l) = fold_max (max a x) l ∙ omega arith
