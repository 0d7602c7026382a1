-- What a writer sends of a list, from what it sends of one element: the events that the words carry, their width, and how many bytes they have.
use Rattle.std.specs.Prelude.{◌≡◌, refl, ℕ, ◌*◌, ◌≤◌}
use Rattle.std.proofs.Math.Path.{ap}
use mathlib.Core.List.{List, [], ◌∷◌, ◌++◌}
use native.Mathlib.Omega.{arith}
use Rattle.std.proofs.Math.Nat.{mul-add}
use Rattle.std.proofs.Math.ListN.{length, length-append}
use Rattle.laws_stream.specs.Machine.{Machine, Note, All, all_append, emits, words, words_append, notes, notes-append}
use Rattle.laws_stream.specs.Words.{Fits}
use Rattle.write_buffer.specs.Storing.{piece, bytes_from, bytes-cons}

abbrev pub concat_map : {I E : Type 0} → (I → List E) → List I → List E
concat_map f [] = []
concat_map f (a ∷ l) = f a ++ concat_map f l

pub events-single : {E : Type 0} (es : List E) → concat_map (λ (e : E). e ∷ []) es ≡ es
events-single [] = refl
events-single (e ∷ es) = ap (λ (l : List _). e ∷ l) (events-single es)

module _ {Q I E : Type 0} (W : Machine Q I (Note ℕ E)) where
  pub emits_fit : (size : ℕ) → ((v : Q) (a : I) → All (Fits size) (words (W.emit v a))) → (v : Q) (l : List I) → All (Fits size) (words (emits W v l))
  emits_fit size one v [] = tt
  emits_fit size one v (a ∷ l) =
      let rest = emits W (W.step v a) l in
      rw words_append (all_append (Fits size) (words (W.emit v a)) (words rest) (one v a) (emits_fit size one (W.step v a) l))

  -- of elements that are valid, where `f` says which events one has
  module _ (Valid : I → Type 0) (f : I → List E) where
    pub emits-notes : ((v : Q) (a : I) → Valid a → notes (W.emit v a) ≡ f a) → (v : Q) (l : List I) → All Valid l → notes (emits W v l) ≡ concat_map f l
    emits-notes one v [] va = refl
    emits-notes one v (a ∷ l) va = rw (notes-append, one v a va.0, emits-notes one (W.step v a) l va.1)

    pub emits_few : (most size : ℕ) → ((v : Q) (a : I) → Valid a → length (piece size W v a) ≤ most * length (f a))
        → (v : Q) (l : List I) → All Valid l → length (bytes_from size W v l) ≤ most * length (concat_map f l)
    unfolding bytes_from
    emits_few most size one v [] va = omega arith
    emits_few most size one v (a ∷ l) va =
        let here = piece size W v a in
        let rest = bytes_from size W (W.step v a) l in
        omega (
          arith,
          ap length (bytes-cons size W v a l),
          length-append here rest,
          ap (λ (n : ℕ). most * n) (length-append (f a) (concat_map f l)),
          mul-add most (length (f a)) (length (concat_map f l)),
          one v a va.0,
          emits_few most size one (W.step v a) l va.1,
        )
