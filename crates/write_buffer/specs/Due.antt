-- A word that is due unless its content was sent, stored in either case: where it isn't due, what is stored next takes its place.
use Rattle.std.specs.Prelude.{◌≡◌, Bool, true, false, cond, List, [], ◌∷◌, ◌++◌, ℕ, ◌+◌, ◌≤◌, length}
use Rattle.std.proofs.Common.{sym, ap, ◌∙◌, append-nil, arith, add-zero, length-append}
use Rattle.std.proofs.lemmas.List.Edits.{sets}
use Rattle.laws_stream.specs.{Machine.Note, Machine.words, Machine.words_append, Columns.sets_append, Words.stream, Words.bytes, Words.stream-append}
use Rattle.laws_stream.specs.Words.{length-bytes}
use Rattle.evt_types.specs.Event.{Event}
use Rattle.write_buffer.specs.{Sent.due, Storing.Roomy, Storing.sets_over}

module _ (size : ℕ) where
  abbrev pub due_bytes : (sent : Bool) → ℕ → List ℕ
  due_bytes b w = stream size (words (due b w))

  -- before those of the next word
  abbrev pub both_bytes : (sent : Bool) (w next : ℕ) → List ℕ
  both_bytes b w next = due_bytes b w ++ bytes size next

  -- ---- laws

  one-length : (w : ℕ) → length (bytes size w ++ []) ≡ size
  one-length w = rw append-nil (length-bytes size w)

  pub due_few : (b : Bool) (w : ℕ) → length (due_bytes b w) ≤ size
  due_few true w = omega arith
  due_few false w = omega (arith, one-length w)

  pub due_is : (b : Bool) (w at : ℕ) → cond b at (at + size) ≡ at + length (due_bytes b w)
  due_is true w at = omega arith
  due_is false w at = omega (arith, one-length w)

  pub due_place : (b : Bool) (at : ℕ) {a : ℕ} → a ≡ cond b at (at + size) → a ≤ at + size
  due_place true at e = omega arith
  due_place false at e = omega arith

  pub due-next : (b : Bool) (w : ℕ) (out : List ℕ) (at : ℕ) {o : List ℕ} {r : ℕ} → r ≡ at + length (due_bytes b w) → o ≡ sets out at (bytes size w)
      → (l : List ℕ) → size ≤ length l → sets o r l ≡ sets out at (due_bytes b w ++ l)
  due-next true w out at e o l h =
      let z : at + 0 ≡ at = add-zero at in
      rw (e, o, z) (sets_over out at (bytes size w) l (omega (arith, length-bytes size w)))
  due-next false w out at e o l h = rw (e, o, append-nil (bytes size w)) (sym (sets_append out at (bytes size w) l))

  pub both_is : (b : Bool) (w : ℕ) (n : Note ℕ Event) → stream size (words (due b w ++ (n ∷ []))) ≡ both_bytes b w n.word
  both_is b w n =
      ap (stream size) (words_append (due b w) (n ∷ [])) ∙ stream-append size (words (due b w)) (n.word ∷ [])
      ∙ ap (λ (l : List ℕ). due_bytes b w ++ l) (append-nil (bytes size n.word))

  module _ (b : Bool) (w next : ℕ) where
    pub both-length : length (both_bytes b w next) ≡ length (due_bytes b w) + size
    both-length = length-append (due_bytes b w) (bytes size next) ∙ rw (length-bytes size next)

    pub both_few : length (both_bytes b w next) ≤ size + size
    both_few = omega (arith, both-length, due_few b w)

    -- both have room
    pub room-due : (out : List ℕ) (at : ℕ) → Roomy out at (length (both_bytes b w next)) → Roomy out at size
    room-due out at r h = omega (arith, r h, both-length)

    module _ (out : List ℕ) (at : ℕ) {a : ℕ} (e : a ≡ cond b at (at + size)) where
      after : a ≡ at + length (due_bytes b w)
      after = e ∙ due_is b w at

      -- both stored one after the other
      pub both_stored : {o₁ o₂ : List ℕ} → o₁ ≡ sets out at (bytes size w) → o₂ ≡ sets o₁ a (bytes size next)
          → (a + size ≡ at + length (both_bytes b w next)) × (o₂ ≡ sets out at (both_bytes b w next))
      both_stored p q = (omega (arith, after, both-length), q ∙ due-next b w out at after p (bytes size next) (omega (arith, length-bytes size next)))

      pub room_next : (o : List ℕ) → length o ≡ length out → Roomy out at (length (both_bytes b w next)) → Roomy o a size
      room_next o n r h = omega (arith, r (omega (arith, n)), n, after, both-length)
