-- EVT3: the bytes of the words that take a writer into a later loop.
use Rattle.std.specs.Prelude.{◌≡◌, Bool, false, List, ◌∷◌, ◌++◌, ℕ, suc, ◌+◌, ◌*◌, ◌≤◌, length}
use Rattle.std.proofs.Common.{ap, ◌∙◌, append_assoc}
use native.Mathlib.Omega.{arith}
use Rattle.std.proofs.lemmas.List.Edits.{sets}
use Rattle.laws_stream.specs.{Machine.words, Machine.words_append, Words.stream, Words.bytes, Words.stream-append}
use Rattle.evt_types.specs.{Layout.word_size3, Layout.word3}
use Rattle.write_buffer.specs.{Sent.due, Due.due_bytes, Due.both_bytes}
use Rattle.write_buffer.specs.Storing.{Storing, storing_start, storing_end}
use Rattle.evt3_lead_words.specs.Evt3.{passes3}

-- type 8 with FFF, unless that was sent, and with 000
abbrev pub last_word : ℕ
last_word = word3 8 4095

abbrev pub first_word : ℕ
first_word = word3 8 0

abbrev pub pass_bytes : (end : Bool) → List ℕ
pass_bytes end = both_bytes word_size3 end last_word first_word

unfoldable pub passes_bytes : (n : ℕ) (end : Bool) → List ℕ
passes_bytes n end = stream word_size3 (words (passes3 n end))

-- ---- one loop after another

pub passes_next : (n : ℕ) (end : Bool) → passes_bytes (suc n) end ≡ pass_bytes end ++ passes_bytes n false
unfolding passes_bytes passes3
passes_next n end =
    ap (stream word_size3) (words_append (due end last_word) _)
    ∙ stream-append word_size3 (words (due end last_word)) (first_word ∷ words (passes3 n false))
    ∙ append-assoc⁻ (due_bytes word_size3 end last_word) (bytes word_size3 first_word) (passes_bytes n false)
  where
    append-assoc⁻ : (a b c : List ℕ) → a ++ (b ++ c) ≡ (a ++ b) ++ c
    append-assoc⁻ a b c = simp append_assoc

-- on the way: `left` loops are to be passed
pub record Passing (n : ℕ) (end : Bool) (at : ℕ) (out₀ out : List ℕ) (a : ℕ) (sent : Bool) (left : ℕ) : Type 0 where
  pub storing : Storing (passes_bytes n end) at out₀ (passes_bytes left sent) a out
  pub fewer : left ≤ n
  pub near : a + 4 * left ≤ at + 4 * n

module _ {n : ℕ} {end : Bool} {at : ℕ} {out₀ : List ℕ} where
  pub passing_start : Passing n end at out₀ out₀ at end n
  passing_start = record { storing = storing_start; fewer = omega arith; near = omega arith }

  module _ {out : List ℕ} {a : ℕ} {sent : Bool} {left : ℕ} (p : Passing n end at out₀ out a sent left) where
    pub passing_end : left ≤ 0 → (a ≡ at + length (passes_bytes n end)) × (out ≡ sets out₀ at (passes_bytes n end))
    unfolding passes3 passes_bytes
    passing_end h = let z : left ≡ 0 = omega arith in storing_end (rw z at p.storing)
