-- Laws of specs/Loops.antt.
use Rattle.evt3_lead_words.specs.{Evt3.passes3, Loops.Passing, Loops.first_word, Loops.last_word, Loops.pass_bytes, Loops.passes_bytes, Loops.passes_next}
use Rattle.evt_types.specs.Layout.{word_size3}
use Rattle.std.proofs.{Common.ap, Common.length-append, Common.◌∙◌, lemmas.List.Edits.sets}
use Rattle.std.specs.Prelude.{Bool, List, false, length, suc, zero, ℕ, ◌*◌, ◌++◌, ◌+◌, ◌-◌, ◌<◌, ◌≡◌, ◌≤◌}
use Rattle.write_buffer.specs.{Due.both_few, Storing.Roomy, Storing.storing_iteration, Storing.storing_room}
use native.Mathlib.Omega.{arith}

-- ---- one loop after another

pub passes_few : (n : ℕ) (end : Bool) → length (passes_bytes n end) ≤ 4 * n
unfolding passes_bytes passes3
passes_few zero end = omega arith
passes_few (suc n) end =
    omega (
      arith,
      ap length (passes_next n end),
      length-append (pass_bytes end) (passes_bytes n false),
      both_few word_size3 end last_word first_word,
      passes_few n false,
    )

module _ {n : ℕ} {end : Bool} {at : ℕ} {out₀ : List ℕ} where
  module _ {out : List ℕ} {a : ℕ} {sent : Bool} {left : ℕ} (p : Passing n end at out₀ out a sent left) where
    next_is : 0 < left → passes_bytes left sent ≡ pass_bytes sent ++ passes_bytes (left - 1) false
    next_is h = let n : left ≡ suc (left - 1) = omega arith in ap (λ (k : ℕ). passes_bytes k sent) n ∙ passes_next (left - 1) sent

    pub passing_room : 0 < left → Roomy out₀ at (length (passes_bytes n end)) → Roomy out a (length (pass_bytes sent))
    passing_room h r = storing_room (pass_bytes sent) (passes_bytes (left - 1) false) (next_is h) p.storing r

    pub passing_iteration : 0 < left → (b : ℕ) (out' : List ℕ) → b ≡ a + length (pass_bytes sent) → out' ≡ sets out a (pass_bytes sent)
        → Passing n end at out₀ out' b false (left - 1)
    passing_iteration h b out' e o = record {
      storing = rw e (storing_iteration (pass_bytes sent) (passes_bytes (left - 1) false) (next_is h) o p.storing);
      fewer = omega (arith, p.fewer);
      near = omega (arith, p.near, both_few word_size3 sent last_word first_word);
    }
