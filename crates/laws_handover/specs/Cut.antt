-- A cut in bytes is a cut in words.
use Rattle.std.specs.Prelude.{◌≡◌, refl, Bool, true, false, cond, List, [], ◌∷◌, ◌++◌, ℕ, suc, ◌+◌, ◌-◌, ◌*◌, ◌/◌, ◌≤◌, ◌<◌, leb, drop}
use Rattle.std.proofs.Common.{ap, ◌∙◌, arith, leb-true, leb-false}
use Rattle.std.proofs.Math.Nat.{sub-zero}
use Rattle.std.proofs.Math.Seq.{drop-nil}
use Rattle.laws_stream.specs.Machine.{Note, notes}
use Rattle.laws_stream.specs.Words as Words
use Rattle.evt_types.specs.Event.{Event}
use Rattle.laws_handover.specs.Handover.{broken_after}

-- of words that begin at byte `start`
module _ (size cut start : ℕ) (sized : 0 < size) where
  -- how many are whole before the cut
  abbrev pub count : ℕ
  count = (cut - start) / size

  -- word k is whole before the cut exactly if k is below that
  module _ (k at : ℕ) (h : at ≡ start + k * size) where
    pub in_front : leb (at + size) cut ≡ true → count - k ≡ suc (count - suc k)
    in_front q =
        let n : suc k * size ≤ cut - start = omega (arith, leb-true (at + size) cut q) in
        let lt : k < count = (Words.whole size sized (cut - start) k).1 n in
        omega arith

    pub behind : leb (at + size) cut ≡ false → (count - k ≡ 0) × (count - suc k ≡ 0)
    behind q = go (leb (suc k) count) refl
      where
        go : (b : Bool) → leb (suc k) count ≡ b → (count - k ≡ 0) × (count - suc k ≡ 0)
        go true r =
            let n : suc k * size ≤ cut - start = (Words.whole size sized (cut - start) k).0 (leb-true (suc k) count r) in
            absurd (omega (arith, leb-false (at + size) cut q))
        go false r = let lt = leb-false (suc k) count r in (omega arith, omega arith)

  broken_as : (b : Bool) (k at : ℕ) (w : Note ℕ Event) (ws : List (Note ℕ Event)) → at ≡ start + k * size → leb (at + size) cut ≡ b
      → broken_after size cut (at + size) ws ≡ notes (drop (count - suc k) ws)
      → cond b [] w.events ++ broken_after size cut (at + size) ws ≡ notes (drop (count - k) (w ∷ ws))
  broken_as true k at w ws h q ih = rw (in_front k at h q) ih
  broken_as false k at w ws h q ih = let z = behind k at h q in rw z.0 (ap (λ (l : List Event). w.events ++ l) (ih ∙ rw z.1))

  broken_from : (k at : ℕ) (ns : List (Note ℕ Event)) → at ≡ start + k * size → broken_after size cut at ns ≡ notes (drop (count - k) ns)
  broken_from k at [] h = rw drop-nil
  broken_from k at (w ∷ ws) h = broken_as (leb (at + size) cut) k at w ws h refl (broken_from (suc k) (at + size) ws (omega arith))

  pub broken_is : (ns : List (Note ℕ Event)) → broken_after size cut start ns ≡ notes (drop count ns)
  broken_is ns = broken_from 0 start ns (omega arith) ∙ rw sub-zero
