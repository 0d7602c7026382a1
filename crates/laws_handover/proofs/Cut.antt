-- Laws of specs/Cut.antt.
use Rattle.evt_types.specs.Event.{Event}
use Rattle.laws_handover.specs.{Cut.behind, Cut.broken_is, Cut.count, Cut.in_front, Handover.broken_after, Handover.whole_before_lem}
use Rattle.laws_stream.specs.Machine.{Note, notes, notes_split}
use Rattle.std.proofs.{Common.arith, Common.◌∙◌, Math.Nat.sub-zero, Math.Seq.take-nil}
use Rattle.std.specs.Prelude.{Bool, List, [], cond, false, leb, refl, suc, take, true, ℕ, ◌*◌, ◌++◌, ◌+◌, ◌-◌, ◌<◌, ◌∷◌, ◌≡◌}

module _ (size cut start : ℕ) (sized : 0 < size) where
  -- from word k on, which begins at byte `at`
  whole_as : (b : Bool) (k at : ℕ) (w : Note ℕ Event) (ws : List (Note ℕ Event)) → at ≡ start + k * size → leb (at + size) cut ≡ b
      → whole_before_lem size cut (at + size) ws ≡ notes (take (count size cut start sized - suc k) ws)
      → cond b w.events [] ++ whole_before_lem size cut (at + size) ws ≡ notes (take (count size cut start sized - k) (w ∷ ws))
  whole_as true k at w ws h q ih = rw (in_front size cut start sized k at h q, ih)
  whole_as false k at w ws h q ih = let z = behind size cut start sized k at h q in ih ∙ rw (z.0, z.1)

  whole_from : (k at : ℕ) (ns : List (Note ℕ Event)) → at ≡ start + k * size → whole_before_lem size cut at ns ≡ notes (take (count size cut start sized - k) ns)
  whole_from k at [] h = rw take-nil
  whole_from k at (w ∷ ws) h = whole_as (leb (at + size) cut) k at w ws h refl (whole_from (suc k) (at + size) ws (omega arith))

  pub whole_is : (ns : List (Note ℕ Event)) → whole_before_lem size cut start ns ≡ notes (take (count size cut start sized) ns)
  whole_is ns = whole_from 0 start ns (omega arith) ∙ rw sub-zero

  pub cut_parts : (ns : List (Note ℕ Event)) → whole_before_lem size cut start ns ++ broken_after size cut start ns ≡ notes ns
  cut_parts ns = rw (whole_is ns, broken_is size cut start sized ns) (notes_split (count size cut start sized) ns)
