-- Laws of specs/PassOver.antt.
use Rattle.laws_stream.proofs.SelectLaws.{chosen-past}
use Rattle.laws_stream.specs.{PassOver.Over, PassOver.over, PassOver.over-nil, PassOver.over_on, PassOver.over_stop, Select.Calm, Select.Reading}
use Rattle.laws_stream.specs.{Select.Selection, Select.chosen, Select.ended, Select.handed, Select.handed-after, Select.handed_on, Select.handed_stop}
use Rattle.laws_stream.specs.{Select.is_over, Select.is_stopped, Select.numbered, Select.numbered_of_lem}
use Rattle.std.proofs.{Common.add-zero, Common.ap, Common.arith, Common.sym, Common.◌∙◌, Math.Bool.false, Math.Bool.true, Math.Dec.leb, Math.Path.refl}
use Rattle.std.specs.Prelude.{Bool, drop, length, suc, take, ℕ, ◌+◌, ◌-◌, ◌≡◌, ◌≤◌}
use borrow.Author.Tests.{leb-false, leb-true, lt-leb}
use mathlib.Core.List.{List, [], ◌∷◌}

module _ {S W E : Type 0} (R : Reading S W E) (win : Selection) where
  -- events whose numbers stay below n0
  chosen-before : (k : ℕ) (es : List E) → length es ≤ win.n0 - k → chosen R win k es ≡ []
  chosen-before k [] h = refl
  chosen-before k (e ∷ es) h = rw (lt-leb win.n0 k (omega arith)) (chosen-before (suc k) es (omega arith))

  handed-past : (k : ℕ) (s : S) (ws : List W) → win.n1 ≤ k → handed R win k s ws ≡ []
  handed-past k s ws h = handed-after R win k s ws ∙ chosen-past R win k (numbered R s (take (ended R win k s ws).consumed ws)) h

  -- a word with no number past n0, after which the state hasn't reached t1
  handed_skip : (k : ℕ) (s : S) (w : W) (ws : List W) → length (numbered_of_lem R s w) ≤ win.n0 - k → is_over R win (R.machine.step s w) ≡ false
      → handed R win k s (w ∷ ws) ≡ handed R win (k + length (numbered_of_lem R s w)) (R.machine.step s w) ws
  handed_skip k s w ws h c = go (leb win.n1 (k + length (numbered_of_lem R s w))) refl
    where
      go : (b : Bool) → leb win.n1 (k + length (numbered_of_lem R s w)) ≡ b
          → handed R win k s (w ∷ ws) ≡ handed R win (k + length (numbered_of_lem R s w)) (R.machine.step s w) ws
      go true e =
          let st : is_stopped R win (k + length (numbered_of_lem R s w)) (R.machine.step s w) ≡ true = rw e in
          handed_stop R win k s w ws st ∙ chosen-before k (numbered_of_lem R s w) h
          ∙ sym (handed-past (k + length (numbered_of_lem R s w)) (R.machine.step s w) ws (leb-true win.n1 (k + length (numbered_of_lem R s w)) e))
      go false e =
          let st : is_stopped R win (k + length (numbered_of_lem R s w)) (R.machine.step s w) ≡ false = rw (e, c) in
          handed_on R win k s w ws st ∙ rw (chosen-before k (numbered_of_lem R s w) h)

  -- what is handed over behind what was passed over
  abbrev handed_from : ℕ → List W → Over S → List E
  handed_from k ws r = handed R win (k + r.count) r.state (drop r.words ws)

  -- THE LAW: what is passed over hands nothing over, and the pass doesn't stop there, where no number reaches n0 and no state t1
  pub handed-over : (most k : ℕ) → most ≤ win.n0 - k → (s : S) (ws : List W) → Calm R win s ws
      → handed R win k s ws ≡ handed_from k ws (over R.machine R.inside most s ws)
  handed-over most k h s [] c = sym (ap (handed_from k []) (over-nil R.machine R.inside most s) ∙ rw add-zero)
  handed-over most k h s (w ∷ ws) c =
      go (leb (length (numbered_of_lem R s w)) most) refl
      (λ l. handed-over (most - length (numbered_of_lem R s w)) (k + length (numbered_of_lem R s w)) l (R.machine.step s w) ws c.1)
    where
      go : (b : Bool) → leb (length (numbered_of_lem R s w)) most ≡ b
          → (most - length (numbered_of_lem R s w) ≤ win.n0 - (k + length (numbered_of_lem R s w))
          → handed R win (k + length (numbered_of_lem R s w)) (R.machine.step s w) ws
          ≡ handed_from (k + length (numbered_of_lem R s w)) ws (over R.machine R.inside (most - length (numbered_of_lem R s w)) (R.machine.step s w) ws))
          → handed R win k s (w ∷ ws) ≡ handed_from k (w ∷ ws) (over R.machine R.inside most s (w ∷ ws))
      go true e ih =
          let m = length (numbered_of_lem R s w) in
          let l = leb-true m most e in
          let u = R.machine.step s w in
          let r = over R.machine R.inside (most - m) u ws in
          handed_skip k s w ws (omega arith) c.0 ∙ ih (omega arith)
          ∙ ap (λ (j : ℕ). handed R win j r.state (drop r.words ws)) (omega arith)
          ∙ sym (ap (handed_from k (w ∷ ws)) (over_on R.machine R.inside most s w ws l))
      go false e ih = sym (ap (handed_from k (w ∷ ws)) (over_stop R.machine R.inside most s w ws (leb-false _ _ e)) ∙ rw add-zero)
