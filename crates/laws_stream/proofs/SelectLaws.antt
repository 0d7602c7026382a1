-- Laws of specs/Select.antt.
use Rattle.laws_stream.proofs.SliceLaws.{sliced}
use Rattle.laws_stream.specs.{Machine.All, Machine.emits, Machine.run, Select.Calm, Select.Reading, Select.Selection, Select.by_number_lem, Select.chosen}
use Rattle.laws_stream.specs.{Select.chosen-cons, Select.chosen_time, Select.handed, Select.in_time, Select.is_over, Select.length-numbered, Select.numbered}
use Rattle.laws_stream.specs.{Select.numbered-cons, Select.numbered_of_lem, Select.spans, Slice.Past, Slice.and_then, Slice.none_sifted, Slice.onto, Slice.sift}
use Rattle.laws_stream.specs.{Slice.sift-all, Slice.sift-append, Slice.sift-sift, Slice.unless, Slice.until}
use Rattle.std.proofs.{Common.arith, Common.le-ltb, Common.leb-false, Common.leb-true, Common.ltb-false, Common.ltb-true, Common.◌∙◌, Math.Bool.and-false}
use Rattle.std.proofs.{Math.Bool.false, Math.Bool.or-false, Math.Bool.true, Math.Dec.leb, Math.ListN.length, Math.Path.ap, Math.Path.refl, Math.Path.sym}
use Rattle.std.proofs.{Math.Seq.drop-nil, Math.Seq.take-nil, lemmas.Bool.lt-leb}
use Rattle.std.specs.Prelude.{Bool, ltb, max, suc, take, ℕ, ◌+◌, ◌-◌, ◌<◌, ◌≡◌, ◌≤◌}
use mathlib.Core.List.{List, [], ◌++◌, ◌∷◌}

module _ {S W E : Type 0} (R : Reading S W E) where
  module _ (win : Selection) where
    -- ---- what is chosen

    spans-past : (k t : ℕ) → win.n1 ≤ k → spans win k t ≡ false
    spans-past k t h = rw (le-ltb k) (and-false (leb win.n0 k))

    pub chosen-past : (k : ℕ) (es : List E) → win.n1 ≤ k → chosen R win k es ≡ []
    chosen-past k [] h = refl
    chosen-past k (e ∷ es) h = rw (spans-past k (R.clock e) h) (chosen-past (suc k) es (omega arith))

    -- where all times are within the window, a choice by number alone
    pub chosen-number : (k : ℕ) (es : List E) → All (λ e. in_time R win e ≡ true) es → chosen R win k es ≡ by_number_lem win.n0 win.n1 k es
    chosen-number k [] h = sym (ap (take (win.n1 - max win.n0 k)) (drop-nil (win.n0 - k)) ∙ take-nil (win.n1 - max win.n0 k))
    chosen-number k (e ∷ es) h = go (leb win.n0 k) refl (ltb k win.n1) refl (chosen-number (suc k) es h.1)
      where
        go : (a : Bool) → leb win.n0 k ≡ a → (b : Bool) → ltb k win.n1 ≡ b → chosen R win (suc k) es ≡ by_number_lem win.n0 win.n1 (suc k) es
            → onto (spans win k (R.clock e)) e (chosen R win (suc k) es) ≡ by_number_lem win.n0 win.n1 k (e ∷ es)
        go false p b q ih =
            let l = leb-false win.n0 k p in
            let d : win.n0 - k ≡ suc (win.n0 - suc k) = omega arith in
            let m : max win.n0 k ≡ max win.n0 (suc k) = omega arith in
            rw (p, d, m) ih
        go true p true q ih =
            let l = leb-true win.n0 k p in
            let l' = ltb-true k win.n1 q in
            let d : win.n0 - k ≡ 0 = omega arith in
            let d' : win.n0 - suc k ≡ 0 = omega arith in
            let m : win.n1 - max win.n0 k ≡ suc (win.n1 - max win.n0 (suc k)) = omega arith in
            rw (p, q, h.0, d, m) (ap (λ (l : List E). e ∷ l) (ih ∙ rw d'))
        go true p false q ih =
            let l = leb-true win.n0 k p in
            let l' = ltb-false k win.n1 q in
            let m : win.n1 - max win.n0 k ≡ 0 = omega arith in
            rw (p, q, m) (chosen-past (suc k) es (omega arith))

    -- ---- BY NUMBER, and THE LIMIT: a stop by number alone loses nothing

    pub handed-chosen : (k : ℕ) (s : S) (ws : List W) → Calm R win s ws → handed R win k s ws ≡ chosen R win k (numbered R s ws)
    unfolding handed
    handed-chosen k s [] c = refl
    handed-chosen k s (w ∷ ws) c =
        let es = numbered_of_lem R s w in
        let j = k + length es in
        let u = R.machine.step s w in
        rw (c.0, or-false (leb win.n1 j)) (ap (λ (l : List E). chosen R win k es ++ l) (go (leb win.n1 j) refl (handed-chosen j u ws c.1)))
        ∙ chosen-cons R win k s w ws
      where
        go : (t : Bool) → leb win.n1 (k + length (numbered_of_lem R s w)) ≡ t
            → handed R win (k + length (numbered_of_lem R s w)) (R.machine.step s w) ws ≡ chosen R win (k + length (numbered_of_lem R s w)) (numbered R (R.machine.step s w) ws)
            → unless t (handed R win (k + length (numbered_of_lem R s w)) (R.machine.step s w) ws)
            ≡ chosen R win (k + length (numbered_of_lem R s w)) (numbered R (R.machine.step s w) ws)
        go true e ih = sym (chosen-past (k + length (numbered_of_lem R s w)) (numbered R (R.machine.step s w) ws) (leb-true _ _ e))
        go false e ih = ih

    pub handed_by-number : (k : ℕ) (s : S) (ws : List W) → Calm R win s ws → All (λ e. in_time R win e ≡ true) (numbered R s ws)
        → handed R win k s ws ≡ by_number_lem win.n0 win.n1 k (numbered R s ws)
    handed_by-number k s ws c h = handed-chosen k s ws c ∙ chosen-number k (numbered R s ws) h

    pub handed-limit : (s : S) (ws : List W) → win.n0 ≡ 0 → Calm R win s ws → All (λ e. in_time R win e ≡ true) (numbered R s ws)
        → handed R win 0 s ws ≡ take win.n1 (numbered R s ws)
    handed-limit s ws z c h =
        let m : win.n1 - max win.n0 0 ≡ win.n1 = omega arith in
        let d : win.n0 - 0 ≡ 0 = omega arith in
        handed_by-number 0 s ws c h ∙ rw (m, d)

    -- ---- BY TIME: where the numbers run past no end

    pub handed_by_time : (k : ℕ) (s : S) (ws : List W) → win.n0 ≤ k → k + length (numbered R s ws) < win.n1
        → handed R win k s ws ≡ sift (in_time R win) (numbered R s (until R.machine (is_over R win) s ws))
    unfolding handed
    handed_by_time k s [] a b = refl
    handed_by_time k s (w ∷ ws) a b =
        let es = numbered_of_lem R s w in
        let j = k + length es in
        let u = R.machine.step s w in
        let vs = until R.machine (is_over R win) u ws in
        let f = length-numbered R s w ws in
        rw (lt-leb win.n1 j (omega arith))
        (ap (λ (l : List E). l ++ unless (is_over R win u) (handed R win j u ws)) (chosen_time R win k es a (omega arith))
        ∙ ap (λ (l : List E). sift (in_time R win) es ++ l) (go (is_over R win u) (handed_by_time j u ws (omega arith) (omega arith))))
        ∙ sym (ap (sift (in_time R win)) (numbered-cons R s w (unless (is_over R win u) vs)) ∙ sift-append (in_time R win) es (numbered R u (unless (is_over R win u) vs)))
      where
        go : (t : Bool)
            → handed R win (k + length (numbered_of_lem R s w)) (R.machine.step s w) ws
            ≡ sift (in_time R win) (numbered R (R.machine.step s w) (until R.machine (is_over R win) (R.machine.step s w) ws))
            → unless t (handed R win (k + length (numbered_of_lem R s w)) (R.machine.step s w) ws)
            ≡ sift (in_time R win) (numbered R (R.machine.step s w) (unless t (until R.machine (is_over R win) (R.machine.step s w) ws)))
        go true ih = refl
        go false ih = ih

    -- ---- ALL: nothing stops, and nothing is left out

    pub handed-all : (k : ℕ) (s : S) (ws : List W) → win.n0 ≤ k → k + length (numbered R s ws) ≤ win.n1 → Calm R win s ws → All (λ e. in_time R win e ≡ true) (numbered R s ws)
        → handed R win k s ws ≡ numbered R s ws
    handed-all k s ws a b c h = handed-chosen k s ws c ∙ chosen_time R win k (numbered R s ws) a b ∙ sift-all (in_time R win) (numbered R s ws) h

    -- ---- from a record, the state and the number after the words a

    -- where none of the events before it is in time
    pub by_time_from : (s : S) (a b : List W) → All (λ e. in_time R win e ≡ false) (numbered R s a) → Past R.machine (and_then R.inside (in_time R win)) (is_over R win) s (a ++ b)
        → sift (in_time R win) (numbered R (run R.machine s a) (until R.machine (is_over R win) (run R.machine s a) b)) ≡ sift (in_time R win) (numbered R s (a ++ b))
    by_time_from s a b h p =
        let u = run R.machine s a in
        sift-sift R.inside (in_time R win) (emits R.machine u (until R.machine (is_over R win) u b))
        ∙ sliced R.machine (and_then R.inside (in_time R win)) (is_over R win) s a b (none_sifted R.inside (in_time R win) (emits R.machine s a) h) p
        ∙ sym (sift-sift R.inside (in_time R win) (emits R.machine s (a ++ b)))
