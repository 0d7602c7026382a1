-- Laws of specs/Seek.antt.
use Prim.Native.Nat.{ℕ, ◌+◌, ◌<◌, ◌≤◌}
use Rattle.laws_stream.proofs.SelectLaws.{handed_by_time}
use Rattle.laws_stream.specs.{Machine.All, Machine.all_append, Machine.all_map, Seek.Reach, Seek.reach, Seek.reach_if, Seek.strays, Select.Reading}
use Rattle.laws_stream.specs.{Select.Selection, Select.handed, Select.in_time, Select.is_over, Select.numbered, Select.numbered-cons, Select.numbered_of_lem}
use Rattle.laws_stream.specs.{Slice.all-sift, Slice.early, Slice.late, Slice.not_reached, Slice.sift, Slice.sift-all, Slice.sift-append, Slice.sift_none}
use Rattle.laws_stream.specs.{Slice.timely, Slice.until}
use Rattle.std.proofs.{Common.ap, Common.sym, Common.true≢false, Common.◌∙◌, Math.Bool.false, Math.Bool.true, Math.Dec.ltb, Math.ListN.length, Math.Path.refl}
use Rattle.std.specs.Prelude.{Bool, drop, leb, take, ◌&&◌, ◌||◌, ◌≡◌}
use borrow.Author.Tests.{le-leb, ltb-false, ltb-true}
use mathlib.Core.List.{List, [], ◌++◌, ◌∷◌}
use native.Mathlib.Omega.{arith}

-- Of a slice by time: an event's time is the state's after its word.
module _ {S W E : Type 0} (R : Reading S W E) (carries : W → Bool)
    (stamped : (s : S) (w : W) → All (λ e. R.clock e ≡ R.time (R.machine.step s w)) (R.machine.emit s w)) (win : Selection) where
  abbrev timely_until : S → List W → List E
  timely_until s ws = sift (in_time R win) (numbered R s (until R.machine (is_over R win) s ws))

  stamped-all : (P : E → Type 0) (s : S) (w : W) → ((e : E) → R.clock e ≡ R.time (R.machine.step s w) → P e) → All P (numbered_of_lem R s w)
  stamped-all P s w f = all-sift R.inside P (R.machine.emit s w) (all_map _ P f (R.machine.emit s w) (stamped s w))

  no_early : (s : S) (w : W) → R.time (R.machine.step s w) < win.t0 → sift (in_time R win) (numbered_of_lem R s w) ≡ []
  no_early s w h = sift_none (in_time R win) (numbered_of_lem R s w) (stamped-all _ s w (λ e q. early R.clock win.t0 win.t1 e (omega arith)))

  no_late : (s : S) (w : W) → win.t1 ≤ R.time (R.machine.step s w) → sift (in_time R win) (numbered_of_lem R s w) ≡ []
  no_late s w h = sift_none (in_time R win) (numbered_of_lem R s w) (stamped-all _ s w (λ e q. late R.clock win.t0 win.t1 e (omega arith)))

  -- of a word and those after it
  timely_cons : (s : S) (w : W) (ws : List W)
      → sift (in_time R win) (numbered R s (w ∷ ws)) ≡ sift (in_time R win) (numbered_of_lem R s w) ++ sift (in_time R win) (numbered R (R.machine.step s w) ws)
  timely_cons s w ws = ap (sift (in_time R win)) (numbered-cons R s w ws) ∙ sift-append (in_time R win) (numbered_of_lem R s w) (numbered R (R.machine.step s w) ws)

  goes_on : (s : S) (w : W) (ws : List W) → R.time (R.machine.step s w) < win.t1
      → timely_until s (w ∷ ws) ≡ sift (in_time R win) (numbered_of_lem R s w) ++ timely_until (R.machine.step s w) ws
  goes_on s w ws h =
      rw (not_reached R.live R.time win.t1 (R.machine.step s w) h) (timely_cons s w (until R.machine (is_over R win) (R.machine.step s w) ws))

  -- FROM a time that is no later than the slice's first: nothing is lost
  module _ (t₀ t : ℕ) (first : t ≤ win.t0) (last : t ≤ win.t1) where
    abbrev from : S → List W → Reach S
    from s ws = reach R.machine R.time carries t₀ t s ws

    timely_from : (s : S) (ws : List W) → timely_until s ws ≡ timely_until (from s ws).state (drop (from s ws).words ws)
    unfolding reach
    timely_from s [] = refl
    timely_from s (w ∷ ws) =
        go (ltb (R.time (R.machine.step s w)) t) refl (strays R.machine R.time carries t₀ t w (R.machine.step s w))
        (from (R.machine.step s w) ws) (timely_from (R.machine.step s w) ws)
      where
        go : (b : Bool) → ltb (R.time (R.machine.step s w)) t ≡ b → (f : Bool) (r : Reach S)
            → timely_until (R.machine.step s w) ws ≡ timely_until r.state (drop r.words ws)
            → timely_until s (w ∷ ws) ≡ timely_until (reach_if b s f r).state (drop (reach_if b s f r).words (w ∷ ws))
        go true q f r ih =
            let h = ltb-true (R.time (R.machine.step s w)) t q in
            goes_on s w ws (omega arith) ∙ rw (no_early s w (omega arith)) ih
        go false q f r ih = refl

    pub handed-from : (k j : ℕ) (s : S) (ws : List W) → win.n0 ≤ k → k + length (numbered R s ws) < win.n1
        → win.n0 ≤ j → j + length (numbered R (from s ws).state (drop (from s ws).words ws)) < win.n1
        → handed R win k s ws ≡ handed R win j (from s ws).state (drop (from s ws).words ws)
    handed-from k j s ws a b c d =
        handed_by_time R win k s ws a b ∙ timely_from s ws ∙ sym (handed_by_time R win j (from s ws).state (drop (from s ws).words ws) c d)

  -- UP TO the time before which a slice ends: all that is handed over, where no word strays
  module _ (Inv : S → Type 0) (keeps : (s : S) (w : W) → Inv s → Inv (R.machine.step s w)) (wakes : (s : S) → Inv s → R.live s ≡ false → R.time s ≡ 0)
      (silent : (s : S) (w : W) → carries w ≡ false → R.machine.emit s w ≡ []) (some : 0 < win.t1) where
    abbrev upto : S → List W → Reach S
    upto s ws = reach R.machine R.time carries win.t0 win.t1 s ws

    is_over_lem : (s : S) → Inv s → win.t1 ≤ R.time s → is_over R win s ≡ true
    is_over_lem s i h = go (R.live s) refl
      where
        go : (b : Bool) → R.live s ≡ b → (b && leb win.t1 (R.time s)) ≡ true
        go true q = le-leb win.t1 (R.time s) h
        go false q = let z = wakes s i q in absurd (omega arith)

    timely_upto : (s : S) (ws : List W) → Inv s → timely_until s ws ≡ sift (in_time R win) (numbered R s (take (upto s ws).words ws))
    unfolding reach
    timely_upto s [] i = refl
    timely_upto s (w ∷ ws) i =
        go (ltb (R.time (R.machine.step s w)) win.t1) refl
        (strays R.machine R.time carries win.t0 win.t1 w (R.machine.step s w)) (upto (R.machine.step s w) ws)
        (timely_upto (R.machine.step s w) ws (keeps s w i))
      where
        go : (b : Bool) → ltb (R.time (R.machine.step s w)) win.t1 ≡ b → (f : Bool) (r : Reach S)
            → timely_until (R.machine.step s w) ws ≡ sift (in_time R win) (numbered R (R.machine.step s w) (take r.words ws))
            → timely_until s (w ∷ ws) ≡ sift (in_time R win) (numbered R s (take (reach_if b s f r).words (w ∷ ws)))
        go true q f r ih = goes_on s w ws (ltb-true (R.time (R.machine.step s w)) win.t1 q) ∙ rw ih (sym (timely_cons s w (take r.words ws)))
        go false q f r ih =
            let h = ltb-false (R.time (R.machine.step s w)) win.t1 q in
            rw (is_over_lem (R.machine.step s w) (keeps s w i) h) (timely_cons s w [] ∙ rw (no_late s w h))

    -- none of a word that doesn't stray is too early
    all-word : (s : S) (w : W) → R.time (R.machine.step s w) < win.t1
        → strays R.machine R.time carries win.t0 win.t1 w (R.machine.step s w) ≡ false
        → All (λ e. in_time R win e ≡ true) (numbered_of_lem R s w)
    all-word s w h q = go (ltb (R.time (R.machine.step s w)) win.t0) refl q
      where
        go : (b : Bool) → ltb (R.time (R.machine.step s w)) win.t0 ≡ b → (b && carries w) ≡ false → All (λ e. in_time R win e ≡ true) (numbered_of_lem R s w)
        go true p z = rw (silent s w z) tt
        go false p z =
            let l = ltb-false (R.time (R.machine.step s w)) win.t0 p in
            stamped-all _ s w (λ e m. timely R.clock win.t0 win.t1 e (omega arith) (omega arith))

    neither : (a b : Bool) → (a || b) ≡ false → (a ≡ false) × (b ≡ false)
    neither true b h = absurd (true≢false h)
    neither false b h = (refl, h)

    all-upto : (s : S) (ws : List W) → (upto s ws).stray ≡ false → All (λ e. in_time R win e ≡ true) (numbered R s (take (upto s ws).words ws))
    unfolding reach
    all-upto s [] z = tt
    all-upto s (w ∷ ws) z =
        go (ltb (R.time (R.machine.step s w)) win.t1) refl
        (strays R.machine R.time carries win.t0 win.t1 w (R.machine.step s w)) refl (upto (R.machine.step s w) ws)
        (all-upto (R.machine.step s w) ws) z
      where
        go : (b : Bool) → ltb (R.time (R.machine.step s w)) win.t1 ≡ b → (f : Bool)
            → strays R.machine R.time carries win.t0 win.t1 w (R.machine.step s w) ≡ f → (r : Reach S)
            → (r.stray ≡ false → All (λ e. in_time R win e ≡ true) (numbered R (R.machine.step s w) (take r.words ws)))
            → (reach_if b s f r).stray ≡ false → All (λ e. in_time R win e ≡ true) (numbered R s (take (reach_if b s f r).words (w ∷ ws)))
        go true q f p r ih z =
            let n = neither f r.stray z in
            rw (numbered-cons R s w (take r.words ws))
            (all_append _ (numbered_of_lem R s w) (numbered R (R.machine.step s w) (take r.words ws))
            (all-word s w (ltb-true (R.time (R.machine.step s w)) win.t1 q) (p ∙ n.0)) (ih n.1))
        go false q f p r ih z = tt

    pub handed-upto : (k : ℕ) (s : S) (ws : List W) → Inv s → win.n0 ≤ k → k + length (numbered R s ws) < win.n1 → (upto s ws).stray ≡ false
        → handed R win k s ws ≡ numbered R s (take (upto s ws).words ws)
    handed-upto k s ws i a b z =
        handed_by_time R win k s ws a b ∙ timely_upto s ws i ∙ sift-all (in_time R win) (numbered R s (take (upto s ws).words ws)) (all-upto s ws z)
