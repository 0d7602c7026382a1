-- A part of a stream's events, by number and by time.
use Rattle.std.specs.Prelude.{◌≡◌, refl, List, [], ◌∷◌, ◌++◌, map, Bool, true, false, ◌&&◌, ℕ, ◌≤◌, ◌<◌, leb, ltb}
use Rattle.std.proofs.Common.{sym, ap, ◌∙◌, append_assoc, arith, leb-true, le-leb, lt-ltb, le-ltb}
use Rattle.std.proofs.Math.Bool.{and-false}
use Rattle.std.proofs.lemmas.Bool.{lt-leb}
use Rattle.laws_stream.specs.Machine.{and_both, Machine, Note, All, all_append, all-append-left, all_map, run, emits, words, notes, Says}
use Rattle.laws_stream.specs.Machine.{says_emits}

module _ {E : Type 0} where
  abbrev pub onto : Bool → E → List E → List E
  onto true e l = e ∷ l
  onto false e l = l

  pub onto-append : (b : Bool) (e : E) (l m : List E) → onto b e l ++ m ≡ onto b e (l ++ m)
  onto-append true e l m = refl
  onto-append false e l m = refl

module _ {E : Type 0} (keep : E → Bool) where
  -- the events that are kept, in order
  abbrev pub sift : List E → List E
  sift [] = []
  sift (e ∷ es) = onto (keep e) e (sift es)

  pub sift-append : (a b : List E) → sift (a ++ b) ≡ sift a ++ sift b
  sift-append [] b = refl
  sift-append (e ∷ a) b = rw (sift-append a b, onto-append)

  pub all-sift : (P : E → Type 0) (a : List E) → All P a → All P (sift a)
  all-sift P [] h = tt
  all-sift P (e ∷ a) h = go (keep e) (all-sift P a h.1)
    where
      go : (b : Bool) → All P (sift a) → All P (onto b e (sift a))
      go true k = (h.0, k)
      go false k = k

  pub sift-all : (a : List E) → All (λ e. keep e ≡ true) a → sift a ≡ a
  sift-all [] h = refl
  sift-all (e ∷ a) h = rw (h.0, sift-all a h.1)

  pub sift_none : (a : List E) → All (λ e. keep e ≡ false) a → sift a ≡ []
  sift_none [] h = refl
  sift_none (e ∷ a) h = rw h.0 (sift_none a h.1)

-- tests that agree on all of them
pub sift_alike : {E : Type 0} (keep other : E → Bool) (a : List E) → All (λ e. keep e ≡ other e) a → sift keep a ≡ sift other a
sift_alike keep other [] h = refl
sift_alike keep other (e ∷ a) h = rw (h.0, sift_alike keep other a h.1)

-- a test of what comes of each
pub sift_mapped : {A E : Type 0} (f : E → Bool) (g : A → E) (h : A → Bool) → ((a : A) → f (g a) ≡ h a) → (l : List A) → sift f (map g l) ≡ map g (sift h l)
sift_mapped f g h same [] = refl
sift_mapped f g h same (a ∷ l) = rw (same a, sift_mapped f g h same l) (go (h a))
  where
    go : (b : Bool) → onto b (g a) (map g (sift h l)) ≡ map g (onto b a (sift h l))
    go true = refl
    go false = refl

-- one test after another
module _ {E : Type 0} (first then : E → Bool) where
  abbrev pub and_then : E → Bool
  and_then e = first e && then e

  pub sift-sift : (a : List E) → sift then (sift first a) ≡ sift and_then a
  sift-sift [] = refl
  sift-sift (e ∷ a) = go (first e) (sift-sift a)
    where
      go : (b : Bool) → sift then (sift first a) ≡ sift and_then a → sift then (onto b e (sift first a)) ≡ onto (b && then e) e (sift and_then a)
      go true ih = rw ih
      go false ih = ih

  pub none_sifted : (a : List E) → All (λ e. then e ≡ false) (sift first a) → All (λ e. and_then e ≡ false) a
  none_sifted [] h = tt
  none_sifted (e ∷ a) h = go (first e) refl h (none_sifted a)
    where
      go : (b : Bool) → first e ≡ b → All (λ e. then e ≡ false) (onto b e (sift first a))
          → (All (λ e. then e ≡ false) (sift first a) → All (λ e. and_then e ≡ false) a) → (and_then e ≡ false) × All (λ e. and_then e ≡ false) a
      go true q h ih = (rw h.0 (and-false (first e)), ih h.1)
      go false q h ih = (rw q, ih h)

  none_then : (a : List E) → All (λ e. then e ≡ false) a → All (λ e. and_then e ≡ false) a
  none_then a h = all_map _ _ (λ e q. rw q (and-false (first e))) a h

module _ {W : Type 0} where
  abbrev pub unless : Bool → List W → List W
  unless true ws = []
  unless false ws = ws

module _ {S W E : Type 0} (M : Machine S W E) (done : S → Bool) where
  -- the words up to the first after which the machine is done, that one with them
  abbrev pub until : S → List W → List W
  until s [] = []
  until s (w ∷ ws) = w ∷ unless (done (M.step s w)) (until (M.step s w) ws)

module _ {S W E : Type 0} (M : Machine S W E) (keep : E → Bool) (done : S → Bool) where
  -- where the machine is done after a word, nothing that is kept is left
  abbrev pub Past : S → List W → Type 0
  Past s [] = Unit
  Past s (w ∷ ws) = (done (M.step s w) ≡ true → All (λ e. keep e ≡ false) (emits M (M.step s w) ws)) × Past (M.step s w) ws

  until_go : (s : S) (ws vs : List W) (b : Bool) → (b ≡ true → All (λ e. keep e ≡ false) (emits M s ws)) → sift keep (emits M s vs) ≡ sift keep (emits M s ws)
      → sift keep (emits M s (unless b vs)) ≡ sift keep (emits M s ws)
  until_go s ws vs true h ih = sym (sift_none keep (emits M s ws) (h refl))
  until_go s ws vs false h ih = ih

  pub until-sift : (s : S) (ws : List W) → Past s ws → sift keep (emits M s (until M done s ws)) ≡ sift keep (emits M s ws)
  until-sift s [] h = refl
  until-sift s (w ∷ ws) h =
      let t = M.step s w in
      sift-append keep (M.emit s w) (emits M t (unless (done t) (until M done t ws)))
      ∙ ap (λ (l : List E). sift keep (M.emit s w) ++ l) (until_go t ws (until M done t ws) (done t) h.0 (until-sift t ws h.1))
      ∙ sym (sift-append keep (M.emit s w) (emits M t ws))

  pub past-append : (s : S) (a b : List W) → Past s (a ++ b) → Past (run M s a) b
  past-append s [] b p = p
  past-append s (w ∷ a) b p = past-append (M.step s w) a b p.1

  -- a stream that was written is such a one
  module _ (Fits : W → Type 0) (Ready : S → List E → Type 0) (over : (s : S) (es : List E) → Ready s es → done s ≡ true → All (λ e. keep e ≡ false) es) where
    ready_now : (s : S) (ns : List (Note W E)) (more : List E) → Says M Fits Ready s ns more → Ready s (notes ns ++ more)
    ready_now s [] more p = p
    ready_now s (a ∷ ns) more p = rw append_assoc p.ready

    pub says_past : (s : S) (ns : List (Note W E)) (more : List E) → Says M Fits Ready s ns more → Past s (words ns)
    says_past s [] more p = tt
    says_past s (a ∷ ns) more p =
        let t = M.step s a.word in (
          (λ d. rw (says_emits M Fits Ready t ns more p.rest)
              (all-append-left _ (notes ns) more (over t (notes ns ++ more) (ready_now t ns more p.rest) d))),
          says_past t ns more p.rest,
        )

module _ {S W E : Type 0} (M : Machine S W E) (first then : E → Bool) (done : S → Bool) where
  pub past_then : (s : S) (ws : List W) → Past M then done s ws → Past M (and_then first then) done s ws
  past_then s [] p = tt
  past_then s (w ∷ ws) p = ((λ d. none_then first then (emits M (M.step s w) ws) (p.0 d)), past_then (M.step s w) ws p.1)

-- by time
module _ {E : Type 0} (clock : E → ℕ) (t₀ t₁ : ℕ) where
  abbrev pub within : E → Bool
  within e = leb t₀ (clock e) && ltb (clock e) t₁

  pub early : (e : E) → clock e < t₀ → within e ≡ false
  early e h = rw (lt-leb t₀ (clock e) h)

  pub late : (e : E) → t₁ ≤ clock e → within e ≡ false
  late e h = rw (le-ltb (clock e) t₁ h) (and-false (leb t₀ (clock e)))

  pub timely : (e : E) → t₀ ≤ clock e → clock e < t₁ → within e ≡ true
  timely e h k = rw (le-leb t₀ (clock e) h, lt-ltb (clock e) t₁ k)

  pub all_early : (es : List E) → All (λ e. clock e < t₀) es → All (λ e. within e ≡ false) es
  all_early es h = all_map _ _ early es h

module _ {S : Type 0} (live : S → Bool) (time : S → ℕ) (t₁ : ℕ) where
  abbrev pub reached : S → Bool
  reached s = live s && leb t₁ (time s)

  pub not_reached : (s : S) → time s < t₁ → reached s ≡ false
  not_reached s h = rw (lt-leb t₁ (time s) h) (and-false (live s))

  -- where the times to come are no less than the state's, nothing within the span is left after it is reached
  pub over_time : {E : Type 0} (clock : E → ℕ) (t₀ : ℕ) (s : S) (es : List E) → (live s ≡ true → All (λ e. time s ≤ clock e) es) → reached s ≡ true
      → All (λ e. within clock t₀ t₁ e ≡ false) es
  over_time clock t₀ s es h r =
      let q = and_both (live s) (leb t₁ (time s)) r in
      all_map _ _ (λ e k. late clock t₀ t₁ e (omega (arith, leb-true t₁ (time s) q.1))) es (h q.0)

-- a stream whose times never fall
module _ {S W E : Type 0} (M : Machine S W E) (live : S → Bool) (time : S → ℕ) (clock : E → ℕ) where
  abbrev pub Rising : S → List W → Type 0
  Rising s [] = Unit
  Rising s (w ∷ ws) = (live s ≡ true → time s ≤ time (M.step s w)) × Rising (M.step s w) ws

  module _ (stamped : (s : S) (w : W) → All (λ e. clock e ≡ time (M.step s w)) (M.emit s w))
      (stays : (s : S) (w : W) → live s ≡ true → live (M.step s w) ≡ true) where
    pub rising_all : (s : S) (ws : List W) (t : ℕ) → live s ≡ true → t ≤ time s → Rising s ws → All (λ e. t ≤ clock e) (emits M s ws)
    rising_all s [] t l h r = tt
    rising_all s (w ∷ ws) t l h r =
        let k : t ≤ time (M.step s w) = omega (arith, r.0 l) in
        all_append _ (M.emit s w) (emits M (M.step s w) ws) (all_map _ _ (λ e q. omega arith) (M.emit s w) (stamped s w))
        (rising_all (M.step s w) ws t (stays s w l) k r.1)

    pub rising_past : (t₀ t₁ : ℕ) (s : S) (ws : List W) → Rising s ws → Past M (within clock t₀ t₁) (reached live time t₁) s ws
    rising_past t₀ t₁ s [] r = tt
    rising_past t₀ t₁ s (w ∷ ws) r =
        let u = M.step s w in (
          over_time live time t₁ clock t₀ u (emits M u ws) (λ l. rising_all u ws (time u) l (omega arith) r.1),
          rising_past t₀ t₁ u ws r.1,
        )
