-- What words carry beside the events: a second machine with the same step and another emission, and where a limit on the events ends it.
use Rattle.std.specs.Prelude.{◌≡◌, Bool, true, false, cond, not, ◌||◌, leb, ltb, take}
use Rattle.std.proofs.Math.Path.{refl}
use Rattle.std.proofs.Common.{sym, ap, ◌∙◌, length-append, leb-true, leb-false, lt-ltb, le-ltb}
use Rattle.std.proofs.Math.Bool.{or-false}
use mathlib.Core.List.{List, [], ◌∷◌, ◌++◌}
use Prim.Native.Nat.{ℕ, suc, ◌+◌, ◌-◌, ◌≤◌, ◌<◌}
use native.Mathlib.Omega.{arith}
use Rattle.std.proofs.Math.ListN.{length}
use Rattle.laws_stream.specs.{Machine.Machine, Machine.run, Machine.emits, Machine.All, Slice.onto, Slice.sift, Slice.sift-append, Slice.sift_alike}
use Rattle.laws_stream.specs.PassOver.{numbers_in}
use Rattle.laws_stream.specs.Select.{Reading, Selection, numbered_of_lem, is_stopped, end_at, one_more, ended, Calm}

abbrev pub emitting : {S W E F : Type 0} → Machine S W E → (S → W → List F) → Machine S W F
emitting M f = record { step = M.step; emit = f }

module _ {S W E F : Type 0} (M : Machine S W E) (f : S → W → List F) where
  -- both run through the same states
  pub run-emitting : (s : S) (ws : List W) → run (emitting M f) s ws ≡ run M s ws
  run-emitting s [] = refl
  run-emitting s (w ∷ ws) = run-emitting (M.step s w) ws

  module _ (keep : E → Bool) where
    -- that of the words before the one with which the events that are kept reach n
    abbrev pub emits_before : ℕ → S → List W → List F
    emits_before n s [] = []
    emits_before n s (w ∷ ws) = cond (ltb (numbers_in M keep s w) n) (f s w ++ emits_before (n - numbers_in M keep s w) (M.step s w) ws) []

    -- the events that are kept
    abbrev kept_of : S → List W → ℕ
    kept_of s ws = length (sift keep (emits M s ws))

    kept_next : (s : S) (w : W) (ws : List W) → kept_of s (w ∷ ws) ≡ numbers_in M keep s w + kept_of (M.step s w) ws
    kept_next s w ws =
        rw (sift-append keep (M.emit s w) (emits M (M.step s w) ws)) (length-append (sift keep (M.emit s w)) (sift keep (emits M (M.step s w) ws)))

    pub before_none : (s : S) (ws : List W) → emits_before 0 s ws ≡ []
    before_none s [] = refl
    before_none s (w ∷ ws) = rw (le-ltb (numbers_in M keep s w) 0 (omega arith))

    -- fewer than n: all
    pub before_few : (n : ℕ) (s : S) (ws : List W) → kept_of s ws < n → emits_before n s ws ≡ emits (emitting M f) s ws
    before_few n s [] h = refl
    before_few n s (w ∷ ws) h =
        let m = numbers_in M keep s w in
        let e = kept_next s w ws in
        rw (lt-ltb m n (omega arith)) (ap (λ (l : List F). f s w ++ l) (before_few (n - m) (M.step s w) ws (omega arith)))

    -- no more than the words where none has more than one
    pub before-most : ((s : S) (w : W) → length (f s w) ≤ 1) → (n : ℕ) (s : S) (ws : List W) → length (emits_before n s ws) ≤ length ws
    before-most few n s [] = omega arith
    before-most few n s (w ∷ ws) = go (ltb m n) (emits_before (n - m) (M.step s w) ws) (before-most few (n - m) (M.step s w) ws)
      where
        m : ℕ
        m = numbers_in M keep s w

        go : (b : Bool) (rest : List F) → length rest ≤ length ws → length (cond b (f s w ++ rest) []) ≤ suc (length ws)
        go true rest ih = omega (arith, length-append (f s w) rest, few s w)
        go false rest ih = omega arith

    -- w holds the n-th
    pub before-nth : (n : ℕ) (s : S) (a : List W) (w : W) (b : List W) → kept_of s a < n → n ≤ kept_of s a + numbers_in M keep (run M s a) w
        → emits_before n s (a ++ w ∷ b) ≡ emits (emitting M f) s a
    before-nth n s [] w b h k = rw (le-ltb (numbers_in M keep s w) n (omega arith))
    before-nth n s (v ∷ a) w b h k =
        let m = numbers_in M keep s v in
        let e = kept_next s v a in
        rw (lt-ltb m n (omega arith)) (ap (λ (l : List F). f s v ++ l) (before-nth (n - m) (M.step s v) a w b (omega arith) (omega arith)))

  -- tests that agree on all events, from states for which they do
  module _ (keep other : E → Bool) (Inv : ℕ → S → Type 0) (uses : (n : ℕ) (s : S) (w : W) → Inv (suc n) s → Inv n (M.step s w))
      (agree : (n : ℕ) (s : S) (w : W) → Inv (suc n) s → All (λ e. keep e ≡ other e) (M.emit s w)) where
    pub before_alike : (n : ℕ) (s : S) (ws : List W) → Inv (length ws) s → emits_before keep n s ws ≡ emits_before other n s ws
    before_alike n s [] i = refl
    before_alike n s (w ∷ ws) i =
        let m : numbers_in M keep s w ≡ numbers_in M other s w = ap length (sift_alike keep other (M.emit s w) (agree (length ws) s w i)) in
        rw (m, before_alike (n - numbers_in M other s w) (M.step s w) ws (uses (length ws) s w i))

-- The words that a pass of selection consumes until n events have a number. Its last word holds the n-th, and a word that holds events emits nothing else.
module _ {S W E F : Type 0} (R : Reading S W E) (win : Selection) (f : S → W → List F)
    (apart : (s : S) (w : W) → 0 < length (numbered_of_lem R s w) → f s w ≡ []) where
  pub ended-within : (k : ℕ) (s : S) (ws : List W) → (ended R win k s ws).consumed ≤ length ws
  unfolding ended
  ended-within k s [] = omega arith
  ended-within k s (w ∷ ws) = go (is_stopped R win j u) (ended-within j u ws)
    where
      j : ℕ
      j = k + length (numbered_of_lem R s w)

      u : S
      u = R.machine.step s w

      go : (b : Bool) → (ended R win j u ws).consumed ≤ length ws → (one_more (end_at b j u (ended R win j u ws))).consumed ≤ suc (length ws)
      go true h = omega arith
      go false h = omega arith

  pub before-ended : (k : ℕ) (s : S) (ws : List W) → k < win.n1 → Calm R win s ws
      → emits_before R.machine f R.inside (win.n1 - k) s ws ≡ emits (emitting R.machine f) s (take (ended R win k s ws).consumed ws)
  unfolding ended
  before-ended k s [] h c = refl
  before-ended k s (w ∷ ws) h c =
      go (is_stopped R win j u) refl (λ l. before-ended (k + length (numbered_of_lem R s w)) (R.machine.step s w) ws l c.1)
    where
      m : ℕ
      m = length (numbered_of_lem R s w)

      j : ℕ
      j = k + m

      u : S
      u = R.machine.step s w

      Goal : Bool → Type 0
      Goal b = emits_before R.machine f R.inside (win.n1 - k) s (w ∷ ws)
          ≡ emits (emitting R.machine f) s (take (one_more (end_at b j u (ended R win j u ws))).consumed (w ∷ ws))

      full : (b : Bool) → is_stopped R win j u ≡ b → leb win.n1 j ≡ b
      full b e = sym (or-false (leb win.n1 j)) ∙ ap (λ (t : Bool). leb win.n1 j || t) (sym c.0) ∙ e

      go : (b : Bool) → is_stopped R win j u ≡ b
          → (j < win.n1
          → emits_before R.machine f R.inside (win.n1 - j) u ws ≡ emits (emitting R.machine f) u (take (ended R win j u ws).consumed ws))
          → Goal b
      go true e ih =
          let l = leb-true win.n1 j (full true e) in
          rw (le-ltb m (win.n1 - k) (omega arith)) (sym (ap (λ (l : List F). l ++ []) (apart s w (omega arith))))
      go false e ih =
          let l = leb-false win.n1 j (full false e) in
          let n : win.n1 - k - m ≡ win.n1 - j = omega arith in
          rw (lt-ltb m (win.n1 - k) (omega arith), n) (ap (λ (r : List F). f s w ++ r) (ih (omega arith)))

-- the words that don't pass the test
abbrev pub others : {W : Type 0} → (W → Bool) → List W → List W
others idle = sift (λ w. not (idle w))

-- words that leave every state as it is and carry no event: without them the events and the states are the same
module _ {S W E : Type 0} (M : Machine S W E) (idle : W → Bool) (alone : (s : S) (w : W) → idle w ≡ true → (M.step s w ≡ s) × (M.emit s w ≡ [])) where
  pub without_idle : (s : S) (ws : List W) → (run M s (others idle ws) ≡ run M s ws) × (emits M s (others idle ws) ≡ emits M s ws)
  without_idle s [] = (refl, refl)
  without_idle s (w ∷ ws) = go (idle w) refl (without_idle s ws) (without_idle (M.step s w) ws)
    where
      go : (b : Bool) → idle w ≡ b → (run M s (others idle ws) ≡ run M s ws) × (emits M s (others idle ws) ≡ emits M s ws)
          → (run M (M.step s w) (others idle ws) ≡ run M (M.step s w) ws) × (emits M (M.step s w) (others idle ws) ≡ emits M (M.step s w) ws)
          → (run M s (onto (not b) w (others idle ws)) ≡ run M s (w ∷ ws)) × (emits M s (onto (not b) w (others idle ws)) ≡ emits M s (w ∷ ws))
      go true e here there = let a = alone s w e in (rw a.0 here.0, rw (a.0, a.1) here.1)
      go false e here there = (there.0, ap (λ (l : List E). M.emit s w ++ l) there.1)

-- the words behind the first that passes the test
abbrev pub behind : {W : Type 0} → (W → Bool) → List W → List W
behind p [] = []
behind p (w ∷ ws) = cond (p w) ws (behind p ws)

-- where only live states emit, one element for each word that is marked, and words that start one make it live for good
pub record Marking {S W E F : Type 0} (M : Machine S W E) (f : S → W → List F) (live : S → Bool) (starts marks : W → Bool) : Type 0 where
  pub stays : (s : S) (w : W) → live s ≡ true → live (M.step s w) ≡ true
  pub begins : (s : S) (w : W) → live s ≡ false → live (M.step s w) ≡ starts w
  pub one : (s : S) (w : W) → live s ≡ true → length (f s w) ≡ cond (marks w) 1 0
  pub none : (s : S) (w : W) → live s ≡ false → f s w ≡ []

module _ {S W E F : Type 0} {M : Machine S W E} {f : S → W → List F} {live : S → Bool} {starts marks : W → Bool} (k : Marking M f live starts marks) where
  pub live_count : (s : S) (ws : List W) → live s ≡ true → length (emits (emitting M f) s ws) ≡ length (sift marks ws)
  live_count s [] on = refl
  live_count s (w ∷ ws) on =
      rw (length-append (f s w) (emits (emitting M f) (M.step s w) ws), live_count (M.step s w) ws (k.stays s w on), k.one s w on) (go (marks w))
    where
      go : (b : Bool) → cond b 1 0 + length (sift marks ws) ≡ length (onto b w (sift marks ws))
      go true = omega arith
      go false = omega arith

  -- before the first word that starts it: none
  pub early_count : (s : S) (ws : List W) → live s ≡ false → length (emits (emitting M f) s ws) ≡ length (sift marks (behind starts ws))
  early_count s [] off = refl
  early_count s (w ∷ ws) off = rw (k.none s w off) (go (starts w) (k.begins s w off) (early_count (M.step s w) ws))
    where
      go : (b : Bool) → live (M.step s w) ≡ b
          → (live (M.step s w) ≡ false → length (emits (emitting M f) (M.step s w) ws) ≡ length (sift marks (behind starts ws)))
          → length (emits (emitting M f) (M.step s w) ws) ≡ length (sift marks (cond b ws (behind starts ws)))
      go true on ih = live_count (M.step s w) ws on
      go false off' ih = ih off'
