-- A loop over the words of some bytes that seeks a time, for every encoding: what holds at index i, at the start, after a word, at the end.
use Rattle.std.specs.Prelude.{◌≡◌, refl, Bool, false, ◌&&◌, ◌||◌, List, [], ◌∷◌, ◌++◌, ℕ, ◌+◌, ◌*◌, ◌/◌, ◌≤◌, ◌<◌, ltb, length, take, drop}
use Rattle.std.proofs.Common.{sym, ap, subst, ◌∙◌, arith, add-mul, take-add}
use Rattle.laws_stream.specs.Machine.{run, run-append}
use Rattle.laws_stream.specs.Words.{words_of, words-next, words-end, length-words}
use Rattle.laws_stream.specs.Seek.{Reach, reach, behind, behind_none, behind-stay, behind_more, strays, reach-nil, reach_on, reach_stop}
use Rattle.evt_types.specs.Ahead.{ahead, ahead-some}
use Rattle.evt_codec.specs.{declared.codec.Codec.Codec, Reader.Reader, Reader.View, Reader.view, Codec.view_codec, Sound.Sound}
use Rattle.read_seek.specs.Seek.{reach_from, sought_as, sought_from, further, Midway}
use Rattle.laws_stream.proofs.WordsLaws.{words_dropped}

module _ (R : Reader) (t₀ t₁ : ℕ) (s₀ : R.State) (bytes : List ℕ) where
  -- how far a seek goes over the words left at index i
  abbrev onward : R.State → ℕ → Reach R.State
  onward s i = reach_from t₀ t₁ (record { reader = R; state = s }) (drop i bytes)

  abbrev all : Reach R.State
  all = onward s₀ 0

  -- at index i, where `stray` tells of the words before it
  pub record Seeking (s : R.State) (stray : Bool) (i : ℕ) : Type 0 where
    pub words : ℕ
    pub is_at : i ≡ words * R.size
    pub within : i ≤ length bytes
    pub inv : R.Bounded (length (words_of R.size (drop i bytes))) s
    pub came : s ≡ run R.machine s₀ (take words (words_of R.size bytes))
    pub ends : behind words stray (onward s i) ≡ all

  -- the seek ends here
  pub record Found (s : R.State) (stray : Bool) (i : ℕ) : Type 0 where
    pub words : ℕ
    pub is_at : i ≡ words * R.size
    pub within : i ≤ length bytes
    pub inv : R.Bounded (length (words_of R.size (drop i bytes))) s
    pub ends : record { words = words; stray = stray; state = s } ≡ all

  -- what is owed then
  abbrev pub Ends : R.State → Bool → ℕ → Type 0
  Ends s f i =
      (record { at = i; stray = f; codec = R.codec s } ≡ sought_from t₀ t₁ (record { reader = R; state = s₀ }) bytes)
      × R.Bounded (length (drop i bytes) / R.size) s

module _ {R : Reader} (L : Sound R) {t₀ t₁ : ℕ} {s₀ : R.State} {bytes : List ℕ} where
  pub seeking_start : R.Bounded (length bytes / R.size) s₀ → Seeking R t₀ t₁ s₀ bytes s₀ false 0
  seeking_start b = record {
    words = 0;
    is_at = omega arith;
    within = omega arith;
    inv = rw (length-words R.size bytes) b;
    came = refl;
    ends = behind_none (all R t₀ t₁ s₀ bytes);
  }

  module _ {s : R.State} {f : Bool} {i : ℕ} where
    found_is : Found R t₀ t₁ s₀ bytes s f i → Ends R t₀ t₁ s₀ bytes s f i
    found_is p = (
      ap (λ (k : ℕ). record { at = k; stray = f; codec = R.codec s }) p.is_at ∙ ap (sought_as R.size R.codec) p.ends,
      rw (length-words R.size (drop i bytes)) at p.inv,
    )

    module _ (u : Seeking R t₀ t₁ s₀ bytes s f i) where
      ended : onward R t₀ t₁ s₀ bytes s i ≡ record { words = 0; stray = false; state = s } → Found R t₀ t₁ s₀ bytes s f i
      ended e = record {
        words = u.words;
        is_at = u.is_at;
        within = u.within;
        inv = u.inv;
        ends = sym (behind-stay u.words f s) ∙ ap (behind u.words f) (sym e) ∙ u.ends;
      }

      -- no word is left
      pub found_end : length bytes < i + R.size → Found R t₀ t₁ s₀ bytes s f i
      found_end h = ended (rw (words-end R.size L.some bytes i h) (reach-nil R.machine R.time R.carries t₀ t₁ s))

      pub seeking_end : length bytes < i + R.size → Ends R t₀ t₁ s₀ bytes s f i
      seeking_end h = found_is (found_end h)

      -- the next word, after which the state is s'
      module _ (h : i + R.size ≤ length bytes) (w : ℕ) (is_IsWord : w ≡ ahead R.size bytes i)
          (s' : R.State) (is_next : s' ≡ R.machine.step s w) where
        abbrev behind_it : List ℕ
        behind_it = words_of R.size (drop (i + R.size) bytes)

        words-here : words_of R.size (drop i bytes) ≡ w ∷ behind_it
        words-here = words-next R.size L.some bytes i h
            ∙ ap (λ (x : ℕ). x ∷ behind_it) (sym (is_IsWord ∙ ahead-some R.size bytes i h))

        -- the words before the next index
        taken : take (u.words + 1) (words_of R.size bytes) ≡ take u.words (words_of R.size bytes) ++ (w ∷ [])
        taken =
            let e = words_dropped R.size L.some u.words bytes (omega (arith, u.is_at)) in
            take-add u.words 1 (words_of R.size bytes)
            ∙ ap (λ (l : List ℕ). take u.words (words_of R.size bytes) ++ take 1 l)
            (sym e ∙ ap (λ (k : ℕ). words_of R.size (drop k bytes)) (sym u.is_at) ∙ words-here)

        came_next : R.machine.step s w ≡ run R.machine s₀ (take (u.words + 1) (words_of R.size bytes))
        came_next =
            ap (λ (s : R.State). R.machine.step s w) u.came
            ∙ sym (run-append R.machine s₀ (take u.words (words_of R.size bytes)) (w ∷ [])) ∙ ap (run R.machine s₀) (sym taken)

        pub found_stop : t₁ ≤ R.time s' → Found R t₀ t₁ s₀ bytes s f i
        found_stop l = ended (rw words-here (reach_stop R.machine R.time R.carries t₀ t₁ s w behind_it (rw (← is_next) l)))

        pub seeking_stop : t₁ ≤ R.time s' → Ends R t₀ t₁ s₀ bytes s f i
        seeking_stop l = found_is (found_stop l)

        -- c tells whether it carries events
        pub seeking_next : R.time s' < t₁ → (c : Bool) → c ≡ R.carries w → (g : Bool) → g ≡ (f || (ltb (R.time s') t₀ && c))
            → Seeking R t₀ t₁ s₀ bytes s' g (i + R.size)
        seeking_next l c is-carrying g is-stray =
            let t = R.machine.step s w in
            let on = reach_on R.machine R.time R.carries t₀ t₁ s w behind_it (rw (← is_next) l) in
            let astray = strays R.machine R.time R.carries t₀ t₁ w in
            rw (is-stray, is-carrying, is_next) (record {
              words = u.words + 1;
              is_at = omega (arith, u.is_at);
              within = h;
              inv = L.steps (length behind_it) s w (rw words-here at u.inv);
              came = came_next;
              ends =
                  sym (behind_more u.words f (astray t) s (reach R.machine R.time R.carries t₀ t₁ t behind_it))
                  ∙ ap (behind u.words f) (sym on ∙ ap (reach R.machine R.time R.carries t₀ t₁ s) (sym words-here)) ∙ u.ends;
            })

-- a seek from here finds what it finds from the start
pub midway : (t : ℕ) (c : Codec) (bytes : List ℕ) {s : (view c).reader.State} {i : ℕ} → Seeking (view c).reader 0 t (view c).state bytes s false i
    → Midway t c bytes i ((view c).reader.codec s)
midway t c bytes {s} {i} u =
    let R = (view c).reader in
    let here = sym (view_codec c s) in
    let r = reach_from 0 t (record { reader = R; state = s }) (drop i bytes) in
    let e : (u.words + r.words) * R.size ≡ i + r.words * R.size =
    add-mul u.words r.words R.size ∙ ap (λ (k : ℕ). k + r.words * R.size) (sym u.is_at) in
    record {
      within = u.within;
      able = subst (λ (v : View). v.reader.Bounded (length (drop i bytes) / v.reader.size) v.state) here
          (rw (length-words R.size (drop i bytes)) at u.inv);
      same = ap (sought_as R.size R.codec) (sym u.ends)
          ∙ ap (λ (k : ℕ). record { at = k; stray = r.stray; codec = R.codec r.state }) e
          ∙ ap (λ (v : View). further i (sought_from 0 t v (drop i bytes))) here;
    }
