-- The times behind words that count no loop, looked for from their end back.
use Rattle.std.specs.Prelude.{◌≡◌, List, ◌∷◌, ◌++◌, ℕ, zero, suc, ◌+◌, ◌-◌, ◌*◌, ◌/◌, ◌≤◌, ◌<◌, length, take, drop}
use Rattle.std.proofs.Common.{sym, ap, ◌∙◌, arith, zero-mul, suc-mul, take-append-drop, length-take-le}
use Rattle.std.proofs.Math.Nat.{mul-div_cancel}
use Rattle.laws_stream.specs.Words.{words_of, words-end}
use Rattle.evt_types.specs.Ahead.{ahead}
use Rattle.trigger_fill.specs.declared.{form.Form.Form, times.Times.Times}
use Rattle.trigger_fill.specs.{Form.Known, Form.kind_in, Form.low_in, Form.size-pos, Form.by_kind, Pulse.word-here}
use Rattle.trigger_fill.specs.Calm.{same_loop, eased, settled, settled-nil, settled-next, settled-append, settled_loops, ease_time, ease_fine, ease_other}
use Rattle.laws_stream.proofs.WordsLaws.{words_dropped, words_taken}

-- k bytes are whole words
pub record Whole (f : Form) (k : ℕ) : Type 0 where
  pub words : ℕ
  pub is : k ≡ words * f.size

-- the words from index k on leave what `part` is of the times
pub record Still {A : Type 0} (part : Times → A) (f : Form) (l : List ℕ) (k : ℕ) : Type 0 where
  pub whole : Whole f k
  pub within : k ≤ length l
  pub same : (c : Times) → part (settled f c (words_of f.size (drop k l))) ≡ part c

-- a word less
whole_less : {f : Form} → Known f → (k j : ℕ) → k ≡ j + f.size → Whole f k → Whole f j
whole_less {f} known k j e u = go u.words u.is
  where
    go : (m : ℕ) → k ≡ m * f.size → Whole f j
    go zero h = absurd (omega (arith, h ∙ zero-mul f.size, size-pos known))
    go (suc m) h = record { words = m; is = omega (arith, h ∙ suc-mul m f.size) }

whole_none : {f : Form} → Known f → (k : ℕ) → k < f.size → Whole f k → k ≡ 0
whole_none {f} known k h u = go u.words u.is
  where
    go : (m : ℕ) → k ≡ m * f.size → k ≡ 0
    go zero e = e ∙ zero-mul f.size
    go (suc m) e = absurd (omega (arith, e ∙ suc-mul m f.size))

pub word_before : (k n : ℕ) → 0 < k → k * n ≡ (k - 1) * n + n
word_before zero n h = absurd (omega arith)
word_before (suc k) n h = let e : suc k - 1 ≡ k = omega arith in rw e (suc-mul k n)

module _ {A : Type 0} (part : Times → A) {f : Form} (known : Known f) (l : List ℕ) where
  pub still_start : Whole f (length l) → Still part f l (length l)
  still_start u = record {
    whole = u;
    within = omega arith;
    same = λ c. ap part (ap (settled f c) (words-end f.size (size-pos known) l (length l) (omega (arith, size-pos known))) ∙ settled-nil f c);
  }

  pub still_words : Whole f (length l) → Still part f l (length l / f.size * f.size)
  still_words u = rw (← all) at (still_start u)
    where
      all : length l / f.size * f.size ≡ length l
      all = rw u.is (ap (λ (m : ℕ). m * f.size) (mul-div_cancel u.words (size-pos known)))

  pub still_end : {k : ℕ} → Still part f l k → k < f.size → (c : Times) → part c ≡ part (settled f c (words_of f.size l))
  still_end {k} u h c = sym (rw (whole_none known k h u.whole) at (u.same c))

  -- at the word of index j, before index k
  module _ {k : ℕ} (u : Still part f l k) (j : ℕ) (e : k ≡ j + f.size) (w : ℕ) (is : w ≡ ahead f.size l j) where
    here : words_of f.size (drop j l) ≡ w ∷ words_of f.size (drop k l)
    here = word-here known l j (omega (arith, u.within)) w is ∙ ap (λ (k : ℕ). w ∷ words_of f.size (drop k l)) (sym e)

    whole_before : Whole f j
    whole_before = whole_less known k j e u.whole

    pub whole-front : Whole f (length (take j l))
    whole-front = rw (length-take-le j l (omega (arith, u.within))) whole_before

    pub still_next : ((c : Times) → part (eased f c w) ≡ part c) → Still part f l j
    still_next kept = record {
      whole = whole_before;
      within = omega (arith, u.within);
      same = λ c. ap part (ap (settled f c) here ∙ settled-next f c w (words_of f.size (drop k l))) ∙ u.same (eased f c w) ∙ kept c;
    }

    -- it sets that part
    pub still_found : (c : Times) → part (eased f (settled f c (words_of f.size (take j l))) w) ≡ part (settled f c (words_of f.size l))
    still_found c =
        let m = whole_before.words in
        let fits : m * f.size ≤ length l = omega (arith, whole_before.is, u.within) in
        let a = words_of f.size (take j l) in
        let front : take m (words_of f.size l) ≡ a =
        sym (words_taken f.size (size-pos known) m l fits) ∙ ap (λ (i : ℕ). words_of f.size (take i l)) (sym whole_before.is) in
        let back : drop m (words_of f.size l) ≡ w ∷ words_of f.size (drop k l) =
        sym (words_dropped f.size (size-pos known) m l fits) ∙ ap (λ (i : ℕ). words_of f.size (drop i l)) (sym whole_before.is) ∙ here in
        let all : words_of f.size l ≡ a ++ (w ∷ words_of f.size (drop k l)) = sym (take-append-drop m (words_of f.size l)) ∙ rw (front, back) in
        sym (ap part (ap (settled f c) all ∙ settled-append f c a (w ∷ words_of f.size (drop k l))
        ∙ settled-next f (settled f c a) w (words_of f.size (drop k l))) ∙ u.same (eased f (settled f c a) w))

-- ---- the coarse time, and all times

abbrev pub coarse : Times → ℕ
coarse c = c.base

abbrev pub whole_times : Times → Times
whole_times c = c

module _ {f : Form} (known : Known f) (l : List ℕ) {k : ℕ} (j : ℕ) (e : k ≡ j + f.size) (w : ℕ) (is : w ≡ ahead f.size l j) (c : Times) where
  abbrev before : Times
  before = settled f c (words_of f.size (take j l))

  pub coarse_found : Still coarse f l k → kind_in f w ≡ 8 → low_in f w * f.grain + c.loops * f.period ≡ (settled f c (words_of f.size l)).base
  coarse_found u h =
      ap (λ (n : ℕ). low_in f w * f.grain + n * f.period) (sym (settled_loops f c (words_of f.size (take j l))))
      ∙ sym (ap coarse (ease_time f before w h)) ∙ still_found coarse known l u j e w is c

  pub time_found : Still whole_times f l k → kind_in f w ≡ 8 → same_loop f c w ≡ settled f c (words_of f.size l)
  time_found u h =
      ap (λ (n : ℕ). record { base = low_in f w * f.grain + n * f.period; time = low_in f w * f.grain + n * f.period; loops = n })
      (sym (settled_loops f c (words_of f.size (take j l))))
      ∙ sym (ease_time f before w h) ∙ still_found whole_times known l u j e w is c

  pub fine_found : Still whole_times f l k → (kind_in f w ≡ 8 → ⊥) → kind_in f w ≡ f.fine → (b : ℕ) → b ≡ before.base
      → record { base = b; time = b + low_in f w; loops = c.loops } ≡ settled f c (words_of f.size l)
  fine_found u h g b is_base =
      let loops = sym (settled_loops f c (words_of f.size (take j l))) in
      (λ i. record { base = is_base i; time = is_base i + low_in f w; loops = loops i })
      ∙ sym (ease_fine f before w h g) ∙ still_found whole_times known l u j e w is c

pub coarse-kept : (f : Form) (w : ℕ) → (kind_in f w ≡ 8 → ⊥) → (c : Times) → (eased f c w).base ≡ c.base
coarse-kept f w h c = by_kind f c w ((eased f c w).base ≡ c.base) (λ e. absurd (h e)) (λ h e. rw (ease_fine f c w h e)) (λ h e. rw (ease_other f c w h e))
