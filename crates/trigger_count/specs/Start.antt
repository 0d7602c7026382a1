-- A loop that seeks the first time word, over words of n bytes: what holds at index i, at the start, after an iteration, at the end.
use Rattle.std.specs.Prelude.{◌≡◌, refl, Bool, true, false, not, List, ℕ, zero, suc, ◌+◌, ◌-◌, ◌*◌, ◌/◌, ◌≤◌, ◌<◌, eqb, ltb, min, length, take, drop, get_or}
use Rattle.std.proofs.Common.{sym, ◌∙◌, arith, true≢false, zero-mul, suc-mul, add-mul, eqb-true, mul-le-mul_right}
use Rattle.std.proofs.Common.{ltb-true, ltb-false, eq-eqb, ne_eqb, length-drop, length-take-le, get_or-take, get_or-drop}
use Rattle.trigger_count.specs.Chunks.{Front}
use Rattle.laws_stream.specs.{Beside.behind, Part.between, Part.rest_of, Words.words_of, Words.words-next, Words.words-end}
use Rattle.evt_types.specs.Layout.{trigger_type}
use Rattle.trigger_count.specs.{Types.is_type, Types.type_count, Types.Bytes, Types.type_at, Types.type_is, Marks.time_type, Marks.trigger_count}

-- i is behind the first time word, or no word follows
pub record Behind (n : ℕ) (l : List ℕ) (i : ℕ) : Type 0 where
  pub within : i ≤ length l
  pub is_behind : words_of n (drop i l) ≡ behind (is_type n time_type) (words_of n l)

-- no time word is before i
pub record Seeking (n : ℕ) (l : List ℕ) (i : ℕ) : Type 0 where
  pub within : i ≤ length l
  pub same : behind (is_type n time_type) (words_of n (drop i l)) ≡ behind (is_type n time_type) (words_of n l)

pub seeking_start : {n : ℕ} {l : List ℕ} → Seeking n l 0
seeking_start = record { within = omega arith; same = refl }

module _ {n : ℕ} {l : List ℕ} {i : ℕ} (s : Seeking n l i) (pos : 0 < n) where
  pub seeking_end : length l < i + n → Behind n l i
  seeking_end h =
      let e = words-end n pos l i h in
      record { within = s.within; is_behind = e ∙ (rw e at s.same) }

  module _ (small : Bytes l) (more : i + n ≤ length l) where
    pub seeking_next : (type_at n l i ≡ time_type → ⊥) → Seeking n l (i + n)
    seeking_next h = record {
      within = more;
      same = rw (words-next n pos l i more, type_is n pos l small i more time_type, ne_eqb (type_at n l i) time_type h) at s.same;
    }

    pub seeking_found : type_at n l i ≡ time_type → Behind n l (i + n)
    seeking_found h = record {
      within = more;
      is_behind = rw (words-next n pos l i more, type_is n pos l small i more time_type, eq-eqb (type_at n l i) time_type h) at s.same;
    }

-- the words before the first of that type
abbrev pub is_early : List ℕ → Bool
is_early x = not (eqb (get_or x (length x - 1) 0 / 16) time_type)

module _ {n : ℕ} (pos : 0 < n) {l : List ℕ} (small : Bytes l) {m : ℕ} (u : Front is_early n l m) where
  type_here : (i : ℕ) → i + n ≤ length l → get_or (take n (drop i l)) (length (take n (drop i l)) - 1) 0 / 16 ≡ type_at n l i
  type_here i h =
      let long : length (take n (drop i l)) ≡ n = length-take-le n (drop i l) (omega (arith, length-drop i l)) in
      rw (long, get_or-take n (drop i l) (n - 1) 0 (omega arith), get_or-drop) refl

  stopped : (b : Bool) → not b ≡ false → b ≡ true
  stopped true h = refl
  stopped false h = sym h

  seeking_to : (k : ℕ) → k ≤ m → Seeking n l (k * n)
  seeking_to zero h = rw zero-mul seeking_start
  seeking_to (suc k) h =
      let fits : k * n + n ≤ length l = omega (arith, u.within, mul-le-mul_right {m = suc k} {n = m} n h, suc-mul k n) in
      let early : not (eqb (type_at n l (k * n)) time_type) ≡ true = rw (type_here (k * n) fits) at (u.passes k (omega arith)) in
      rw suc-mul (seeking_next (seeking_to k (omega arith)) pos small fits
      (λ e. let never : not true ≡ true = rw (eq-eqb (type_at n l (k * n)) time_type e) at early in true≢false (sym never)))

  pub behind_early : Behind n l (min (length l) ((m + 1) * n))
  behind_early = go (ltb (length l) (m * n + n)) refl
    where
      go : (b : Bool) → ltb (length l) (m * n + n) ≡ b → Behind n l (min (length l) ((m + 1) * n))
      go true e =
          let few = ltb-true (length l) (m * n + n) e in
          let is : min (length l) ((m + 1) * n) ≡ length l = omega (arith, few, add-mul m 1 n) in
          let none = words-end n pos l (length l) (omega (arith, pos)) ∙ sym (words-end n pos l (m * n) few) in
          rw is (record { within = omega arith; is_behind = none ∙ (seeking_end (seeking_to m (omega arith)) pos few).is_behind })
      go false e =
          let fits = ltb-false (length l) (m * n + n) e in
          let is : min (length l) ((m + 1) * n) ≡ m * n + n = omega (arith, fits, add-mul m 1 n) in
          let time : not (eqb (type_at n l (m * n)) time_type) ≡ false = rw (type_here (m * n) fits) at (u.stops fits) in
          let type = type_at n l (m * n) in
          rw is (seeking_found (seeking_to m (omega arith)) pos small fits (eqb-true type time_type (stopped (eqb type time_type) time)))

-- what follows it has the triggers
pub count-behind : {n : ℕ} {l : List ℕ} {i : ℕ} {started : Bool} → started ≡ false → Behind n l i
    → type_count n trigger_type (between l i (length l)) ≡ trigger_count n started l
count-behind {n} {l} {i} off b = rw (off, rest_of l i, b.is_behind)
