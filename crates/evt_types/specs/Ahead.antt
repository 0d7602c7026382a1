-- The word at an index of some bytes, which a loop may have read in the iteration before: 0 where none is whole.
use Rattle.std.specs.Prelude.{◌≡◌, cond, List, ℕ, ◌+◌, ◌*◌, ◌≤◌, ◌<◌, leb, length, take, drop, get_or}
use Rattle.std.proofs.Common.{sym, ◌∙◌, arith, le-leb}
use Rattle.std.proofs.lemmas.Bool.{lt-leb}
use Rattle.laws_stream.specs.Words.{value, value-two, value_four, value_eight}

abbrev pub ahead : ℕ → List ℕ → ℕ → ℕ
ahead n l i = cond (leb (i + n) (length l)) (value (take n (drop i l))) 0

module _ (n : ℕ) (l : List ℕ) (i : ℕ) where
  pub ahead-some : i + n ≤ length l → ahead n l i ≡ value (take n (drop i l))
  ahead-some h = rw (le-leb (i + n) (length l) h)

  pub ahead_none : length l < i + n → ahead n l i ≡ 0
  ahead_none h = rw (lt-leb (i + n) (length l) h)

module _ (l : List ℕ) (i w : ℕ) where
  pub ahead-two : i + 1 < length l → w ≡ get_or l i 0 + get_or l (i + 1) 0 * 256 → w ≡ ahead 2 l i
  ahead-two h e = e ∙ sym (ahead-some 2 l i (omega arith) ∙ value-two l i (omega arith))

  pub ahead_eight : i + 7 < length l
      → w ≡ get_or l i 0 + get_or l (i + 1) 0 * 256 + get_or l (i + 2) 0 * 65536 + get_or l (i + 3) 0 * 16777216
      + (get_or l (i + 4) 0 + get_or l (i + 5) 0 * 256 + get_or l (i + 6) 0 * 65536 + get_or l (i + 7) 0 * 16777216) * 4294967296
      → w ≡ ahead 8 l i
  ahead_eight h e =
      let a : i + 4 + 1 ≡ i + 5 = omega arith in
      let b : i + 4 + 2 ≡ i + 6 = omega arith in
      let c : i + 4 + 3 ≡ i + 7 = omega arith in
      e ∙ sym (ahead-some 8 l i (omega arith) ∙ value_eight l i (omega arith)
      ∙ rw (value_four l i (omega arith), value_four l (i + 4) (omega arith), a, b, c))

  pub ahead_four : i + 3 < length l → w ≡ get_or l i 0 + get_or l (i + 1) 0 * 256 + get_or l (i + 2) 0 * 65536 + get_or l (i + 3) 0 * 16777216 → w ≡ ahead 4 l i
  ahead_four h e = e ∙ sym (ahead-some 4 l i (omega arith) ∙ value_four l i (omega arith))
