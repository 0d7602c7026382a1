-- Words of n bytes counted by blocks of 64 bytes: each byte that is the last of a word and has the type of a trigger adds 1. What the sum over at most 64 bytes
-- is, and the loop over blocks.
use Rattle.std.specs.Prelude.{◌≡◌, refl, Bool, true, false, cond, List, [], ◌∷◌, ◌++◌, ℕ, zero, suc, ◌+◌, ◌-◌, ◌*◌, ◌/◌, ◌%◌, ◌≤◌, ◌<◌}
use Rattle.std.specs.Prelude.{eqb, ltb, length, drop, get_or}
use Rattle.std.proofs.Common.{sym, ap, ◌∙◌, arith, zero-add, add-zero, zero-mul, add-one, ltb-true, ltb-false}
use Rattle.std.proofs.Common.{length-take, length-drop, length-append, drop-drop, drop_of_length-le, drop-cons}
use Rattle.std.proofs.Math.Seq.{take-append_seam, drop-append_seam}
use Rattle.laws_stream.specs.{Part.between, Part.rest_of, Part.between-rest, Part.length-between, Words.words-end}
use Rattle.evt_types.specs.Layout.{trigger_type}
use Rattle.trigger_count.specs.Types.{type_count, Bytes, bytes-between, type_at, count_next, count-append}
use Rattle.trigger_count.specs.Table.{Block, LastBytes, flag_early, flag-last}

-- what a byte adds
abbrev pub adds_up : (flag b : ℕ) → ℕ
adds_up flag b = cond (eqb (b / 16) trigger_type) flag 0

abbrev pub tally : (flags l : List ℕ) → ℕ
tally flags [] = 0
tally [] (b ∷ l) = 0
tally (f ∷ flags) (b ∷ l) = adds_up f b + tally flags l

module _ (flags l : List ℕ) where
  -- of the bytes from j on
  abbrev tally_from : ℕ → ℕ
  tally_from j = tally (drop j flags) (drop j l)

  tally-at : (j : ℕ) → j < length flags → j < length l → tally_from j ≡ adds_up (get_or flags j 0) (get_or l j 0) + tally_from (j + 1)
  tally-at j f h = rw (add-one, drop-cons flags j 0 f, drop-cons l j 0 h)

  tally-end : (j : ℕ) → length l ≤ j → tally_from j ≡ 0
  tally-end j h = rw (drop_of_length-le l h)

adds_few : (flag b : ℕ) → adds_up flag b ≤ flag
adds_few flag b = go (eqb (b / 16) trigger_type)
  where
    go : (c : Bool) → cond c flag 0 ≤ flag
    go true = omega arith
    go false = omega arith

-- ---- the sum is the number of words that have the type

module _ {n : ℕ} (pos : 0 < n) {flags : List ℕ} (t : LastBytes n flags) (l : List ℕ) (small : Bytes l) (few : length l ≤ 64) where
  -- bytes of a word before its last
  pass : (k m r : ℕ) → r + m < n → k * n + r + m ≤ length l → tally_from flags l (k * n + r) ≡ tally_from flags l (k * n + r + m)
  pass k zero r h g = rw add-zero
  pass k (suc m) r h g =
      let at : k * n + r + suc m ≡ k * n + (r + 1) + m = omega arith in
      let next : k * n + r + 1 ≡ k * n + (r + 1) = omega arith in
      let f : get_or flags (k * n + r) 0 ≡ 0 = t.each (k * n + r) (omega arith) ∙ flag_early n k r (omega arith) in
      let none : adds_up 0 (get_or l (k * n + r) 0) ≡ 0 = omega (arith, adds_few 0 (get_or l (k * n + r) 0)) in
      tally-at flags l (k * n + r) (omega (arith, t.long)) (omega arith)
      ∙ rw (f, none, zero-add, next, at) (pass k m (r + 1) (omega arith) (omega arith))

  word-tally : (k : ℕ) → k * n + n ≤ length l
      → tally_from flags l (k * n) ≡ cond (eqb (type_at n l (k * n)) trigger_type) 1 0 + tally_from flags l (k * n + n)
  word-tally k h =
      let next : k * n + (n - 1) + 1 ≡ k * n + n = omega arith in
      let f : get_or flags (k * n + (n - 1)) 0 ≡ 1 = t.each (k * n + (n - 1)) (omega arith) ∙ flag-last n k (n - 1) (omega arith) in
      (rw add-zero at (pass k (n - 1) 0 (omega arith) (omega arith)))
      ∙ tally-at flags l (k * n + (n - 1)) (omega (arith, t.long)) (omega arith)
      ∙ rw (f, next)

  from-word : (left k : ℕ) → k * n ≤ length l → length l ≤ k * n + left → tally_from flags l (k * n) ≡ type_count n trigger_type (drop (k * n) l)
  from-word zero k h e = rw (words-end n pos l (k * n) (omega arith)) (tally-end flags l (k * n) (omega arith))
  from-word (suc left) k h e = go (ltb (length l) (k * n + n)) refl (from-word left (suc k))
    where
      go : (b : Bool) → ltb (length l) (k * n + n) ≡ b
          → (suc k * n ≤ length l → length l ≤ suc k * n + left → tally_from flags l (suc k * n) ≡ type_count n trigger_type (drop (suc k * n) l))
          → tally_from flags l (k * n) ≡ type_count n trigger_type (drop (k * n) l)
      go true q ih =
          let lt = ltb-true (length l) (k * n + n) q in
          let m = length l - k * n in
          rw (words-end n pos l (k * n) lt)
          ((rw add-zero at (pass k m 0 (omega arith) (omega arith))) ∙ tally-end flags l (k * n + m) (omega arith))
      go false q ih =
          let le = ltb-false (length l) (k * n + n) q in
          let next : suc k * n ≡ k * n + n = omega arith in
          let rest = rw next at (ih (omega arith) (omega arith)) in
          word-tally k le ∙ rw rest (sym (count_next n pos l small (k * n) le trigger_type))

  pub tally-count : tally flags l ≡ type_count n trigger_type l
  tally-count = rw zero-mul at (from-word 64 0 (omega arith) (omega arith))

-- ---- the loop over at most 64 bytes

-- flags of 0 and 1: the sum is no more than the bytes
pub record Flags (flags : List ℕ) : Type 0 where
  pub long : length flags ≡ 64
  pub small : (j : ℕ) → j < 64 → get_or flags j 0 ≤ 1

pub last_flags : {n : ℕ} {flags : List ℕ} → LastBytes n flags → Flags flags
last_flags {n} t = record { long = t.long; small = λ j h. rw (t.each j h) (go (eqb ((j + 1) % n) 0)) }
  where
    go : (c : Bool) → cond c 1 0 ≤ 1
    go true = omega arith
    go false = omega arith

pub record Tallying (flags l : List ℕ) (n j : ℕ) : Type 0 where
  pub within : j ≤ length l
  pub few : n ≤ j
  pub so_far : n + tally (drop j flags) (drop j l) ≡ tally flags l

pub tallying_start : {flags l : List ℕ} → Tallying flags l 0 0
tallying_start = record { within = omega arith; few = omega arith; so_far = omega arith }

module _ {flags l : List ℕ} {n j : ℕ} (g : Tallying flags l n j) where
  pub tallying_next : Flags flags → length l ≤ 64 → j < length l → {v : ℕ} → v ≡ adds_up (get_or flags j 0) (get_or l j 0) → Tallying flags l (n + v) (j + 1)
  tallying_next f short h e = record {
    within = omega arith;
    few = omega (arith, e, g.few, adds_few (get_or flags j 0) (get_or l j 0), f.small j (omega arith));
    so_far = omega (arith, e, g.so_far, tally-at flags l j (omega (arith, f.long)) h);
  }

  pub tallying_end : length l ≤ j → n ≡ tally flags l
  tallying_end h = omega (arith, g.so_far, tally-end flags l j h)

-- ---- the loop over blocks

pub part_few : (l : List ℕ) (i e : ℕ) → e ≤ i + 64 → length (between l i e) ≤ 64
part_few l i e h = omega (arith, length-take (e - i) (drop i l))

-- the block at the head of what is left
pub head-part : (l : List ℕ) (i n : ℕ) (x left : List ℕ) → i ≤ length l → drop i l ≡ x ++ left → length x ≡ n
    → (i + n ≤ length l) × (x ≡ between l i (i + n)) × (left ≡ drop (i + n) l)
head-part l i n x left within e h =
    let long : length l ≡ i + n + length left = omega (arith, within, length-drop i l, ap length e, length-append x left, h) in
    let size : i + n - i ≡ length x = omega (arith, h) in
    (omega arith, sym (rw (size, e) (take-append_seam x left)), sym (drop-append_seam x left) ∙ rw (h, ← e) (drop-drop n i l))

-- the words before i have `count` triggers
pub record Counting (n : ℕ) (l : List ℕ) (count i : ℕ) : Type 0 where
  pub within : i ≤ length l
  pub counts : count + type_count n trigger_type (drop i l) ≡ type_count n trigger_type l

pub counting_start : {n : ℕ} {l : List ℕ} → Counting n l 0 0
counting_start = record { within = omega arith; counts = omega arith }

module _ {n : ℕ} {l : List ℕ} {count i : ℕ} (c : Counting n l count i) (b : Block n) {flags : List ℕ} (t : LastBytes n flags) (small : Bytes l) where
  part_count : (e : ℕ) → e ≤ i + 64 → tally flags (between l i e) ≡ type_count n trigger_type (between l i e)
  part_count e h = tally-count b.pos t (between l i e) (bytes-between l i e small) (part_few l i e h)

  pub counting_next : i + 64 ≤ length l → {m : ℕ} → m ≡ tally flags (between l i (i + 64)) → Counting n l (count + m) (i + 64)
  counting_next h is_m =
      let e = i + 64 in
      let size : length (between l i e) ≡ b.words * n = length-between l i e (omega arith) h ∙ omega (arith, b.whole) in
      let parts : type_count n trigger_type (drop i l) ≡ type_count n trigger_type (between l i e) + type_count n trigger_type (drop e l) =
      ap (type_count n trigger_type) (sym (between-rest l i e (omega arith)))
      ∙ count-append n trigger_type b.pos b.words (between l i e) (drop e l) size in
      record { within = h; counts = omega (arith, c.counts, parts, is_m, part_count e (omega arith)) }

  pub counting_end : length l < i + 64 → {m : ℕ} → m ≡ tally flags (between l i (length l)) → count + m ≡ type_count n trigger_type l
  counting_end h is_m = omega (arith, c.counts, is_m, part_count (length l) (omega arith), ap (type_count n trigger_type) (rest_of l i))
