-- EVT3: the bytes of a run's words, part by part.
use Rattle.std.specs.Prelude.{◌≡◌, Bool, ◌&&◌, ltb, length, get_or}
use Rattle.std.proofs.Math.Path.{refl, ap}
use Rattle.std.proofs.Common.{◌∙◌, arith, add-zero, lt-ltb, le-ltb, ltb-true, ltb-false, length-append}
use Rattle.std.proofs.Math.Bool.{true, false, cond}
use mathlib.Core.List.{List, [], ◌∷◌, ◌++◌, map}
use Prim.Native.Nat.{ℕ, zero, suc, ◌+◌, ◌-◌, ◌*◌, ◌/◌, ◌^◌, ◌≤◌, ◌<◌}
use Rattle.std.proofs.lemmas.List.{length-map}
use Rattle.laws_stream.specs.{Machine.words, Machine.words_append, Machine.and_both, Part.between, Part.between_get_d, Part.length-between}
use Rattle.laws_stream.specs.{Words.stream, Words.bytes, Words.stream-append, Words.length-stream}
use Rattle.evt_types.specs.Layout.{word_size3}
use Rattle.write_buffer.specs.{declared.EncoderState.EncoderState, Storing.piece}
use Rattle.evt3_run_rules.specs.Runs.{Run, first_x, last_x}
use Rattle.evt3_lead_words.specs.Evt3.{leads3, single_word3, base_word3, mask_word3, nearby, beyond, mask_count}
use Rattle.evt3_lead_words.specs.Evt3.{vectored, singles, masks, vectors, body3, encode3, writer3}
use Rattle.evt3_lead_words.specs.{Evt3.passes3, Evt3.ahead3, Evt3.at_end, Evt3.looped3, Leads.lead_bytes, Leads.lead_few}
use Rattle.evt3_lead_words.specs.Loops.{passes_bytes}
use Rattle.evt3_lead_words.proofs.LoopsLaws.{passes_few}

abbrev pub bytes3 : EncoderState → Run → List ℕ
bytes3 = piece word_size3 writer3

-- ---- the words of the columns

unfoldable pub mask_words : (k b : ℕ) → List ℕ → List ℕ
mask_words zero b xs = []
mask_words (suc k) b xs = mask_word3 b (nearby (b + 12) xs) ∷ mask_words k (b + 12) (beyond (b + 12) xs)

unfoldable pub vector_words : (p : ℕ) → List ℕ → List ℕ
vector_words p xs = base_word3 p (first_x xs) ∷ mask_words (mask_count xs) (first_x xs) xs

unfoldable pub body_words : (p : ℕ) → List ℕ → List ℕ
body_words p xs = cond (vectored xs) (vector_words p xs) (map (single_word3 p) xs)

abbrev pub single_bytes : (p : ℕ) → List ℕ → List ℕ
single_bytes p xs = stream word_size3 (map (single_word3 p) xs)

abbrev pub mask_bytes : (k b : ℕ) → List ℕ → List ℕ
mask_bytes k b xs = stream word_size3 (mask_words k b xs)

abbrev pub body_bytes : (p : ℕ) → List ℕ → List ℕ
body_bytes p xs = stream word_size3 (body_words p xs)

module _ (t y p : ℕ) where
  words-singles : (xs : List ℕ) → words (singles t y p xs) ≡ map (single_word3 p) xs
  words-singles [] = refl
  words-singles (x ∷ xs) = rw (words-singles xs)

  words-masks : (k b : ℕ) (xs : List ℕ) → words (masks t y p k b xs) ≡ mask_words k b xs
  unfolding mask_words
  words-masks zero b xs = refl
  words-masks (suc k) b xs = ap (λ (l : List ℕ). mask_word3 b (nearby (b + 12) xs) ∷ l) (words-masks k (b + 12) (beyond (b + 12) xs))

  pub words-body : (xs : List ℕ) → words (body3 t y p xs) ≡ body_words p xs
  unfolding body3 body_words vector_words
  words-body xs = go (vectored xs)
    where
      go : (b : Bool)
          → words (cond b (vectors t y p xs) (singles t y p xs))
          ≡ cond b (base_word3 p (first_x xs) ∷ mask_words (mask_count xs) (first_x xs) xs) (map (single_word3 p) xs)
      go true = ap (λ (l : List ℕ). base_word3 p (first_x xs) ∷ l) (words-masks (mask_count xs) (first_x xs) xs)
      go false = words-singles xs

pub length-masks : (k b : ℕ) (xs : List ℕ) → length (mask_words k b xs) ≡ k
unfolding mask_words
length-masks zero b xs = refl
length-masks (suc k) b xs = ap suc (length-masks k (b + 12) (beyond (b + 12) xs))

pub length-body : (p : ℕ) (xs : List ℕ) → length (body_words p xs) ≤ length xs
unfolding body_words vector_words vectored
length-body p xs = go (vectored xs) refl
  where
    go : (b : Bool) → vectored xs ≡ b → length (cond b (base_word3 p (first_x xs) ∷ mask_words (mask_count xs) (first_x xs) xs) (map (single_word3 p) xs)) ≤ length xs
    go true h =
        omega (
          arith,
          length-masks (mask_count xs) (first_x xs) xs,
          ltb-true (1 + mask_count xs) (length xs) (and_both (ltb 2 (length xs)) (ltb (1 + mask_count xs) (length xs)) h).1,
        )
    go false h = omega (arith, length-map xs (single_word3 p))

-- the words into the run's loop
abbrev pub ahead_bytes : EncoderState → (t : ℕ) → List ℕ
ahead_bytes v t = passes_bytes (ahead3 v t) (at_end v.time_high)

pub bytes_parts : (v : EncoderState) (r : Run)
    → bytes3 v r ≡ ahead_bytes v r.t ++ (lead_bytes (looped3 v r.t) r.t r.y ++ body_bytes r.p r.xs)
unfolding encode3 passes_bytes
bytes_parts v r =
    let loops = passes3 (ahead3 v r.t) (at_end v.time_high) in
    let leads = leads3 (looped3 v r.t) r.t r.y in
    rw (words_append loops, stream-append word_size3 (words loops), words_append leads, stream-append word_size3 (words leads), words-body)

-- where no loop is passed
pub bytes_still : (v : EncoderState) (r : Run) → ahead3 v r.t ≡ 0 → bytes3 v r ≡ lead_bytes v r.t r.y ++ body_bytes r.p r.xs
unfolding passes_bytes passes3
bytes_still v r h = bytes_parts v r ∙ rw h

pub few3 : (v : EncoderState) (r : Run) → 1 ≤ length r.xs → length (bytes3 v r) ≤ 8 * length r.xs + 4 * ahead3 v r.t
few3 v r h =
    let l = ahead_bytes v r.t in
    let a = lead_bytes (looped3 v r.t) r.t r.y in
    let b = body_words r.p r.xs in
    rw bytes_parts
    (omega (
      arith,
      length-append l (a ++ stream word_size3 b),
      length-append a (stream word_size3 b),
      length-stream word_size3 b,
      length-body r.p r.xs,
      lead_few (looped3 v r.t) r.t r.y,
      passes_few (ahead3 v r.t) (at_end v.time_high),
    ))

-- ---- a part of a column

pub singles-length : (p : ℕ) (xs : List ℕ) (i e : ℕ) → i ≤ e → e ≤ length xs → length (single_bytes p (between xs i e)) ≡ word_size3 * (e - i)
singles-length p xs i e h k = length-stream word_size3 (map (single_word3 p) (between xs i e)) ∙ rw (length-map, length-between xs i e h k) (omega arith)

-- and a place in the output
pub record Part (xs : List ℕ) (i e at : ℕ) : Type 0 where
  pub low : i ≤ e
  pub high : e ≤ length xs
  pub few : length xs ≤ 2 ^ 28
  pub place : at ≤ 2 ^ 40

module _ (to x : ℕ) (xs : List ℕ) where
  pub nearby_in : x < to → nearby to (x ∷ xs) ≡ x ∷ nearby to xs
  unfolding nearby
  nearby_in h = rw (lt-ltb x to h)

  pub nearby_out : to ≤ x → nearby to (x ∷ xs) ≡ []
  unfolding nearby
  nearby_out h = rw (le-ltb x to h)

  pub beyond_in : x < to → beyond to (x ∷ xs) ≡ beyond to xs
  unfolding beyond
  beyond_in h = rw (lt-ltb x to h)

  pub beyond_out : to ≤ x → beyond to (x ∷ xs) ≡ x ∷ xs
  unfolding beyond
  beyond_out h = rw (le-ltb x to h)

-- ---- the columns, by which way they are written

module _ (xs : List ℕ) (i e : ℕ) (h : i < e) (f : e ≤ length xs) where
  pub first_is : first_x (between xs i e) ≡ get_or xs i 0
  first_is = between_get_d xs i e 0 0 (omega arith) ∙ ap (λ (j : ℕ). get_or xs j 0) (add-zero i)

  pub last_is : last_x (between xs i e) ≡ get_or xs (e - 1) 0
  last_is =
      let n : i + (e - i - 1) ≡ e - 1 = omega arith in
      rw (length-between xs i e (omega arith) f) (between_get_d xs i e 0 (e - i - 1) (omega arith) ∙ ap (λ (j : ℕ). get_or xs j 0) n)

module _ (p : ℕ) (xs : List ℕ) (i e k : ℕ) (h : i < e) (f : e ≤ length xs) (is-k : k ≡ (get_or xs (e - 1) 0 - get_or xs i 0 + 12) / 12) where
  count_is : mask_count (between xs i e) ≡ k
  unfolding mask_count
  count_is = rw (last_is xs i e h f, first_is xs i e h f) (omega arith)

  -- as there is a mask, more events than its words are more than 2
  more_as : (b c : Bool) → ltb 2 (e - i) ≡ b → ltb (1 + k) (e - i) ≡ c → (b && c) ≡ c
  more_as true c p q = refl
  more_as false false p q = refl
  more_as false true p q = absurd (omega (arith, ltb-false 2 (e - i) p, ltb-true (1 + k) (e - i) q, is-k))

  vectored_is : vectored (between xs i e) ≡ ltb (1 + k) (e - i)
  unfolding vectored
  vectored_is = rw (count_is, length-between xs i e (omega arith) f) (more_as (ltb 2 (e - i)) (ltb (1 + k) (e - i)) refl refl)

  pub body_vector : ltb (1 + k) (e - i) ≡ true
      → body_bytes p (between xs i e) ≡ bytes word_size3 (base_word3 p (get_or xs i 0)) ++ mask_bytes k (get_or xs i 0) (between xs i e)
  unfolding body_words vector_words
  body_vector v =
      ap (stream word_size3) (ap (λ (b : Bool). cond b (vector_words p (between xs i e)) (map (single_word3 p) (between xs i e))) (vectored_is ∙ v))
      ∙ rw (count_is, first_is xs i e h f)

  pub body-singles : ltb (1 + k) (e - i) ≡ false → body_bytes p (between xs i e) ≡ single_bytes p (between xs i e)
  unfolding body_words
  body-singles v = ap (stream word_size3) (ap (λ (b : Bool). cond b (vector_words p (between xs i e)) (map (single_word3 p) (between xs i e))) (vectored_is ∙ v))

  -- one or two are single events
  pub body_pair : e ≤ i + 2 → body_bytes p (between xs i e) ≡ single_bytes p (between xs i e)
  body_pair g = body-singles (le-ltb (1 + k) (e - i) (omega (arith, is-k)))

  pub body-length : length (body_bytes p (between xs i e)) ≡ word_size3 * cond (ltb (1 + k) (e - i)) (1 + k) (e - i)
  body-length = go (ltb (1 + k) (e - i)) refl
    where
      go : (b : Bool) → ltb (1 + k) (e - i) ≡ b → length (body_bytes p (between xs i e)) ≡ word_size3 * cond b (1 + k) (e - i)
      go true q =
          let m = mask_words k (get_or xs i 0) (between xs i e) in
          rw (body_vector q) (omega (arith, length-stream word_size3 m, length-masks k (get_or xs i 0) (between xs i e)))
      go false q = rw (body-singles q) (singles-length p xs i e (omega arith) f)

  -- no more words than events
  pub body_few : length (body_bytes p (between xs i e)) ≤ word_size3 * (e - i)
  body_few = omega (arith, length-stream word_size3 (body_words p (between xs i e)), length-body p (between xs i e), length-between xs i e (omega arith) f)

  -- a word at the least
  pub body-some : word_size3 ≤ length (body_bytes p (between xs i e))
  body-some = rw body-length (go (ltb (1 + k) (e - i)))
    where
      go : (b : Bool) → word_size3 ≤ word_size3 * cond b (1 + k) (e - i)
      go true = omega arith
      go false = omega arith
