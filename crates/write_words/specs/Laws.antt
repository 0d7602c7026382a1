-- The words of events carry them in order, fit their width, and are not too many.
use Rattle.std.specs.Prelude.{◌≡◌, Bool, cond, ℕ, zero, suc, ◌+◌, ◌-◌, ◌*◌, ◌/◌, ◌%◌, ◌^◌, ◌≤◌, ◌<◌, ltb, length, get_or, ℤ, pos}
use Rattle.std.proofs.Math.Path.{refl}
use Rattle.std.proofs.Common.{ap, ◌∙◌, arith, length-append}
use Rattle.std.proofs.Math.Bool.{true, false}
use mathlib.Core.List.{List, [], ◌∷◌, ◌++◌}
use Rattle.std.proofs.lemmas.List.{length-map}
use Rattle.laws_stream.specs.Machine.{Note, All, all_of, all_append, words, words_append, notes, notes-append}
use Rattle.laws_stream.specs.{Mask.Inc, Mask.mask, Order.Rise, Order.last_of, Order.rise_last, Words.Fits}
use Rattle.evt3_decoder.specs.Evt3.{period3}
use Rattle.evt_types.specs.{Event.Event, Layout.word_size2, Layout.word_size21, Layout.word_size3, Layout.grain3, Layout.word3}
use Rattle.evt_types.specs.declared.{Encoding.Encoding, Encoding.TheVariants.Evt2, Encoding.TheVariants.Evt21, Encoding.TheVariants.Evt3}
use Rattle.write_buffer.specs.{declared.EncoderState.EncoderState, Columns.event, Sent.due, Emits.events-single, Emits.emits_fit, Emits.emits-notes}
use Rattle.write_buffer.specs.{Columns.Sized, Columns.events_in, Emits.emits_few, Storing.bytes_from, Storing.bytes-cons}
use Rattle.evt2_encoder.specs.{Evt2.writer2, Evt2.encode_notes2, Evt2.encode_fits2, Pass2.few2}
use Rattle.evt21_encoder.specs.Evt21.{Valid21, runs21, runs_are21, writer21, encode_notes21, encode_fits21, stream_few21}
use Rattle.evt3_run_rules.specs.Runs.{Run, runs, runs_are, given, given_by_lem, spread, Rising, Valid, first_x, last_x}
use Rattle.evt3_run_rules.specs.Runs.{goes, goes-true, first_of, single, prepend, glue}
use Rattle.evt3_lead_words.specs.Evt3.{high_word3, low_word3, row_word3, high_sent3, low_sent3, row_sent3, leads3, nearby}
use Rattle.evt3_lead_words.specs.Evt3.{beyond, mask_count, vectored, singles, masks, vectors, body3, encode3, encoded3, writer3}
use Rattle.evt3_lead_words.specs.Evt3.{loop_of, at_end, passes3, ahead3, looped3}
use Rattle.write_words.specs.Encode.{encode_notes, encode_size, encode_bytes, encode_most, loop_clock, loop_time, Paced, loops_ahead, last_loop}
use Rattle.evt3_run_words.specs.{Parts.bytes3, Parts.few3, Masks.near_inc, Masks.inc_to}

-- ---- the masks of a run hold all of it

-- they reach the last
pub reach : (xs : List ℕ) → Rising xs → Inc (first_x xs) (first_x xs + 12 * mask_count xs) xs
unfolding mask_count
reach xs r = inc_to (first_x xs) (suc (last_x xs)) _ xs (omega arith) r.rises

module _ (t y p mid : ℕ) where
  spread_as : (c : Bool) (x : ℕ) (xs : List ℕ) → spread t y p (nearby mid xs) ++ spread t y p (beyond mid xs) ≡ spread t y p xs
      → spread t y p (cond c (x ∷ nearby mid xs) []) ++ spread t y p (cond c (beyond mid xs) (x ∷ xs)) ≡ spread t y p (x ∷ xs)
  spread_as true x xs ih = ap {B = List Event} (λ (l : List Event). event x y t p ∷ l) ih
  spread_as false x xs ih = refl

  -- the front up to a limit, and the rest
  pub spread_is : (xs : List ℕ) → spread t y p (nearby mid xs) ++ spread t y p (beyond mid xs) ≡ spread t y p xs
  unfolding nearby beyond
  spread_is [] = refl
  spread_is (x ∷ xs) = spread_as (ltb x mid) x xs (spread_is xs)

pub none_left : (b to : ℕ) (xs : List ℕ) → to ≤ b → Inc b to xs → xs ≡ []
none_left b to [] h i = refl
none_left b to (x ∷ xs) h i = absurd (omega (arith, i.0, i.1))

-- ---- notes

module _ (t y p : ℕ) where
  pub singles-notes : (xs : List ℕ) → notes (singles t y p xs) ≡ spread t y p xs
  singles-notes [] = refl
  singles-notes (x ∷ xs) = ap {B = List Event} (λ (l : List Event). event x y t p ∷ l) (singles-notes xs)

  pub masks-notes : (k b : ℕ) (xs : List ℕ) → Inc b (b + 12 * k) xs → notes (masks t y p k b xs) ≡ spread t y p xs
  masks-notes zero b xs i = rw (none_left b (b + 12 * 0) xs (omega arith) i)
  masks-notes (suc k) b xs i =
      let n = near_inc (b + 12) b (b + 12 * suc k) xs i in
      let i' : Inc (b + 12) (b + 12 + 12 * k) (beyond (b + 12) xs) = let e : b + 12 * suc k ≡ b + 12 + 12 * k = omega arith in rw e at n.1 in
      ap (λ (l : List Event). spread t y p (nearby (b + 12) xs) ++ l) (masks-notes k (b + 12) (beyond (b + 12) xs) i') ∙ spread_is t y p (b + 12) xs

  pub body-notes : (xs : List ℕ) → Rising xs → notes (body3 t y p xs) ≡ spread t y p xs
  unfolding body3
  body-notes xs v = go (vectored xs)
    where
      go : (b : Bool) → notes (cond b (vectors t y p xs) (singles t y p xs)) ≡ spread t y p xs
      go true = masks-notes (mask_count xs) (first_x xs) xs (reach xs v)
      go false = singles-notes xs

pub due-notes : (b : Bool) (w : ℕ) (ns : List (Note ℕ Event)) → notes (due b w ++ ns) ≡ notes ns
due-notes true w ns = refl
due-notes false w ns = refl

pub leads_notes : (v : EncoderState) (t y : ℕ) → notes (leads3 v t y) ≡ []
unfolding leads3
leads_notes v t y =
    due-notes (high_sent3 v t) (high_word3 t) _ ∙ due-notes (low_sent3 v t) (low_word3 t) _ ∙ none (row_sent3 v y)
  where
    none : (b : Bool) → notes (due b (row_word3 y)) ≡ []
    none true = refl
    none false = refl

pub passes_notes : (n : ℕ) (end : Bool) → notes (passes3 n end) ≡ []
unfolding passes3
passes_notes zero end = refl
passes_notes (suc n) end = due-notes end (word3 8 4095) _ ∙ passes_notes n false

pub encode_notes3 : (v : EncoderState) (r : Run) → Valid r → notes (encode3 v r) ≡ given r
unfolding encode3
encode_notes3 v r va =
    let leads = leads3 (looped3 v r.t) r.t r.y in
    let body = body3 r.t r.y r.p r.xs in
    notes-append (passes3 (ahead3 v r.t) (at_end v.time_high)) (leads ++ body)
    ∙ rw (passes_notes (ahead3 v r.t) (at_end v.time_high), notes-append leads body, leads_notes (looped3 v r.t) r.t r.y)
    (body-notes r.t r.y r.p r.xs va)

-- THE NOTES of some events' words are the events, in order
pub encode_notes_lem : (e : Encoding) (v : EncoderState) (es : List Event) → notes (encode_notes e v es) ≡ es
encode_notes_lem Evt2 v es = emits-notes writer2 (λ e. Unit) (λ e. e ∷ []) (λ v e u. encode_notes2 v e) v es (all_of _ (λ e. tt) es) ∙ events-single es
encode_notes_lem Evt21 v es =
    let r = runs_are21 es in emits-notes writer21 Valid21 given (λ v r va. encode_notes21 v r) v (runs21 es) r.0 ∙ r.1
encode_notes_lem Evt3 v es = let r = runs_are es in emits-notes writer3 Valid given encode_notes3 v (runs es) r.0 ∙ r.1

-- ---- widths

column_fits : (k p x : ℕ) → k < 16 → k * 2 ^ 12 + p % 2 * 2 ^ 11 + x % 2048 < 256 ^ word_size3
column_fits k p x h =
    let a : p % 2 < 2 = omega arith in
    let b : x % 2048 < 2048 = omega arith in
    omega arith

singles_fit : (t y p : ℕ) (xs : List ℕ) → All (Fits word_size3) (words (singles t y p xs))
singles_fit t y p [] = tt
singles_fit t y p (x ∷ xs) = (column_fits 2 p x (omega arith), singles_fit t y p xs)

masks_fit : (t y p k b : ℕ) (xs : List ℕ) → All (Fits word_size3) (words (masks t y p k b xs))
masks_fit t y p zero b xs = tt
masks_fit t y p (suc k) b xs =
    let m = mask b (nearby (b + 12) xs) in
    (omega arith, masks_fit t y p k (b + 12) (beyond (b + 12) xs))

body_fits : (t y p : ℕ) (xs : List ℕ) → All (Fits word_size3) (words (body3 t y p xs))
unfolding body3
body_fits t y p xs = go (vectored xs)
  where
    go : (b : Bool) → All (Fits word_size3) (words (cond b (vectors t y p xs) (singles t y p xs)))
    go true = (column_fits 3 p (first_x xs) (omega arith), masks_fit t y p (mask_count xs) (first_x xs) xs)
    go false = singles_fit t y p xs

due_fits : (b : Bool) (w : ℕ) (ns : List (Note ℕ Event)) → w < 256 ^ word_size3 → All (Fits word_size3) (words ns) → All (Fits word_size3) (words (due b w ++ ns))
due_fits true w ns h k = k
due_fits false w ns h k = (h, k)

leads_fit : (v : EncoderState) (t y : ℕ) → All (Fits word_size3) (words (leads3 v t y))
unfolding leads3
leads_fit v t y =
    due_fits (high_sent3 v t) (high_word3 t) _ (omega arith)
    (due_fits (low_sent3 v t) (low_word3 t) _ (omega arith) (last (row_sent3 v y)))
  where
    last : (b : Bool) → All (Fits word_size3) (words (due b (row_word3 y)))
    last true = tt
    last false = (omega arith, tt)

passes_fit : (n : ℕ) (end : Bool) → All (Fits word_size3) (words (passes3 n end))
unfolding passes3
passes_fit zero end = tt
passes_fit (suc n) end = due_fits end (word3 8 4095) _ (omega arith) (omega arith, passes_fit n false)

both_fit : (a b : List (Note ℕ Event)) → All (Fits word_size3) (words a) → All (Fits word_size3) (words b) → All (Fits word_size3) (words (a ++ b))
both_fit a b p q = rw (words_append a b) (all_append (Fits word_size3) (words a) (words b) p q)

pub encode_fits3 : (v : EncoderState) (r : Run) → All (Fits word_size3) (words (encode3 v r))
unfolding encode3
encode_fits3 v r =
    both_fit (passes3 (ahead3 v r.t) (at_end v.time_high)) _ (passes_fit (ahead3 v r.t) (at_end v.time_high))
    (both_fit (leads3 (looped3 v r.t) r.t r.y) _ (leads_fit (looped3 v r.t) r.t r.y) (body_fits r.t r.y r.p r.xs))

-- EVERY WORD fits its width
pub encode_fits : (e : Encoding) (v : EncoderState) (es : List Event) → All (Fits (encode_size e)) (words (encode_notes e v es))
encode_fits Evt2 v es = emits_fit writer2 word_size2 encode_fits2 v es
encode_fits Evt21 v es = emits_fit writer21 word_size21 encode_fits21 v (runs21 es)
encode_fits Evt3 v es = emits_fit writer3 word_size3 encode_fits3 v (runs es)

-- ---- how many bytes

abbrev run_clock : Run → ℕ
run_clock r = r.t / period3

-- of runs: each in no loop before that of the one before
abbrev PacedRuns : ℕ → List Run → Type 0
PacedRuns = Rise run_clock (λ r. true)

abbrev last_run : ℕ → List Run → ℕ
last_run = last_of run_clock (λ r. true)

few_runs : (v : EncoderState) (rs : List Run) → All Valid rs → PacedRuns (loop_of v.time_high) rs
    → let held = loop_of v.time_high in
    length (bytes_from word_size3 writer3 v rs) ≤ 8 * length (given_by_lem rs) + 4 * (last_run held rs - held)
unfolding bytes_from
few_runs v [] va p = omega arith
few_runs v (r ∷ rs) va p =
    let here = bytes3 v r in
    let left = bytes_from word_size3 writer3 (encoded3 v r) rs in
    let held : r.t / grain3 / 2 ^ 12 ≡ run_clock r = omega arith in
    let n : length (given r) ≡ length r.xs = length-map r.xs (λ x. event x r.y r.t r.p) in
    let ih : length left ≤ 8 * length (given_by_lem rs) + 4 * (last_run (run_clock r) rs - run_clock r) =
    rw held at (few_runs (encoded3 v r) rs va.1 (rw held p.1)) in
    omega (
      arith,
      ap length (bytes-cons word_size3 writer3 v r rs),
      length-append here left,
      length-append (given r) (given_by_lem rs),
      few3 v r va.0.some,
      p.0.rises,
      rise_last run_clock (λ r. true) (run_clock r) rs p.1,
    )

-- runs of events in order are in order
module _ (from : ℕ) (e : Event) where
  glue_go : (b : Bool) (r : Run) (rs : List Run) → goes e.t e.y e.p e.x (first_of r) ≡ b → from ≤ loop_clock e → PacedRuns (loop_clock e) (r ∷ rs)
      → PacedRuns from (cond b (prepend e r ∷ rs) (single e ∷ r ∷ rs))
      × (last_run from (cond b (prepend e r ∷ rs) (single e ∷ r ∷ rs)) ≡ last_run (loop_clock e) (r ∷ rs))
  glue_go true r rs q h p =
      let same = (goes-true e.t e.y e.p e.x (first_of r) q).is_t in
      ((record { rises = h; fine = refl }, rw (← same) p.1), rw same)
  glue_go false r rs q h p = ((record { rises = h; fine = refl }, p), refl)

  glue_paced : (rs : List Run) → from ≤ loop_clock e → PacedRuns (loop_clock e) rs
      → PacedRuns from (glue e rs) × (last_run from (glue e rs) ≡ last_run (loop_clock e) rs)
  glue_paced [] h p = ((record { rises = h; fine = refl }, tt), refl)
  glue_paced (r ∷ rs) h p = glue_go (goes e.t e.y e.p e.x (first_of r)) r rs refl h p

runs_paced : (from : ℕ) (es : List Event) → Rise loop_clock (λ e. true) from es
    → PacedRuns from (runs es) × (last_run from (runs es) ≡ last_of loop_clock (λ e. true) from es)
runs_paced from [] p = (tt, refl)
runs_paced from (e ∷ es) p =
    let ih = runs_paced (loop_clock e) es p.1 in
    let g = glue_paced from e (runs es) p.0.rises ih.0 in
    (g.0, g.1 ∙ ih.1)

pub most-le : (e : Encoding) (n loops : ℕ) → encode_most e n loops ≤ 16 * n + 4 * loops
most-le Evt2 n loops = omega arith
most-le Evt21 n loops = omega arith
most-le Evt3 n loops = omega arith

pub encode_few : (e : Encoding) (v : EncoderState) (es : List Event) → Paced e v es → length (encode_bytes e v es) ≤ encode_most e (length es) (loops_ahead v es)
unfolding encode_bytes bytes_from
encode_few Evt2 v es p =
    let few = emits_few writer2 (λ e. Unit) (λ e. e ∷ []) 8 word_size2 (λ v e u. few2 v e) v es (all_of _ (λ e. tt) es) in
    omega (arith, few, ap length (events-single es))
encode_few Evt21 v es p = stream_few21 v es
encode_few Evt3 v es p =
    let r = runs_are es in
    let q = runs_paced (loop_of v.time_high) es p in
    omega (arith, few_runs v (runs es) r.0 q.0, ap length r.1, q.1)

-- the last loop, by the columns
pub last-loop : (held : ℕ) (xs ys : List ℕ) (ts : List ℤ) (ps : List ℕ) → length ys ≡ length xs → length ts ≡ length xs → length ps ≡ length xs
    → last_of loop_clock (λ e. true) held (events_in xs ys ts ps) ≡ last_loop held ts
last-loop held [] ys [] ps a b c = refl
last-loop held [] ys (t ∷ ts) ps a b c = absurd (omega arith)
last-loop held (x ∷ xs) [] ts ps a b c = absurd (omega arith)
last-loop held (x ∷ xs) (y ∷ ys) [] ps a b c = absurd (omega arith)
last-loop held (x ∷ xs) (y ∷ ys) (t ∷ ts) [] a b c = absurd (omega arith)
last-loop held (x ∷ xs) (y ∷ ys) (t ∷ ts) (p ∷ ps) a b c = last-loop (loop_time t) xs ys ts ps (omega arith) (omega arith) (omega arith)

pub ahead_times : (v : EncoderState) (xs ys : List ℕ) (ts : List ℤ) (ps : List ℕ) → Sized xs ys ts ps
    → loops_ahead v (events_in xs ys ts ps) ≡ last_loop (loop_of v.time_high) ts - loop_of v.time_high
ahead_times v xs ys ts ps z = rw (last-loop (loop_of v.time_high) xs ys ts ps z.same-y z.same-t z.same_p)

pub last-loop_none : (held : ℕ) (ts : List ℤ) → length ts ≤ 0 → last_loop held ts ≡ held
last-loop_none held [] h = refl
last-loop_none held (t ∷ ts) h = absurd (omega arith)

last-loop_is : (held : ℕ) (t : ℤ) (ts : List ℤ) → last_loop held (t ∷ ts) ≡ loop_time (get_or (t ∷ ts) (length ts) (pos 0))
last-loop_is held t [] = refl
last-loop_is held t (u ∷ ts) = last-loop_is (loop_time t) u ts

pub last-loop-some : (held : ℕ) (ts : List ℤ) → 0 < length ts → last_loop held ts ≡ loop_time (get_or ts (length ts - 1) (pos 0))
last-loop-some held [] h = absurd (omega arith)
last-loop-some held (t ∷ ts) h = let n : suc (length ts) - 1 ≡ length ts = omega arith in last-loop_is held t ts ∙ rw n
