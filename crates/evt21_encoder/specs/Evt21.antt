-- EVT 2.1: the words that a writer sends of a run of events in one block of 32 columns.
use Rattle.std.specs.Prelude.{◌≡◌, refl, Bool, true, false, ◌&&◌, List, [], ◌∷◌, ◌++◌, ℕ, suc, ◌+◌, ◌*◌, ◌/◌, ◌%◌, ◌^◌, ◌≤◌, ◌<◌, eqb, ltb, length}
use Rattle.std.proofs.Common.{ap, append-nil, arith, eqb-true, ltb-true}
use Rattle.std.proofs.lemmas.List.{length-map}
use Rattle.laws_stream.specs.Machine.{Machine, Note, All, and_both, words, notes}
use Rattle.laws_stream.specs.{Mask.Inc, Mask.mask, Mask.mask_lt, Words.Fits}
use Rattle.evt_types.specs.{Event.Event, Event.events_of, Layout.word_size21, Layout.grain2, Layout.event_word21, Layout.time_word21}
use Rattle.evt_types.specs.{Layout.event_fits2, Layout.built_fits, declared.vector.Vector.Vector}
use Rattle.write_buffer.specs.{declared.EncoderState.EncoderState, Columns.event, Sent.due}
use Rattle.write_buffer.specs.{Due.both_bytes, Due.both_is, Due.both_few, Storing.piece, Storing.bytes_from, Emits.emits_few}
use Rattle.evt2_encoder.specs.Evt2.{high_sent2, encoded2}
use Rattle.evt3_run_rules.specs.Runs.{Run, first_x, first_of, given, given_by_lem, runs_by, runs_by_are, inc_from}
use Rattle.evt3_run_rules.specs.Vectors.{mask-events}

-- the first column of the block of 32 that x is in
abbrev pub block_of : (x : ℕ) → ℕ
block_of x = 32 * (x / 32)

-- a run stays in a block, and x rises strictly
abbrev pub next21 : (last x : ℕ) → Bool
next21 last x = eqb (last / 32) (x / 32) && ltb last x

abbrev pub runs21 : List Event → List Run
runs21 = runs_by next21

abbrev pub high_word21 : (t : ℕ) → ℕ
high_word21 t = time_word21 (t / grain2 % 2 ^ 28)

-- the block of an event, with a bit for each of its columns
abbrev pub masked_word21 : Event → (mask : ℕ) → ℕ
masked_word21 e m = event_word21 (e.p % 2) (e.t % grain2) (block_of e.x % 2048) (e.y % 2048) (m % 2 ^ 32)

abbrev pub mask_of : List ℕ → ℕ
mask_of xs = mask (block_of (first_x xs)) xs

abbrev pub word_of21 : Run → ℕ
word_of21 r = masked_word21 (first_of r) (mask_of r.xs)

-- type 8 when t / grain2 changes, then the run
unfoldable pub encode21 : EncoderState → Run → List (Note ℕ Event)
encode21 v r = due (high_sent2 v (first_of r)) (high_word21 r.t) ++ (record { word = word_of21 r; events = given r } ∷ [])

abbrev pub encoded21 : EncoderState → Run → EncoderState
encoded21 v r = encoded2 v (first_of r)

abbrev pub writer21 : Machine EncoderState Run (Note ℕ Event)
writer21 = record { step = encoded21; emit = encode21 }

abbrev pub stream21 : EncoderState → List Event → List ℕ
stream21 v es = bytes_from word_size21 writer21 v (runs21 es)

-- some columns of one block that rise
pub record Block (xs : List ℕ) : Type 0 where
  pub some : 1 ≤ length xs
  pub rises : Inc (block_of (first_x xs)) (block_of (first_x xs) + 32) xs

abbrev pub Valid21 : Run → Type 0
Valid21 r = Block r.xs

-- ---- laws

block-single : (x : ℕ) → Block (x ∷ [])
block-single x = record { some = omega arith; rises = (omega arith, omega arith, tt) }

block-cons : (x : ℕ) (xs : List ℕ) → next21 x (first_x xs) ≡ true → Block xs → Block (x ∷ xs)
block-cons x xs q b =
    let a = and_both (eqb (x / 32) (first_x xs / 32)) (ltb x (first_x xs)) q in
    let e = eqb-true (x / 32) (first_x xs / 32) a.0 in
    let h = ltb-true x (first_x xs) a.1 in
    let to = block_of (first_x xs) + 32 in
    let i = inc_from (suc x) (block_of (first_x xs)) to xs h b.rises in
    record { some = omega arith; rises = rw e (omega arith, omega arith, i) }

-- a run is valid, and runs have all the events in order
pub runs_are21 : (es : List Event) → All Valid21 (runs21 es) × (given_by_lem (runs21 es) ≡ es)
runs_are21 = runs_by_are next21 Block block-single block-cons

pub mask_small21 : {xs : List ℕ} → Block xs → mask_of xs < 2 ^ 32
mask_small21 {xs} b = mask_lt 32 (block_of (first_x xs)) _ (block_of (first_x xs)) xs (omega arith) (omega arith) b.rises

-- a run as the vector that its word holds
abbrev pub vector_of21 : Run → Vector
vector_of21 r = record { x = block_of (first_x r.xs); y = r.y; t = r.t; p = r.p; mask = mask_of r.xs }

-- has the run's events
pub vector_events21 : (r : Run) → Valid21 r → first_x r.xs < 2 ^ 16 → events_of (vector_of21 r) ≡ given r
vector_events21 r b h = mask-events 32 (vector_of21 r) r.xs (omega arith) (omega arith) refl b.rises

-- the words of a run carry its events
pub encode_notes21 : (v : EncoderState) (r : Run) → notes (encode21 v r) ≡ given r
unfolding encode21
encode_notes21 v r = go (high_sent2 v (first_of r))
  where
    go : (b : Bool) → notes (due b (high_word21 r.t) ++ (record { word = word_of21 r; events = given r } ∷ [])) ≡ given r
    go true = append-nil (given r)
    go false = append-nil (given r)

pub word_fits21 : (e : Event) (m : ℕ) → masked_word21 e m < 256 ^ word_size21
word_fits21 e m =
    let h = event_fits2 (e.p % 2) (e.t % grain2) (block_of e.x % 2048) (e.y % 2048) (omega arith) (omega arith) (omega arith) (omega arith) in
    omega (arith, built_fits _ (m % 2 ^ 32) (omega arith) h)

pub encode_fits21 : (v : EncoderState) (r : Run) → All (Fits word_size21) (words (encode21 v r))
unfolding encode21
encode_fits21 v r = go (high_sent2 v (first_of r))
  where
    go : (b : Bool) → All (Fits word_size21) (words (due b (high_word21 r.t) ++ (record { word = word_of21 r; events = given r } ∷ [])))
    go true = (word_fits21 (first_of r) (mask_of r.xs), tt)
    go false = (omega arith, (word_fits21 (first_of r) (mask_of r.xs), tt))

pub run_bytes21 : (v : EncoderState) (r : Run)
    → piece word_size21 writer21 v r ≡ both_bytes word_size21 (high_sent2 v (first_of r)) (high_word21 r.t) (word_of21 r)
unfolding encode21
run_bytes21 v r = both_is word_size21 (high_sent2 v (first_of r)) (high_word21 r.t) (record { word = word_of21 r; events = given r })

pub few21 : (v : EncoderState) (r : Run) → Valid21 r → length (piece word_size21 writer21 v r) ≤ 16 * length (given r)
few21 v r b =
    let n : length (given r) ≡ length r.xs = length-map r.xs (λ x. event x r.y r.t r.p) in
    rw (run_bytes21 v r) (omega (arith, n, b.some, both_few word_size21 (high_sent2 v (first_of r)) (high_word21 r.t) (word_of21 r)))

pub stream_few21 : (v : EncoderState) (es : List Event) → length (stream21 v es) ≤ 16 * length es
stream_few21 v es = let r = runs_are21 es in omega (arith, emits_few writer21 Valid21 given 16 word_size21 few21 v (runs21 es) r.0, ap length r.1)
