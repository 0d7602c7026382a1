-- EVT3: the words that a writer sends of a run.
use Rattle.std.specs.Prelude.{Bool, true, false, cond, ◌&&◌, List, [], ◌∷◌, ◌++◌, ℕ, zero, suc, ◌+◌, ◌-◌, ◌*◌, ◌/◌, ◌%◌, ◌^◌, eqb, ltb, length}
use Rattle.laws_stream.specs.{Machine.Machine, Machine.Note, Mask.mask}
use Rattle.std.specs.Prelude.{Option, Some, None}
use Rattle.evt_types.specs.{Event.Event, Layout.grain3, Layout.word3, Layout.column_word3}
use Rattle.evt3_decoder.specs.Evt3.{period3}
use Rattle.write_buffer.specs.{declared.EncoderState.EncoderState, Columns.event, Sent.sent_is, Sent.quiet, Sent.carries, Sent.due}
use Rattle.evt3_run_rules.specs.Runs.{Run, spread, first_x, last_x}

abbrev pub high_word3 : (t : ℕ) → ℕ
high_word3 t = word3 8 (t / grain3 % 2 ^ 12)

abbrev pub low_word3 : (t : ℕ) → ℕ
low_word3 t = word3 6 (t % grain3)

abbrev pub row_word3 : (y : ℕ) → ℕ
row_word3 y = word3 0 (y % 2048)

-- ---- loops

-- the loop of the half that is held: a writer that holds none is in loop 0
abbrev pub loop_of : Option ℕ → ℕ
loop_of None = 0
loop_of (Some h) = h / 2 ^ 12

abbrev pub at_end : Option ℕ → Bool
at_end None = false
at_end (Some h) = eqb (h % 2 ^ 12) 4095

-- to pass n loops: for each type 8 with FFF, unless the half that is held is that, and type 8 with 000
unfoldable pub passes3 : (n : ℕ) (end : Bool) → List (Note ℕ Event)
passes3 zero end = []
passes3 (suc n) end = due end (word3 8 4095) ++ (quiet (word3 8 0) ∷ passes3 n false)

-- how many loops are passed to get to t
abbrev pub ahead3 : EncoderState → (t : ℕ) → ℕ
ahead3 v t = t / period3 - loop_of v.time_high

-- what is held then: if any was passed, the half 000 of t's loop, and the low half counts as 0
abbrev pub looped_by : EncoderState → (t passed : ℕ) → EncoderState
looped_by v t zero = v
looped_by v t (suc n) = record { time_high = Some (t / period3 * 2 ^ 12); time_low = Some 0; y = v.y }

abbrev pub looped3 : EncoderState → (t : ℕ) → EncoderState
looped3 v t = looped_by v t (ahead3 v t)

-- ---- time and row in their loop

-- after a type 8 the low half counts as 0
abbrev pub low_kept : (sent : Bool) → Option ℕ → Option ℕ
low_kept true l = l
low_kept false l = Some 0

abbrev pub high_sent3 : EncoderState → (t : ℕ) → Bool
high_sent3 v t = sent_is v.time_high (t / grain3)

abbrev pub low_sent3 : EncoderState → (t : ℕ) → Bool
low_sent3 v t = sent_is (low_kept (high_sent3 v t) v.time_low) (t % grain3)

abbrev pub row_sent3 : EncoderState → (y : ℕ) → Bool
row_sent3 v y = sent_is v.y y

-- type 8 when t / grain3 changes, type 6 when the low half changes, type 0 when the row changes
unfoldable pub leads3 : EncoderState → (t y : ℕ) → List (Note ℕ Event)
leads3 v t y = due (high_sent3 v t) (high_word3 t) ++ (due (low_sent3 v t) (low_word3 t) ++ due (row_sent3 v y) (row_word3 y))

-- ---- the columns

abbrev pub single_word3 : (p x : ℕ) → ℕ
single_word3 p x = column_word3 2 (p % 2) (x % 2048)

abbrev pub base_word3 : (p x : ℕ) → ℕ
base_word3 p x = column_word3 3 (p % 2) (x % 2048)

abbrev pub mask_word3 : (base : ℕ) → List ℕ → ℕ
mask_word3 b xs = word3 4 (mask b xs % 4096)

-- the numbers below a limit at the front of a list, and what follows them
unfoldable pub nearby : (to : ℕ) → List ℕ → List ℕ
nearby to [] = []
nearby to (x ∷ xs) = cond (ltb x to) (x ∷ nearby to xs) []

unfoldable pub beyond : (to : ℕ) → List ℕ → List ℕ
beyond to [] = []
beyond to (x ∷ xs) = cond (ltb x to) (beyond to xs) (x ∷ xs)

abbrev pub span : List ℕ → ℕ
span xs = last_x xs - first_x xs + 1

-- span / 12, rounded up
unfoldable pub mask_count : List ℕ → ℕ
mask_count xs = (span xs + 11) / 12

-- over 2 events, and fewer words as vectors than as single events
unfoldable pub vectored : List ℕ → Bool
vectored xs = ltb 2 (length xs) && ltb (1 + mask_count xs) (length xs)

module _ (t y p : ℕ) where
  -- type 2 each
  abbrev pub singles : List ℕ → List (Note ℕ Event)
  singles [] = []
  singles (x ∷ xs) = carries (single_word3 p x) (event x y t p) ∷ singles xs

  -- type 4 for each of k masks of 12 columns from b on, empty ones too
  abbrev pub masks : (k b : ℕ) → List ℕ → List (Note ℕ Event)
  masks zero b xs = []
  masks (suc k) b xs = record { word = mask_word3 b (nearby (b + 12) xs); events = spread t y p (nearby (b + 12) xs) } ∷ masks k (b + 12) (beyond (b + 12) xs)

  -- type 3, and the masks
  abbrev pub vectors : List ℕ → List (Note ℕ Event)
  vectors xs = quiet (base_word3 p (first_x xs)) ∷ masks (mask_count xs) (first_x xs) xs

  unfoldable pub body3 : List ℕ → List (Note ℕ Event)
  body3 xs = cond (vectored xs) (vectors xs) (singles xs)

-- ---- the writer

unfoldable pub encode3 : EncoderState → Run → List (Note ℕ Event)
encode3 v r =
    passes3 (ahead3 v r.t) (at_end v.time_high) ++ (leads3 (looped3 v r.t) r.t r.y ++ body3 r.t r.y r.p r.xs)

abbrev pub state_of3 : (high low row : ℕ) → EncoderState
state_of3 high low row = record { time_high = Some high; time_low = Some low; y = Some row }

abbrev pub encoded3 : EncoderState → Run → EncoderState
encoded3 v r = state_of3 (r.t / grain3) (r.t % grain3) r.y

abbrev pub writer3 : Machine EncoderState Run (Note ℕ Event)
writer3 = record { step = encoded3; emit = encode3 }
