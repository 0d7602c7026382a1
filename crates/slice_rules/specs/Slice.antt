-- What a slice answers, and the events that it hands over.
use Rattle.std.specs.Prelude.{◌≡◌, Bool, cond, ◌&&◌, List, [], ◌∷◌, ℕ, min, max, leb, ltb, ℤ, pos, length, drop}
use Rattle.std.specs.Int.Signed.{le_z, lt_z}
use Rattle.std.specs.Prelude.{Option, Some, Result, Ok, Err}
use Rattle.evt_types.specs.declared.SensorSize.{SensorSize}
use Rattle.evt_types.specs.declared.Refusal.{Refusal}
use Rattle.evt_types.specs.{Event.Event}
use Rattle.evt_types.specs.{Num.most_bytes, Outcome.Outcome, Outcome.refuse, Outcome.give, Outcome.on_outcome, Outcome.verdict, Outcome.handed_by}
use Rattle.evt_types.specs.{Told.Told, Told.told, Told.accepted}
use Rattle.laws_stream.specs.{Machine.emits, Select.by_number_lem, Slice.sift, Slice.until, Words.words_of}
use Rattle.evt_types.specs.declared.Refusal.TheVariants.{InvalidSensorSize, TooLong, ColumnsTooShort, InvalidSpacing, StateOutOfRange}
use Rattle.evt_codec.specs.{declared.codec.Codec.Codec, Reader.view, Codec.events_from}
use Rattle.header.specs.Header.{has_zero}
use Rattle.read_rules.specs.Read.{kept, shortest, Handed}
use Rattle.index_build.specs.{declared.Checkpoint.Checkpoint, declared.RawSliceSource.RawSliceSource, Index.spacing_ok}
use Rattle.index_records.specs.{InRange.index_in_range, Start.last_passing}

-- ---- the record to start at

-- what is decoded from the last record that passes, or else from the first; without a record nothing
abbrev pub starting_at : (Checkpoint → Bool) → (Checkpoint → List Event) → List Checkpoint → List Event
starting_at p f [] = []
starting_at p f (c ∷ cs) = f (last_passing p c cs)

abbrev pub size_of : RawSliceSource → Option SensorSize
size_of s = Some (record { width = s.width; height = s.height })

-- ---- by number

-- the ends, clamped to the total, the second to no less than the first
abbrev pub first_of : RawSliceSource → (i0 : ℕ) → ℕ
first_of s i0 = min i0 s.n_events

abbrev pub end_of : RawSliceSource → (i0 i1 : ℕ) → ℕ
end_of s i0 i1 = max (first_of s i0) (min i1 s.n_events)

-- from the last record whose count is at most the start; the events are numbered from that count on
unfoldable pub index_events : List ℕ → RawSliceSource → List Checkpoint → (i0 i1 : ℕ) → List Event
index_events recording s records i0 i1 =
    starting_at (λ c. leb c.event_index (first_of s i0))
    (λ c. by_number_lem (first_of s i0) (end_of s i0 i1) c.event_index (kept (size_of s) (events_from c.codec (drop c.byte_offset recording))))
    records

-- ---- by time

abbrev pub is_during : (t0 t1 : ℤ) → Event → Bool
is_during t0 t1 e = le_z t0 (pos e.t) && lt_z (pos e.t) t1

-- started, and its time t1 or more
abbrev pub is_at : ℤ → (started : Bool) → (time : ℕ) → Bool
is_at t1 started time = started && le_z t1 (pos time)

-- the events of the words up to the first after which the decoder is started and its time is t1 or more, that word's too
abbrev pub events_until : ℤ → Codec → List ℕ → List Event
events_until t1 c l =
    let R = (view c).reader in
    emits R.machine (view c).state (until R.machine (λ s. is_at t1 (R.started s) (R.time s)) (view c).state (words_of R.size l))

-- from the last record whose time is below t0; kept are those with t0 ≤ t < t1
unfoldable pub time_events : List ℕ → RawSliceSource → List Checkpoint → (t0 t1 : ℤ) → List Event
time_events recording s records t0 t1 =
    starting_at (λ c. lt_z c.time t0)
    (λ c. sift (is_during t0 t1) (kept (size_of s) (events_until t1 c.codec (drop c.byte_offset recording))))
    records

-- ---- what a slice comes to: a refusal, or the events asked for

-- whether n bytes are sliced: 4, 1 for a zero size, 8, 10 where the index isn't in range
abbrev pub slice_check : (n : ℕ) → RawSliceSource → (ok : Bool) → Outcome Unit
slice_check n s ok =
    cond (ltb most_bytes n) (refuse TooLong)
    (cond (has_zero (size_of s)) (refuse InvalidSensorSize)
    (cond (spacing_ok s.encoding s.spacing)
    (cond ok (give tt) (refuse StateOutOfRange))
    (refuse InvalidSpacing)))

-- 5 where the shortest column, of `room` places, is too short
abbrev pub room_outcome : List Event → (room : ℕ) → Outcome (List Event)
room_outcome es room = cond (ltb room (length es)) (refuse (ColumnsTooShort (length es))) (give es)

-- that check, then 5
unfoldable pub slice_outcome : List ℕ → RawSliceSource → (ok : Bool) → List Event → (room : ℕ) → Outcome (List Event)
slice_outcome recording s ok es room = on_outcome refuse (λ u. room_outcome es room) (slice_check (length recording) s ok)

-- ---- what is read off an outcome

abbrev pub slice_answer : Outcome (List Event) → Result ℕ Refusal
slice_answer = on_outcome Err (λ es. Ok (length es))

-- an acceptance tells the count
abbrev pub slice_verdict : Outcome (List Event) → Told
slice_verdict = verdict (λ es. length es ∷ [])

-- nothing on a refusal
abbrev pub slice_handed : Outcome (List Event) → List Event
slice_handed = handed_by (λ es. es)

-- ---- promises

-- what an answer tells
abbrev pub told_slice : Result ℕ Refusal → Told
told_slice (Ok n) = accepted (n ∷ [])
told_slice (Err r) = told r

-- what a slice with this outcome promises
pub record Slices (outcome : Outcome (List Event)) (r : Result ℕ Refusal)
    (xs₀ ys₀ : List ℕ) (ts₀ : List ℤ) (ps₀ xs ys : List ℕ) (ts : List ℤ) (ps : List ℕ) : Type 0 where
  pub is_told : told_slice r ≡ slice_verdict outcome
  pub is_answer : r ≡ slice_answer outcome
  pub columns : Handed (slice_handed outcome) xs₀ ys₀ ts₀ ps₀ xs ys ts ps

-- of the events asked for; `ok`: whether the index is in range
abbrev pub SlicesFrom : List ℕ → RawSliceSource → (ok : Bool) → (asked : List Event) → Result ℕ Refusal
    → (xs₀ ys₀ : List ℕ) (ts₀ : List ℤ) (ps₀ xs ys : List ℕ) (ts : List ℤ) (ps : List ℕ) → Type 0
SlicesFrom recording s ok asked r xs₀ ys₀ ts₀ ps₀ = Slices (slice_outcome recording s ok asked (shortest xs₀ ys₀ ts₀ ps₀)) r xs₀ ys₀ ts₀ ps₀

abbrev pub SlicesIndex : List ℕ → RawSliceSource → List Checkpoint → (i0 i1 : ℕ) → Result ℕ Refusal
    → (xs₀ ys₀ : List ℕ) (ts₀ : List ℤ) (ps₀ xs ys : List ℕ) (ts : List ℤ) (ps : List ℕ) → Type 0
SlicesIndex recording s records i0 i1 = SlicesFrom recording s (index_in_range s records) (index_events recording s records i0 i1)

abbrev pub SlicesTime : List ℕ → RawSliceSource → List Checkpoint → (t0 t1 : ℤ) → Result ℕ Refusal
    → (xs₀ ys₀ : List ℕ) (ts₀ : List ℤ) (ps₀ xs ys : List ℕ) (ts : List ℤ) (ps : List ℕ) → Type 0
SlicesTime recording s records t0 t1 = SlicesFrom recording s (index_in_range s records) (time_events recording s records t0 t1)
