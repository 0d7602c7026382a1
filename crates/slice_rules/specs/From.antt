-- What the parts of a slice say: what it asks of the index, the pass from the record that it starts at, and its answer where the records' judgement is given.
use Rattle.std.specs.Prelude.{◌≡◌, Bool, true, List, ℕ, ◌≤◌, ◌^◌, min, ℤ, drop}
use Rattle.evt_types.specs.{declared.Refusal.TheVariants.ColumnsTooShort, Event.Event, Outcome.on_outcome}
use Rattle.evt_codec.specs.Codec.{in_range_c}
use Rattle.read_window.specs.declared.Window.{Window}
use Rattle.read_select.specs.Pass.{handed_over}
use Rattle.std.specs.Prelude.{Result, Ok, Err}
use Rattle.evt_types.specs.declared.Refusal.{Refusal}
use Rattle.index_build.specs.{declared.Checkpoint.Checkpoint, declared.RawSliceSource.RawSliceSource, Index.spacing_ok}
use Rattle.index_records.specs.declared.Choice.TheVariants.{ByNumber, ByTime}
use Rattle.slice_rules.specs.declared.{Asked.Asked}
use Rattle.slice_rules.specs.{Slice.first_of, Slice.end_of}
use Rattle.slice_rules.specs.{Slice.slice_check, Times.time_window}
pub use Rattle.slice_rules.specs.Slice.{SlicesFrom}

-- ---- what is asked for

-- from the clamped start to before the clamped end, at any time
abbrev pub number_window : RawSliceSource → (i0 i1 : ℕ) → Window
number_window s i0 i1 = record { width = s.width; height = s.height; n0 = first_of s i0; n1 = end_of s i0 i1; t0 = 0; t1 = 18446744073709551615 }

abbrev pub asked_by_number : RawSliceSource → (i0 i1 : ℕ) → Asked
asked_by_number s i0 i1 = record { choice = ByNumber (first_of s i0); window = number_window s i0 i1 }

abbrev pub asked_by_time : RawSliceSource → (t0 t1 : ℤ) → Asked
asked_by_time s t0 t1 = record {
  choice = ByTime t0;
  window = time_window s.width s.height 0 18446744073709551615 t0 t1;
}

-- ---- the pass

-- what the window leaves from a record on
abbrev pub passed_from : List ℕ → Window → Checkpoint → List Event
passed_from recording win c = handed_over win c.event_index c.codec (drop c.byte_offset recording)

-- ---- the answer

-- to what was delivered: all events, or 5
abbrev pub answer_of : Result ℕ ℕ → Result ℕ Refusal
answer_of (Ok n) = Ok n
answer_of (Err n) = Err (ColumnsTooShort n)

-- the byte that a record's offset leads to, or the refusal
abbrev pub start_of : (n : ℕ) → RawSliceSource → (ok : Bool) → (offset : ℕ) → Result ℕ Refusal
start_of n s ok offset = on_outcome Err (λ u. Ok (min offset n)) (slice_check n s ok)

-- a record of an index in range can be started at
abbrev pub Startable : RawSliceSource → (ok : Bool) → Checkpoint → Type 0
Startable s ok c = spacing_ok s.encoding s.spacing ≡ true → ok ≡ true → (in_range_c c.codec ≡ true) × (c.event_index ≤ 2 ^ 33)
