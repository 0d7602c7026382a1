-- Rule 10 for an index: which records are out of range.
use Rattle.std.specs.Prelude.{ℕ, ◌+◌, ◌^◌, Bool, true, false, not, ◌&&◌, List, [], ◌∷◌, ℤ, pos, ◌==◌, int_le, nat_le, nat_lt}
use Rattle.evt_codec.specs.Codec.{in_range_c}
use Rattle.index_build.specs.declared.{Checkpoint.Checkpoint, RawSliceSource.RawSliceSource}
use Rattle.index_records.specs.Judge.{is_other}

-- a record stands at `offset`, which is no place at all from 2^64 on, and is of the source's encoding, with a decoder in range; its count is no less than
-- `count`, at most 2^33 and at most the total, its time no less than `time`
abbrev pub record_in_range : RawSliceSource → (offset count : ℕ) → (time : ℤ) → Checkpoint → Bool
record_in_range s offset count time c =
    nat_lt offset (2 ^ 64)
    && (c.byte_offset == offset
    && (not (is_other c.codec s.encoding)
    && (in_range_c c.codec
    && (nat_le count c.event_index
    && (nat_le c.event_index (2 ^ 33)
    && (nat_le c.event_index s.n_events
    && int_le time c.time))))))

-- one after another, `spacing` bytes apart; counts and times never fall
abbrev pub records_in_range : RawSliceSource → (offset count : ℕ) → (time : ℤ) → List Checkpoint → Bool
records_in_range s offset count time [] = true
records_in_range s offset count time (c ∷ cs) = record_in_range s offset count time c && records_in_range s (offset + s.spacing) c.event_index c.time cs

-- there is a record; the first stands at the body's start, and no time is negative
unfoldable pub index_in_range : RawSliceSource → List Checkpoint → Bool
index_in_range s [] = false
index_in_range s (c ∷ cs) = records_in_range s s.data_offset 0 (pos 0) (c ∷ cs)
