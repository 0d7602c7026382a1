-- The making of the records: the builder before record j, one iteration, and what is prepared and concluded.
use Rattle.std.specs.Prelude.{◌≡◌, List, ℕ, ◌+◌, ◌-◌, ◌*◌, ◌≤◌, ◌<◌, ◌^◌, max, pos, length, take, drop}
use Rattle.laws_stream.specs.Order.{greatest}
use Rattle.std.specs.Prelude.{Option, Some, None, Result, Ok, Err}
use Rattle.evt_types.specs.declared.SensorSize.{SensorSize}
use Rattle.evt_types.specs.declared.Refusal.{Refusal}
use Rattle.evt_types.specs.{Event.Event, Num.most_bytes, Outcome.Outcome, Outcome.on_outcome}
use Rattle.evt_codec.specs.{declared.codec.Codec.Codec, Codec.fresh_c, Codec.word_size, Codec.codec_after}
use Rattle.read_columns.specs.Inside.{clock}
use Rattle.read_fill.specs.Decode.{Bounded, inside_events}
use Rattle.read_count.specs.Count.{counted_all_of}
use Rattle.read_window.specs.declared.Window.{Window}
use Rattle.read_rules.specs.Read.{width_of, height_of}
use Rattle.index_build.specs.declared.{Builder.Builder, Checkpoint.Checkpoint, Opening.Opening}
use Rattle.index_build.specs.declared.{RawSliceSource.RawSliceSource}
use Rattle.index_build.specs.Index.{Body, body_kept, need_of}

-- ---- one iteration

abbrev pub record_of : Builder → Checkpoint
record_of t = record { byte_offset = t.offset; event_index = t.count; time = pos t.latest; codec = t.codec }

-- the bytes from here to the next record
abbrev pub chunk_of : List ℕ → Builder → List ℕ
chunk_of l t = take t.source.spacing (drop t.offset l)

-- a builder that stands elsewhere
abbrev pub moved : Builder → (offset count latest : ℕ) → Codec → Builder
moved t offset count latest codec = record {
  cap = t.cap;
  offset = offset;
  width = t.width;
  height = t.height;
  count = count;
  latest = latest;
  codec = codec;
  source = t.source;
}

abbrev pub next_of : List ℕ → Builder → Builder
next_of l t =
    let counted = counted_all_of t.width t.height t.codec (chunk_of l t) in
    moved t (t.offset + t.source.spacing) (t.count + counted.count) (max t.latest counted.latest)
    (codec_after t.codec (chunk_of l t))

-- a builder that can make one record more
pub record Fit (l : List ℕ) (t : Builder) : Type 0 where
  pub start : t.offset ≤ length l
  pub long : length l ≤ most_bytes
  pub step : t.source.spacing ≤ 4194304
  pub takes : Bounded (length l - t.offset) t.codec
  pub few : t.count ≤ 6 * t.offset
  pub early : t.latest < 2 ^ 63

-- it makes c, and is u then
pub record Advanced (l : List ℕ) (t : Builder) (c : Checkpoint) (u : Builder) : Type 0 where
  pub is_record_lem : c ≡ record_of t
  pub is_next : u ≡ next_of l t

-- ---- all iterations, from a builder t before its first record

-- the bytes before record j, and their events
abbrev pub front_of : List ℕ → Builder → ℕ → List ℕ
front_of l t j = take (j * t.source.spacing) (drop t.offset l)

abbrev pub seen_of : List ℕ → Builder → ℕ → List Event
seen_of l t j = inside_events t.width t.height t.codec (front_of l t j)

-- before record j
abbrev pub builder_at : List ℕ → Builder → ℕ → Builder
builder_at l t j =
    let seen = seen_of l t j in
    moved t (t.offset + j * t.source.spacing) (length seen) (greatest clock seen) (codec_after t.codec (front_of l t j))

-- record j
abbrev pub made_at : List ℕ → Builder → ℕ → Checkpoint
made_at l t j = record_of (builder_at l t j)

-- t stands before its first record in l, and all its records fit into `room`
pub record Begun (l : List ℕ) (room : ℕ) (t : Builder) : Type 0 where
  pub is_first : t ≡ builder_at l t 0
  pub start : t.offset ≤ length l
  pub long : length l ≤ most_bytes
  pub takes : Bounded most_bytes t.codec
  pub words : ℕ
  pub aligned : t.source.spacing ≡ words * word_size t.codec
  pub small : t.source.spacing ≤ 4194304
  pub within : (j : ℕ) → j < t.cap → j * t.source.spacing ≤ length l - t.offset
  pub fits : t.cap ≤ room

-- ---- what is prepared

-- the sensor that counts is width x height, and `cap` records are to be made
abbrev pub first_for : RawSliceSource → (cap width height : ℕ) → Builder
first_for s cap width height = record {
  cap = cap;
  offset = s.data_offset;
  width = width;
  height = height;
  count = 0;
  latest = 0;
  codec = fresh_c s.encoding;
  source = s;
}

-- without a size the sensor is 65,536 by 65,536, which holds every event
abbrev pub span_width : Option SensorSize → ℕ
span_width None = 65536
span_width (Some s) = s.width

abbrev pub span_height : Option SensorSize → ℕ
span_height None = 65536
span_height (Some s) = s.height

abbrev pub whole_window : Window
whole_window = record { width = 65536; height = 65536; n0 = 0; n1 = 18446744073709551615; t0 = 0; t1 = 18446744073709551615 }

-- a source whose events are still to be counted
abbrev pub uncounted : Body → (width height : ℕ) → RawSliceSource
uncounted b width height = record {
  encoding = b.encoding;
  spacing = b.spacing;
  data_offset = b.start;
  len = length b.recording;
  width = width;
  height = height;
  n_events = 0;
}

abbrev pub first_of : Body → Builder
first_of b =
    first_for (uncounted b (width_of b.size (body_kept b)) (height_of b.size (body_kept b))) (need_of b) (span_width b.size) (span_height b.size)

abbrev pub prepared_by : Outcome Body → Result Builder Refusal
prepared_by = on_outcome Err (λ b. Ok (first_of b))

-- ---- the end

abbrev pub concluded : Builder → Opening
concluded t =
    let s = t.source in
    record {
      source = record {
        encoding = s.encoding;
        spacing = s.spacing;
        data_offset = s.data_offset;
        len = s.len;
        width = s.width;
        height = s.height;
        n_events = t.count;
      };
      records = t.cap;
    }
