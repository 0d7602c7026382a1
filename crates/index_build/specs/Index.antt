-- What an index holds, and what opening answers, by the table of docs/RULES.md.
use Rattle.std.specs.Prelude.{◌≡◌, refl, Bool, false, cond, List, [], ◌∷◌, ◌++◌, ℕ, zero, suc, ◌+◌, ◌-◌, ◌*◌, ◌/◌, ◌%◌, max, ltb, eqb, pos, length, take, drop}
use Rattle.laws_stream.specs.Order.{greatest}
use Rattle.evt_types.specs.declared.{Encoding.Encoding, Encoding.TheVariants.Evt2, Encoding.TheVariants.Evt21, Encoding.TheVariants.Evt3}
use Rattle.evt_types.specs.declared.{Refusal.TheVariants.InvalidSensorSize, Refusal.TheVariants.TooLong, Refusal.TheVariants.InvalidSpacing}
use Rattle.std.specs.Prelude.{Option, Result, Ok, Err}
use Rattle.evt_types.specs.declared.SensorSize.{SensorSize}
use Rattle.evt_types.specs.declared.Refusal.{Refusal}
use Rattle.header.specs.declared.Header as header
use Rattle.evt_types.specs.{declared.Refusal.TheVariants.TooFewRecords, Event.Event, Num.encoding_number}
use Rattle.evt_types.specs.{Num.most_bytes, Outcome.Outcome, Outcome.refuse, Outcome.give, Outcome.on_outcome, Outcome.verdict, Outcome.handed_by}
use Rattle.evt_types.specs.{Told.Told, Told.told, Told.accepted}
use Rattle.evt_codec.specs.Codec.{fresh_c, events_from, codec_after}
use Rattle.read_columns.specs.Inside.{clock}
use Rattle.header.specs.Header.{has_zero, header_of}
use Rattle.read_rules.specs.Read.{kept, width_of, height_of, sizeless}
use Rattle.index_build.specs.declared.{Checkpoint.Checkpoint}
use Rattle.index_build.specs.declared.{OpenOptions.OpenOptions, Opening.Opening, RawSliceSource.RawSliceSource}
use Rattle.index_build.specs.declared.{WordsOptions.WordsOptions}

-- ---- the records of an index

-- the events of some bytes that count: those inside the sensor, or all without a size
abbrev pub kept_events : Option SensorSize → Encoding → List ℕ → List Event
kept_events size e l = kept size (events_from (fresh_c e) l)

-- record j stands at body start + j × spacing, and holds the decoder, the events counted before it and their maximum time (0 if none)
unfoldable pub record_at : Option SensorSize → Encoding → (start spacing : ℕ) → (body : List ℕ) → ℕ → Checkpoint
record_at size e start spacing body j = record {
  byte_offset = start + j * spacing;
  event_index = length (kept_events size e (take (j * spacing) body));
  time = pos (greatest clock (kept_events size e (take (j * spacing) body)));
  codec = codec_after (fresh_c e) (take (j * spacing) body);
}

-- records 0 to before n
abbrev pub firsts : (ℕ → Checkpoint) → ℕ → List Checkpoint
firsts f zero = []
firsts f (suc n) = firsts f n ++ (f n ∷ [])

-- max(1, body/spacing rounded up) records
abbrev pub record_count : (body spacing : ℕ) → ℕ
record_count body spacing = max 1 ((body + (spacing - 1)) / spacing)

unfoldable pub records_of : Option SensorSize → Encoding → (start spacing : ℕ) → (body : List ℕ) → List Checkpoint
records_of size e start spacing body = firsts (record_at size e start spacing body) (record_count (length body) spacing)

-- a spacing is a multiple of the encoding's alignment
abbrev pub alignment : Encoding → ℕ
alignment Evt2 = 4
alignment Evt21 = 8
alignment Evt3 = 4

-- and lies in 4..4,194,304
unfoldable pub spacing_ok : Encoding → ℕ → Bool
spacing_ok e spacing = cond (ltb spacing 4) false (cond (ltb 4194304 spacing) false (eqb (spacing % alignment e) 0))

-- ---- what is handed over

-- a body that an index is built over, and what decides its records
pub record Body : Type 0 where
  pub recording : List ℕ
  pub start : ℕ
  pub encoding : Encoding
  pub size : Option SensorSize
  pub spacing : ℕ

abbrev pub body_at : (recording : List ℕ) → (start : ℕ) → Encoding → Option SensorSize → (spacing : ℕ) → Body
body_at recording start e size spacing = record { recording = recording; start = start; encoding = e; size = size; spacing = spacing }

abbrev pub body_bytes : Body → List ℕ
body_bytes b = drop b.start b.recording

abbrev pub body_kept : Body → List Event
body_kept b = kept_events b.size b.encoding (body_bytes b)

abbrev pub need_of : Body → ℕ
need_of b = record_count (length (body_bytes b)) b.spacing

abbrev pub source_of : (len start : ℕ) → Encoding → Option SensorSize → (spacing : ℕ) → List Event → RawSliceSource
source_of len start e size spacing es = record {
  encoding = e;
  spacing = spacing;
  data_offset = start;
  len = len;
  width = width_of size es;
  height = height_of size es;
  n_events = length es;
}

abbrev pub opening_of : Body → Opening
opening_of b = record {
  source = source_of (length b.recording) b.start b.encoding b.size b.spacing (body_kept b);
  records = need_of b;
}

abbrev pub records_by : Body → List Checkpoint
records_by b = records_of b.size b.encoding b.start b.spacing (body_bytes b)

-- ---- which body is accepted, and what is refused, by the table

-- 8, 9, 1 for no event
unfoldable pub index_outcome : Body → (room : ℕ) → Outcome Body
index_outcome b room =
    cond (spacing_ok b.encoding b.spacing)
    (cond (ltb room (need_of b)) (refuse (TooFewRecords (need_of b)))
    (cond (sizeless b.size (body_kept b)) (refuse InvalidSensorSize)
    (give b)))
    (refuse InvalidSpacing)

-- a recording: what the header is refused for (4, 3, 2, 1 for a zero size), and so on
abbrev pub open_after_header : Result header.Header Refusal → List ℕ → (spacing room : ℕ) → Outcome Body
open_after_header (Err r) recording spacing room = refuse r
open_after_header (Ok h) recording spacing room =
    index_outcome (body_at recording h.data_offset h.encoding h.sensor_size spacing) room

unfoldable pub open_raw_outcome : List ℕ → OpenOptions → (room : ℕ) → Outcome Body
open_raw_outcome recording o room = open_after_header (header_of recording o.sensor_size) recording o.spacing room

-- headerless words: 4, 1 for a zero size, and so on
abbrev pub words_body : List ℕ → WordsOptions → Body
words_body words o = body_at words 0 o.encoding o.sensor_size o.spacing

unfoldable pub open_words_outcome : List ℕ → WordsOptions → (room : ℕ) → Outcome Body
open_words_outcome words o room =
    cond (ltb most_bytes (length words)) (refuse TooLong)
    (cond (has_zero o.sensor_size) (refuse InvalidSensorSize)
    (index_outcome (words_body words o) room))

-- ---- what is read off an outcome

abbrev pub open_answer : Outcome Body → Result Opening Refusal
open_answer = on_outcome Err (λ b. Ok (opening_of b))

-- an acceptance tells the encoding, the spacing, the body start, the length, the size, how many events there are, and how many records
abbrev pub open_values : Opening → List ℕ
open_values o =
    let s = o.source in
    encoding_number s.encoding ∷ s.spacing ∷ s.data_offset ∷ s.len ∷ s.width ∷ s.height ∷ s.n_events ∷ o.records ∷ []

abbrev pub open_verdict : Outcome Body → Told
open_verdict = verdict (λ b. open_values (opening_of b))

-- the records made: none on a refusal
abbrev pub open_records : Outcome Body → List Checkpoint
open_records = handed_by records_by

abbrev pub told_open : Result Opening Refusal → Told
told_open (Ok o) = accepted (open_values o)
told_open (Err r) = told r

-- ---- what opening promises

-- the records made stand in front, and behind them all is as it was
pub record Opens (outcome : Outcome Body) (r : Result Opening Refusal) (records₀ records : List Checkpoint) : Type 0 where
  pub is_told : told_open r ≡ open_verdict outcome
  pub is_answer : r ≡ open_answer outcome
  pub is_records : records ≡ open_records outcome ++ drop (length (open_records outcome)) records₀

abbrev pub OpensRaw : List ℕ → OpenOptions → Result Opening Refusal → (records₀ records : List Checkpoint) → Type 0
OpensRaw recording o r records₀ = Opens (open_raw_outcome recording o (length records₀)) r records₀

abbrev pub OpensWords : List ℕ → WordsOptions → Result Opening Refusal → (records₀ records : List Checkpoint) → Type 0
OpensWords words o r records₀ = Opens (open_words_outcome words o (length records₀)) r records₀

pub told-answer : (outcome : Outcome Body) → told_open (open_answer outcome) ≡ open_verdict outcome
told-answer (refuse r) = refl
told-answer (give b) = refl
