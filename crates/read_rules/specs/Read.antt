-- What reading answers, and the events that it hands over.
use Rattle.std.specs.Prelude.{◌≡◌, Bool, true, false, cond, List, [], ◌∷◌, ℕ, suc, ltb, ℤ, length, take, drop}
use Rattle.laws_stream.specs.{Order.greatest, Slice.sift}
use Rattle.std.specs.Prelude.{Option, Some, None, Result, Ok, Err}
use Rattle.evt_types.specs.declared.SensorSize.{SensorSize}
use Rattle.evt_types.specs.declared.Refusal.{Refusal}
use Rattle.header.specs.declared.Header as header
use Rattle.evt_types.specs.declared.{Encoding.Encoding}
use Rattle.evt_types.specs.declared.{Refusal.TheVariants.InvalidSensorSize, Refusal.TheVariants.TooLong, Refusal.TheVariants.ColumnsTooShort}
use Rattle.evt_codec.specs.Codec.{fresh_c, events_from}
use Rattle.evt_types.specs.{Columns.col_x, Columns.col_y, Event.Event, Outcome.Outcome, Outcome.refuse, Outcome.give, Outcome.on_outcome}
use Rattle.evt_types.specs.{Outcome.verdict, Outcome.handed_by, Told.Told, Told.told, Told.accepted, Num.most_bytes, Num.encoding_number}
use Rattle.read_columns.specs.Inside.{inside}
pub use Rattle.read_capacity.specs.Deliver.{shortest, Handed}
use Rattle.header.specs.Header.{has_zero, header_of}
use Rattle.read_rules.specs.declared.{LoadOptions.LoadOptions}
use Rattle.read_rules.specs.declared.{Reading.Reading}

-- ---- the events of a body

-- without a size all events are kept; with one those with x < width and y < height
abbrev pub kept : Option SensorSize → List Event → List Event
kept None es = es
kept (Some s) es = sift (inside s.width s.height) es

abbrev pub limited : Option ℕ → List Event → List Event
limited None es = es
limited (Some n) es = take n es

-- those that the limit leaves
unfoldable pub body_events : Encoding → Option SensorSize → Option ℕ → List ℕ → List Event
body_events e size limit body = limited limit (kept size (events_from (fresh_c e) body))

-- the size, or the largest kept coordinates plus 1
abbrev pub width_of : Option SensorSize → List Event → ℕ
width_of None es = suc (greatest col_x es)
width_of (Some s) es = s.width

abbrev pub height_of : Option SensorSize → List Event → ℕ
height_of None es = suc (greatest col_y es)
height_of (Some s) es = s.height

-- no size and no event kept
abbrev pub sizeless : Option SensorSize → List Event → Bool
sizeless None [] = true
sizeless None (e ∷ es) = false
sizeless (Some s) es = false

-- ---- what reading comes to: a refusal, or the reading and its events

pub record ReadEvents : Type 0 where
  pub reading : Reading
  pub events : List Event

-- 1 where there is no size and no event; 5 where the shortest column, of `room` places, is too short. `all` are the events kept, and the size comes
-- from those that the limit leaves
abbrev pub body_outcome : Encoding → Option SensorSize → Option ℕ → (all : List Event) → (room : ℕ) → Outcome ReadEvents
body_outcome e size limit all room =
    let es = limited limit all in
    cond (sizeless size es) (refuse InvalidSensorSize)
    (cond (ltb room (length es)) (refuse (ColumnsTooShort (length es)))
    (give (record { reading = record { encoding = e; width = width_of size es; height = height_of size es; count = length es }; events = es })))

-- whether n bytes of headerless words are read with this size: 4, 1 for a zero size
abbrev pub words_check : (n : ℕ) → Option SensorSize → Outcome Unit
words_check n size = cond (ltb most_bytes n) (refuse TooLong) (cond (has_zero size) (refuse InvalidSensorSize) (give tt))

-- headerless words: that check, then their events as a body's
unfoldable pub words_outcome : List ℕ → Encoding → Option SensorSize → Option ℕ → (room : ℕ) → Outcome ReadEvents
words_outcome words e size limit room =
    on_outcome refuse (λ u. body_outcome e size limit (body_events e size None words) room) (words_check (length words) size)

-- a recording: what its header is refused for (4, 3, 2, 1 for a zero size), or its body by what the header says
abbrev pub outcome_after : Result header.Header Refusal → List ℕ → Option ℕ → (room : ℕ) → Outcome ReadEvents
outcome_after (Err r) recording limit room = refuse r
outcome_after (Ok h) recording limit room =
    let body = drop h.data_offset recording in
    body_outcome h.encoding h.sensor_size limit (body_events h.encoding h.sensor_size None body) room

unfoldable pub raw_outcome : List ℕ → LoadOptions → (room : ℕ) → Outcome ReadEvents
raw_outcome recording o room = outcome_after (header_of recording o.sensor_size) recording o.max_events room

-- ---- what is read off an outcome

abbrev pub read_answer : Outcome ReadEvents → Result Reading Refusal
read_answer = on_outcome Err (λ g. Ok g.reading)

-- encoding, width, height and count
abbrev pub reading_values : Reading → List ℕ
reading_values r = encoding_number r.encoding ∷ r.width ∷ r.height ∷ r.count ∷ []

abbrev pub read_verdict : Outcome ReadEvents → Told
read_verdict = verdict (λ g. reading_values g.reading)

-- the events handed over: none on a refusal
abbrev pub handed_events : Outcome ReadEvents → List Event
handed_events = handed_by (λ g. g.events)

-- ---- promises

-- what an answer tells
abbrev pub told_read : Result Reading Refusal → Told
told_read (Ok r) = accepted (reading_values r)
told_read (Err r) = told r

-- what a reading with this outcome promises
pub record Reads (outcome : Outcome ReadEvents) (r : Result Reading Refusal)
    (xs₀ ys₀ : List ℕ) (ts₀ : List ℤ) (ps₀ xs ys : List ℕ) (ts : List ℤ) (ps : List ℕ) : Type 0 where
  pub is_told : told_read r ≡ read_verdict outcome
  pub is_answer : r ≡ read_answer outcome
  pub columns : Handed (handed_events outcome) xs₀ ys₀ ts₀ ps₀ xs ys ts ps

-- of a body whose events, the limit applied, are es
abbrev pub ReadsBody : Encoding → Option SensorSize → List Event → Result Reading Refusal
    → (xs₀ ys₀ : List ℕ) (ts₀ : List ℤ) (ps₀ xs ys : List ℕ) (ts : List ℤ) (ps : List ℕ) → Type 0
ReadsBody e size es r xs₀ ys₀ ts₀ ps₀ =
    Reads (body_outcome e size None es (shortest xs₀ ys₀ ts₀ ps₀)) r xs₀ ys₀ ts₀ ps₀

abbrev pub DecodesWords : List ℕ → Encoding → Option SensorSize → Option ℕ → Result Reading Refusal
    → (xs₀ ys₀ : List ℕ) (ts₀ : List ℤ) (ps₀ xs ys : List ℕ) (ts : List ℤ) (ps : List ℕ) → Type 0
DecodesWords words e size limit r xs₀ ys₀ ts₀ ps₀ =
    Reads (words_outcome words e size limit (shortest xs₀ ys₀ ts₀ ps₀)) r xs₀ ys₀ ts₀ ps₀

abbrev pub ReadsRaw : List ℕ → LoadOptions → Result Reading Refusal → (xs₀ ys₀ : List ℕ) (ts₀ : List ℤ) (ps₀ xs ys : List ℕ) (ts : List ℤ) (ps : List ℕ) → Type 0
ReadsRaw recording o r xs₀ ys₀ ts₀ ps₀ = Reads (raw_outcome recording o (shortest xs₀ ys₀ ts₀ ps₀)) r xs₀ ys₀ ts₀ ps₀
