-- What reading with triggers answers, and the triggers that it hands over: everything else is as reading without them has it.
use Rattle.std.specs.Prelude.{◌≡◌, Bool, true, cond, List, [], ◌∷◌, ◌++◌, ℕ, ltb, ℤ, length, drop}
use Rattle.std.specs.Prelude.{Option, Some, None, Result, Ok, Err}
use Rattle.evt_types.specs.declared.SensorSize.{SensorSize}
use Rattle.evt_types.specs.declared.Refusal.{Refusal}
use Rattle.header.specs.declared.Header as header
use Rattle.evt_types.specs.declared.{Encoding.Encoding}
use Rattle.evt_types.specs.declared.{Refusal.TheVariants.TriggerColumnsTooShort}
use Rattle.evt_types.specs.{Event.Event, Trigger.Trigger, Trigger.HandedTriggers, Trigger.shortest3, Outcome.Outcome, Outcome.refuse, Outcome.give}
use Rattle.evt_types.specs.{Outcome.on_outcome, Outcome.verdict, Outcome.handed_by, Told.Told, Told.told, Told.accepted}
use Rattle.evt_codec.specs.{Codec.fresh_c, Triggers.triggers_from, Triggers.triggers_before}
use Rattle.header.specs.Header.{header_of}
use Rattle.read_columns.specs.Inside.{inside}
use Rattle.read_rules.specs.{declared.LoadOptions.LoadOptions, Read.ReadEvents, Read.words_outcome, Read.raw_outcome, Read.reading_values, Read.shortest}
use Rattle.read_rules.specs.Read.{Handed}
use Rattle.trigger_rules.specs.declared.{TriggerReading.TriggerReading}

-- ---- the triggers of a body

-- whether a size keeps an event; it keeps every trigger
abbrev pub keeps : Option SensorSize → Event → Bool
keeps None e = true
keeps (Some s) e = inside s.width s.height e

-- with a limit those of the words before the one that holds its last event, and all where there are fewer events
unfoldable pub body_triggers : Encoding → Option SensorSize → Option ℕ → List ℕ → List Trigger
body_triggers e size None body = triggers_from (fresh_c e) body
body_triggers e size (Some n) body = triggers_before (keeps size) n (fresh_c e) body

-- of a recording: its body's, by what the header says
abbrev pub triggers_behind : Result header.Header Refusal → List ℕ → Option ℕ → List Trigger
triggers_behind (Err r) recording limit = []
triggers_behind (Ok h) recording limit = body_triggers h.encoding h.sensor_size limit (drop h.data_offset recording)

unfoldable pub raw_triggers : List ℕ → LoadOptions → List Trigger
raw_triggers recording o = triggers_behind (header_of recording o.sensor_size) recording o.max_events

-- ---- what reading comes to

pub record ReadTriggers : Type 0 where
  pub read : ReadEvents
  pub triggers : List Trigger

-- what reading without triggers comes to (4, 3, 2, 1 for a zero size, 1 for no event, 5); then 13 where the shortest trigger column, of `places` places, is
-- too short
abbrev pub with_triggers : Outcome ReadEvents → List Trigger → (places : ℕ) → Outcome ReadTriggers
with_triggers outcome gs places =
    on_outcome refuse (λ g. cond (ltb places (length gs)) (refuse (TriggerColumnsTooShort (length gs))) (give (record { read = g; triggers = gs }))) outcome

abbrev pub words_triggers_outcome : List ℕ → Encoding → Option SensorSize → Option ℕ → (room places : ℕ) → Outcome ReadTriggers
words_triggers_outcome words e size limit room = with_triggers (words_outcome words e size limit room) (body_triggers e size limit words)

abbrev pub raw_triggers_outcome : List ℕ → LoadOptions → (room places : ℕ) → Outcome ReadTriggers
raw_triggers_outcome recording o room = with_triggers (raw_outcome recording o room) (raw_triggers recording o)

-- ---- what is read off an outcome

abbrev pub trigger_read_answer : Outcome ReadTriggers → Result TriggerReading Refusal
trigger_read_answer = on_outcome Err (λ g. Ok (record { reading = g.read.reading; triggers = length g.triggers }))

-- encoding, width, height, events and triggers
abbrev pub trigger_reading_values : TriggerReading → List ℕ
trigger_reading_values r = reading_values r.reading ++ r.triggers ∷ []

abbrev pub trigger_read_verdict : Outcome ReadTriggers → Told
trigger_read_verdict = verdict (λ g. reading_values g.read.reading ++ length g.triggers ∷ [])

-- ---- promises

-- what an answer tells
abbrev pub told_trigger_read : Result TriggerReading Refusal → Told
told_trigger_read (Ok r) = accepted (trigger_reading_values r)
told_trigger_read (Err r) = told r

-- what a reading with this outcome promises: on a refusal all seven columns are as they were
pub record ReadsTriggers (outcome : Outcome ReadTriggers) (r : Result TriggerReading Refusal)
    (xs₀ ys₀ : List ℕ) (ts₀ : List ℤ) (ps₀ : List ℕ) (times₀ : List ℤ) (ids₀ values₀ : List ℕ)
    (xs ys : List ℕ) (ts : List ℤ) (ps : List ℕ) (times : List ℤ) (ids values : List ℕ) : Type 0 where
  pub is_told : told_trigger_read r ≡ trigger_read_verdict outcome
  pub is_answer : r ≡ trigger_read_answer outcome
  pub columns : Handed (handed_by (λ g. g.read.events) outcome) xs₀ ys₀ ts₀ ps₀ xs ys ts ps
  pub triggers : HandedTriggers (handed_by (λ g. g.triggers) outcome) times₀ ids₀ values₀ times ids values

abbrev pub DecodesWordsTriggers : List ℕ → Encoding → Option SensorSize → Option ℕ → Result TriggerReading Refusal
    → (xs₀ ys₀ : List ℕ) (ts₀ : List ℤ) (ps₀ : List ℕ) (times₀ : List ℤ) (ids₀ values₀ : List ℕ)
    → (xs ys : List ℕ) (ts : List ℤ) (ps : List ℕ) (times : List ℤ) (ids values : List ℕ) → Type 0
DecodesWordsTriggers words e size limit r xs₀ ys₀ ts₀ ps₀ times₀ ids₀ values₀ =
    ReadsTriggers (words_triggers_outcome words e size limit (shortest xs₀ ys₀ ts₀ ps₀) (shortest3 times₀ ids₀ values₀)) r xs₀ ys₀ ts₀ ps₀ times₀ ids₀ values₀

abbrev pub ReadsRawTriggers : List ℕ → LoadOptions → Result TriggerReading Refusal
    → (xs₀ ys₀ : List ℕ) (ts₀ : List ℤ) (ps₀ : List ℕ) (times₀ : List ℤ) (ids₀ values₀ : List ℕ)
    → (xs ys : List ℕ) (ts : List ℤ) (ps : List ℕ) (times : List ℤ) (ids values : List ℕ) → Type 0
ReadsRawTriggers recording o r xs₀ ys₀ ts₀ ps₀ times₀ ids₀ values₀ =
    ReadsTriggers (raw_triggers_outcome recording o (shortest xs₀ ys₀ ts₀ ps₀) (shortest3 times₀ ids₀ values₀)) r xs₀ ys₀ ts₀ ps₀ times₀ ids₀ values₀
