-- The numbers that reading with triggers returns in the C interface for what the library tells, and what it promises.
use Rattle.std.specs.Prelude.{◌≡◌, List, ℕ, ℤ}
use Rattle.std.proofs.Common.{sym}
use Rattle.evt_types.specs.{declared.Refusal.Refusal, Outcome.Outcome, Outcome.handed_by, Told.Told, Told.told, Trigger.HandedTriggers, Trigger.shortest3}
use Rattle.read_rules.specs.Read.{Handed, shortest}
use Rattle.trigger_rules.specs.Read.{ReadTriggers, words_triggers_outcome, raw_triggers_outcome, trigger_read_verdict}
use Rattle.c_values.specs.{declared.options.PropheseeOptions.PropheseeOptions, Encoding.coded_outcome, Options.options_of}
use Rattle.c_values.specs.{Reading.value_of, Reading.count_of, Reading.no_value}
use Rattle.c_triggers.specs.declared.reading.PropheseeTriggerReading.{PropheseeTriggerReading}

-- an acceptance tells encoding, width, height, events and triggers
abbrev pub trigger_reading_of : Told → PropheseeTriggerReading
trigger_reading_of t = record {
  refusal = t.number;
  encoding = value_of t 0;
  told = count_of t;
  width = value_of t 1;
  height = value_of t 2;
  count = value_of t 3;
  triggers = value_of t 4;
}

-- what a reading promises: its outcome is that of the library's own contracts
pub record ReadsTriggersC (outcome : Outcome ReadTriggers) (r : PropheseeTriggerReading)
    (xs₀ ys₀ : List ℕ) (ts₀ : List ℤ) (ps₀ : List ℕ) (times₀ : List ℤ) (ids₀ values₀ : List ℕ)
    (xs ys : List ℕ) (ts : List ℤ) (ps : List ℕ) (times : List ℤ) (ids values : List ℕ) : Type 0 where
  pub is_answer : r ≡ trigger_reading_of (trigger_read_verdict outcome)
  pub columns : Handed (handed_by (λ g. g.read.events) outcome) xs₀ ys₀ ts₀ ps₀ xs ys ts ps
  pub triggers : HandedTriggers (handed_by (λ g. g.triggers) outcome) times₀ ids₀ values₀ times ids values

abbrev pub DecodesWordsTriggersC : List ℕ → (encoding : ℕ) → PropheseeOptions → PropheseeTriggerReading
    → (xs₀ ys₀ : List ℕ) (ts₀ : List ℤ) (ps₀ : List ℕ) (times₀ : List ℤ) (ids₀ values₀ : List ℕ)
    → (xs ys : List ℕ) (ts : List ℤ) (ps : List ℕ) (times : List ℤ) (ids values : List ℕ) → Type 0
DecodesWordsTriggersC words n options r xs₀ ys₀ ts₀ ps₀ times₀ ids₀ values₀ =
    let o = options_of options in
    let room = shortest xs₀ ys₀ ts₀ ps₀ in
    let places = shortest3 times₀ ids₀ values₀ in
    ReadsTriggersC (coded_outcome n words (λ e. words_triggers_outcome words e o.sensor_size o.max_events room places)) r
    xs₀ ys₀ ts₀ ps₀ times₀ ids₀ values₀

abbrev pub ReadsRawTriggersC : List ℕ → PropheseeOptions → PropheseeTriggerReading
    → (xs₀ ys₀ : List ℕ) (ts₀ : List ℤ) (ps₀ : List ℕ) (times₀ : List ℤ) (ids₀ values₀ : List ℕ)
    → (xs ys : List ℕ) (ts : List ℤ) (ps : List ℕ) (times : List ℤ) (ids values : List ℕ) → Type 0
ReadsRawTriggersC recording options r xs₀ ys₀ ts₀ ps₀ times₀ ids₀ values₀ =
    ReadsTriggersC (raw_triggers_outcome recording (options_of options) (shortest xs₀ ys₀ ts₀ ps₀) (shortest3 times₀ ids₀ values₀)) r
    xs₀ ys₀ ts₀ ps₀ times₀ ids₀ values₀

-- ---- laws: a refusal has none of an acceptance's values

pub refused_trigger_reading : (r : Refusal) (n k : ℕ) → n ≡ (told r).number → k ≡ count_of (told r)
    → record { refusal = n; encoding = 0; told = k; width = 0; height = 0; count = 0; triggers = 0 } ≡ trigger_reading_of (told r)
refused_trigger_reading r n k p q = λ i. record {
  refusal = p i;
  encoding = sym (no_value r 0) i;
  told = q i;
  width = sym (no_value r 1) i;
  height = sym (no_value r 2) i;
  count = sym (no_value r 3) i;
  triggers = sym (no_value r 4) i;
}
