-- From what the library promises of reading with triggers to what the C interface does.
use Rattle.std.specs.Prelude.{◌≡◌, refl, true, false, List, ℕ, ℤ, length}
use Rattle.std.proofs.Common.{ap, subst, ◌∙◌}
use Rattle.evt_types.specs.{declared.Encoding.Encoding, declared.Refusal.Refusal, declared.Refusal.TheVariants.UnknownEncoding}
use Rattle.evt_types.specs.{Outcome.Outcome, Outcome.refuse, Told.told, Trigger.shortest3, Trigger.triggers_none}
use Rattle.read_rules.specs.{declared.LoadOptions.LoadOptions, Read.shortest}
use Rattle.std.specs.Prelude.{Result}
use Rattle.trigger_rules.specs.declared.TriggerReading.{TriggerReading}
use Rattle.trigger_rules.specs.{Read.ReadTriggers, Read.words_triggers_outcome}
use Rattle.trigger_rules.specs.Read as Read
use Rattle.c_values.specs.{declared.options.PropheseeOptions.PropheseeOptions, Encoding.is_known, Encoding.encoding_of, Encoding.behind_too_long}
use Rattle.c_values.specs.{Encoding.coded_known, Encoding.coded_unknown, Options.options_of}
use Rattle.c_triggers.specs.{declared.reading.PropheseeTriggerReading.PropheseeTriggerReading, Reading.trigger_reading_of, Reading.ReadsTriggersC}
use Rattle.c_triggers.specs.{Reading.ReadsRawTriggersC, Reading.DecodesWordsTriggersC}

abbrev asked : List ℕ → (room places : ℕ) → Encoding → LoadOptions → Outcome ReadTriggers
asked words room places e g = words_triggers_outcome words e g.sensor_size g.max_events room places

module _ (o : PropheseeOptions) {xs₀ ys₀ : List ℕ} {ts₀ : List ℤ} {ps₀ : List ℕ} {times₀ : List ℤ} {ids₀ values₀ : List ℕ} where
  module _ (given : LoadOptions) (is-given : given ≡ options_of o) (a : Result TriggerReading Refusal) (r : PropheseeTriggerReading)
      (is-r : r ≡ trigger_reading_of (Read.told_trigger_read a)) {xs ys : List ℕ} {ts : List ℤ} {ps : List ℕ} {times : List ℤ} {ids values : List ℕ} where
    reads : {outcome : Outcome ReadTriggers} → Read.ReadsTriggers outcome a xs₀ ys₀ ts₀ ps₀ times₀ ids₀ values₀ xs ys ts ps times ids values
        → ReadsTriggersC outcome r xs₀ ys₀ ts₀ ps₀ times₀ ids₀ values₀ xs ys ts ps times ids values
    reads h = record { is_answer = is-r ∙ ap trigger_reading_of h.is_told; columns = h.columns; triggers = h.triggers }

    pub reads_words : (words : List ℕ) (e : Encoding)
        → Read.DecodesWordsTriggers words e given.sensor_size given.max_events a xs₀ ys₀ ts₀ ps₀ times₀ ids₀ values₀ xs ys ts ps times ids values
        → (n : ℕ) → is_known n ≡ true → e ≡ encoding_of n
        → DecodesWordsTriggersC words n o r xs₀ ys₀ ts₀ ps₀ times₀ ids₀ values₀ xs ys ts ps times ids values
    reads_words words e h n known is-e =
        let of = asked words (shortest xs₀ ys₀ ts₀ ps₀) (shortest3 times₀ ids₀ values₀) in
        subst (λ (k : Outcome ReadTriggers). ReadsTriggersC k r xs₀ ys₀ ts₀ ps₀ times₀ ids₀ values₀ xs ys ts ps times ids values)
        ((λ i. of (is-e i) (is-given i)) ∙ coded_known n words (λ e. of e (options_of o)) known) (reads h)

    pub reads_raw : (recording : List ℕ)
        → Read.ReadsRawTriggers recording given a xs₀ ys₀ ts₀ ps₀ times₀ ids₀ values₀ xs ys ts ps times ids values
        → ReadsRawTriggersC recording o r xs₀ ys₀ ts₀ ps₀ times₀ ids₀ values₀ xs ys ts ps times ids values
    reads_raw recording h =
        reads (subst (λ (g : LoadOptions). Read.ReadsRawTriggers recording g a xs₀ ys₀ ts₀ ps₀ times₀ ids₀ values₀ xs ys ts ps times ids values) is-given h)

  -- an unknown encoding: no column is touched
  pub reads_unknown : (words : List ℕ) (n : ℕ) → is_known n ≡ false → (refusal : Refusal)
      → refusal ≡ behind_too_long (length words) UnknownEncoding → (r : PropheseeTriggerReading) → r ≡ trigger_reading_of (told refusal)
      → DecodesWordsTriggersC words n o r xs₀ ys₀ ts₀ ps₀ times₀ ids₀ values₀ xs₀ ys₀ ts₀ ps₀ times₀ ids₀ values₀
  reads_unknown words n unknown refusal is r is-r =
      let of = asked words (shortest xs₀ ys₀ ts₀ ps₀) (shortest3 times₀ ids₀ values₀) in
      subst (λ (k : Outcome ReadTriggers). ReadsTriggersC k r xs₀ ys₀ ts₀ ps₀ times₀ ids₀ values₀ xs₀ ys₀ ts₀ ps₀ times₀ ids₀ values₀)
      (ap refuse is ∙ coded_unknown n words (λ e. of e (options_of o)) unknown)
      (record { is_answer = is-r; columns = record { column-x = refl; column-y = refl; column-t = refl; column_p = refl }; triggers = triggers_none })
