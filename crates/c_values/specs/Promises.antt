-- From what the library promises to what the C interface does.
use Rattle.std.specs.Prelude.{◌≡◌, refl, true, false, List, ℕ, ℤ, length}
use Rattle.std.proofs.Common.{ap, subst, ◌∙◌}
use Rattle.evt_types.specs.{declared.Encoding.Encoding, declared.Refusal.Refusal}
use Rattle.evt_types.specs.{declared.Refusal.TheVariants.UnknownEncoding, Outcome.Outcome, Outcome.refuse, Told.told}
use Rattle.std.specs.Prelude.{Result}
use Rattle.read_rules.specs.declared.Reading.{Reading}
use Rattle.read_rules.specs.{declared.LoadOptions.LoadOptions, Read.ReadEvents, Read.shortest, Read.words_outcome}
use Rattle.read_rules.specs.Read as Read
use Rattle.c_values.specs.{declared.options.PropheseeOptions.PropheseeOptions, declared.reading.PropheseeReading.PropheseeReading, Encoding.is_known}
use Rattle.c_values.specs.{Encoding.encoding_of, Encoding.behind_too_long, Encoding.coded_known, Encoding.coded_unknown, Options.options_of}
use Rattle.c_values.specs.{Reading.reading_of, Reading.ReadsC, Reading.ReadsRawC, Reading.DecodesWordsC}

module _ (o : PropheseeOptions) (given : LoadOptions) (is-given : given ≡ options_of o) (a : Result Reading Refusal) (r : PropheseeReading)
    (is-r : r ≡ reading_of (Read.told_read a)) where
  reads : {outcome : Outcome ReadEvents} {xs₀ ys₀ : List ℕ} {ts₀ : List ℤ} {ps₀ xs ys : List ℕ} {ts : List ℤ} {ps : List ℕ}
      → Read.Reads outcome a xs₀ ys₀ ts₀ ps₀ xs ys ts ps → ReadsC outcome r xs₀ ys₀ ts₀ ps₀ xs ys ts ps
  reads h = record { is_answer = is-r ∙ ap reading_of h.is_told; columns = h.columns }

  pub reads_words : (words : List ℕ) (e : Encoding) {xs₀ ys₀ : List ℕ} {ts₀ : List ℤ} {ps₀ xs ys : List ℕ} {ts : List ℤ} {ps : List ℕ}
      → Read.DecodesWords words e given.sensor_size given.max_events a xs₀ ys₀ ts₀ ps₀ xs ys ts ps
      → (n : ℕ) → is_known n ≡ true → e ≡ encoding_of n → DecodesWordsC words n o r xs₀ ys₀ ts₀ ps₀ xs ys ts ps
  reads_words words e {xs₀} {ys₀} {ts₀} {ps₀} {xs} {ys} {ts} {ps} h n known is-e =
      let room = shortest xs₀ ys₀ ts₀ ps₀ in
      let of : Encoding → LoadOptions → Outcome ReadEvents = λ e g. words_outcome words e g.sensor_size g.max_events room in
      subst (λ (k : Outcome ReadEvents). ReadsC k r xs₀ ys₀ ts₀ ps₀ xs ys ts ps)
      ((λ i. of (is-e i) (is-given i)) ∙ coded_known n words (λ e. of e (options_of o)) known) (reads h)

  pub reads_raw : (recording : List ℕ) {xs₀ ys₀ : List ℕ} {ts₀ : List ℤ} {ps₀ xs ys : List ℕ} {ts : List ℤ} {ps : List ℕ}
      → Read.ReadsRaw recording given a xs₀ ys₀ ts₀ ps₀ xs ys ts ps → ReadsRawC recording o r xs₀ ys₀ ts₀ ps₀ xs ys ts ps
  reads_raw recording {xs₀} {ys₀} {ts₀} {ps₀} {xs} {ys} {ts} {ps} h =
      reads (subst (λ (g : LoadOptions). Read.ReadsRaw recording g a xs₀ ys₀ ts₀ ps₀ xs ys ts ps) is-given h)

-- an unknown encoding: no column is touched
pub reads_unknown : (o : PropheseeOptions) (words : List ℕ) (n : ℕ) → is_known n ≡ false → (refusal : Refusal)
    → refusal ≡ behind_too_long (length words) UnknownEncoding → (r : PropheseeReading) → r ≡ reading_of (told refusal)
    → {xs ys : List ℕ} {ts : List ℤ} {ps : List ℕ} → DecodesWordsC words n o r xs ys ts ps xs ys ts ps
reads_unknown o words n unknown refusal is r is-r {xs} {ys} {ts} {ps} =
    let room = shortest xs ys ts ps in
    let g = options_of o in
    subst (λ (k : Outcome ReadEvents). ReadsC k r xs ys ts ps xs ys ts ps)
    (ap refuse is ∙ coded_unknown n words (λ e. words_outcome words e g.sensor_size g.max_events room) unknown)
    (record { is_answer = is-r; columns = record { column-x = refl; column-y = refl; column-t = refl; column_p = refl } })
