-- The records that opening makes are read back from their numbers as they were.
use Rattle.std.specs.Prelude.{◌≡◌, refl, Bool, true, false, List, [], ◌∷◌, ◌++◌, map, ℕ, zero, suc, ◌≤◌, ◌<◌}
use Rattle.std.proofs.Common.{ap, ◌∙◌, arith}
use Rattle.std.proofs.lemmas.List.{map-append}
use Rattle.evt_types.specs.declared.Encoding.{Encoding}
use Rattle.evt_types.specs.Outcome.{Outcome, refuse, give}
use Rattle.evt_codec.specs.declared.{codec.Codec.Codec, codec.Codec.TheVariants.Evt2 as OfEvt2, codec.Codec.TheVariants.Evt21 as OfEvt21}
use Rattle.evt_codec.specs.declared.{codec.Codec.TheVariants.Evt3 as OfEvt3}
use Rattle.evt_codec.specs.Codec.{encoding_of, fresh_c, codec_after, encoding_after, encoding_fresh}
use Rattle.evt3_decoder.specs.{declared.Decoder.Decoder, Range.Regular3}
use Rattle.read_fill.specs.Decode.{Bounded}
use Rattle.index_build.specs.declared.{Builder.Builder}
use Rattle.index_build.specs.{Index.Body, Index.firsts, Index.open_records, Build.front_of, Build.made_at, Build.first_of, Build.Begun, Laws.builder_fit}
use Rattle.index_build.specs.Open.{Accepted, IfGiven}
use Rattle.c_values.specs.{Codec.Narrow}
use Rattle.c_index.specs.{Back.checkpoint_back, Records.flat_record, Records.entries_of, Records.entries_all, Records.checkpoint_in}
use Rattle.index_build.proofs.OpenLaws.{builds}

-- ---- those of a builder

row_fits : (d : Decoder) → Regular3 d → d.y ≤ 65535
row_fits d r = go d.initialised refl
  where
    go : (b : Bool) → d.initialised ≡ b → d.y ≤ 65535
    go true e = omega (arith, (r.started e).1)
    go false e = rw (r.unstarted e) (omega arith)

bounded_narrow : (n : ℕ) (k : Codec) → Bounded n k → Narrow k
bounded_narrow n (OfEvt2 d) b = tt
bounded_narrow n (OfEvt21 d) b = tt
bounded_narrow n (OfEvt3 d) b = (row_fits d b.regular, omega (arith, b.column))

encoding_read : (e : Encoding) (l : List ℕ) → encoding_of (codec_after (fresh_c e) l) ≡ e
encoding_read e l = encoding_after (fresh_c e) l ∙ encoding_fresh e

module _ (l : List ℕ) (room : ℕ) (t : Builder) (begun : Begun l room t) (e : Encoding) (fresh : t.codec ≡ fresh_c e) where
  -- record j
  one_back : (j : ℕ) → j < t.cap → checkpoint_in e (entries_of (flat_record (made_at l t j))) ≡ made_at l t j
  one_back j h =
      let fit = builder_fit l t begun j h in
      let k = codec_after t.codec (front_of l t j) in
      let is : encoding_of k ≡ e = ap (λ (c : Codec). encoding_of (codec_after c (front_of l t j))) fresh ∙ encoding_read e (front_of l t j) in
      checkpoint_back e (made_at l t j)
      (record { is_encoding = is; narrow = bounded_narrow _ k fit.takes; greatest = _; is_time_lem = refl; early = fit.early })

  first_back : (n : ℕ) → n ≤ t.cap → map (checkpoint_in e) (entries_all (firsts (made_at l t) n)) ≡ firsts (made_at l t) n
  first_back zero h = refl
  first_back (suc n) h =
      let before = first_back n (omega arith) in
      let made = made_at l t in
      ap (map (checkpoint_in e)) (map-append (λ c. entries_of (flat_record c)) (firsts made n) (made n ∷ []))
      ∙ map-append (checkpoint_in e) (entries_all (firsts made n)) (entries_of (flat_record (made n)) ∷ [])
      ∙ (λ i. before i ++ (one_back n h i ∷ []))

-- ---- those of an outcome

pub made_back : (l : List ℕ) (room : ℕ) (e : Encoding) (outcome : Outcome Body) → IfGiven (Accepted l room) outcome → IfGiven (λ b. b.encoding ≡ e) outcome
    → map (checkpoint_in e) (entries_all (open_records outcome)) ≡ open_records outcome
made_back l room e (refuse r) ok is = refl
made_back l room e (give b) ok is =
    let t = first_of b in
    let made = builds l room (give b) ok t refl in
    rw (← made.is_records) (first_back l room t made.begun e (ap fresh_c is) t.cap (omega arith))
