-- Between numbers and the records of an index nothing is lost, and nothing else is read as one: rule 10 refuses it.
use Rattle.std.specs.Prelude.{◌≡◌, refl, Bool, true, false, cond, not, ◌&&◌, List, [], ◌∷◌, ◌++◌, map, ℕ, suc, ◌+◌, ◌<◌, ◌^◌, ltb, leb, eqb}
use Rattle.std.specs.Prelude.{pos, negsuc, length}
use Rattle.std.proofs.Common.{sym, ap, subst, ◌∙◌, arith, take_at, lt-ltb}
use Rattle.std.proofs.lemmas.List.{length-map}
use Rattle.evt_types.specs.{declared.Encoding.Encoding, Num.natural}
use Rattle.evt_codec.specs.{Codec.encoding_of, Codec.in_range_c}
use Rattle.index_build.specs.{declared.Checkpoint.Checkpoint, declared.RawSliceSource.RawSliceSource, Nth.nth}
use Rattle.index_records.specs.{InRange.record_in_range, InRange.records_in_range, Judge.is_other}
use Rattle.laws_stream.specs.Machine.{All}
use Rattle.c_values.specs.{Flags.both, Codec.numbers_of, Codec.codec_of, Codec.Narrow, Codec.codec_back, Codec.codec_fits, Codec.numbers_back}
use Rattle.c_index.specs.{declared.records.PropheseeRecord.PropheseeRecord, Records.flat_record, Records.entries_all, Records.record_in}
use Rattle.c_index.specs.{Records.is_record, Records.checkpoint_of, Records.checkpoint_in, Records.checkpoints_in}

-- ---- a record that was made is read back

-- of the encoding, and with a time that isn't negative
pub record Readable (e : Encoding) (c : Checkpoint) : Type 0 where
  pub is_encoding : encoding_of c.codec ≡ e
  pub narrow : Narrow c.codec
  pub greatest : ℕ
  pub is_time_lem : c.time ≡ pos greatest
  pub early : greatest < 2 ^ 63

module _ (e : Encoding) (c : Checkpoint) (h : Readable e c) where
  is_natural : natural c.time ≡ h.greatest
  is_natural = ap natural h.is_time_lem

  pub record_fits : is_record e (flat_record c) ≡ true
  record_fits =
      subst (λ (d : Encoding). is_record d (flat_record c) ≡ true) h.is_encoding
      (rw (is_natural, lt-ltb h.greatest (2 ^ 63) h.early) (codec_fits c.codec h.narrow))

  pub checkpoint_back : checkpoint_of e (flat_record c) ≡ c
  checkpoint_back =
      let time : cond (is_record e (flat_record c)) (pos (natural c.time)) (negsuc 0) ≡ c.time =
      rw record_fits (ap pos is_natural ∙ sym h.is_time_lem) in
      let codec : codec_of e (numbers_of c.codec) ≡ c.codec = subst (λ (d : Encoding). codec_of d (numbers_of c.codec) ≡ c.codec) h.is_encoding
      (codec_back c.codec h.narrow) in
      λ i. record { byte_offset = c.byte_offset; event_index = c.event_index; time = time i; codec = codec i }

-- all of them, whatever stands behind
pub records_back : (e : Encoding) (cs : List Checkpoint) → ((j : ℕ) → j < length cs → Readable e (nth cs j)) → (behind : List (List ℕ))
    → checkpoints_in e (length cs) (entries_all cs ++ behind) ≡ cs
unfolding checkpoints_in
records_back e cs holds behind = ap (map (checkpoint_in e)) (take_at (entries_all cs) behind (length cs) (length-map cs _)) ∙ go cs holds
  where
    go : (cs : List Checkpoint) → ((j : ℕ) → j < length cs → Readable e (nth cs j)) → map (checkpoint_in e) (entries_all cs) ≡ cs
    go [] holds = refl
    go (c ∷ cs) holds = λ i. checkpoint_back e c (holds 0 (omega arith)) i ∷ go cs (λ j h. holds (suc j) (omega arith)) i

-- ---- nothing else is read as a record

pub record_numbers : (e : Encoding) (r : PropheseeRecord) → is_record e r ≡ true → flat_record (checkpoint_of e r) ≡ r
record_numbers e r h =
    let parts = both (ltb r.time (2 ^ 63)) _ h in
    let time : natural (cond (is_record e r) (pos r.time) (negsuc 0)) ≡ r.time = rw h in
    λ i. record {
      byte_offset = r.byte_offset;
      event_index = r.event_index;
      time = time i;
      decoder = numbers_back e r.decoder parts.1 i;
    }

module _ (s : RawSliceSource) (e : Encoding) where
  -- it is out of range, wherever it stands
  pub no_record : (r : PropheseeRecord) → is_record e r ≡ false → (offset count time : ℕ)
      → record_in_range s offset count (pos time) (checkpoint_of e r) ≡ false
  no_record r h offset count time =
      let c = checkpoint_of e r in
      end (ltb offset (2 ^ 64)) _ (end (eqb c.byte_offset offset) _ (end (not (is_other c.codec s.encoding)) _ (end (in_range_c c.codec) _
      (end (leb count c.event_index) _ (end (leb c.event_index (2 ^ 33)) _ (end (leb c.event_index s.n_events) _ (rw h)))))))
    where
      end : (a b : Bool) → b ≡ false → (a && b) ≡ false
      end true b p = p
      end false b p = refl

  is_record_lem : (r : PropheseeRecord) (offset count time : ℕ) → record_in_range s offset count (pos time) (checkpoint_of e r) ≡ true → is_record e r ≡ true
  is_record_lem r offset count time h = go (is_record e r) refl
    where
      go : (b : Bool) → is_record e r ≡ b → b ≡ true
      go true p = refl
      go false p = sym (no_record r p offset count time) ∙ h

  -- so an index in range has records only
  pub all-records : (l : List (List ℕ)) (offset count time : ℕ) → records_in_range s offset count (pos time) (map (checkpoint_in e) l) ≡ true
      → All (λ a. is_record e (record_in a) ≡ true) l
  all-records [] offset count time h = tt
  all-records (a ∷ l) offset count time h =
      let r = record_in a in
      let parts = both (record_in_range s offset count (pos time) (checkpoint_of e r)) _ h in
      let is : is_record e r ≡ true = is_record_lem r offset count time parts.0 in
      let next : records_in_range s (offset + s.spacing) r.event_index (pos r.time) (map (checkpoint_in e) l) ≡ true =
      subst (λ (b : Bool). records_in_range s (offset + s.spacing) r.event_index (cond b (pos r.time) (negsuc 0)) (map (checkpoint_in e) l) ≡ true) is
      parts.1 in
      (is, all-records l (offset + s.spacing) r.event_index r.time next)
