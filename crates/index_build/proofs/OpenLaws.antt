-- Laws of specs/Open.antt.
use Rattle.evt_codec.specs.Codec.{codec_after, fresh_c, word_size}
use Rattle.evt_types.specs.{Event.Event, Num.most_bytes, Outcome.Outcome, Outcome.give, Outcome.refuse, declared.Refusal.TheVariants.InvalidSensorSize}
use Rattle.evt_types.specs.{declared.Refusal.TheVariants.InvalidSpacing, declared.Refusal.TheVariants.TooFewRecords, declared.Refusal.TheVariants.TooLong}
use Rattle.header.proofs.HeaderLaws.{of_accepted}
use Rattle.std.specs.Prelude.{Result, Ok, Err}
use Rattle.evt_types.specs.declared.Refusal.{Refusal}
use Rattle.header.specs.declared.Header as header
use Rattle.header.specs.{Header.has_zero, Header.header_of}
use Rattle.index_build.specs.{Build.Begun, Build.builder_at, Build.concluded, Build.first_of, Build.made_at, Build.prepared_by, Build.span_height}
use Rattle.index_build.specs.{Build.span_width, Index.Body, Index.body_at, Index.body_kept, Index.firsts, Index.index_outcome, Index.kept_events, Index.need_of}
use Rattle.index_build.specs.{Index.open_after_header, Index.open_raw_outcome, Index.open_words_outcome, Index.opening_of, Index.record_at, Index.records_by}
use Rattle.index_build.specs.{Index.records_of, Index.spacing_ok, Index.words_body, Laws.builder_start, Open.Accepted, Open.Builds, Open.IfGiven, Open.Spaced}
use Rattle.index_build.specs.{Open.aligned, Open.body, Open.count-within, Open.count_covers, Open.kept-inside, Open.l, Open.spaced, Open.t}
use Rattle.index_build.specs.{declared.Builder.Builder, declared.OpenOptions.OpenOptions}
use Rattle.index_build.specs.{declared.WordsOptions.WordsOptions}
use Rattle.laws_stream.specs.Order.{greatest}
use Rattle.read_columns.specs.Inside.{clock}
use Rattle.read_fill.specs.{Decode.inside_events, Laws.bounded_fresh}
use Rattle.read_rules.specs.Read.{height_of, sizeless, width_of}
use Rattle.std.proofs.{Common.arith, Common.length-drop, Common.subst, Common.sym, Common.take_all, Common.◌∙◌, Math.Bool.cond, Math.Bool.false, Math.Bool.true}
use Rattle.std.proofs.{Math.Dec.ltb, Math.IntN.pos, Math.ListN.length, Math.ListN.length-take, Math.ListN.take, Math.Path.ap, Math.Path.refl}
use Rattle.std.specs.Prelude.{Bool, List, [], suc, zero, ℕ, ◌*◌, ◌++◌, ◌+◌, ◌/◌, ◌∷◌, ◌≡◌, ◌≤◌}
use borrow.Author.Tests.{ltb-false}

-- ---- a body that is accepted

accepted-body : (b : Body) (room : ℕ) → length b.recording ≤ most_bytes → b.start ≤ length b.recording → has_zero b.size ≡ false
    → IfGiven (Accepted b.recording room) (index_outcome b room)
unfolding index_outcome
accepted-body b room long within positive = go (spacing_ok b.encoding b.spacing) refl (ltb room (need_of b)) refl (sizeless b.size (body_kept b))
  where
    go : (x : Bool) → spacing_ok b.encoding b.spacing ≡ x → (y : Bool) → ltb room (need_of b) ≡ y → (z : Bool)
        → IfGiven (Accepted b.recording room)
        (cond x (cond y (refuse (TooFewRecords (need_of b))) (cond z (refuse InvalidSensorSize) (give b))) (refuse InvalidSpacing))
    go false p y q z = tt
    go true p true q z = tt
    go true p false q true = tt
    go true p false q false =
        record { is_recording = refl; long = long; within = within; positive = positive; allowed = p; fits = ltb-false room (need_of b) q }

pub accepted_raw : (l : List ℕ) (o : OpenOptions) (room : ℕ) → IfGiven (Accepted l room) (open_raw_outcome l o room)
unfolding open_raw_outcome
accepted_raw l o room = go (header_of l o.sensor_size) refl
  where
    go : (a : Result header.Header Refusal) → header_of l o.sensor_size ≡ a → IfGiven (Accepted l room) (open_after_header a l o.spacing room)
    go (Err r) p = tt
    go (Ok h) p =
        let k = of_accepted l o.sensor_size h p in
        accepted-body (body_at l h.data_offset h.encoding h.sensor_size o.spacing) room k.short k.within k.positive

pub accepted-words : (l : List ℕ) (o : WordsOptions) (room : ℕ) → IfGiven (Accepted l room) (open_words_outcome l o room)
unfolding open_words_outcome
accepted-words l o room = go (ltb most_bytes (length l)) refl (has_zero o.sensor_size) refl
  where
    go : (x : Bool) → ltb most_bytes (length l) ≡ x → (y : Bool) → has_zero o.sensor_size ≡ y
        → IfGiven (Accepted l room) (cond x (refuse TooLong) (cond y (refuse InvalidSensorSize) (index_outcome (words_body l o) room)))
    go true p y q = tt
    go false p true q = tt
    go false p false q = accepted-body (words_body l o) room (ltb-false most_bytes (length l) p) (omega arith) q

-- ---- what its builder comes to

module _ (m : List ℕ) (b : Body) (room : ℕ) (ok : Accepted m room b) where
  abbrev insides : List ℕ → List Event
  insides = inside_events (span_width b.size) (span_height b.size) (fresh_c b.encoding)

  its_spacing : Spaced b.spacing
  its_spacing = spaced b.encoding b.spacing ok.allowed

  body_long : length (body m b room ok) ≤ most_bytes
  body_long = omega (arith, length-drop b.start (l m b room ok), ok.long)

  begun_body : Begun (l m b room ok) room (t m b room ok)
  begun_body = record {
    is_first = builder_start (l m b room ok) (t m b room ok);
    start = ok.within;
    long = ok.long;
    takes = bounded_fresh b.encoding most_bytes (omega arith);
    words = b.spacing / word_size (fresh_c b.encoding);
    aligned = aligned b.encoding b.spacing ok.allowed;
    small = its_spacing.high;
    within = λ j lt. omega (arith, count-within (length (body m b room ok)) b.spacing its_spacing j lt, length-drop b.start (l m b room ok));
    fits = ok.fits;
  }

  record_is : (j : ℕ) → made_at (l m b room ok) (t m b room ok) j ≡ record_at b.size b.encoding b.start b.spacing (body m b room ok) j
  unfolding record_at
  record_is j =
      let n = j * b.spacing in
      let front = take n (body m b room ok) in
      let k : insides front ≡ kept_events b.size b.encoding front =
      kept-inside b.size b.encoding front (omega (arith, length-take n (body m b room ok), body_long)) in
      λ i. record {
        byte_offset = b.start + n;
        event_index = length (k i);
        time = pos (greatest clock (k i));
        codec = codec_after (fresh_c b.encoding) front;
      }

  firsts_is : (n : ℕ) → firsts (made_at (l m b room ok) (t m b room ok)) n ≡ firsts (record_at b.size b.encoding b.start b.spacing (body m b room ok)) n
  firsts_is zero = refl
  firsts_is (suc n) = λ i. firsts_is n i ++ (record_is n i ∷ [])

  records_is : firsts (made_at (l m b room ok) (t m b room ok)) (need_of b) ≡ records_by b
  unfolding records_of
  records_is = firsts_is (need_of b)

  opening_is : concluded (builder_at (l m b room ok) (t m b room ok) (need_of b)) ≡ opening_of b
  opening_is =
      let all : take (need_of b * b.spacing) (body m b room ok) ≡ body m b room ok =
      take_all (need_of b * b.spacing) (body m b room ok)
      (count_covers (length (body m b room ok)) b.spacing its_spacing) in
      let k : insides (take (need_of b * b.spacing) (body m b room ok)) ≡ body_kept b =
      ap insides all ∙ kept-inside b.size b.encoding (body m b room ok) body_long in
      λ i. record {
        source = record {
          encoding = b.encoding;
          spacing = b.spacing;
          data_offset = b.start;
          len = length (l m b room ok);
          width = width_of b.size (body_kept b);
          height = height_of b.size (body_kept b);
          n_events = length (k i);
        };
        records = need_of b;
      }

  builds_body : Builds (l m b room ok) room (give b) (t m b room ok)
  builds_body = record { begun = begun_body; is_answer = ap Ok opening_is; is_records = records_is }

pub builds : (l : List ℕ) (room : ℕ) (outcome : Outcome Body) → IfGiven (Accepted l room) outcome → (t : Builder) → Ok t ≡ prepared_by outcome
    → Builds l room outcome t
builds l room (refuse r) ok t is = let z : ◌≡◌ {A = ℕ} 0 1 = cc in absurd (omega arith)
builds l room (give b) ok t is =
    let own : t ≡ first_of b = cc in
    subst (λ (u : Builder). Builds l room (give b) u) (sym own)
    (subst (λ (m : List ℕ). Builds m room (give b) (first_of b)) ok.is_recording (builds_body l b room ok))
