-- What the library reads as some events the C interface does.
use Rattle.c_handover.specs.{Made.made_back, Statement.GivesC, Statement.IndexC, Statement.OpensByC, Statement.ReadBackC, Statement.ReadsByC}
use Rattle.c_handover.specs.{Statement.reading_c, Statement.source_c}
use Rattle.c_index.specs.{Opening.OpensC, Opening.opened_of, Records.checkpoint_in, Records.checkpoints_in, Records.entries_all, Slicing.SlicesC}
use Rattle.c_index.specs.{Slicing.SlicesIndexC, Slicing.SlicesTimeC, Slicing.records_in, Slicing.sliced_of, Slicing.source_of}
use Rattle.c_index.specs.{declared.opening.PropheseeOpening.PropheseeOpening, declared.opening.PropheseeSource.PropheseeSource}
use Rattle.c_index.specs.{declared.slices.PropheseeSlice.PropheseeSlice}
use Rattle.c_values.specs.{Encoding.encoding_back, Encoding.number_known, Reading.ReadsC, Reading.reading_of}
use Rattle.c_values.specs.{declared.reading.PropheseeReading.PropheseeReading}
use Rattle.std.specs.Prelude.{Some, None, Result, Ok}
use Rattle.evt_types.specs.declared.Refusal.{Refusal}
use Rattle.evt_types.specs.{Event.Event, Outcome.Outcome, Outcome.give, Outcome.refuse}
use Rattle.index_build.proofs.OpenLaws.{accepted-words, accepted_raw}
use Rattle.index_build.specs.{Index.Body, Index.need_of, Index.open_answer, Index.open_records, Index.opening_of, Index.records_of, Index.told-answer}
use Rattle.index_build.specs.{Index.told_open, Laws.length-firsts, Nth.blank, Open.Accepted, Open.IfGiven, declared.Checkpoint.Checkpoint}
use Rattle.index_build.specs.{declared.Opening.Opening}
use Rattle.laws_handover.specs.Handover.{Columns, HoldsEvents, Index, ReadBack, Way, as_recording, as_words, during_times, encoding_by, numbered, open_by_lem}
use Rattle.laws_handover.specs.Handover.{opening_as, read_by, room}
use Rattle.read_rules.specs.Read.{ReadEvents, read_answer, read_verdict, told_read}
use Rattle.slice_rules.specs.{Slice.Slices, Slice.slice_answer, Slice.slice_verdict, Slice.told_slice}
use Rattle.std.proofs.{Common.arith, Common.length-append, Common.take_at, Common.◌∙◌, Math.ListN.length, Math.ListN.length-map, Math.Path.ap, Math.Path.sym}
use Rattle.std.proofs.{lemmas.List.length-replicate}
use Rattle.std.specs.Prelude.{drop, refl, replicate, take, ℕ, ℤ, ◌≡◌, ◌≤◌}
use borrow.Author.Tests.{le-leb}
use mathlib.Core.List.{List, map, ◌++◌}

told_read_lem : (o : Outcome ReadEvents) → told_read (read_answer o) ≡ read_verdict o
told_read_lem (refuse r) = refl
told_read_lem (give g) = refl

told-slice : (o : Outcome (List Event)) → told_slice (slice_answer o) ≡ slice_verdict o
told-slice (refuse r) = refl
told-slice (give es) = refl

-- as many records as an opening tells
made-count : (q : Outcome Body) (o : Opening) → open_answer q ≡ Ok o → length (open_records q) ≡ o.records
unfolding records_of
made-count (refuse r) o h = let z : ◌≡◌ {A = ℕ} 0 1 = cc in absurd (omega arith)
made-count (give b) o h = let is : opening_of b ≡ o = cc in length-firsts _ (need_of b) ∙ ap (λ (p : Opening). p.records) is

-- and what it tells of the encoding
of_encoding : (q : Outcome Body) (o : Opening) → open_answer q ≡ Ok o → IfGiven (λ b. b.encoding ≡ o.source.encoding) q
of_encoding (refuse r) o h = tt
of_encoding (give b) o h = let is : opening_of b ≡ o = cc in ap (λ (p : Opening). p.source.encoding) is

-- ---- the calls of a way are the library's

module _ (bytes : List ℕ) where
  read_by_lem : (way : Way) (r : PropheseeReading) (c₀ c : Columns) → ReadsByC way bytes r c₀ c
      → ReadsC (read_by way bytes (room c₀)) r c₀.xs c₀.ys c₀.ts c₀.ps c.xs c.ys c.ts c.ps
  read_by_lem (as_words e None) r c₀ c d = rw (number_known e, encoding_back e) at d
  read_by_lem (as_words e (Some s)) r c₀ c d = rw (number_known e, encoding_back e) at d
  read_by_lem (as_recording e w h) r c₀ c d = d

  open_by : (way : Way) (spacing : ℕ) (r : PropheseeOpening) (records₀ records : List (List ℕ)) → OpensByC way bytes spacing r records₀ records
      → OpensC (open_by_lem way bytes spacing (length records₀)) r records₀ records
  open_by (as_words e None) spacing r records₀ records d = rw (number_known e, encoding_back e) at d
  open_by (as_words e (Some s)) spacing r records₀ records d = rw (number_known e, encoding_back e) at d
  open_by (as_recording e w h) spacing r records₀ records d = d

  accepted_by : (way : Way) (spacing room : ℕ) → IfGiven (Accepted bytes room) (open_by_lem way bytes spacing room)
  accepted_by (as_words e size) spacing room = accepted-words bytes _ room
  accepted_by (as_recording e w h) spacing room = accepted_raw bytes _ room

-- a slice by C is what the library's is
sliced : (outcome : Outcome (List Event)) (r : PropheseeSlice) (c₀ c : Columns) (part : List Event)
    → SlicesC outcome r c₀.xs c₀.ys c₀.ts c₀.ps c.xs c.ys c.ts c.ps
    → ((a : Result ℕ Refusal) → Slices outcome a c₀.xs c₀.ys c₀.ts c₀.ps c.xs c.ys c.ts c.ps
    → (a ≡ Ok (length part)) × HoldsEvents part c₀ c) → GivesC part r c₀ c
sliced outcome r c₀ c part s lib =
    let got = lib (slice_answer outcome) (record { is_told = told-slice outcome; is_answer = refl; columns = s.columns }) in
    (s.is_answer ∙ ap sliced_of (sym (told-slice outcome) ∙ ap told_slice got.0), got.1)

module _ (way : Way) (bytes : List ℕ) (es : List Event) (back : ReadBack way bytes es) where
  decodes : (r : PropheseeReading) (c₀ c : Columns) → ReadsByC way bytes r c₀ c → length es ≤ room c₀ → (r ≡ reading_c way es) × HoldsEvents es c₀ c
  decodes r c₀ c d fits =
      let outcome = read_by way bytes (room c₀) in
      let d' = read_by_lem bytes way r c₀ c d in
      let got = back.decoded (read_answer outcome) c₀ c (record { is_told = told_read_lem outcome; is_answer = refl; columns = d'.columns }) fits in
      (d'.is_answer ∙ ap reading_of (sym (told_read_lem outcome) ∙ ap told_read got.0), got.1)

  module _ (x : IndexC way bytes) where
    abbrev lent : ℕ
    lent = length x.records₀

    abbrev outcome : Outcome Body
    outcome = open_by_lem way bytes x.spacing lent

    abbrev made : List Checkpoint
    made = open_records outcome

    abbrev opening : Opening
    opening = opening_as way bytes es x.spacing

    abbrev count : ℕ
    count = opening.records

    abbrev source : PropheseeSource
    source = source_c way bytes es x.spacing

    ran : OpensC outcome x.answer x.records₀ x.records
    ran = open_by bytes way x.spacing x.answer x.records₀ x.records x.ran

    -- the same index of the library, with records that were blank
    abbrev blanks : List Checkpoint
    blanks = replicate lent blank

    within : lent ≤ length blanks
    within = rw length-replicate (omega arith)

    abbrev index : Index way bytes
    index = record {
      spacing = x.spacing;
      allowed = x.allowed;
      room = lent;
      answer = open_answer outcome;
      records₀ = blanks;
      records = made ++ drop (length made) blanks;
      within = within;
      ran = record { is_told = told-answer outcome; is_answer = refl; is_records = refl };
      enough = x.enough;
    }

    opened : open_answer outcome ≡ Ok opening
    opened = back.opened index

    is_source : x.answer ≡ record { source = source; told = 0; refusal = 0 }
    is_source = ran.is_answer ∙ ap opened_of (sym (told-answer outcome) ∙ ap told_open opened)

    length-made : length made ≡ count
    length-made = made-count outcome _ opened

    -- the records as opening left them, read by the source that it told
    records_are : records_in source x.records ≡ take count index.records
    unfolding checkpoints_in
    records_are =
        let e = encoding_by way in
        let entries = entries_all made in
        let long : length entries ≡ count = length-map made _ ∙ length-made in
        let enough : count ≤ length x.records = rw (ran.is_records, length-append) (omega (arith, long)) in
        rw (number_known e, encoding_back e, le-leb count (length x.records) enough)
        (ap (λ (l : List (List ℕ)). map (checkpoint_in e) (take count l)) ran.is_records
        ∙ ap (map (checkpoint_in e)) (take_at entries _ count long)
        ∙ made_back bytes lent e outcome (accepted_by bytes way x.spacing lent) (of_encoding outcome _ opened)
        ∙ sym (take_at made _ count length-made))

    source_is : source_of source ≡ opening.source
    source_is = rw encoding_back

    -- slices over them are those over the library's index
    by_number : (i0 i1 : ℕ) (r : PropheseeSlice) (c₀ c : Columns)
        → SlicesIndexC bytes x.answer.source x.records i0 i1 r c₀.xs c₀.ys c₀.ts c₀.ps c.xs c.ys c.ts c.ps
        → length (numbered es i0 i1) ≤ room c₀ → GivesC (numbered es i0 i1) r c₀ c
    by_number i0 i1 r c₀ c s fits =
        sliced _ r c₀ c (numbered es i0 i1) (rw (is_source, source_is, records_are) at s) (λ a lib. back.by_number index opening opened i0 i1 a c₀ c lib fits)

    by_time_lem : (t0 t1 : ℤ) (r : PropheseeSlice) (c₀ c : Columns)
        → SlicesTimeC bytes x.answer.source x.records t0 t1 r c₀.xs c₀.ys c₀.ts c₀.ps c.xs c.ys c.ts c.ps
        → length (during_times es t0 t1) ≤ room c₀ → GivesC (during_times es t0 t1) r c₀ c
    by_time_lem t0 t1 r c₀ c s fits =
        sliced _ r c₀ c (during_times es t0 t1) (rw (is_source, source_is, records_are) at s)
        (λ a lib. back.by_time_lem index opening opened t0 t1 a c₀ c lib fits)

  pub read_back : ReadBackC way bytes es
  read_back = record { decoded = decodes; opened = is_source; by_number = by_number; by_time_lem = by_time_lem }
