-- Calls that ran: the contracts that the ways of reading name, and what bytes that are read exactly come to.
use Rattle.std.specs.Prelude.{◌≡◌, Bool, List, ◌++◌, map, ℕ, ◌^◌, ◌≤◌, ℤ, length, take, drop}
use Rattle.std.proofs.Common.{sym, ap, ◌∙◌, take_at}
use Rattle.std.proofs.lemmas.List.{length-map}
use Rattle.evt_types.specs.{Columns.col_x, Columns.col_y, Columns.col_t, Columns.col_p, Event.Event, declared.Encoding.Encoding}
use Rattle.write_resume.specs.declared.Resumed.{Resumed}
use Rattle.std.specs.Prelude.{Option, None, Result, Ok}
use Rattle.evt_types.specs.declared.SensorSize.{SensorSize}
use Rattle.evt_types.specs.declared.Refusal.{Refusal}
use Rattle.read_rules.specs.declared.Reading.{Reading}
use Rattle.read_rules.specs.Read as Outcomes
use Rattle.read_rules.specs.{Read.DecodesWords, Read.ReadsRaw, Read.shortest}
use Rattle.index_build.specs.declared.{Checkpoint.Checkpoint, Opening.Opening}
use Rattle.index_build.specs.Index.{Opens, OpensWords, OpensRaw}
use Rattle.write_rules.specs.{declared.RawEventSink.RawEventSink, Rules.fresh_sink}
use Rattle.laws_handover.specs.Handover.{stream_of, Front, Way, as_words, as_recording}
use Rattle.laws_handover.specs.Handover.{read_by, open_by_lem, options_of, Reads, opening_as, Indexed, Ran, calls_of, Columns, all_written}
use Rattle.laws_handover.specs.Handover.{resuming, ResumedBy}
use Rattle.laws_handover.specs.Handover.{HoldsEvents, Index, by_value, Alike, ReadBack}
use Rattle.laws_handover.specs.Handover.{numbered, during_times, NumberRan, TimeRan, room, ReadByValue}

-- ---- two callers

front_same : {A : Type 0} (f : Event → A) (part : List Event) (old now old' now' : List A) → now ≡ map f part ++ drop (length part) old
    → now' ≡ map f part ++ drop (length part) old' → take (length part) now ≡ take (length part) now'
front_same f part old now old' now' a b =
    ap (take (length part)) a ∙ take_at (map f part) (drop (length part) old) (length part) (length-map part f)
    ∙ sym (ap (take (length part)) b ∙ take_at (map f part) (drop (length part) old') (length part) (length-map part f))

alike : (part : List Event) (r q : Result ℕ Refusal) (c₀ c d₀ d : Columns) → (r ≡ Ok (length part)) × HoldsEvents part c₀ c
    → (q ≡ Ok (length part)) × HoldsEvents part d₀ d
    → Alike (length part) r q c d
alike part r q c₀ c d₀ d a b = record {
  first = a.0;
  second = b.0;
  same-x = front_same col_x part c₀.xs c.xs d₀.xs d.xs a.1.column-x b.1.column-x;
  same-y = front_same col_y part c₀.ys c.ys d₀.ys d.ys a.1.column-y b.1.column-y;
  same-t = front_same col_t part c₀.ts c.ts d₀.ts d.ts a.1.column-t b.1.column-t;
  same_p = front_same col_p part c₀.ps c.ps d₀.ps d.ps a.1.column_p b.1.column_p;
}

-- ---- the contracts that the ways of reading name

module _ (bytes : List ℕ) (r : Result Reading Refusal) (xs₀ ys₀ : List ℕ) (ts₀ : List ℤ) (ps₀ xs ys : List ℕ) (ts : List ℤ) (ps : List ℕ) where
  -- a reading in this way
  abbrev pub ReadsBy : Way → Type 0
  ReadsBy way = Outcomes.Reads (read_by way bytes (shortest xs₀ ys₀ ts₀ ps₀)) r xs₀ ys₀ ts₀ ps₀ xs ys ts ps

  pub by_decode-words : (e : Encoding) (size : Option SensorSize) → DecodesWords bytes e size None r xs₀ ys₀ ts₀ ps₀ xs ys ts ps → ReadsBy (as_words e size)
  by_decode-words e size ran = ran

  pub by_read_raw : (e : Encoding) (w h : ℕ) → ReadsRaw bytes (record { sensor_size = None; max_events = None }) r xs₀ ys₀ ts₀ ps₀ xs ys ts ps
      → ReadsBy (as_recording e w h)
  by_read_raw e w h ran = ran

module _ (bytes : List ℕ) (spacing : ℕ) (r : Result Opening Refusal) (records₀ records : List Checkpoint) where
  -- an opening in this way
  abbrev pub OpensBy : Way → Type 0
  OpensBy way = Opens (open_by_lem way bytes spacing (length records₀)) r records₀ records

  pub by_open_words : (e : Encoding) (size : Option SensorSize) → OpensWords bytes (options_of e size spacing) r records₀ records → OpensBy (as_words e size)
  by_open_words e size ran = ran

  pub by_open : (e : Encoding) (w h : ℕ) → OpensRaw bytes (record { sensor_size = None; spacing = spacing }) r records₀ records
      → OpensBy (as_recording e w h)
  by_open e w h ran = ran

-- ---- bytes that are read exactly

module _ (way : Way) (bytes : List ℕ) (es : List Event) (reads : Reads way bytes es) where
  module _ (x : Index way bytes) where
    indexed : Indexed way bytes es x.spacing x.answer x.records
    indexed = reads.indexes x.spacing x.allowed x.room x.answer x.records₀ x.records x.within x.ran x.enough

    -- the opening that it told is that one
    told_is : (o : Opening) → x.answer ≡ Ok o → o ≡ opening_as way bytes es x.spacing
    told_is o h = cc indexed.0

    sliced-number : (o : Opening) → x.answer ≡ Ok o → (i0 i1 : ℕ) (r : Result ℕ Refusal) (c₀ c : Columns) → NumberRan x o i0 i1 r c₀ c
        → length (numbered es i0 i1) ≤ room c₀ → (r ≡ Ok (length (numbered es i0 i1))) × HoldsEvents (numbered es i0 i1) c₀ c
    sliced-number o h i0 i1 r c₀ c ran fits =
        let g = indexed.1 i0 i1 r c₀.xs c₀.ys c₀.ts c₀.ps c.xs c.ys c.ts c.ps (rw (told_is o h) at ran) fits in
        (g.count, g.columns)

    sliced_time : (o : Opening) → x.answer ≡ Ok o → (t0 t1 : ℤ) (r : Result ℕ Refusal) (c₀ c : Columns) → TimeRan x o t0 t1 r c₀ c
        → length (during_times es t0 t1) ≤ room c₀ → (r ≡ Ok (length (during_times es t0 t1))) × HoldsEvents (during_times es t0 t1) c₀ c
    sliced_time o h t0 t1 r c₀ c ran fits =
        let g = indexed.2 t0 t1 r c₀.xs c₀.ys c₀.ts c₀.ps c.xs c.ys c.ts c.ps (rw (told_is o h) at ran) fits in
        (g.count, g.columns)

  pub read_back : ReadBack way bytes es
  read_back = record {
    decoded = λ r c₀ c d fits. reads.decodes r c₀.xs c₀.ys c₀.ts c₀.ps c.xs c.ys c.ts c.ps d fits;
    opened = λ x. (indexed x).0;
    by_number = sliced-number;
    by_time_lem = sliced_time;
    alike_number = λ x y o p ho hp i0 i1 r q c₀ c d₀ d a b fa fb.
        alike (numbered es i0 i1) r q c₀ c d₀ d (sliced-number x o ho i0 i1 r c₀ c a fa) (sliced-number y p hp i0 i1 q d₀ d b fb);
    alike_time = λ x y o p ho hp t0 t1 r q c₀ c d₀ d a b fa fb.
        alike (during_times es t0 t1) r q c₀ c d₀ d (sliced_time x o ho t0 t1 r c₀ c a fa) (sliced_time y p hp t0 t1 q d₀ d b fb);
  }

-- ---- THE CALLS

-- what holds of the stream of the calls holds of what they wrote
module _ (e : Encoding) (f : Front) (header : Bool) (ran : List Ran) (cut : ℕ) where
  abbrev pub writer : RawEventSink
  writer = fresh_sink e header

  -- what resuming over what stands returned is the writer that resumes
  abbrev pub Resumer : Type 0
  Resumer = length (take cut (all_written ran)) ≤ 2 ^ 30 → (r : Resumed) → ResumedBy e f (take cut (all_written ran)) r
      → r.sink ≡ resuming e f cut (stream_of writer (calls_of ran))

-- ---- BY VALUE

pub value_back : (way : Way) (bytes : List ℕ) (es : List Event) → ReadBack way bytes es → ReadByValue way bytes es
value_back way bytes es back spacing allowed room r records ran enough =
    let x = by_value spacing allowed r room records ran enough in
    let opened = back.opened x in (
      opened,
      (λ i0 i1 q xs₀ ys₀ ts₀ ps₀ xs ys ts ps sliced fits.
          let g = back.by_number x _ opened i0 i1 q (columns xs₀ ys₀ ts₀ ps₀) (columns xs ys ts ps) sliced fits in
          record { count = g.0; columns = g.1 }),
      (λ t0 t1 q xs₀ ys₀ ts₀ ps₀ xs ys ts ps sliced fits.
          let g = back.by_time_lem x _ opened t0 t1 q (columns xs₀ ys₀ ts₀ ps₀) (columns xs ys ts ps) sliced fits in
          record { count = g.0; columns = g.1 }),
    )
  where
    columns : List ℕ → List ℕ → List ℤ → List ℕ → Columns
    columns xs ys ts ps = record { xs = xs; ys = ys; ts = ts; ps = ps }
