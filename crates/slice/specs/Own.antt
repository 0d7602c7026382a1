-- Slices over an index of the recording itself, its records unaltered: the index is in range, and slices are exact at every spacing.
use Rattle.std.specs.Prelude.{◌≡◌, Bool, false, not, List, [], ◌∷◌, ◌++◌, ℤ, pos, length, take, drop}
use Rattle.std.proofs.Math.Path.{refl, ap}
use Rattle.std.proofs.Common.{sym, ◌∙◌, add-zero, zero-add, mul_assoc, length-append, take-append-drop, take-add, drop-drop, length-take-le}
use Rattle.std.proofs.Common.{leb-true, ltb-true, lt-ltb, le-ltb, le-leb, eq-eqb}
use Rattle.std.proofs.Math.Bool.{true}
use Prim.Native.Nat.{ℕ, zero, suc, ◌+◌, ◌-◌, ◌*◌, ◌/◌, ◌^◌, ◌≤◌, ◌<◌, max}
use native.Mathlib.Omega.{arith}
use Rattle.std.proofs.Math.Nat.{zero-mul, suc-mul}
use Rattle.std.proofs.Math.Dec.{leb}
use Rattle.std.proofs.Math.ListN.{length-drop}
use Rattle.std.proofs.Math.Seq.{drop-append_seam, drop-append-add}
use Rattle.std.specs.Int.Signed.{le_z, lt_z}
use Rattle.laws_stream.specs.{Machine.All, Machine.all-append-left, Machine.all_drop, Order.greatest, Order.greatest-append, Order.greatest-lt}
use Rattle.laws_stream.specs.{Select.by_number_lem, Slice.sift, Slice.sift-all, Slice.sift-append, Slice.all_early}
use Rattle.std.specs.Prelude.{Option, Some, None}
use Rattle.evt_types.specs.declared.SensorSize.{SensorSize}
use Rattle.evt_types.specs.declared.{Encoding.Encoding}
use Rattle.evt_types.specs.{Columns.col_x, Columns.col_y, Event.Event}
use Rattle.evt_types.specs.{Outcome.give, Num.encoding_number}
use Rattle.evt_codec.specs.Codec.{fresh_c, word_size, encoding_of, in_range_c, events_from, codec_after, encoding_after, encoding_fresh}
use Rattle.read_columns.specs.Inside.{inside, clock}
use Rattle.read_fill.specs.Laws.{events-append, events-nil, fresh_range, inside-bytes}
use Rattle.header.specs.Header.{has_zero}
use Rattle.read_window.specs.declared.Window.{Window}
use Rattle.read_select.specs.{Uses.is_timely, Uses.numbered_over, Uses.PastOver, Parts.time_from}
use Rattle.read_rules.specs.Read.{kept, width_of, height_of}
use Rattle.index_build.specs.declared.{Checkpoint.Checkpoint, RawSliceSource.RawSliceSource}
use Rattle.index_build.specs.Index.{kept_events, record_at, firsts, record_count, records_of, spacing_ok, source_of}
use Rattle.index_records.specs.{InRange.record_in_range, InRange.records_in_range, InRange.index_in_range, Judge.is_other, JudgeLaws.last_passes}
use Rattle.index_build.specs.Open.{spaced, aligned, count-within, kept-inside}
use Rattle.slice_rules.specs.Slice.{starting_at, size_of, first_of, end_of, index_events, is_during, events_until, time_events, slice_check}
use Rattle.slice_rules.specs.Times.{natural, before-natural, during_natural, time_window, time_over}

-- ---- lists of records

-- n records from f j on
abbrev up_from : (ℕ → Checkpoint) → (j n : ℕ) → List Checkpoint
up_from f j zero = []
up_from f j (suc n) = f j ∷ up_from f (suc j) n

up_next : (f : ℕ → Checkpoint) (j n : ℕ) → up_from f j n ++ (f (j + n) ∷ []) ≡ up_from f j (suc n)
up_next f j zero = ap (λ (k : ℕ). f k ∷ []) (add-zero j)
up_next f j (suc n) = ap (λ (k : ℕ). f j ∷ (up_from f (suc j) n ++ (f k ∷ []))) (omega arith) ∙ ap (λ (cs : List Checkpoint). f j ∷ cs) (up_next f (suc j) n)

firsts_up : (f : ℕ → Checkpoint) (n : ℕ) → firsts f n ≡ up_from f 0 n
firsts_up f zero = refl
firsts_up f (suc n) =
    ap (λ (cs : List Checkpoint). cs ++ (f n ∷ [])) (firsts_up f n) ∙ ap (λ (k : ℕ). up_from f 0 n ++ (f k ∷ [])) (sym (zero-add n)) ∙ up_next f 0 n

all_up : (P : Checkpoint → Type 0) (f : ℕ → Checkpoint) (j n : ℕ) → ((i : ℕ) → j ≤ i → i < j + n → P (f i)) → All P (up_from f j n)
all_up P f j zero h = tt
all_up P f j (suc n) h = (h j (omega arith) (omega arith), all_up P f (suc j) n (λ i a b. h i (omega arith) (omega arith)))

starting : (p : Checkpoint → Bool) (g : Checkpoint → List Event) (f : ℕ → Checkpoint) (n : ℕ) (es : List Event) → 0 < n → g (f 0) ≡ es
    → ((j : ℕ) → j < n → p (f j) ≡ true → g (f j) ≡ es)
    → starting_at p g (firsts f n) ≡ es
starting p g f zero es h a b = absurd (omega arith)
starting p g f (suc n) es h a b =
    rw (firsts_up f (suc n)) (last_passes (λ c. g c ≡ es) p (f 0) (up_from f 1 n) a (all_up _ f 1 n (λ i _ lt. b i (omega arith))))

-- ---- events that count

-- behind a whole number of words
kept_split : (size : Option SensorSize) (e : Encoding) (k : ℕ) (a b : List ℕ) → length a ≡ k * word_size (fresh_c e)
    → kept_events size e (a ++ b) ≡ kept_events size e a ++ kept size (events_from (codec_after (fresh_c e) a) b)
kept_split None e k a b h = events-append (fresh_c e) k a b h
kept_split (Some s) e k a b h =
    ap (sift (inside s.width s.height)) (events-append (fresh_c e) k a b h)
    ∙ sift-append (inside s.width s.height) (events_from (fresh_c e) a) (events_from (codec_after (fresh_c e) a) b)

kept-nil : (size : Option SensorSize) (e : Encoding) → kept_events size e [] ≡ []
kept-nil None e = events-nil (fresh_c e)
kept-nil (Some s) e = ap (sift (inside s.width s.height)) (events-nil (fresh_c e))

kept-bytes : (size : Option SensorSize) (e : Encoding) (l : List ℕ) → length l ≤ 2 ^ 30 → length (kept_events size e l) ≤ 6 * length l
kept-bytes size e l h = rw (← kept-inside size e l h) (inside-bytes _ _ (fresh_c e) l)

-- ---- the size that is derived without one holds every event

all-inside : (w h : ℕ) (es : List Event) → All (λ e. e.x < w) es → All (λ e. e.y < h) es → All (λ e. inside w h e ≡ true) es
all-inside w h [] p q = tt
all-inside w h (e ∷ es) p q = (rw (lt-ltb e.x w p.0, lt-ltb e.y h q.0), all-inside w h es p.1 q.1)

abbrev derived : Option SensorSize → List Event → Option SensorSize
derived size es = Some (record { width = width_of size es; height = height_of size es })

abbrev Held : Option SensorSize → List Event → Event → Type 0
Held size es e = inside (width_of size es) (height_of size es) e ≡ true

-- as long as the events x are among those that it is derived from
kept-derived : (size : Option SensorSize) (es x : List Event) → (All (Held size es) es → All (Held size es) (kept size x)) → kept (derived size es) x ≡ kept size x
kept-derived (Some s) es x among = refl
kept-derived None es x among =
    let all = all-inside (suc (greatest col_x es)) (suc (greatest col_y es)) es (greatest-lt col_x (suc (greatest col_x es)) es (omega arith))
    (greatest-lt col_y (suc (greatest col_y es)) es (omega arith)) in
    sift-all (inside (suc (greatest col_x es)) (suc (greatest col_y es))) x (among all)

all_first : (P : Event → Type 0) (es a b : List Event) → es ≡ a ++ b → All P es → All P a
all_first P es a b h p = all-append-left P a b (rw h at p)

all-last : (P : Event → Type 0) (es a b : List Event) → es ≡ a ++ b → All P es → All P b
all-last P es a b h p = rw drop-append_seam at (all_drop P (length a) (a ++ b) (rw h at p))

-- ---- numbers from a record's on

by_number-after : {E : Type 0} (n0 n1 : ℕ) (a b : List E) → length a ≤ n0 → by_number_lem n0 n1 (length a) b ≡ take (n1 - n0) (drop n0 (a ++ b))
by_number-after {E} n0 n1 a b h =
    let m : max n0 (length a) ≡ n0 = omega arith in
    let k : n0 ≡ length a + (n0 - length a) = omega arith in
    let d : drop n0 (a ++ b) ≡ drop (n0 - length a) b = ap (λ (n : ℕ). drop n (a ++ b)) k ∙ drop-append-add a b (n0 - length a) in
    rw (m, d)

-- ---- an index of its own recording

abbrev pub own_events : Option SensorSize → Encoding → (start : ℕ) → List ℕ → List Event
own_events size e start l = kept_events size e (drop start l)

abbrev pub own_source : Option SensorSize → Encoding → (start spacing : ℕ) → List ℕ → RawSliceSource
own_source size e start spacing l = source_of (length l) start e size spacing (own_events size e start l)

abbrev pub own_records : Option SensorSize → Encoding → (start spacing : ℕ) → List ℕ → List Checkpoint
own_records size e start spacing l = records_of size e start spacing (drop start l)

-- no event that is in time follows the first word after which the decoder is started and its time is t1 or more
abbrev pub own_window : Option SensorSize → Encoding → (start : ℕ) → List ℕ → (t0 t1 : ℤ) → Window
own_window size e start l t0 t1 =
    let es = own_events size e start l in
    time_window (width_of size es) (height_of size es) 0 0 t0 t1

abbrev pub OwnPast : Option SensorSize → Encoding → (start : ℕ) → List ℕ → (t0 t1 : ℤ) → Type 0
OwnPast size e start l t0 t1 = PastOver (own_window size e start l t0 t1) (fresh_c e) (drop start l)

in_range_by : (s : RawSliceSource) (offset count : ℕ) (time : ℤ) (c : Checkpoint) → offset < 2 ^ 64 → c.byte_offset ≡ offset
    → is_other c.codec s.encoding ≡ false → in_range_c c.codec ≡ true
    → count ≤ c.event_index → c.event_index ≤ 2 ^ 33 → c.event_index ≤ s.n_events → le_z time c.time ≡ true
    → record_in_range s offset count time c ≡ true
in_range_by s offset count time c a b d f g h k m =
    rw (
      lt-ltb offset (2 ^ 64) a,
      eq-eqb c.byte_offset offset b,
      d,
      f,
      le-leb count c.event_index g,
      le-leb c.event_index (2 ^ 33) h,
      le-leb c.event_index s.n_events k,
      m,
    )

same_encoding : (e : Encoding) (l : List ℕ) → is_other (codec_after (fresh_c e) l) e ≡ false
same_encoding e l =
    let is : encoding_of (codec_after (fresh_c e) l) ≡ e = encoding_after (fresh_c e) l ∙ encoding_fresh e in
    ap not (eq-eqb _ (encoding_number e) (ap encoding_number is))

module _ (size : Option SensorSize) (e : Encoding) (start spacing : ℕ) (l : List ℕ) (within : start ≤ length l) (long : length l ≤ 2 ^ 30)
    (allowed : spacing_ok e spacing ≡ true) where
  abbrev body : List ℕ
  body = drop start l

  abbrev es : List Event
  es = own_events size e start l

  abbrev source : RawSliceSource
  source = own_source size e start spacing l

  abbrev count : ℕ
  count = record_count (length body) spacing

  abbrev at : ℕ → Checkpoint
  at = record_at size e start spacing body

  -- the bytes before record j, and their events
  abbrev front : ℕ → List ℕ
  front j = take (j * spacing) body

  abbrev seen : ℕ → List Event
  seen j = kept_events size e (front j)

  -- the events from record j on
  abbrev onward : ℕ → List Event
  onward j = events_from (codec_after (fresh_c e) (front j)) (drop (start + j * spacing) l)

  module _ (j : ℕ) (lt : j < count) where
    front-within : j * spacing ≤ length body
    front-within = count-within (length body) spacing (spaced e spacing allowed) j lt

    front_long : length (front j) ≡ j * spacing
    front_long = length-take-le (j * spacing) body front-within

    abbrev words : ℕ
    words = j * (spacing / word_size (fresh_c e))

    front-words : length (front j) ≡ words * word_size (fresh_c e)
    front-words =
        front_long ∙ ap (λ (n : ℕ). j * n) (aligned e spacing allowed) ∙ sym (mul_assoc j (spacing / word_size (fresh_c e)) (word_size (fresh_c e)))

    body_split : front j ++ drop (start + j * spacing) l ≡ body
    body_split = ap (λ (b : List ℕ). front j ++ b) (sym (drop-drop (j * spacing) start l)) ∙ take-append-drop (j * spacing) body

    events_split : es ≡ seen j ++ kept size (onward j)
    events_split = ap (kept_events size e) (sym body_split) ∙ kept_split size e words (front j) (drop (start + j * spacing) l) front-words

    seen_few : length (seen j) ≤ 2 ^ 33
    seen_few =
        omega (arith, kept-bytes size e (front j) (omega (arith, front_long, front-within, length-drop start l)), front_long, front-within, length-drop start l)

    seen-within : length (seen j) ≤ length es
    seen-within = omega (arith, ap length events_split, length-append (seen j) (kept size (onward j)))

    decoder_range : in_range_c (codec_after (fresh_c e) (front j)) ≡ true
    decoder_range = fresh_range e (front j) (omega (arith, front_long, front-within, length-drop start l))

    -- up to the next record
    abbrev between : List Event
    between = kept size (events_from (codec_after (fresh_c e) (front j)) (take spacing (drop (j * spacing) body)))

    seen_next : seen (suc j) ≡ seen j ++ between
    seen_next =
        ap (λ (n : ℕ). kept_events size e (take n body)) (suc-mul j spacing) ∙ ap (kept_events size e) (take-add (j * spacing) spacing body)
        ∙ kept_split size e words (front j) (take spacing (drop (j * spacing) body)) front-words

    counts_rise : length (seen j) ≤ length (seen (suc j))
    counts_rise = omega (arith, ap length seen_next, length-append (seen j) between)

    times_rise : greatest clock (seen j) ≤ greatest clock (seen (suc j))
    times_rise = omega (arith, ap (greatest clock) seen_next, greatest-append clock (seen j) between)

    record_range : (n time : ℕ) → n ≤ length (seen j) → time ≤ greatest clock (seen j) → record_in_range source (start + j * spacing) n (pos time) (at j) ≡ true
    unfolding record_at
    record_range n time h k =
        in_range_by source (start + j * spacing) n (pos time) (at j) (omega (arith, front-within, length-drop start l)) refl (same_encoding e (front j))
        decoder_range h seen_few seen-within
        (le-leb time (greatest clock (seen j)) k)

  some : 0 < count
  some = omega arith

  seen_none : seen 0 ≡ []
  seen_none = ap (λ (n : ℕ). kept_events size e (take n body)) (zero-mul spacing) ∙ kept-nil size e

  -- ---- IN RANGE

  range_from : (n j before time : ℕ) → j + n ≡ count → before ≤ length (seen j) → time ≤ greatest clock (seen j)
      → records_in_range source (start + j * spacing) before (pos time) (up_from at j n) ≡ true
  unfolding record_at
  range_from zero j before time is h k = refl
  range_from (suc n) j before time is h k =
      let lt : j < count = omega arith in
      let o : start + j * spacing + spacing ≡ start + suc j * spacing = omega (arith, suc-mul j spacing) in
      rw (record_range j lt before time h k)
      (ap (λ (o : ℕ). records_in_range source o (length (seen j)) (pos (greatest clock (seen j))) (up_from at (suc j) n)) o
      ∙ range_from n (suc j) (length (seen j)) (greatest clock (seen j)) (omega arith) (counts_rise j lt) (times_rise j lt))

  pub own_in_range : index_in_range source (own_records size e start spacing l) ≡ true
  unfolding index_in_range records_of
  own_in_range = ap (index_in_range source) (firsts_up at count) ∙ go count refl
    where
      go : (n : ℕ) → n ≡ count → index_in_range source (up_from at 0 n) ≡ true
      go zero is = absurd (omega (arith, some))
      go (suc n) is =
          let o : start ≡ start + 0 * spacing = omega (arith, zero-mul spacing) in
          ap (λ (o : ℕ). records_in_range source o 0 (pos 0) (up_from at 0 (suc n))) o ∙ range_from (suc n) 0 0 0 (omega arith) (omega arith) (omega arith)

  -- ---- BY NUMBER

  module _ (i0 i1 : ℕ) where
    abbrev numbers : List Event
    numbers = take (end_of source i0 i1 - first_of source i0) (drop (first_of source i0) es)

    -- from any record whose count is at most the start
    number_at : (j : ℕ) → j < count → length (seen j) ≤ first_of source i0
        → by_number_lem (first_of source i0) (end_of source i0 i1) (length (seen j)) (kept (size_of source) (onward j)) ≡ numbers
    number_at j lt h =
        let k : kept (size_of source) (onward j) ≡ kept size (onward j)
        = kept-derived size es (onward j) (all-last (Held size es) es (seen j) (kept size (onward j)) (events_split j lt)) in
        ap (by_number_lem (first_of source i0) (end_of source i0 i1) (length (seen j))) k
        ∙ by_number-after (first_of source i0) (end_of source i0 i1) (seen j) (kept size (onward j)) h
        ∙ ap (λ (x : List Event). take (end_of source i0 i1 - first_of source i0) (drop (first_of source i0) x)) (sym (events_split j lt))

    pub own-number : index_events l source (own_records size e start spacing l) i0 i1 ≡ numbers
    unfolding index_events records_of record_at
    own-number =
        starting (λ c. leb c.event_index (first_of source i0))
        (λ c. by_number_lem (first_of source i0) (end_of source i0 i1) c.event_index (kept (size_of source) (events_from c.codec (drop c.byte_offset l))))
        at count numbers some (number_at 0 some (rw seen_none (omega arith))) (λ j lt p. number_at j lt (leb-true (length (seen j)) (first_of source i0) p))

  -- ---- BY TIME

  -- all events that count, by the source's size
  sized_all : kept (size_of source) (events_from (fresh_c e) body) ≡ es
  sized_all = kept-derived size es (events_from (fresh_c e) body) (λ all. all)

  module _ (t0 t1 : ℤ) where
    abbrev window : Window
    window = time_window source.width source.height 0 0 t0 t1

    -- from any record before which no event is in time
    time_at_lem : OwnPast size e start l t0 t1 → (j : ℕ) → j < count → All (λ e. is_timely window e ≡ false) (seen j)
        → sift (is_during t0 t1) (kept (size_of source) (events_until t1 (codec_after (fresh_c e) (front j)) (drop (start + j * spacing) l)))
        ≡ sift (is_during t0 t1) es
    time_at_lem past j lt early =
        let rest = drop (start + j * spacing) l in
        let front-sized : kept (size_of source) (events_from (fresh_c e) (front j)) ≡ seen j
        = kept-derived size es (events_from (fresh_c e) (front j)) (all_first (Held size es) es (seen j) (kept size (onward j)) (events_split j lt)) in
        time_over source.width source.height 0 0 t0 t1 (codec_after (fresh_c e) (front j)) rest
        ∙ time_from (front j) rest (words j lt) window (fresh_c e) (front-words j lt)
        (rw front-sized early) (rw (body_split j lt) past)
        ∙ ap (λ (b : List ℕ). sift (is_timely window) (numbered_over window (fresh_c e) b)) (body_split j lt)
        ∙ ap (sift (is_timely window)) sized_all ∙ ap (λ (f : Event → Bool). sift f es) (sym (during_natural t0 t1))

    pub own_time : OwnPast size e start l t0 t1 → time_events l source (own_records size e start spacing l) t0 t1 ≡ sift (is_during t0 t1) es
    unfolding time_events records_of record_at
    own_time past =
        starting (λ c. lt_z c.time t0) (λ c. sift (is_during t0 t1) (kept (size_of source) (events_until t1 c.codec (drop c.byte_offset l)))) at count
        (sift (is_during t0 t1) es) some
        (time_at_lem past 0 some (rw seen_none tt))
        (λ j lt p. time_at_lem past j lt (all_early clock (natural t0) (natural t1) (seen j)
        (greatest-lt clock (natural t0) (seen j) (ltb-true (greatest clock (seen j)) (natural t0) (sym (before-natural t0 (greatest clock (seen j))) ∙ p)))))

  -- ---- no refusal but 5

  pub own_rules : has_zero (size_of source) ≡ false → slice_check (length l) source (index_in_range source (own_records size e start spacing l)) ≡ give tt
  own_rules sized = rw (le-ltb (2 ^ 30) (length l) long, sized, allowed, own_in_range)

-- ---- slices don't depend on the spacing: by time, where nothing in time follows the stop

module _ (size : Option SensorSize) (e : Encoding) (start a b : ℕ) (l : List ℕ) (within : start ≤ length l) (long : length l ≤ 2 ^ 30)
    (allowed-a : spacing_ok e a ≡ true) (allowed-b : spacing_ok e b ≡ true) where
  pub number_spacing : (i0 i1 : ℕ)
      → index_events l (own_source size e start a l) (own_records size e start a l) i0 i1
      ≡ index_events l (own_source size e start b l) (own_records size e start b l) i0 i1
  number_spacing i0 i1 = own-number size e start a l within long allowed-a i0 i1 ∙ sym (own-number size e start b l within long allowed-b i0 i1)

  pub time_spacing : (t0 t1 : ℤ) → OwnPast size e start l t0 t1
      → time_events l (own_source size e start a l) (own_records size e start a l) t0 t1
      ≡ time_events l (own_source size e start b l) (own_records size e start b l) t0 t1
  time_spacing t0 t1 past = own_time size e start a l within long allowed-a t0 t1 past ∙ sym (own_time size e start b l within long allowed-b t0 t1 past)
