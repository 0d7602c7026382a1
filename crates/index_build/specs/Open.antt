-- What opening comes to: a body that is accepted, and that what its builder yields is what specs/Index.antt defines.
use Rattle.std.specs.Prelude.{◌≡◌, Bool, List, [], ◌∷◌, ◌++◌, ℕ, zero, suc, ◌+◌, ◌-◌, ◌*◌, ◌/◌, ◌%◌, ◌≤◌, ◌<◌, ◌^◌, eqb, drop}
use Rattle.std.proofs.Math.Path.{refl, ap}
use Rattle.std.proofs.Common.{sym, ◌∙◌, true≢false, arith, length-drop}
use Rattle.std.proofs.Math.Bool.{true, false, cond}
use native.Mathlib.Nat.{zero-mul, suc-mul, div-add-mod', mod-lt}
use Rattle.std.proofs.Math.Dec.{ltb}
use Rattle.std.proofs.Math.ListN.{length, take}
use borrow.Author.Tests.{lt-ltb, le-ltb, ltb-false, eqb-true}
use Rattle.laws_stream.specs.{Part.rest_of, Order.greatest}
use Rattle.evt_types.specs.declared.{Encoding.Encoding, Encoding.TheVariants.Evt2, Encoding.TheVariants.Evt21, Encoding.TheVariants.Evt3, Refusal.Refusal}
use Rattle.evt_types.specs.declared.{Refusal.TheVariants.InvalidSensorSize, Refusal.TheVariants.TooLong, Refusal.TheVariants.InvalidSpacing}
use Rattle.std.specs.Prelude.{Option, Some, None, Result, Ok, Err}
use Rattle.evt_types.specs.declared.SensorSize.{SensorSize}
use Rattle.index_build.specs.declared.Opening.{Opening}
use Rattle.evt_types.specs.declared.{Refusal.TheVariants.TooFewRecords}
use Rattle.evt_types.specs.{Event.Event, Num.most_bytes, Outcome.Outcome, Outcome.refuse, Outcome.give}
use Rattle.evt_codec.specs.{declared.codec.Codec.Codec, Codec.fresh_c, Codec.word_size, Codec.events_from}
use Rattle.read_fill.specs.{Decode.inside_events, Laws.bounded_fresh, Laws.all-inside, Laws.inside-bytes}
use Rattle.header.specs.declared.Header as header
use Rattle.header.specs.Header.{has_zero, header_of}
use Rattle.read_select.specs.{declared.SurveyTotals.SurveyTotals, Pass.Ready as ReadyFor, Pass.handed_over, Pass.surveyed, Uses.numbered_over}
use Rattle.read_select.specs.{Uses.over-all}
use Rattle.read_window.specs.declared.Window.{Window}
use Rattle.read_rules.specs.{Laws.ready_fresh, Read.width_of, Read.height_of, Read.sizeless}
use Rattle.index_build.specs.declared.{Builder.Builder, Checkpoint.Checkpoint}
use Rattle.index_build.specs.declared.{OpenOptions.OpenOptions}
use Rattle.index_build.specs.declared.{RawSliceSource.RawSliceSource, WordsOptions.WordsOptions}
use Rattle.index_build.specs.Index.{kept_events, firsts, record_count, alignment, spacing_ok, Body, body_at, body_bytes}
use Rattle.index_build.specs.Index.{body_kept, need_of}
use Rattle.index_build.specs.Index.{index_outcome, open_after_header, open_raw_outcome, words_body, open_words_outcome}
use Rattle.index_build.specs.Index.{open_answer, open_records}
use Rattle.index_build.specs.{Index.Opens, Index.told_open, Index.told-answer, Laws.length-firsts, Stage.laid_to}
use Rattle.index_build.specs.Build.{Begun, builder_at, made_at, span_width, span_height, whole_window, first_for, uncounted, first_of, prepared_by, concluded}
use Rattle.header.proofs.HeaderLaws.{of_accepted}

-- ---- spacing and counts

pub record Spaced (spacing : ℕ) : Type 0 where
  pub low : 4 ≤ spacing
  pub high : spacing ≤ 4194304

-- what is a multiple of the alignment is a whole number of words
whole_words : (e : Encoding) (spacing : ℕ) → spacing % alignment e ≡ 0 → spacing ≡ spacing / word_size (fresh_c e) * word_size (fresh_c e)
whole_words Evt2 spacing h = omega arith
whole_words Evt21 spacing h = omega arith
whole_words Evt3 spacing h = omega arith

module _ (e : Encoding) (spacing : ℕ) (h : spacing_ok e spacing ≡ true) where
  is_spaced : Spaced spacing × (spacing % alignment e ≡ 0)
  unfolding spacing_ok
  is_spaced = go (ltb spacing 4) refl (ltb 4194304 spacing) refl h
    where
      go : (a : Bool) → ltb spacing 4 ≡ a → (b : Bool) → ltb 4194304 spacing ≡ b
          → cond a false (cond b false (eqb (spacing % alignment e) 0)) ≡ true → Spaced spacing × (spacing % alignment e ≡ 0)
      go true p b q h = absurd (true≢false (sym h))
      go false p true q h = absurd (true≢false (sym h))
      go false p false q h = (record { low = ltb-false spacing 4 p; high = ltb-false 4194304 spacing q }, eqb-true (spacing % alignment e) 0 h)

  pub spaced : Spaced spacing
  spaced = is_spaced.0

  pub aligned : spacing ≡ spacing / word_size (fresh_c e) * word_size (fresh_c e)
  aligned = whole_words e spacing is_spaced.1

module _ (n spacing : ℕ) (s : Spaced spacing) where
  -- a record but the first has bytes before it
  pub count-within : (j : ℕ) → j < record_count n spacing → j * spacing ≤ n
  count-within zero h = omega (arith, zero-mul spacing)
  count-within (suc j) h =
      let d = (n + (spacing - 1)) / spacing in
      let lt : suc j < d = omega (arith, h) in
      let e : d * spacing + (n + (spacing - 1)) % spacing ≡ n + (spacing - 1) = div-add-mod' (n + (spacing - 1)) spacing in
      let m : suc (suc j) * spacing ≤ d * spacing = native.Mathlib.Nat.mul-le-mul_right {m = suc (suc j)} {n = d} spacing (omega arith) in
      omega (arith, e, m, suc-mul (suc j) spacing, s.low)

  -- and the records reach over all bytes
  pub count_covers : n ≤ record_count n spacing * spacing
  count_covers =
      let d = (n + (spacing - 1)) / spacing in
      let e : d * spacing + (n + (spacing - 1)) % spacing ≡ n + (spacing - 1) = div-add-mod' (n + (spacing - 1)) spacing in
      let l : (n + (spacing - 1)) % spacing < spacing = mod-lt (n + (spacing - 1)) (omega (arith, s.low)) in
      let m : d * spacing ≤ record_count n spacing * spacing = native.Mathlib.Nat.mul-le-mul_right {m = d} {n = record_count n spacing} spacing (omega arith) in
      omega (arith, e, l, m, s.low)

  pub count_few : n ≤ most_bytes → record_count n spacing < 2 ^ 63
  count_few h =
      let d : (n + (spacing - 1)) / spacing ≤ n + (spacing - 1) = native.Mathlib.Nat.div-le_self (n + (spacing - 1)) spacing in
      omega (arith, d, s.high)

-- ---- events that count

pub kept-inside : (size : Option SensorSize) (e : Encoding) (l : List ℕ) → length l ≤ most_bytes
    → inside_events (span_width size) (span_height size) (fresh_c e) l ≡ kept_events size e l
kept-inside None e l h = all-inside (fresh_c e) l (bounded_fresh e (length l) h)
kept-inside (Some s) e l h = refl

-- ---- a body that is accepted

pub record Accepted (l : List ℕ) (room : ℕ) (b : Body) : Type 0 where
  pub is_recording : b.recording ≡ l
  pub long : length b.recording ≤ most_bytes
  pub within : b.start ≤ length b.recording
  pub positive : has_zero b.size ≡ false
  pub allowed : spacing_ok b.encoding b.spacing ≡ true
  pub fits : need_of b ≤ room

-- P holds of what is given
abbrev pub IfGiven : (Body → Type 0) → Outcome Body → Type 0
IfGiven P (refuse r) = Unit
IfGiven P (give b) = P b

-- ---- what its builder comes to

-- what a builder that was prepared makes is what the outcome says
pub record Builds (l : List ℕ) (room : ℕ) (outcome : Outcome Body) (t : Builder) : Type 0 where
  pub begun : Begun l room t
  pub is_answer : Ok (concluded (builder_at l t t.cap)) ≡ open_answer outcome
  pub is_records : firsts (made_at l t) t.cap ≡ open_records outcome

module _ (m : List ℕ) (b : Body) (room : ℕ) (ok : Accepted m room b) where
  abbrev pub l : List ℕ
  l = b.recording

  abbrev pub body : List ℕ
  body = body_bytes b

  abbrev pub t : Builder
  t = first_of b

-- ---- what opening promises

pub opens_refused : (outcome : Outcome Body) (r : Refusal) → Err r ≡ prepared_by outcome → (ys : List Checkpoint) → Opens outcome (Err r) ys ys
opens_refused (refuse q) r is ys = let e : r ≡ q = cc in rw e (record { is_told = refl; is_answer = refl; is_records = refl })
opens_refused (give b) r is ys = let z : ◌≡◌ {A = ℕ} 0 1 = cc in absurd (omega arith)

pub opens_built : (l : List ℕ) (room : ℕ) (outcome : Outcome Body) (t : Builder) → Builds l room outcome t → (r : Result Opening Refusal) (ys zs : List Checkpoint)
    → r ≡ Ok (concluded (builder_at l t t.cap)) → zs ≡ laid_to l t ys t.cap → Opens outcome r ys zs
opens_built l room outcome t s r ys zs is u =
    let a : r ≡ open_answer outcome = is ∙ s.is_answer in
    let count : t.cap ≡ length (open_records outcome) = sym (length-firsts (made_at l t) t.cap) ∙ ap length s.is_records in
    record {
      is_told = ap told_open a ∙ told-answer outcome;
      is_answer = a;
      is_records = u ∙ (λ i. s.is_records i ++ drop (count i) ys);
    }

-- ---- what the code chooses

module _ (b : Body) (room : ℕ) where
  pub outcome_spacing : spacing_ok b.encoding b.spacing ≡ false → index_outcome b room ≡ refuse InvalidSpacing
  unfolding index_outcome
  outcome_spacing h = rw h

  module _ (n : ℕ) (is : n ≡ record_count (length b.recording - b.start) b.spacing) (ok : spacing_ok b.encoding b.spacing ≡ true) where
    pub need_is : n ≡ need_of b
    need_is = is ∙ ap (λ (m : ℕ). record_count m b.spacing) (sym (length-drop b.start b.recording))

    pub outcome-short : room < n → index_outcome b room ≡ refuse (TooFewRecords n)
    unfolding index_outcome
    outcome-short lt = rw (ok, lt-ltb room (need_of b) (rw need_is at lt), need_is)

    module _ (enough : n ≤ room) where
      pub outcome_none : sizeless b.size (body_kept b) ≡ true → index_outcome b room ≡ refuse InvalidSensorSize
      unfolding index_outcome
      outcome_none z = rw (ok, le-ltb room (need_of b) (rw need_is at enough), z)

      pub outcome-given : sizeless b.size (body_kept b) ≡ false → index_outcome b room ≡ give b
      unfolding index_outcome
      outcome-given z = rw (ok, le-ltb room (need_of b) (rw need_is at enough), z)

-- ---- without a size

grown : (f : Event → ℕ) (a : Event) (es : List Event) → greatest (λ e. f e + 1) (a ∷ es) ≡ suc (greatest f (a ∷ es))
grown f a [] = omega arith
grown f a (b ∷ es) = omega (arith, grown f b es)

module _ (e : Encoding) (body : List ℕ) (long : length body ≤ most_bytes) where
  numbered-all : numbered_over whole_window (fresh_c e) body ≡ events_from (fresh_c e) body
  numbered-all = kept-inside None e body long

  pub handed-all : handed_over whole_window 0 (fresh_c e) body ≡ events_from (fresh_c e) body
  handed-all =
      let n : length (numbered_over whole_window (fresh_c e) body) ≤ 6 * length body =
      rw (numbered-all, ← kept-inside None e body long) (inside-bytes 65536 65536 (fresh_c e) body) in
      over-all whole_window (fresh_c e) body (ready_fresh e (length body) long).able refl (omega arith) 0 (omega arith) (omega (arith, n)) ∙ numbered-all

  module _ (t : SurveyTotals) (is : t ≡ surveyed whole_window 0 (fresh_c e) body) where
    pub survey_count : t.count ≡ length (events_from (fresh_c e) body)
    survey_count = ap (λ (u : SurveyTotals). u.count) is ∙ ap length handed-all

    pub survey_none : t.count ≡ 0 → sizeless None (events_from (fresh_c e) body) ≡ true
    survey_none z = go (events_from (fresh_c e) body) (sym survey_count ∙ z)
      where
        go : (es : List Event) → length es ≡ 0 → sizeless None es ≡ true
        go [] h = refl
        go (a ∷ es) h = absurd (omega (arith, h))

    pub survey_some : (t.count ≡ 0 → ⊥) → (sizeless None (events_from (fresh_c e) body) ≡ false)
        × ((t.width ≡ width_of None (events_from (fresh_c e) body)) × (t.height ≡ height_of None (events_from (fresh_c e) body)))
    survey_some nz =
        let w : t.width ≡ greatest (λ e. e.x + 1) (events_from (fresh_c e) body) =
        ap (λ (u : SurveyTotals). u.width) is ∙ ap (greatest (λ e. e.x + 1)) handed-all in
        let h : t.height ≡ greatest (λ e. e.y + 1) (events_from (fresh_c e) body) =
        ap (λ (u : SurveyTotals). u.height) is ∙ ap (greatest (λ e. e.y + 1)) handed-all in
        go (events_from (fresh_c e) body) survey_count w h
      where
        go : (es : List Event) → t.count ≡ length es → t.width ≡ greatest (λ e. e.x + 1) es → t.height ≡ greatest (λ e. e.y + 1) es
            → (sizeless None es ≡ false) × ((t.width ≡ width_of None es) × (t.height ≡ height_of None es))
        go [] c w h = absurd (nz c)
        go (a ∷ es) c w h = (refl, (w ∙ grown (λ e. e.x) a es, h ∙ grown (λ e. e.y) a es))

-- ---- the builders that the code begins

module _ (l : List ℕ) (start : ℕ) (e : Encoding) (size : Option SensorSize) (spacing room : ℕ) (long : length l ≤ most_bytes) (ok : spacing_ok e spacing ≡ true)
    (n : ℕ) (is_n : n ≡ record_count (length l - start) spacing) (enough : n ≤ room) where
  abbrev given : Option SensorSize → Body
  given s = body_at l start e s spacing

  abbrev prepared : Option SensorSize → Result Builder Refusal
  prepared s = prepared_by (index_outcome (given s) room)

  ready : (s : Option SensorSize) (source : RawSliceSource) (width height : ℕ) → source ≡ uncounted (given s) width height
      → width ≡ width_of s (body_kept (given s)) → height ≡ height_of s (body_kept (given s)) → sizeless s (body_kept (given s)) ≡ false
      → (t : Builder) → t ≡ first_for source n (span_width s) (span_height s) → size ≡ s → Ok t ≡ prepared size
  ready s source width height is w h z t is_t q =
      ap Ok is_t ∙ ap (λ (x : RawSliceSource). Ok (first_for x n (span_width s) (span_height s))) is
      ∙ (λ i. Ok (first_for (uncounted (given s) (w i) (h i)) (need_is (given s) room n is_n ok i) (span_width s) (span_height s)))
      ∙ sym (ap prepared_by (outcome-given (given s) room n is_n ok enough z)) ∙ ap prepared (sym q)

  pub ready_known : (s : SensorSize) → size ≡ Some s → (source : RawSliceSource) → source ≡ uncounted (given (Some s)) s.width s.height
      → (t : Builder) → t ≡ first_for source n s.width s.height → Ok t ≡ prepared size
  ready_known s q source is t is_t = ready (Some s) source s.width s.height is refl refl refl t is_t q

  -- the rest of the recording is surveyed
  module _ (q : size ≡ None) (c : Codec) (is_c : c ≡ fresh_c e) (win : Window) (is-win : win ≡ whole_window) (t : SurveyTotals)
      (is_t : t ≡ surveyed win 0 c (take (length l - start) (drop start l))) where
    is_tally : t ≡ surveyed whole_window 0 (fresh_c e) (drop start l)
    is_tally = is_t ∙ (λ i. surveyed (is-win i) 0 (is_c i) (rest_of l start i))

    long_rest : length (drop start l) ≤ most_bytes
    long_rest = omega (arith, length-drop start l)

    pub ready_none : t.count ≡ 0 → Err InvalidSensorSize ≡ prepared size
    ready_none z =
        sym (ap prepared_by (outcome_none (given None) room n is_n ok enough (survey_none e (drop start l) long_rest t is_tally z)))
        ∙ ap prepared (sym q)

    pub ready_surveyed : (t.count ≡ 0 → ⊥) → (source : RawSliceSource) → source ≡ uncounted (given None) t.width t.height
        → (u : Builder) → u ≡ first_for source n 65536 65536 → Ok u ≡ prepared size
    ready_surveyed nz source is u is-u =
        let s = survey_some e (drop start l) long_rest t is_tally nz in
        ready None source t.width t.height is s.1.0 s.1.1 s.0 u is-u q

pub ready_rest : (l : List ℕ) (start : ℕ) (e : Encoding) (c : Codec) → c ≡ fresh_c e → length l ≤ most_bytes
    → ReadyFor c 0 (length (take (length l - start) (drop start l)))
ready_rest l start e c is h = rw (is, rest_of l start) (ready_fresh e (length (drop start l)) (omega (arith, length-drop start l)))

-- ---- the two entries

module _ (l : List ℕ) (o : OpenOptions) (room : ℕ) (a : Result header.Header Refusal) (is-header : a ≡ header_of l o.sensor_size) where
  pub outcome-after : open_raw_outcome l o room ≡ open_after_header a l o.spacing room
  unfolding open_raw_outcome
  outcome-after = ap (λ (b : Result header.Header Refusal). open_after_header b l o.spacing room) (sym is-header)

  pub header_fits : (h : header.Header) → a ≡ Ok h → (length l ≤ most_bytes) × (h.data_offset ≤ length l)
  header_fits h q = let k = of_accepted l o.sensor_size h (sym is-header ∙ q) in (k.short, k.within)

module _ (l : List ℕ) (o : WordsOptions) (room : ℕ) where
  pub outcome_long : most_bytes < length l → open_words_outcome l o room ≡ refuse TooLong
  unfolding open_words_outcome
  outcome_long h = rw (lt-ltb most_bytes (length l) h)

  pub outcome-zero : length l ≤ most_bytes → has_zero o.sensor_size ≡ true → open_words_outcome l o room ≡ refuse InvalidSensorSize
  unfolding open_words_outcome
  outcome-zero h z = rw (le-ltb most_bytes (length l) h, z)

  pub outcome-words : length l ≤ most_bytes → has_zero o.sensor_size ≡ false → open_words_outcome l o room ≡ index_outcome (words_body l o) room
  unfolding open_words_outcome
  outcome-words h z = rw (le-ltb most_bytes (length l) h, z)
