-- What the parts of reading with triggers say, and that they come to what specs/Read.antt defines.
use Rattle.std.specs.Prelude.{◌≡◌, refl, Bool, true, false, cond, ℕ, suc, ◌+◌, ◌-◌, ◌*◌, ◌/◌, ◌≤◌, ◌<◌, ◌^◌, eqb, ltb, ℤ, length, take, drop}
use Rattle.std.proofs.Math.Path.{sym, ap}
use Rattle.std.proofs.Common.{◌∙◌, length-append, take_all, lt-ltb, le-ltb, ne_eqb}
use mathlib.Core.List.{List, [], ◌∷◌, ◌++◌, append-nil}
use native.Mathlib.Omega.{arith}
use Rattle.laws_stream.specs.Machine.{Machine, All, all_of, all_map, run, emits, emits_few}
use Rattle.laws_stream.specs.Words.{value, words_of, words_of-append, words-next, words-end}
use Rattle.laws_stream.specs.{Words.length-words, Slice.sift, Slice.sift-all, Slice.sift-append, Stream.decode, Stream.after}
use Rattle.laws_stream.specs.{PassOver.numbers_in}
use Rattle.laws_stream.specs.Beside.{emitting, emits_before, before_none, before_few, before-most, before-nth, before_alike, ended-within, before-ended}
use Rattle.laws_stream.specs.Select.{Reading, numbered_of_lem}
use Rattle.std.specs.Prelude.{Option, Some, None, Result, Ok, Err}
use Rattle.evt_types.specs.declared.SensorSize.{SensorSize}
use Rattle.read_rules.specs.declared.Reading as reading
use Rattle.trigger_rules.specs.declared.TriggerReading.{TriggerReading}
use Rattle.evt_types.specs.declared.{Encoding.Encoding}
use Rattle.evt_types.specs.declared.{Refusal.Refusal, Refusal.TheVariants.InvalidSensorSize, Refusal.TheVariants.ColumnsTooShort}
use Rattle.evt_types.specs.declared.{Refusal.TheVariants.TriggerColumnsTooShort}
use Rattle.evt_types.specs.{declared.vector.Vector.Vector, Event.Event, Event.events_of, Event.Narrow}
use Rattle.evt_types.specs.{Trigger.Trigger, Trigger.HandedTriggers, Trigger.shortest3, Trigger.triggers_none}
use Rattle.evt_types.specs.Outcome.{Outcome, refuse, give, never_given}
use Rattle.evt_codec.specs.{declared.codec.Codec.Codec, Reader.view, Codec.fresh_c, Codec.word_size, Codec.Bounded, Triggers.triggers_from}
use Rattle.evt_codec.specs.{Triggers.triggers_before, Sound.sound, Sound.able_bounded, Sound.bounded_words}
use Rattle.read_columns.specs.Inside.{inside, sift_few}
use Rattle.read_fill.specs.{Laws.Small, Laws.vector_small, Laws.bounded_fresh}
use Rattle.read_window.specs.{declared.Window.Window, Window.selection_of}
use Rattle.read_select.specs.{Pass.reading_by, Pass.end_over, Uses.calm}
use Rattle.read_rules.specs.Read.{kept, ReadEvents, Reads, body_outcome, body_events, shortest}
use Rattle.read_rules.specs.Laws.{sensor_of, window_of}
use Rattle.read_rules.specs.Laws.{judged_of, words_fit, words_unfit, raw_fit, raw_unfit}
use Rattle.read_rules.specs.declared.{LoadOptions.LoadOptions}
use Rattle.header.specs.declared.Header as header
use Rattle.header.specs.Header.{header_of}
use Rattle.read_capacity.specs.Laws.{handed_none}
use Rattle.trigger_rules.specs.Read.{keeps, body_triggers, raw_triggers, ReadTriggers, with_triggers, ReadsTriggers, DecodesWordsTriggers, ReadsRawTriggers}
use Rattle.laws_stream.proofs.{StreamLaws.decode-append, WordsLaws.words-within, WordsLaws.words_taken}

-- ---- where a limit ends the triggers

-- a size keeps what lies inside its sensor; without a size that is all
agree : (size : Option SensorSize) (v : Vector) → Narrow v → All (λ e. keeps size e ≡ inside (sensor_of size).width (sensor_of size).height e) (events_of v)
agree size v n = all_map Small _ (one size) (events_of v) (vector_small v n)
  where
    one : (size : Option SensorSize) (e : Event) → Small e → keeps size e ≡ inside (sensor_of size).width (sensor_of size).height e
    one None e s = rw (lt-ltb e.x 65536 s.x<, lt-ltb e.y 65536 s.y<)
    one (Some size) e s = refl

-- a pass up to event m
module _ (size : Option SensorSize) (m : ℕ) (c : Codec) (body : List ℕ) (short : length body ≤ 2 ^ 30) (b : Bounded (length body) c) where
  abbrev pub win : Window
  win = window_of size (Some m)

  abbrev passed : Reading (view c).reader.State ℕ Event
  passed = reading_by (view c).reader win

  apart : (s : (view c).reader.State) (w : ℕ) → 0 < length (numbered_of_lem passed s w) → (view c).reader.trigger s w ≡ []
  apart s w h = (sound c).apart s w (omega (arith, sift_few passed.inside ((view c).reader.machine.emit s w)))

  -- the words that it consumes have the triggers
  consumed_ends : 0 < m →
      let at = (end_over win 0 c body).consumed * word_size c in
      (at ≤ length body) × (triggers_from c (take at body) ≡ triggers_before (keeps size) m c body)
  consumed_ends h =
      let R = (view c).reader in
      let ws = words_of (word_size c) body in
      let consumed = (end_over win 0 c body).consumed in
      let within = words-within (word_size c) (sound c).some consumed body (ended-within passed (selection_of win) R.trigger apart 0 (view c).state ws) in
      let z : m - 0 ≡ m = omega arith in
      let alike : (k : ℕ) (s : R.State) (w : ℕ) → R.Bounded (suc k) s → All (λ e. keeps size e ≡ passed.inside e) (R.machine.emit s w) =
      λ k s w i. rw ((sound c).emits s w) (agree size (R.vector s w) ((sound c).narrow (suc k) s w i)) in (
        within,
        ap (emits (emitting R.machine R.trigger) (view c).state) (words_taken (word_size c) (sound c).some consumed body within)
            ∙ sym (rw z at (before-ended passed (selection_of win) R.trigger apart 0 (view c).state ws h
            (calm win c body (omega arith) (able_bounded c (length body) b))))
            ∙ sym (before_alike R.machine R.trigger (keeps size) passed.inside R.Bounded (sound c).steps alike m (view c).state ws
            (bounded_words c body b)),
      )

-- where the words that a pass up to the limit consumes end
module _ (size : Option SensorSize) (body : List ℕ) (short : length body ≤ 2 ^ 30) where
  abbrev pub EndsAt : Encoding → ℕ → ℕ → Type 0
  EndsAt e n at = (at ≤ length body) × (triggers_from (fresh_c e) (take at body) ≡ body_triggers e size (Some n) body)

  pub ends_none : (e : Encoding) → EndsAt e 0 0
  unfolding body_triggers
  ends_none e =
      let R = (view (fresh_c e)).reader in
      let none = words-end R.size (sound (fresh_c e)).some [] 0 (omega (arith, (sound (fresh_c e)).some)) in (
        omega arith,
        ap (emits (emitting R.machine R.trigger) (view (fresh_c e)).state) none
            ∙ sym (before_none R.machine R.trigger (keeps size) (view (fresh_c e)).state (words_of R.size body)),
      )

  pub ends_at : (e : Encoding) (n : ℕ) → 0 < n
      → EndsAt e n ((end_over (window_of size (Some n)) 0 (fresh_c e) body).consumed * word_size (fresh_c e))
  unfolding body_triggers
  ends_at e n h = consumed_ends size n (fresh_c e) body short (bounded_fresh e (length body) short) h

  pub ends-all : (e : Encoding) → (length body ≤ length body) × (triggers_from (fresh_c e) (take (length body) body) ≡ body_triggers e size None body)
  unfolding body_triggers
  ends-all e = (omega arith, ap (triggers_from (fresh_c e)) (take_all (length body) body (omega arith)))

-- ---- how many

-- a word has at most one, so columns of so many places suffice
abbrev pub most_triggers : Encoding → (bytes : ℕ) → ℕ
most_triggers e n = n / word_size (fresh_c e)

pub triggers_few : (e : Encoding) (size : Option SensorSize) (limit : Option ℕ) (body : List ℕ)
    → length (body_triggers e size limit body) ≤ most_triggers e (length body)
unfolding body_triggers
triggers_few e size None body =
    let R = (view (fresh_c e)).reader in
    let ws = words_of R.size body in
    omega (
      arith,
      emits_few (emitting R.machine R.trigger) 1 (sound (fresh_c e)).few_triggers (view (fresh_c e)).state ws,
      length-words R.size body,
    )
triggers_few e size (Some n) body =
    let R = (view (fresh_c e)).reader in
    let ws = words_of R.size body in
    omega (
      arith,
      before-most R.machine R.trigger (keeps size) (sound (fresh_c e)).few_triggers n (view (fresh_c e)).state ws,
      length-words R.size body,
    )

-- ---- what is refused where the trigger columns are too short

-- no size, and none of so many events to derive one from
abbrev pub is_sizeless : Option SensorSize → (events : ℕ) → Bool
is_sizeless None events = eqb events 0
is_sizeless (Some s) events = false

abbrev pub short_of : Option SensorSize → (events room n : ℕ) → Refusal
short_of size events room n =
    cond (is_sizeless size events) InvalidSensorSize (cond (ltb room events) (ColumnsTooShort events) (TriggerColumnsTooShort n))

-- ---- what the events' answer and the triggers come to

-- no trigger is handed over
pub no_triggers : {times₀ : List ℤ} {ids₀ values₀ : List ℕ} (gs : List Trigger) → length gs ≡ 0 → HandedTriggers gs times₀ ids₀ values₀ times₀ ids₀ values₀
no_triggers [] h = triggers_none
no_triggers (g ∷ gs) h = absurd (omega arith)

-- a body whose events, the limit applied, are es, and whose triggers are gs
abbrev pub ReadsBodyTriggers : Encoding → Option SensorSize → List Event → List Trigger → Result TriggerReading Refusal
    → (xs₀ ys₀ : List ℕ) (ts₀ : List ℤ) (ps₀ : List ℕ) (times₀ : List ℤ) (ids₀ values₀ : List ℕ)
    → (xs ys : List ℕ) (ts : List ℤ) (ps : List ℕ) (times : List ℤ) (ids values : List ℕ) → Type 0
ReadsBodyTriggers e size es gs r xs₀ ys₀ ts₀ ps₀ times₀ ids₀ values₀ =
    ReadsTriggers (with_triggers (body_outcome e size None es (shortest xs₀ ys₀ ts₀ ps₀)) gs (shortest3 times₀ ids₀ values₀)) r
    xs₀ ys₀ ts₀ ps₀ times₀ ids₀ values₀

module _ {xs₀ ys₀ : List ℕ} {ts₀ : List ℤ} {ps₀ : List ℕ} {times₀ : List ℤ} {ids₀ values₀ : List ℕ} where
  -- nothing is touched
  untouched : (q : Refusal) → ReadsTriggers (refuse q) (Err q) xs₀ ys₀ ts₀ ps₀ times₀ ids₀ values₀ xs₀ ys₀ ts₀ ps₀ times₀ ids₀ values₀
  untouched q = record { is_told = refl; is_answer = refl; columns = handed_none; triggers = triggers_none }

  pub body-short : (e : Encoding) (size : Option SensorSize) (es : List Event) (gs : List Trigger) (room n : ℕ)
      → room ≡ shortest xs₀ ys₀ ts₀ ps₀ → n ≡ length gs
      → shortest3 times₀ ids₀ values₀ < n → (r : Result TriggerReading Refusal) → r ≡ Err (short_of size (length es) room n)
      → ReadsBodyTriggers e size es gs r xs₀ ys₀ ts₀ ps₀ times₀ ids₀ values₀ xs₀ ys₀ ts₀ ps₀ times₀ ids₀ values₀
  body-short e size es gs room n is_room is_n less r is-r =
      let few : ltb (shortest3 times₀ ids₀ values₀) (length gs) ≡ true = lt-ltb _ (length gs) (rw is_n at less) in
      rw (is-r, is_room, is_n) (go size es few)
    where
      fits : (b : Bool) (events : ℕ) (g : ReadEvents) (few : ltb (shortest3 times₀ ids₀ values₀) (length gs) ≡ true)
          → with_triggers (cond b (refuse (ColumnsTooShort events)) (give g)) gs (shortest3 times₀ ids₀ values₀)
          ≡ refuse (cond b (ColumnsTooShort events) (TriggerColumnsTooShort (length gs)))
      fits true events g few = refl
      fits false events g few = rw few

      go : (size : Option SensorSize) (es : List Event) → ltb (shortest3 times₀ ids₀ values₀) (length gs) ≡ true
          → ReadsBodyTriggers e size es gs (Err (short_of size (length es) (shortest xs₀ ys₀ ts₀ ps₀) (length gs)))
          xs₀ ys₀ ts₀ ps₀ times₀ ids₀ values₀ xs₀ ys₀ ts₀ ps₀ times₀ ids₀ values₀
      go None [] few = untouched InvalidSensorSize
      go None (a ∷ es) few =
          rw (fits (ltb (shortest xs₀ ys₀ ts₀ ps₀) (length (a ∷ es))) (length (a ∷ es)) _ few, ne_eqb (length (a ∷ es)) 0 (omega arith)) (untouched _)
      go (Some s) es few = rw (fits (ltb (shortest xs₀ ys₀ ts₀ ps₀) (length es)) (length es) _ few) (untouched _)

  -- the events were refused or read
  module _ {xs ys : List ℕ} {ts : List ℤ} {ps : List ℕ} (o : Outcome ReadEvents) (gs : List Trigger) where
    pub body_refused : (q : Refusal) → Reads o (Err q) xs₀ ys₀ ts₀ ps₀ xs ys ts ps
        → ReadsTriggers (with_triggers o gs (shortest3 times₀ ids₀ values₀)) (Err q) xs₀ ys₀ ts₀ ps₀ times₀ ids₀ values₀ xs ys ts ps times₀ ids₀ values₀
    body_refused q = go o
      where
        go : (o : Outcome ReadEvents) → Reads o (Err q) xs₀ ys₀ ts₀ ps₀ xs ys ts ps
            → ReadsTriggers (with_triggers o gs (shortest3 times₀ ids₀ values₀)) (Err q) xs₀ ys₀ ts₀ ps₀ times₀ ids₀ values₀ xs ys ts ps times₀ ids₀ values₀
        go (refuse p) s =
            let same : q ≡ p = let e = s.is_answer in cc in
            rw same (record { is_told = refl; is_answer = refl; columns = s.columns; triggers = triggers_none })
        go (give g) s = let e = s.is_answer in let no : ◌≡◌ {A = ℕ} 0 1 = cc in absurd (omega arith)

    pub body_read : {times : List ℤ} {ids values : List ℕ} (r : reading.Reading) (n : ℕ) → Reads o (Ok r) xs₀ ys₀ ts₀ ps₀ xs ys ts ps
        → length gs ≤ shortest3 times₀ ids₀ values₀ → n ≡ length gs → HandedTriggers gs times₀ ids₀ values₀ times ids values
        → ReadsTriggers (with_triggers o gs (shortest3 times₀ ids₀ values₀)) (Ok (record { reading = r; triggers = n }))
        xs₀ ys₀ ts₀ ps₀ times₀ ids₀ values₀ xs ys ts ps times ids values
    body_read {times} {ids} {values} r n s room is_n h = go o s
      where
        go : (o : Outcome ReadEvents) → Reads o (Ok r) xs₀ ys₀ ts₀ ps₀ xs ys ts ps
            → ReadsTriggers (with_triggers o gs (shortest3 times₀ ids₀ values₀)) (Ok (record { reading = r; triggers = n }))
            xs₀ ys₀ ts₀ ps₀ times₀ ids₀ values₀ xs ys ts ps times ids values
        go (refuse q) s = let e = s.is_answer in let no : ◌≡◌ {A = ℕ} 0 1 = cc in absurd (omega arith)
        go (give g) s =
            let all : ltb (shortest3 times₀ ids₀ values₀) (length gs) ≡ false = le-ltb _ (length gs) room in
            let same : r ≡ g.reading = let e = s.is_answer in cc in
            rw (is_n, all, same) (record { is_told = refl; is_answer = refl; columns = s.columns; triggers = h })

-- ---- the two entries

raw_given : (recording : List ℕ) (o : LoadOptions) (a : Result header.Header Refusal) → a ≡ header_of recording o.sensor_size → (h : header.Header) → a ≡ Ok h
    → raw_triggers recording o ≡ body_triggers h.encoding h.sensor_size o.max_events (drop h.data_offset recording)
unfolding raw_triggers
raw_given recording o a is-header h e = rw (← is-header, e)

module _ {xs₀ ys₀ : List ℕ} {ts₀ : List ℤ} {ps₀ : List ℕ} {times₀ : List ℤ} {ids₀ values₀ : List ℕ} where
  module _ (words : List ℕ) (e : Encoding) (size : Option SensorSize) (limit : Option ℕ) where
    pub words-refused : (q : Refusal) → judged_of (length words) size ≡ Err q
        → DecodesWordsTriggers words e size limit (Err q) xs₀ ys₀ ts₀ ps₀ times₀ ids₀ values₀ xs₀ ys₀ ts₀ ps₀ times₀ ids₀ values₀
    words-refused q j = rw (words_unfit words e size limit (shortest xs₀ ys₀ ts₀ ps₀) q j) (untouched q)

    pub words_read : {r : Result TriggerReading Refusal} {xs ys : List ℕ} {ts : List ℤ} {ps : List ℕ} {times : List ℤ} {ids values : List ℕ}
        → judged_of (length words) size ≡ (Ok tt)
        → ReadsBodyTriggers e size (body_events e size limit words) (body_triggers e size limit words) r
        xs₀ ys₀ ts₀ ps₀ times₀ ids₀ values₀ xs ys ts ps times ids values
        → DecodesWordsTriggers words e size limit r xs₀ ys₀ ts₀ ps₀ times₀ ids₀ values₀ xs ys ts ps times ids values
    words_read j b = rw (words_fit words e size limit (shortest xs₀ ys₀ ts₀ ps₀) j) b

  module _ (recording : List ℕ) (o : LoadOptions) (a : Result header.Header Refusal) (is-header : a ≡ header_of recording o.sensor_size) where
    pub raw_refused : (q : Refusal) → a ≡ Err q
        → ReadsRawTriggers recording o (Err q) xs₀ ys₀ ts₀ ps₀ times₀ ids₀ values₀ xs₀ ys₀ ts₀ ps₀ times₀ ids₀ values₀
    raw_refused q e = rw (raw_unfit recording o a is-header (shortest xs₀ ys₀ ts₀ ps₀) q e) (untouched q)

    pub raw_read : (h : header.Header) → a ≡ Ok h
        → {r : Result TriggerReading Refusal} {xs ys : List ℕ} {ts : List ℤ} {ps : List ℕ} {times : List ℤ} {ids values : List ℕ}
        → let body = drop h.data_offset recording in
        ReadsBodyTriggers h.encoding h.sensor_size (body_events h.encoding h.sensor_size o.max_events body)
        (body_triggers h.encoding h.sensor_size o.max_events body) r xs₀ ys₀ ts₀ ps₀ times₀ ids₀ values₀ xs ys ts ps times ids values
        → ReadsRawTriggers recording o r xs₀ ys₀ ts₀ ps₀ times₀ ids₀ values₀ xs ys ts ps times ids values
    raw_read h e b = rw (raw_fit recording o a is-header (shortest xs₀ ys₀ ts₀ ps₀) h e, raw_given recording o a is-header h e) b

-- ---- what a limit leaves

-- a size keeps the events that reading keeps
kept-keeps : (size : Option SensorSize) (es : List Event) → kept size es ≡ sift (keeps size) es
kept-keeps None es = sym (sift-all (λ e. true) es (all_of (λ e. true ≡ true) (λ e. refl) es))
kept-keeps (Some s) es = refl

-- all where there are fewer events
pub limit_few : (e : Encoding) (size : Option SensorSize) (n : ℕ) (body : List ℕ) → length (body_events e size None body) < n
    → body_triggers e size (Some n) body ≡ body_triggers e size None body
unfolding body_triggers body_events
limit_few e size n body h =
    let R = (view (fresh_c e)).reader in
    before_few R.machine R.trigger (keeps size) n (view (fresh_c e)).state (words_of R.size body) (rw kept-keeps at h)

-- those of the words a where the next word, w, has the n-th event
nth-bytes : {S : Type 0} (size : ℕ) → 0 < size → (M : Machine S ℕ Event) (f : S → ℕ → List Trigger) (keep : Event → Bool) (n : ℕ) (s : S)
    (k : ℕ) (a w b : List ℕ) → length a ≡ k * size → length w ≡ size → length (sift keep (decode size M s a)) < n
    → n ≤ length (sift keep (decode size M s (a ++ w))) → emits_before M f keep n s (words_of size (a ++ (w ++ b))) ≡ decode size (emitting M f) s a
nth-bytes size pos M f keep n s k a w b is-a is-w less most =
    let v = value (take size w) in
    let one : words_of size w ≡ v ∷ [] = words-next size pos w 0 (omega arith) ∙ ap (λ (l : List ℕ). v ∷ l) (words-end size pos w (0 + size) (omega arith)) in
    let all : words_of size (a ++ (w ++ b)) ≡ words_of size a ++ v ∷ words_of size b =
    words_of-append size pos k a (w ++ b) is-a ∙ rw (words_of-append size pos 1 w b (omega arith), one) in
    let held = sift-append keep (decode size M s a) (decode size M (after size M s a) w) in
    let count : length (sift keep (decode size M s (a ++ w)))
    ≡ length (sift keep (decode size M s a)) + numbers_in M keep (run M s (words_of size a)) v =
    rw (decode-append size M pos s k a w is-a, held, length-append, one, append-nil) in
    rw all (before-nth M f keep n s (words_of size a) v (words_of size b) less (omega (arith, count)))

pub limit-nth : (e : Encoding) (size : Option SensorSize) (n k : ℕ) (a w b : List ℕ) → length a ≡ k * word_size (fresh_c e) → length w ≡ word_size (fresh_c e)
    → length (body_events e size None a) < n → n ≤ length (body_events e size None (a ++ w))
    → body_triggers e size (Some n) (a ++ (w ++ b)) ≡ body_triggers e size None a
unfolding body_triggers body_events
limit-nth e size n k a w b is-a is-w less most =
    let R = (view (fresh_c e)).reader in
    nth-bytes R.size (sound (fresh_c e)).some R.machine R.trigger (keeps size) n (view (fresh_c e)).state k a w b is-a is-w
    (rw kept-keeps at less) (rw kept-keeps at most)

-- none for a limit of 0
pub limit_none : (e : Encoding) (size : Option SensorSize) (body : List ℕ) → body_triggers e size (Some 0) body ≡ []
unfolding body_triggers
limit_none e size body =
    let R = (view (fresh_c e)).reader in
    before_none R.machine R.trigger (keeps size) (view (fresh_c e)).state (words_of R.size body)

-- ---- what the triggers don't change

module _ (o : Outcome ReadEvents) (gs : List Trigger) (places : ℕ) where
  -- what is read with triggers is what is read without, and has these triggers
  pub events_as_before : (g : ReadTriggers) → with_triggers o gs places ≡ give g → (o ≡ give g.read) × (g.triggers ≡ gs)
  events_as_before = go o
    where
      go : (o : Outcome ReadEvents) (g : ReadTriggers) → with_triggers o gs places ≡ give g → (o ≡ give g.read) × (g.triggers ≡ gs)
      go (refuse q) g e = never_given g q e
      go (give r) g e = last (ltb places (length gs)) e
        where
          last : (b : Bool) → cond b (refuse (TriggerColumnsTooShort (length gs))) (give (record { read = r; triggers = gs })) ≡ give g
              → (give r ≡ give g.read) × (g.triggers ≡ gs)
          last true e = never_given g _ e
          last false e = (cc, cc)

  -- what is refused without triggers is refused with them alike
  pub refused_as_before : (q : Refusal) → o ≡ refuse q → with_triggers o gs places ≡ refuse q
  refused_as_before q e = rw e

  -- and where the trigger columns suffice nothing else is
  pub read_as_before : (r : ReadEvents) → o ≡ give r → length gs ≤ places → with_triggers o gs places ≡ give (record { read = r; triggers = gs })
  read_as_before r e h = rw (e, le-ltb places (length gs) h)
