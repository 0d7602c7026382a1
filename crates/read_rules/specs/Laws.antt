-- What the parts of reading say, and that they come to what specs/Read.antt defines.
use Rattle.std.specs.Prelude.{◌≡◌, refl, Bool, true, false, cond, List, [], ◌++◌, map, ℕ, ◌+◌, ◌≤◌, ◌<◌, ◌^◌, leb, ltb, eqb, ℤ, length, take, drop}
use Rattle.std.proofs.Common.{sym, ap, ◌∙◌, arith, length-append, le-ltb, lt-ltb, ltb-false}
use Rattle.std.proofs.lemmas.List.{length-map}
use Rattle.laws_stream.specs.Mask.{top}
use Rattle.std.specs.Prelude.{Option, Some, None, Result, Ok, Err}
use Rattle.evt_types.specs.declared.SensorSize.{SensorSize}
use Rattle.read_rules.specs.declared.Reading.{Reading}
use Rattle.evt_types.specs.declared.{Encoding.Encoding}
use Rattle.evt_types.specs.declared.{Refusal.Refusal, Refusal.TheVariants.InvalidSensorSize}
use Rattle.evt_types.specs.declared.{Refusal.TheVariants.TooLong, Refusal.TheVariants.ColumnsTooShort}
use Rattle.evt_types.specs.{Columns.col_x, Columns.col_y, Event.Event}
use Rattle.evt_types.specs.{Outcome.Outcome, Outcome.refuse, Outcome.give, Outcome.on_outcome, Outcome.given-unless, Num.most_bytes}
use Rattle.evt_codec.specs.{declared.codec.Codec.Codec, Codec.fresh_c, Codec.events_from}
use Rattle.read_fill.specs.{Decode.inside_events, Laws.bounded_fresh, Laws.range_fresh, Laws.all-inside}
use Rattle.read_rules.specs.declared.{LoadOptions.LoadOptions}
use Rattle.read_capacity.specs.{Deliver.Delivers, Laws.handed_none}
use Rattle.read_window.specs.declared.Window.{Window}
use Rattle.read_select.specs.{Pass.Ready, Pass.handed_over, Uses.over-limit}
use Rattle.evt_codec.specs.Sound.{able_range}
use Rattle.header.specs.declared.Header as header
use Rattle.header.specs.Header.{has_zero, header_of}
use Rattle.read_rules.specs.Read.{kept, body_events, shortest, Handed, body_outcome, words_check, words_outcome, raw_outcome}
use Rattle.read_rules.specs.Read.{Reads, DecodesWords, ReadsRaw}

abbrev pub sensor_of : Option SensorSize → SensorSize
sensor_of None = record { width = 65536; height = 65536 }
sensor_of (Some s) = s

abbrev pub sensor_events : (width height : ℕ) → Encoding → List ℕ → List Event
sensor_events width height e body = inside_events width height (fresh_c e) body

-- ---- the first n events, as a window

abbrev pub limit_window : (width height n : ℕ) → Window
limit_window width height n = record { width = width; height = height; n0 = 0; n1 = n; t0 = 0; t1 = 18446744073709551615 }

pub ready_fresh : (e : Encoding) (n : ℕ) → n ≤ 2 ^ 30 → Ready (fresh_c e) 0 n
ready_fresh e n h = record { able = able_range (fresh_c e) n (range_fresh e) h; long = h; low = omega arith }

pub handed-limit : (width height n : ℕ) (e : Encoding) (body : List ℕ) → length body ≤ 2 ^ 30
    → handed_over (limit_window width height n) 0 (fresh_c e) body ≡ take n (sensor_events width height e body)
handed-limit width height n e body h =
    over-limit (limit_window width height n) (fresh_c e) body (ready_fresh e (length body) h).able refl (omega arith) refl

-- ---- the events of a body

-- with a size or without
pub kept-inside : (size : Option SensorSize) (e : Encoding) (body : List ℕ) → length body ≤ 2 ^ 30
    → kept size (events_from (fresh_c e) body) ≡ sensor_events (sensor_of size).width (sensor_of size).height e body
kept-inside None e body h = sym (all-inside (fresh_c e) body (bounded_fresh e (length body) h))
kept-inside (Some s) e body h = refl

pub body-all : (size : Option SensorSize) (e : Encoding) (body : List ℕ) → length body ≤ 2 ^ 30
    → body_events e size None body ≡ sensor_events (sensor_of size).width (sensor_of size).height e body
unfolding body_events
body-all size e body h = kept-inside size e body h

-- as many as may have a number: more than there are, where there is no limit
abbrev pub most_of : Option ℕ → ℕ
most_of None = 18446744073709551615
most_of (Some n) = n

abbrev pub window_of : Option SensorSize → Option ℕ → Window
window_of size limit = limit_window (sensor_of size).width (sensor_of size).height (most_of limit)

pub window_parts : (size : Option SensorSize) (limit : Option ℕ) (span : SensorSize) (most : ℕ) → span ≡ sensor_of size → most ≡ most_of limit
    → limit_window span.width span.height most ≡ window_of size limit
window_parts size limit span most s m = rw (s, m)

-- ---- the size

-- the caller's, or derived from n events; none is no size
abbrev pub size_of : Option SensorSize → ℕ → List ℕ → List ℕ → Result SensorSize Refusal
size_of (Some s) n xs ys = Ok s
size_of None n xs ys = cond (eqb n 0) (Err InvalidSensorSize) (Ok (record { width = top (take n xs) + 1; height = top (take n ys) + 1 }))

abbrev pub sized_as : Encoding → ℕ → Result SensorSize Refusal → Result Reading Refusal
sized_as e n (Ok s) = Ok (record { encoding = e; width = s.width; height = s.height; count = n })
sized_as e n (Err q) = Err q

abbrev pub sized_of_lem : Encoding → Option SensorSize → ℕ → List ℕ → List ℕ → Result Reading Refusal
sized_of_lem e size n xs ys = sized_as e n (size_of size n xs ys)

-- what was written is there
abbrev pub Holds : Result ℕ ℕ → ℕ → ℕ → Type 0
Holds (Ok n) xs ys = (n ≤ xs) × (n ≤ ys)
Holds (Err n) xs ys = Unit

abbrev pub settled_of : Encoding → Option SensorSize → Result ℕ ℕ → List ℕ → List ℕ → Result Reading Refusal
settled_of e size (Ok n) xs ys = sized_of_lem e size n xs ys
settled_of e size (Err n) xs ys = Err (ColumnsTooShort n)

abbrev pub judged_by : Outcome Unit → Result (Unit {0}) Refusal
judged_by = on_outcome Err (λ u. Ok tt)

abbrev pub judged_of : (n : ℕ) → Option SensorSize → Result (Unit {0}) Refusal
judged_of n size = judged_by (words_check n size)

judged-given : (k : Outcome Unit) → judged_by k ≡ Ok tt → k ≡ give tt
judged-given (refuse r) e = let no : ◌≡◌ {A = ℕ} 0 1 = cc in absurd (omega arith)
judged-given (give u) e = refl

judged-refused : (k : Outcome Unit) (r : Refusal) → judged_by k ≡ Err r → k ≡ refuse r
judged-refused (refuse q) r e = cc
judged-refused (give u) r e = let no : ◌≡◌ {A = ℕ} 0 1 = cc in absurd (omega arith)

module _ (n : ℕ) (size : Option SensorSize) where
  pub judged_long : most_bytes < n → Err TooLong ≡ judged_of n size
  judged_long h = rw (lt-ltb most_bytes n h)

  pub judged-zero : n ≤ most_bytes → has_zero size ≡ true → Err InvalidSensorSize ≡ judged_of n size
  judged-zero h z = rw (le-ltb most_bytes n h, z)

  pub judged_fit : n ≤ most_bytes → has_zero size ≡ false → Ok tt ≡ judged_of n size
  judged_fit h z = rw (le-ltb most_bytes n h, z)

  pub fit_judged : judged_of n size ≡ Ok tt → n ≤ most_bytes
  fit_judged j = ltb-false most_bytes n (given-unless tt (ltb most_bytes n) _ _ (judged-given (words_check n size) j)).0

module _ (size : Option SensorSize) (e : Encoding) (limit : Option ℕ) (codec : Codec) (is-fresh : codec ≡ fresh_c e) where
  pub ready_new : (n : ℕ) → n ≤ 2 ^ 30 → Ready codec 0 n
  ready_new n h = rw is-fresh (ready_fresh e n h)

-- ---- what was delivered comes to the answer

length-handed : {E A : Type 0} (f : E → A) (es : List E) (old now : List A) → now ≡ map f es ++ drop (length es) old → length es ≤ length now
length-handed f es old now e = omega (arith, ap length e ∙ length-append (map f es) (drop (length es) old), length-map es f)

module _ {xs₀ ys₀ : List ℕ} {ts₀ : List ℤ} {ps₀ xs ys : List ℕ} {ts : List ℤ} {ps : List ℕ} (es : List Event) (r : Result ℕ ℕ)
    (d : Delivers es r xs₀ ys₀ ts₀ ps₀ xs ys ts ps) where
  abbrev pub room : ℕ
  room = shortest xs₀ ys₀ ts₀ ps₀

  pub holds_delivered : Holds r (length xs) (length ys)
  holds_delivered = rw d.answer (go (leb (length es) room) d.columns)
    where
      go : (b : Bool) → Handed (cond b es []) xs₀ ys₀ ts₀ ps₀ xs ys ts ps → Holds (cond b (Ok (length es)) (Err (length es))) (length xs) (length ys)
      go true h = (length-handed col_x es xs₀ xs h.column-x, length-handed col_y es ys₀ ys h.column-y)
      go false h = tt

-- ---- the two entries

module _ (words : List ℕ) (e : Encoding) (size : Option SensorSize) (limit : Option ℕ) (room : ℕ) where
  -- what the words come to, once they are judged
  pub words_fit : judged_of (length words) size ≡ Ok tt
      → words_outcome words e size limit room ≡ body_outcome e size None (body_events e size limit words) room
  unfolding words_outcome body_events
  words_fit j = rw (judged-given (words_check (length words) size) j)

  pub words_unfit : (q : Refusal) → judged_of (length words) size ≡ Err q → words_outcome words e size limit room ≡ refuse q
  unfolding words_outcome
  words_unfit q j = rw (judged-refused (words_check (length words) size) q j)

module _ (recording : List ℕ) (o : LoadOptions) (a : Result header.Header Refusal) (is-header : a ≡ header_of recording o.sensor_size) (room : ℕ) where
  -- what a recording comes to, by its header
  pub raw_unfit : (q : Refusal) → a ≡ Err q → raw_outcome recording o room ≡ refuse q
  unfolding raw_outcome
  raw_unfit q e = rw (← is-header, e)

  pub raw_fit : (h : header.Header) → a ≡ Ok h
      → let es = body_events h.encoding h.sensor_size o.max_events (drop h.data_offset recording) in
      raw_outcome recording o room ≡ body_outcome h.encoding h.sensor_size None es room
  unfolding raw_outcome body_events
  raw_fit h e = rw (← is-header, e)

module _ {xs₀ ys₀ : List ℕ} {ts₀ : List ℤ} {ps₀ : List ℕ} where
  reads_refused : (q : Refusal) → Reads (refuse q) (Err q) xs₀ ys₀ ts₀ ps₀ xs₀ ys₀ ts₀ ps₀
  reads_refused q = record { is_told = refl; is_answer = refl; columns = handed_none }

  module _ (words : List ℕ) (e : Encoding) (size : Option SensorSize) (limit : Option ℕ) where
    pub words-refused : (q : Refusal) → judged_of (length words) size ≡ Err q → DecodesWords words e size limit (Err q) xs₀ ys₀ ts₀ ps₀ xs₀ ys₀ ts₀ ps₀
    words-refused q j = rw (words_unfit words e size limit (shortest xs₀ ys₀ ts₀ ps₀) q j) (reads_refused q)

  module _ (recording : List ℕ) (o : LoadOptions) (a : Result header.Header Refusal) (is-header : a ≡ header_of recording o.sensor_size) where
    pub raw_refused : (q : Refusal) → a ≡ Err q → ReadsRaw recording o (Err q) xs₀ ys₀ ts₀ ps₀ xs₀ ys₀ ts₀ ps₀
    raw_refused q e = rw (raw_unfit recording o a is-header (shortest xs₀ ys₀ ts₀ ps₀) q e) (reads_refused q)
