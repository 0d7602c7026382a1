-- DEMAND 3, stated once, of the definitions that the contracts of `append`, `decode_words`, `open_words`, `slice_index` and `slice_time` cite.
-- `DemandThree` speaks of lists of appends (proofs/DemandThree.antt proves it), `DemandThreeRan`, at the end, of calls that ran, `DemandThreeByValue` of those of
-- `index_fixed` (proofs/Called.antt proves both), `SecondListExists` of the list that resumes (proofs/Others.antt).
--
--   a list of appends, each given the writer that the last one returned    `Call`, `next`; as they ran: `Ran`, `Chained`
--   a fresh writer that sends no header                                    `fresh`
--   accepted exactly if the table gives it no number                       `is_accepted`
--   the accepted events, numbered from 0                                   `accepted_events`
--   the stream                                                             `stream_of`; as it was written: `all_written`
--   the event word of each accepted event                                  `stream_words`, `Typed`, `GivenAt`
--   a cut; whole before it                                                 `before_cut`, `whole_before_lem`
--   the resuming writer, by decoding what is left                          `left`, `decoder_left`, `resuming`; as it ran: `ResumedBy`
--   the joined stream                                                      `joined`; of calls that ran: `joined_ran`
--   decoding: reading in the writer's encoding, no header and no limit     `as_words`, `read_by`
--   decoding what came before gives exactly the whole events               `DemandThreeRan`: `of_cut`, `decoded`
--   the joined stream decodes to all                                       `DemandThreeRan`: `of_joined`
--   so it does with a fresh second writer, where no loop was counted,
--   as where all accepted events are of the first loop                     `of_joined-fresh`, `of_joined-first`, `InFirstLoop`
--   a second list always exists                                            `SecondListExists`, `singles`
--   slices by number and time, exact at every allowed spacing              `opened`, `by_number`, `by_time_lem` of `ReadBack`
--   by an index whose records are lent, or held by value in any room       `lent`, `by_value`; the latter in full: `DemandThreeByValue`
--   the count and all four columns up to it; by every two indexes alike    `HoldsEvents`, `Alike`, `alike_number`, `alike_time`
--
-- The definitions are those of specs/Headed.antt too, which says the same of streams behind a written header: what stands before the words is a `Front`, here
-- `bare`, nothing.
use Rattle.std.specs.Prelude.{◌≡◌, Bool, true, false, cond, ◌||◌, List, [], ◌∷◌, ◌++◌, map, ℕ, ◌+◌, ◌-◌, ◌*◌, ◌/◌, ◌^◌, ◌≤◌, ◌<◌}
use Rattle.std.specs.Prelude.{min, max, leb, eqb, ℤ, pos, length, take, drop, replicate}
use Rattle.std.proofs.Common.{arith}
use Rattle.std.proofs.lemmas.List.{length-replicate}
use Rattle.laws_stream.specs.{Machine.Machine, Machine.Note, Machine.All, Machine.words, Machine.notes, Slice.sift, Words.stream}
use Rattle.std.specs.Prelude.{Option, Some, None, Result, Ok, Err}
use Rattle.evt_types.specs.declared.SensorSize.{SensorSize}
use Rattle.evt_types.specs.declared.Refusal.{Refusal}
use Rattle.evt_types.specs.{Event.Event, Outcome.Outcome, Outcome.give, Layout.type2, Layout.type21, Layout.type3}
use Rattle.evt_codec.specs.{declared.codec.Codec.Codec, Reader.reader_of, Codec.fresh_c, Codec.encoding_of, Codec.started_c, Codec.coarse_c, Codec.loops_c}
use Rattle.evt_codec.specs.Codec.{codec_after}
use Rattle.evt_types.specs.declared.{Encoding.Encoding, Encoding.TheVariants.Evt2, Encoding.TheVariants.Evt21, Encoding.TheVariants.Evt3}
use Rattle.write_buffer.specs.Columns.{events_in}
use Rattle.write_words.specs.Encode.{encode_notes, encode_size, encode_most}
use Rattle.write_rules.specs.{declared.RawEventSink.RawEventSink, Rules.fresh_sink, Rules.resumed_sink}
use Rattle.laws_formats.specs.Either.{first_loop}
use Rattle.write_resume.specs.{declared.Resumed.Resumed, Resume.resume_outcome, Resume.resume_words_outcome, Resume.resume_raw_outcome}
use Rattle.write_resume.specs.Resume.{raw_encoding, Resumes}
use Rattle.write_append.specs.declared.{Appended.Appended}
use Rattle.write_append.specs.Append.{AppendedBytes, append_outcome, accepts, handed_over, sink_after, AppendOwed}
use Rattle.write_header.specs.Header.{header_text}
use Rattle.read_rules.specs.declared.{Reading.Reading}
use Rattle.header.specs.Header.{has_zero}
use Rattle.read_rules.specs.Read as Outcomes
use Rattle.read_rules.specs.Read.{ReadEvents, words_outcome, raw_outcome, Handed, shortest, kept, width_of, height_of, sizeless}
use Rattle.index_build.specs.declared.{Checkpoint.Checkpoint, Opening.Opening}
use Rattle.index_build.specs.{declared.RawSliceSource.RawSliceSource, declared.WordsOptions.WordsOptions, Nth.blank as blank_record}
use Rattle.index_build.specs.Index.{Body, Opens, open_words_outcome, open_raw_outcome, record_count, source_of, spacing_ok}
use Rattle.slice_rules.specs.Slice.{SlicesIndex, SlicesTime, is_during}

-- ---- lists of appends

-- an append: the size that it names, its columns, and the length of its output
pub record Call : Type 0 where
  pub width : ℕ
  pub height : ℕ
  pub xs : List ℕ
  pub ys : List ℕ
  pub ts : List ℤ
  pub ps : List ℕ
  pub room : ℕ

module _ (s : RawEventSink) (c : Call) where
  abbrev pub call_outcome : Outcome AppendedBytes
  call_outcome = append_outcome s c.width c.height c.xs c.ys c.ts c.ps c.room

  -- accepted exactly if the table gives it no number
  abbrev pub is_accepted : Bool
  is_accepted = accepts call_outcome

  -- the writer that it returns: a refused one returns it as it was
  abbrev pub next : RawEventSink
  next = sink_after s call_outcome

  -- the bytes that it hands over: none if refused
  abbrev pub call_bytes : List ℕ
  call_bytes = handed_over call_outcome

  -- the events of its columns, if accepted
  abbrev pub call_events : List Event
  call_events = cond is_accepted (events_in c.xs c.ys c.ts c.ps) []

  -- its words, each with the events whose event word it is, if accepted
  abbrev pub call_words : List (Note ℕ Event)
  call_words = cond is_accepted (encode_notes s.version s.state (events_in c.xs c.ys c.ts c.ps)) []

-- of a list, each append given the writer that the last one returned
abbrev pub accepted_events : RawEventSink → List Call → List Event
accepted_events s [] = []
accepted_events s (c ∷ cs) = call_events s c ++ accepted_events (next s c) cs

abbrev pub stream_of : RawEventSink → List Call → List ℕ
stream_of s [] = []
stream_of s (c ∷ cs) = call_bytes s c ++ stream_of (next s c) cs

abbrev pub stream_words : RawEventSink → List Call → List (Note ℕ Event)
stream_words s [] = []
stream_words s (c ∷ cs) = call_words s c ++ stream_words (next s c) cs

-- a fresh writer that sends no header
abbrev pub fresh : Encoding → RawEventSink
fresh e = fresh_sink e false

-- the writer that resumes behind a decoder
abbrev pub resumed_from : Codec → RawEventSink
resumed_from c = resumed_sink (encoding_of c) (started_c c) (coarse_c c)

-- all of the encoding's first loop, below 2 ^ 24 in EVT3: in EVT2 and in EVT 2.1 every event that is accepted
abbrev pub InFirstLoop : Encoding → List Event → Type 0
InFirstLoop e es = All (λ a. a.t < first_loop e) es

-- ---- what stands before the words

-- nothing, or a header that names the encoding and a size
pub data Front : Type 0 where
  bare : Front
  headed : (width height : ℕ) → Front

abbrev pub front_bytes : Encoding → Front → List ℕ
front_bytes e bare = []
front_bytes e (headed w h) = header_text e w h

-- the byte at which the words begin
abbrev pub start_of : Encoding → Front → ℕ
start_of e f = length (front_bytes e f)

-- ---- the words

-- an event word is of type 0 or 1 in EVT2 and in EVT 2.1, of type 2 or 4 in EVT3
abbrev pub is_event_word : Encoding → ℕ → Bool
is_event_word Evt2 w = leb (type2 w) 1
is_event_word Evt21 w = leb (type21 w) 1
is_event_word Evt3 w = eqb (type3 w) 2 || eqb (type3 w) 4

-- and no other word carries events
abbrev pub Typed : Encoding → Note ℕ Event → Type 0
Typed e w = 0 < length w.events → is_event_word e w.word ≡ true

-- each word's events are those that a decoder gives at it, having read the words before: of a type 4 word of EVT3 (VECT_12), and of an event word of EVT 2.1,
-- the events of its set bits
abbrev pub IsGivenAlong : {S : Type 0} → Machine S ℕ Event → S → List (Note ℕ Event) → Type 0
IsGivenAlong M d [] = Unit
IsGivenAlong M d (w ∷ ws) = (M.emit d w.word ≡ w.events) × IsGivenAlong M (M.step d w.word) ws

abbrev pub GivenAt : Encoding → List (Note ℕ Event) → Type 0
GivenAt e ws = IsGivenAlong (reader_of e).machine (reader_of e).fresh ws

-- ---- the cut, and the joined stream

-- the events whose event word is whole before the cut, its last byte among those that stand: the next word begins at byte `at`
abbrev pub whole_before_lem : (size cut at : ℕ) → List (Note ℕ Event) → List Event
whole_before_lem size cut at [] = []
whole_before_lem size cut at (w ∷ ws) = cond (leb (at + size) cut) w.events [] ++ whole_before_lem size cut (at + size) ws

-- and the others
abbrev pub broken_after : (size cut at : ℕ) → List (Note ℕ Event) → List Event
broken_after size cut at [] = []
broken_after size cut at (w ∷ ws) = cond (leb (at + size) cut) [] w.events ++ broken_after size cut (at + size) ws

-- where the last word that is whole before the cut ends, of words that begin at byte `at`
abbrev pub whole_end : (size cut at : ℕ) → ℕ
whole_end size cut at = at + (cut - at) / size * size

-- of a stream behind a front, given by its bytes, or by its words each with the events whose event word it is
module _ (e : Encoding) (f : Front) (cut : ℕ) where
  -- what stands
  abbrev pub before_cut : List ℕ → List ℕ
  before_cut bytes = take cut bytes

  abbrev pub whole : List (Note ℕ Event) → List Event
  whole ws = whole_before_lem (encode_size e) cut (start_of e f) ws

  abbrev pub others : List (Note ℕ Event) → List Event
  others ws = broken_after (encode_size e) cut (start_of e f) ws

  -- what stands less a broken last word
  abbrev pub unbroken : List ℕ → List ℕ
  unbroken bytes = take (whole_end (encode_size e) cut (start_of e f)) (before_cut bytes)

  -- then the stream of a second list, run in the same way by a second writer
  abbrev pub joined : List ℕ → RawEventSink → (second : List Call) → List ℕ
  joined bytes s second = unbroken bytes ++ stream_of s second

  -- the resuming writer takes loop and coarse time from decoding what is left: from a decoder that isn't started it is a fresh one
  abbrev pub left : List ℕ → List ℕ
  left bytes = drop (start_of e f) (before_cut bytes)

  abbrev pub decoder_left : List ℕ → Codec
  decoder_left bytes = codec_after (fresh_c e) (left bytes)

  abbrev pub resuming : List ℕ → RawEventSink
  resuming bytes = resumed_from (decoder_left bytes)

-- ---- what is read of some bytes is exactly `es`

-- a size that keeps them all: no zero, and some event where the size comes from the events (the table's 1 otherwise)
pub record Suits (size : Option SensorSize) (es : List Event) : Type 0 where
  pub no_zero : has_zero size ≡ false
  pub is_sized : sizeless size es ≡ false
  pub keeps : kept size es ≡ es

-- the size of all that can be appended
abbrev pub widest : Option SensorSize
widest = Some (record { width = 2048; height = 2048 })

-- the columns are handed the events `part`, and a slice is accepted with their count
pub record Gives (part : List Event) (r : Result ℕ Refusal) (xs₀ ys₀ : List ℕ) (ts₀ : List ℤ) (ps₀ xs ys : List ℕ) (ts : List ℤ) (ps : List ℕ) : Type 0 where
  pub count : r ≡ Ok (length part)
  pub columns : Handed part xs₀ ys₀ ts₀ ps₀ xs ys ts ps

-- by number: from the clamped start to before the clamped end
abbrev pub numbered : List Event → (i0 i1 : ℕ) → List Event
numbered es i0 i1 =
    let start = min i0 (length es) in
    let end = max start (min i1 (length es)) in
    take (end - start) (drop start es)

-- by time: t0 ≤ t < t1
abbrev pub during_times : List Event → (t0 t1 : ℤ) → List Event
during_times es t0 t1 = sift (is_during t0 t1) es

-- slices of some bytes by an index, where the columns suffice
module _ (bytes : List ℕ) (es : List Event) (source : RawSliceSource) (records : List Checkpoint) where
  abbrev pub ByNumber : Type 0
  ByNumber = (i0 i1 : ℕ) (r : Result ℕ Refusal) (xs₀ ys₀ : List ℕ) (ts₀ : List ℤ) (ps₀ xs ys : List ℕ) (ts : List ℤ) (ps : List ℕ)
      → SlicesIndex bytes source records i0 i1 r xs₀ ys₀ ts₀ ps₀ xs ys ts ps → length (numbered es i0 i1) ≤ shortest xs₀ ys₀ ts₀ ps₀
      → Gives (numbered es i0 i1) r xs₀ ys₀ ts₀ ps₀ xs ys ts ps

  abbrev pub ByTime : Type 0
  ByTime = (t0 t1 : ℤ) (r : Result ℕ Refusal) (xs₀ ys₀ : List ℕ) (ts₀ : List ℤ) (ps₀ xs ys : List ℕ) (ts : List ℤ) (ps : List ℕ)
      → SlicesTime bytes source records t0 t1 r xs₀ ys₀ ts₀ ps₀ xs ys ts ps → length (during_times es t0 t1) ≤ shortest xs₀ ys₀ ts₀ ps₀
      → Gives (during_times es t0 t1) r xs₀ ys₀ ts₀ ps₀ xs ys ts ps

abbrev pub options_of : Encoding → Option SensorSize → (spacing : ℕ) → WordsOptions
options_of e size spacing = record { encoding = e; sensor_size = size; spacing = spacing }

-- how some bytes are read: as words, by an encoding and a size that the caller gives; or as a recording, by its header, which names these
pub data Way : Type 0 where
  as_words : Encoding → Option SensorSize → Way
  as_recording : Encoding → (width height : ℕ) → Way

abbrev pub encoding_by : Way → Encoding
encoding_by (as_words e size) = e
encoding_by (as_recording e w h) = e

abbrev pub size_by : Way → Option SensorSize
size_by (as_words e size) = size
size_by (as_recording e w h) = Some (record { width = w; height = h })

-- where the words begin
abbrev pub start_by : Way → ℕ
start_by (as_words e size) = 0
start_by (as_recording e w h) = length (header_text e w h)

-- by `decode_words` or by `read_raw`, with no limit
abbrev pub read_by : Way → List ℕ → (room : ℕ) → Outcome ReadEvents
read_by (as_words e size) bytes = words_outcome bytes e size None
read_by (as_recording e w h) bytes = raw_outcome bytes (record { sensor_size = None; max_events = None })

-- by `open_words` or by `open`
abbrev pub open_by_lem : Way → List ℕ → (spacing room : ℕ) → Outcome Body
open_by_lem (as_words e size) bytes spacing = open_words_outcome bytes (options_of e size spacing)
open_by_lem (as_recording e w h) bytes spacing = open_raw_outcome bytes (record { sensor_size = None; spacing = spacing })

module _ (way : Way) (bytes : List ℕ) (es : List Event) where
  abbrev pub reading_as : Reading
  reading_as = record { encoding = encoding_by way; width = width_of (size_by way) es; height = height_of (size_by way) es; count = length es }

  -- decoding, with no limit, where the columns suffice: accepted, the count and all four columns
  abbrev pub Decodes : Type 0
  Decodes = (r : Result Reading Refusal) (xs₀ ys₀ : List ℕ) (ts₀ : List ℤ) (ps₀ xs ys : List ℕ) (ts : List ℤ) (ps : List ℕ)
      → Outcomes.Reads (read_by way bytes (shortest xs₀ ys₀ ts₀ ps₀)) r xs₀ ys₀ ts₀ ps₀ xs ys ts ps → length es ≤ shortest xs₀ ys₀ ts₀ ps₀
      → (r ≡ Ok reading_as) × Handed es xs₀ ys₀ ts₀ ps₀ xs ys ts ps

  -- how many records an index has
  abbrev pub records_by : (spacing : ℕ) → ℕ
  records_by spacing = record_count (length (drop (start_by way) bytes)) spacing

  abbrev pub opening_as : (spacing : ℕ) → Opening
  opening_as spacing = record { source = source_of (length bytes) (start_by way) (encoding_by way) (size_by way) spacing es; records = records_by spacing }

  -- opened at this spacing, and sliced by number and by time over the source told and the records made
  abbrev pub Indexed : (spacing : ℕ) → Result Opening Refusal → List Checkpoint → Type 0
  Indexed spacing r records =
      let o = opening_as spacing in
      let made = take o.records records in
      (r ≡ Ok o) × ByNumber bytes es o.source made × ByTime bytes es o.source made

  -- an index built likewise from just these bytes at any allowed spacing, into the first `room` of some records, where these suffice
  abbrev pub Indexes : Type 0
  Indexes = (spacing : ℕ) → spacing_ok (encoding_by way) spacing ≡ true
      → (room : ℕ) (r : Result Opening Refusal) (records₀ records : List Checkpoint) → room ≤ length records₀
      → Opens (open_by_lem way bytes spacing room) r records₀ records → records_by spacing ≤ room → Indexed spacing r records

  pub record Reads : Type 0 where
    pub decodes : Decodes
    pub indexes : Indexes

-- words are read exactly whatever size keeps the events, a recording where its header's size does
abbrev pub ReadBehind : Encoding → Front → List ℕ → List Event → Type 0
ReadBehind e bare bytes es = (size : Option SensorSize) → Suits size es → Reads (as_words e size) bytes es
ReadBehind e (headed w h) bytes es = w < 2 ^ 64 → h < 2 ^ 64 → Suits (Some (record { width = w; height = h })) es → Reads (as_recording e w h) bytes es

-- within the table's 4
abbrev pub Exact : Encoding → Front → List ℕ → List Event → Type 0
Exact e f bytes es = length bytes ≤ 2 ^ 30 → ReadBehind e f bytes es

-- ---- the claim

-- of a stream of these bytes and words that carries es, behind a front, and a cut at its end or behind it
pub record Claim (e : Encoding) (f : Front) (bytes : List ℕ) (ws : List (Note ℕ Event)) (es : List Event) (cut : ℕ) : Type 0 where
  -- the bytes are those of the front and the words; each event stands in one word, its event word, and that is whole before the cut or not
  pub worded : bytes ≡ front_bytes e f ++ stream (encode_size e) (words ws)
  pub noted : notes ws ≡ es
  pub typed : All (Typed e) ws
  pub given : GivenAt e ws
  pub parted : whole e f cut ws ++ others e f cut ws ≡ es
  -- 2048 by 2048 keeps all
  pub whole_suits : Suits widest (whole e f cut ws)
  pub all_suits : Suits widest es
  -- what stands decodes, and is sliced, as the events that are whole
  pub of_cut : Exact e f (before_cut e f cut bytes) (whole e f cut ws)
  -- the decoder after what is left can be resumed from
  pub resumes : length (left e f cut bytes) ≤ 2 ^ 30 → resume_outcome (decoder_left e f cut bytes) ≡ give (resuming e f cut bytes)
  -- and the joined stream decodes as all events, where the second list's accepted events are the others: by the resuming writer,
  pub of_joined : (second : List Call) → accepted_events (resuming e f cut bytes) second ≡ others e f cut ws
      → Exact e f (joined e f cut bytes (resuming e f cut bytes) second) es
  -- and by a fresh one that sends no header, if what is left has counted no loop, or all events are of the first
  pub of_joined-fresh : loops_c (decoder_left e f cut bytes) ≡ 0 → (second : List Call) → accepted_events (fresh e) second ≡ others e f cut ws
      → Exact e f (joined e f cut bytes (fresh e) second) es
  pub of_joined-first : InFirstLoop e es → (second : List Call) → accepted_events (fresh e) second ≡ others e f cut ws
      → Exact e f (joined e f cut bytes (fresh e) second) es

-- for each encoding, every list and every cut
abbrev pub DemandThree : Type 0
DemandThree = (e : Encoding) (calls : List Call) (cut : ℕ) → cut ≤ length (stream_of (fresh e) calls)
    → Claim e bare (stream_of (fresh e) calls) (stream_words (fresh e) calls) (accepted_events (fresh e) calls) cut

-- ---- a second list always exists: the others one by one, each with an output of the most bytes of an event

abbrev pub single : Encoding → Event → Call
single e a = record { width = 2048; height = 2048; xs = a.x ∷ []; ys = a.y ∷ []; ts = pos a.t ∷ []; ps = a.p ∷ []; room = encode_most e 1 1023 }

abbrev pub singles : Encoding → List Event → List Call
singles e es = map (single e) es

module _ (e : Encoding) (f : Front) (s : RawEventSink) (calls : List Call) (cut : ℕ) where
  abbrev pub others_of : List Event
  others_of = others e f cut (stream_words s calls)

  -- by a second writer
  pub record Resumable (second : RawEventSink) : Type 0 where
    -- all are accepted, up to the count that rule 10 allows a writer: more are never left where demand 3 speaks, of streams of at most 2 ^ 30 bytes
    pub accepted : length others_of ≤ 2 ^ 62 → accepted_events second (singles e others_of) ≡ others_of
    -- so what is joined is read as all events; here no count is asked, since each append writes a byte at least, and `Exact` is of at most 2 ^ 30
    pub exact : Exact e f (joined e f cut (stream_of s calls) second (singles e others_of)) (accepted_events s calls)

  -- by the resuming writer; by a fresh one where all events are of the first loop
  pub record Resumables : Type 0 where
    pub resumed : Resumable (resuming e f cut (stream_of s calls))
    pub first : InFirstLoop e (accepted_events s calls) → Resumable (fresh e)

abbrev pub SecondListExists : Type 0
SecondListExists = (e : Encoding) (calls : List Call) (cut : ℕ) → Resumables e bare (fresh e) calls cut

-- ---- THE SAME OF CALLS THAT RAN, at a sensor of 2048 by 2048: by the contracts of `append`, `resume_words`, `decode_words`, `open_words`, `slice_index` and
-- `slice_time` alone

-- an append that ran: its call, the output that it was lent, what it returned, and the output that it left
pub record Ran : Type 0 where
  pub call : Call
  pub out₀ : List ℕ
  pub is_room : call.room ≡ length out₀
  pub result : Appended
  pub out : List ℕ

-- each met its contract, and was given the writer that the last one returned
abbrev pub Chained : RawEventSink → List Ran → Type 0
Chained s [] = Unit
Chained s (a ∷ ran) =
    let c = a.call in
    AppendOwed s c.width c.height c.xs c.ys c.ts c.ps a.out₀ a.result a.out × Chained a.result.sink ran

abbrev pub calls_of : List Ran → List Call
calls_of ran = map (λ a. a.call) ran

-- the bytes that an append told to have written
abbrev pub bytes_told : Result ℕ Refusal → ℕ
bytes_told (Ok n) = n
bytes_told (Err r) = 0

abbrev pub all_written : List Ran → List ℕ
all_written [] = []
all_written (a ∷ ran) = take (bytes_told a.result.answer) a.out ++ all_written ran

-- four columns, as they are lent or left
pub record Columns : Type 0 where
  pub xs : List ℕ
  pub ys : List ℕ
  pub ts : List ℤ
  pub ps : List ℕ

abbrev pub room : Columns → ℕ
room c = shortest c.xs c.ys c.ts c.ps

-- columns that were c₀ now hold es in front, and behind them what was there
abbrev pub HoldsEvents : List Event → (c₀ c : Columns) → Type 0
HoldsEvents es c₀ c = Handed es c₀.xs c₀.ys c₀.ts c₀.ps c.xs c.ys c.ts c.ps

-- an index that was built from just these bytes, at an allowed spacing, into the first `room` of some records, and these suffice
pub record Index (way : Way) (bytes : List ℕ) : Type 0 where
  pub spacing : ℕ
  pub allowed : spacing_ok (encoding_by way) spacing ≡ true
  pub room : ℕ
  pub answer : Result Opening Refusal
  pub records₀ : List Checkpoint
  pub records : List Checkpoint
  pub within : room ≤ length records₀
  pub ran : Opens (open_by_lem way bytes spacing room) answer records₀ records
  pub enough : record_count (length (drop (start_by way) bytes)) spacing ≤ room

-- what `index_fixed::open_words` and `open` promise, whatever room is named: 64 records are held, blank before
abbrev pub OpensByValue : Way → List ℕ → (spacing room : ℕ) → Result Opening Refusal → List Checkpoint → Type 0
OpensByValue way bytes spacing room r records = Opens (open_by_lem way bytes spacing (min room 64)) r (replicate 64 blank_record) records

module _ {way : Way} {bytes : List ℕ} (spacing : ℕ) (allowed : spacing_ok (encoding_by way) spacing ≡ true) (answer : Result Opening Refusal) where
  -- such an index is one whose records were lent, all of them
  abbrev pub lent : (records₀ records : List Checkpoint) → Opens (open_by_lem way bytes spacing (length records₀)) answer records₀ records
      → record_count (length (drop (start_by way) bytes)) spacing ≤ length records₀ → Index way bytes
  lent records₀ records ran enough = record {
    spacing = spacing;
    allowed = allowed;
    room = length records₀;
    answer = answer;
    records₀ = records₀;
    records = records;
    within = omega arith;
    ran = ran;
    enough = enough;
  }

  -- and one that holds them by value
  abbrev pub by_value : (room : ℕ) (records : List Checkpoint) → OpensByValue way bytes spacing room answer records
      → record_count (length (drop (start_by way) bytes)) spacing ≤ min room 64 → Index way bytes
  by_value room records ran enough = record {
    spacing = spacing;
    allowed = allowed;
    room = min room 64;
    answer = answer;
    records₀ = replicate 64 blank_record;
    records = records;
    within = rw (length-replicate 64 blank_record) (omega arith);
    ran = ran;
    enough = enough;
  }

module _ {way : Way} {bytes : List ℕ} (x : Index way bytes) (o : Opening) where
  -- slices that ran, by the source that opening told and as many records as it told
  abbrev pub NumberRan : (i0 i1 : ℕ) → Result ℕ Refusal → (c₀ c : Columns) → Type 0
  NumberRan i0 i1 r c₀ c =
      SlicesIndex bytes o.source (take o.records x.records) i0 i1 r c₀.xs c₀.ys c₀.ts c₀.ps c.xs c.ys c.ts c.ps

  abbrev pub TimeRan : (t0 t1 : ℤ) → Result ℕ Refusal → (c₀ c : Columns) → Type 0
  TimeRan t0 t1 r c₀ c =
      SlicesTime bytes o.source (take o.records x.records) t0 t1 r c₀.xs c₀.ys c₀.ts c₀.ps c.xs c.ys c.ts c.ps

-- two callers, whose columns may differ in length, get the same: the count n, and all four columns up to it
pub record Alike (n : ℕ) (r₁ r₂ : Result ℕ Refusal) (c₁ c₂ : Columns) : Type 0 where
  pub first : r₁ ≡ Ok n
  pub second : r₂ ≡ Ok n
  pub same-x : take n c₁.xs ≡ take n c₂.xs
  pub same-y : take n c₁.ys ≡ take n c₂.ys
  pub same-t : take n c₁.ts ≡ take n c₂.ts
  pub same_p : take n c₁.ps ≡ take n c₂.ps

-- what calls that ran over some bytes have read: exactly es
pub record ReadBack (way : Way) (bytes : List ℕ) (es : List Event) : Type 0 where
  pub decoded : (r : Result Reading Refusal) (c₀ c : Columns)
      → Outcomes.Reads (read_by way bytes (room c₀)) r c₀.xs c₀.ys c₀.ts c₀.ps c.xs c.ys c.ts c.ps → length es ≤ room c₀
      → (r ≡ Ok (reading_as way bytes es)) × HoldsEvents es c₀ c
  pub opened : (x : Index way bytes) → x.answer ≡ Ok (opening_as way bytes es x.spacing)
  pub by_number : (x : Index way bytes) (o : Opening) → x.answer ≡ Ok o → (i0 i1 : ℕ) (r : Result ℕ Refusal) (c₀ c : Columns)
      → NumberRan x o i0 i1 r c₀ c → length (numbered es i0 i1) ≤ room c₀
      → (r ≡ Ok (length (numbered es i0 i1))) × HoldsEvents (numbered es i0 i1) c₀ c
  pub by_time_lem : (x : Index way bytes) (o : Opening) → x.answer ≡ Ok o → (t0 t1 : ℤ) (r : Result ℕ Refusal) (c₀ c : Columns)
      → TimeRan x o t0 t1 r c₀ c → length (during_times es t0 t1) ≤ room c₀
      → (r ≡ Ok (length (during_times es t0 t1))) × HoldsEvents (during_times es t0 t1) c₀ c
  -- by whatever two indexes, lent or by value and at whatever spacings, into whatever columns that suffice
  pub alike_number : (x y : Index way bytes) (o p : Opening) → x.answer ≡ Ok o → y.answer ≡ Ok p
      → (i0 i1 : ℕ) (r q : Result ℕ Refusal) (c₀ c d₀ d : Columns)
      → NumberRan x o i0 i1 r c₀ c → NumberRan y p i0 i1 q d₀ d → length (numbered es i0 i1) ≤ room c₀ → length (numbered es i0 i1) ≤ room d₀
      → Alike (length (numbered es i0 i1)) r q c d
  pub alike_time : (x y : Index way bytes) (o p : Opening) → x.answer ≡ Ok o → y.answer ≡ Ok p
      → (t0 t1 : ℤ) (r q : Result ℕ Refusal) (c₀ c d₀ d : Columns)
      → TimeRan x o t0 t1 r c₀ c → TimeRan y p t0 t1 q d₀ d → length (during_times es t0 t1) ≤ room c₀ → length (during_times es t0 t1) ≤ room d₀
      → Alike (length (during_times es t0 t1)) r q c d

-- a resumption that ran: by `resume_words`, or by `resume_raw` behind a header
abbrev pub ResumedBy : Encoding → Front → List ℕ → Resumed → Type 0
ResumedBy e bare bytes r = Resumes e (resume_words_outcome bytes e) r
ResumedBy e (headed w h) bytes r = Resumes (raw_encoding bytes) (resume_raw_outcome bytes) r

-- of appends that ran from a writer on, cut at byte `cut` of what they wrote, behind a front
module _ (s : RawEventSink) (f : Front) (ran : List Ran) (cut : ℕ) where
  abbrev version : Encoding
  version = s.version

  abbrev pub whole_ran : List Event
  whole_ran = whole version f cut (stream_words s (calls_of ran))

  abbrev pub others_ran : List Event
  others_ran = others version f cut (stream_words s (calls_of ran))

  abbrev pub joined_ran : (second : List Ran) → List ℕ
  joined_ran second = unbroken version f cut (all_written ran) ++ all_written second

  -- where `Read bytes es` says how some bytes are read as es
  pub record CutAndResumed (Read : List ℕ → List Event → Type 0) : Type 0 where
    pub of_cut : length (take cut (all_written ran)) ≤ 2 ^ 30 → Read (take cut (all_written ran)) whole_ran
    -- by the writer that resuming over what stands returned
    pub of_joined : length (take cut (all_written ran)) ≤ 2 ^ 30 → (r : Resumed) → ResumedBy version f (take cut (all_written ran)) r
        → (second : List Ran) → Chained r.sink second → accepted_events r.sink (calls_of second) ≡ others_ran
        → length (joined_ran second) ≤ 2 ^ 30 → Read (joined_ran second) (accepted_events s (calls_of ran))
    -- by a fresh one, where all events are of the first loop
    pub of_joined-first : InFirstLoop version (accepted_events s (calls_of ran)) → (second : List Ran) → Chained (fresh version) second
        → accepted_events (fresh version) (calls_of second) ≡ others_ran
        → length (joined_ran second) ≤ 2 ^ 30 → Read (joined_ran second) (accepted_events s (calls_of ran))

abbrev pub DemandThreeRan : Type 0
DemandThreeRan = (e : Encoding) (ran : List Ran) → Chained (fresh e) ran → (cut : ℕ) → cut ≤ length (all_written ran)
    → CutAndResumed (fresh e) bare ran cut (ReadBack (as_words e widest))

-- ---- THE SAME BY VALUE: by the contracts of `open_words`, `slice_index` and `slice_time` of `index_fixed`

-- opened whatever room is named, if it holds the records, and sliced over as many as opening told
abbrev pub ReadByValue : Way → List ℕ → List Event → Type 0
ReadByValue way bytes es = (spacing : ℕ) → spacing_ok (encoding_by way) spacing ≡ true
    → (room : ℕ) (r : Result Opening Refusal) (records : List Checkpoint) → OpensByValue way bytes spacing room r records
    → records_by way bytes es spacing ≤ min room 64 → Indexed way bytes es spacing r records

abbrev pub DemandThreeByValue : Type 0
DemandThreeByValue = (e : Encoding) (ran : List Ran) → Chained (fresh e) ran → (cut : ℕ) → cut ≤ length (all_written ran)
    → CutAndResumed (fresh e) bare ran cut (ReadByValue (as_words e widest))
