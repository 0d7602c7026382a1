-- DEMAND 3 OF THE C INTERFACE, of calls that ran: by the contracts of `prophesee_writer`, `prophesee_append`, `prophesee_resume_words`,
-- `prophesee_decode_words`, `prophesee_open_words`, `prophesee_slice_index` and `prophesee_slice_time` alone, at a sensor of 2048 by 2048 (`DemandThreeC`); and
-- behind a written header by those of `prophesee_resume_raw`, `prophesee_read_raw` and `prophesee_open` with no size (`DemandThreeHeadedC`).
use Rattle.std.specs.Prelude.{◌≡◌, Bool, true, false, List, [], ◌∷◌, ◌++◌, map, ℕ, ◌+◌, ◌^◌, ◌≤◌, ℤ, length, take, drop}
use Rattle.std.specs.Prelude.{Option, Some, None}
use Rattle.evt_types.specs.declared.SensorSize.{SensorSize}
use Rattle.evt_types.specs.{declared.Encoding.Encoding, Event.Event, Num.encoding_number}
use Rattle.read_rules.specs.Read.{width_of, height_of}
use Rattle.index_build.specs.Index.{record_count, spacing_ok}
use Rattle.write_rules.specs.Rules.{fresh_sink}
use Rattle.laws_handover.specs.Handover.{Columns, room, HoldsEvents, numbered, during_times, Call, fresh, accepted_events, stream_words, Front, bare, headed}
use Rattle.laws_handover.specs.Handover.{whole, others, unbroken, InFirstLoop, Way, as_words, as_recording, encoding_by, size_by, start_by, widest}
use Rattle.laws_handover.specs.Headed.{Behind}
use Rattle.c_values.specs.{declared.options.PropheseeOptions.PropheseeOptions, declared.reading.PropheseeReading.PropheseeReading, Reading.DecodesWordsC}
use Rattle.c_values.specs.{Reading.ReadsRawC, Flags.bit}
use Rattle.c_index.specs.{declared.slices.PropheseeSlice.PropheseeSlice, declared.opening.PropheseeOpenOptions.PropheseeOpenOptions}
use Rattle.c_index.specs.{declared.opening.PropheseeOpening.PropheseeOpening, declared.opening.PropheseeSource.PropheseeSource, Opening.OpensWordsC}
use Rattle.c_index.specs.{Opening.OpensRawC, Slicing.SlicesIndexC, Slicing.SlicesTimeC}
use Rattle.c_writer.specs.{declared.writer.PropheseeAppended.PropheseeAppended, declared.writer.PropheseeSink.PropheseeSink, Writer.writer_of}
use Rattle.c_writer.specs.Writer.{sink_of, flat_sink}
use Rattle.c_resume.specs.{declared.resume.PropheseeResumed.PropheseeResumed, Resume.resumed_of, Resume.resume_words_outcome_c}
use Rattle.write_resume.specs.Resume.{resume_raw_outcome, raw_encoding}
use Rattle.c_writer.specs.{Writer.AppendOwedC}

-- ---- what is read

-- a size or none, and no limit
abbrev pub options_for : Option SensorSize → PropheseeOptions
options_for None = record { width = 0; height = 0; max_events = 0; sized = 0; limited = 0 }
options_for (Some s) = record { width = s.width; height = s.height; max_events = 0; sized = 1; limited = 0 }

abbrev pub spaced_for : Option SensorSize → (spacing : ℕ) → PropheseeOpenOptions
spaced_for None spacing = record { width = 0; height = 0; spacing = spacing; sized = 0 }
spaced_for (Some s) spacing = record { width = s.width; height = s.height; spacing = spacing; sized = 1 }

-- words by `prophesee_decode_words` and `prophesee_open_words`, a recording by `prophesee_read_raw` and `prophesee_open` with no size
abbrev pub ReadsByC : Way → List ℕ → PropheseeReading → (c₀ c : Columns) → Type 0
ReadsByC (as_words e size) bytes r c₀ c =
    DecodesWordsC bytes (encoding_number e) (options_for size) r c₀.xs c₀.ys c₀.ts c₀.ps c.xs c.ys c.ts c.ps
ReadsByC (as_recording e w h) bytes r c₀ c = ReadsRawC bytes (options_for None) r c₀.xs c₀.ys c₀.ts c₀.ps c.xs c.ys c.ts c.ps

abbrev pub OpensByC : Way → List ℕ → (spacing : ℕ) → PropheseeOpening → (records₀ records : List (List ℕ)) → Type 0
OpensByC (as_words e size) bytes spacing = OpensWordsC bytes (encoding_number e) (spaced_for size spacing)
OpensByC (as_recording e w h) bytes spacing = OpensRawC bytes (spaced_for None spacing)

-- an index that was built from just these bytes, at an allowed spacing, into records that suffice
pub record IndexC (way : Way) (bytes : List ℕ) : Type 0 where
  pub spacing : ℕ
  pub allowed : spacing_ok (encoding_by way) spacing ≡ true
  pub answer : PropheseeOpening
  pub records₀ : List (List ℕ)
  pub records : List (List ℕ)
  pub ran : OpensByC way bytes spacing answer records₀ records
  pub enough : record_count (length (drop (start_by way) bytes)) spacing ≤ length records₀

-- the source that opening tells
abbrev pub source_c : Way → List ℕ → List Event → (spacing : ℕ) → PropheseeSource
source_c way bytes es spacing = record {
  records = record_count (length (drop (start_by way) bytes)) spacing;
  spacing = spacing;
  data_offset = start_by way;
  len = length bytes;
  width = width_of (size_by way) es;
  height = height_of (size_by way) es;
  n_events = length es;
  encoding = encoding_number (encoding_by way);
}

abbrev pub reading_c : Way → List Event → PropheseeReading
reading_c way es = record {
  refusal = 0;
  encoding = encoding_number (encoding_by way);
  told = 0;
  width = width_of (size_by way) es;
  height = height_of (size_by way) es;
  count = length es;
}

-- a slice is accepted with the count of `part`, and the columns hold it
abbrev pub GivesC : List Event → PropheseeSlice → (c₀ c : Columns) → Type 0
GivesC part r c₀ c = (r ≡ record { told = 0; count = length part; refusal = 0 }) × HoldsEvents part c₀ c

-- what calls over some bytes have read: exactly es. Slices are lent the source that opening told and the records as opening left them, all of them
pub record ReadBackC (way : Way) (bytes : List ℕ) (es : List Event) : Type 0 where
  pub decoded : (r : PropheseeReading) (c₀ c : Columns) → ReadsByC way bytes r c₀ c → length es ≤ room c₀ → (r ≡ reading_c way es) × HoldsEvents es c₀ c
  pub opened : (x : IndexC way bytes) → x.answer ≡ record { source = source_c way bytes es x.spacing; told = 0; refusal = 0 }
  pub by_number : (x : IndexC way bytes) (i0 i1 : ℕ) (r : PropheseeSlice) (c₀ c : Columns)
      → SlicesIndexC bytes x.answer.source x.records i0 i1 r c₀.xs c₀.ys c₀.ts c₀.ps c.xs c.ys c.ts c.ps
      → length (numbered es i0 i1) ≤ room c₀ → GivesC (numbered es i0 i1) r c₀ c
  pub by_time_lem : (x : IndexC way bytes) (t0 t1 : ℤ) (r : PropheseeSlice) (c₀ c : Columns)
      → SlicesTimeC bytes x.answer.source x.records t0 t1 r c₀.xs c₀.ys c₀.ts c₀.ps c.xs c.ys c.ts c.ps
      → length (during_times es t0 t1) ≤ room c₀ → GivesC (during_times es t0 t1) r c₀ c

-- ---- what is written

-- an append that ran: its call, the output that it was lent, what it returned, and the output that it left
pub record RanC : Type 0 where
  pub call : Call
  pub out₀ : List ℕ
  pub is_room : call.room ≡ length out₀
  pub result : PropheseeAppended
  pub out : List ℕ

-- each met its contract, and was given the writer that the last one returned
abbrev pub ChainedC : PropheseeSink → List RanC → Type 0
ChainedC s [] = Unit
ChainedC s (a ∷ ran) =
    let c = a.call in
    AppendOwedC s c.width c.height c.xs c.ys c.ts c.ps a.out₀ a.result a.out × ChainedC a.result.sink ran

-- the writer that `prophesee_writer` returns for an encoding, and a header or none
abbrev pub fresh_numbers : Encoding → (header : Bool) → PropheseeSink
fresh_numbers e header = writer_of (encoding_number e) (bit header)

abbrev pub calls_c : List RanC → List Call
calls_c ran = map (λ a. a.call) ran

abbrev pub all_written_c : List RanC → List ℕ
all_written_c [] = []
all_written_c (a ∷ ran) = take a.result.written a.out ++ all_written_c ran

-- a resumption that ran: by `prophesee_resume_words`, or by `prophesee_resume_raw` behind a header
abbrev pub ResumedByC : Encoding → Front → List ℕ → PropheseeResumed → Type 0
ResumedByC e bare bytes r = r ≡ resumed_of (writer_of (encoding_number e) 0) (resume_words_outcome_c bytes (encoding_number e))
ResumedByC e (headed w h) bytes r = r ≡ resumed_of (flat_sink (fresh_sink (raw_encoding bytes) false)) (resume_raw_outcome bytes)

-- ---- THE CLAIM, of appends that ran from a fresh writer on, cut at byte `cut` of what they wrote, behind a front

module _ (e : Encoding) (header : Bool) (f : Front) (ran : List RanC) (cut : ℕ) where
  abbrev words_c : List Event
  words_c = whole e f cut (stream_words (fresh_sink e header) (calls_c ran))

  abbrev pub joined_c : (second : List RanC) → List ℕ
  joined_c second = unbroken e f cut (all_written_c ran) ++ all_written_c second

  abbrev pub others_c : List Event
  others_c = others e f cut (stream_words (fresh_sink e header) (calls_c ran))

  -- where these are read in this way
  pub record CutAndResumedC (way : Way) : Type 0 where
    pub of_cut : length (take cut (all_written_c ran)) ≤ 2 ^ 30 → ReadBackC way (take cut (all_written_c ran)) words_c
    -- by the writer that resuming over what stands returned
    pub of_joined : length (take cut (all_written_c ran)) ≤ 2 ^ 30 → (r : PropheseeResumed) → ResumedByC e f (take cut (all_written_c ran)) r
        → (second : List RanC) → ChainedC r.sink second → accepted_events (sink_of r.sink) (calls_c second) ≡ others_c
        → length (joined_c second) ≤ 2 ^ 30 → ReadBackC way (joined_c second) (accepted_events (fresh_sink e header) (calls_c ran))
    -- by a fresh one, where all events are of the first loop
    pub of_joined-first : InFirstLoop e (accepted_events (fresh_sink e header) (calls_c ran)) → (second : List RanC) → ChainedC (fresh_numbers e false) second
        → accepted_events (fresh e) (calls_c second) ≡ others_c
        → length (joined_c second) ≤ 2 ^ 30 → ReadBackC way (joined_c second) (accepted_events (fresh_sink e header) (calls_c ran))

abbrev pub DemandThreeC : Type 0
DemandThreeC = (e : Encoding) (ran : List RanC) → ChainedC (fresh_numbers e false) ran → (cut : ℕ) → cut ≤ length (all_written_c ran)
    → CutAndResumedC e false bare ran cut (as_words e widest)

abbrev pub DemandThreeHeadedC : Type 0
DemandThreeHeadedC = (e : Encoding) (ran : List RanC) → ChainedC (fresh_numbers e true) ran → (w h cut : ℕ) → Behind e (calls_c ran) w h cut
    → cut ≤ length (all_written_c ran) → CutAndResumedC e true (headed w h) ran cut (as_recording e w h)
