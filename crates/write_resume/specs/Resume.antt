-- The writer that resumes behind a decoder, and what it tells.
use Rattle.std.specs.Prelude.{◌≡◌, Bool, false, cond, ◌&&◌, List, [], ℕ, ltb}
use Rattle.evt_types.specs.declared.{Encoding.Encoding, Encoding.TheVariants.Evt2, Refusal.TheVariants.StateOutOfRange}
use Rattle.evt_types.specs.{Outcome.Outcome, Outcome.refuse, Outcome.give, Outcome.on_outcome, Outcome.verdict, Told.Told, Told.told, Told.accepted}
use Rattle.evt_codec.specs.{declared.codec.Codec.Codec, Codec.fresh_c, Codec.encoding_of, Codec.started_c, Codec.coarse_c, Codec.in_range_c}
use Rattle.read_after.specs.After.{after_outcome, after_raw_outcome}
use Rattle.write_rules.specs.{declared.RawEventSink.RawEventSink, Range.time_bound}
use Rattle.write_rules.specs.Rules.{fresh_sink, resumed_sink}
use Rattle.std.specs.Prelude.{Result, Ok, Err}
use Rattle.evt_types.specs.declared.Refusal.{Refusal}
use Rattle.write_resume.specs.declared.{Resumed.Resumed}

-- a decoder in range, whose coarse time is one that an event may have
abbrev pub resumable : Codec → Bool
resumable c = in_range_c c && ltb (coarse_c c) time_bound

-- the writer that holds the coarse time of such a decoder; behind any other 10
unfoldable pub resume_outcome : Codec → Outcome RawEventSink
resume_outcome c = cond (resumable c) (give (resumed_sink (encoding_of c) (started_c c) (coarse_c c))) (refuse StateOutOfRange)

-- behind what a decoder was read from
abbrev pub resume_after : Outcome Codec → Outcome RawEventSink
resume_after = on_outcome refuse resume_outcome

-- headerless words: 4, 10
abbrev pub resume_words_outcome : List ℕ → Encoding → Outcome RawEventSink
resume_words_outcome words e = resume_after (after_outcome (fresh_c e) words)

-- a recording: 4, 3, 2, 10
abbrev pub resume_raw_outcome : List ℕ → Outcome RawEventSink
resume_raw_outcome recording = resume_after (after_raw_outcome recording)

-- the encoding of the decoder, or e where there is none
abbrev pub encoding_or : Encoding → Outcome Codec → Encoding
encoding_or e = on_outcome (λ r. e) encoding_of

-- a recording's; EVT2 where it is refused
abbrev pub raw_encoding : List ℕ → Encoding
raw_encoding recording = encoding_or Evt2 (after_raw_outcome recording)

-- ---- what is read off an outcome

abbrev pub resume_answer : Outcome RawEventSink → Result (Unit {0}) Refusal
resume_answer = on_outcome Err (λ s. (Ok tt))

-- an acceptance tells nothing: the writer stands beside it
abbrev pub resume_verdict : Outcome RawEventSink → Told
resume_verdict = verdict (λ s. [])

-- the writer given, else a fresh one that sends no header
abbrev pub sink_or : Encoding → Outcome RawEventSink → RawEventSink
sink_or e = on_outcome (λ r. fresh_sink e false) (λ s. s)

-- ---- promises

-- what an answer tells
abbrev pub told_resume : Result (Unit {0}) Refusal → Told
told_resume (Ok tt) = accepted []
told_resume (Err r) = told r

-- what r with this outcome promises
pub record Resumes (e : Encoding) (outcome : Outcome RawEventSink) (r : Resumed) : Type 0 where
  pub is_told : told_resume r.answer ≡ resume_verdict outcome
  pub is_answer : r.answer ≡ resume_answer outcome
  pub is_sink_lem : r.sink ≡ sink_or e outcome
