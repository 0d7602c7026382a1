-- A fresh writer, one that resumes, and the order in which the rules 10, 12, 4, 6 and 7 apply.
use Rattle.std.specs.Prelude.{Bool, true, cond, not, List, ℕ, ◌/◌, ◌^◌, leb, length, ℤ}
use Rattle.evt_types.specs.{declared.Encoding.Encoding, Outcome.Outcome, Outcome.refuse, Outcome.give, Outcome.on_outcome}
use Rattle.evt_types.specs.declared.Refusal.TheVariants.{TooLong, TimeOrder, EventOutOfRange, StateOutOfRange, ColumnLengths}
use Rattle.std.specs.Prelude.{Some, None, Result, Ok, Err}
use Rattle.evt_types.specs.declared.Refusal.{Refusal}
use Rattle.write_buffer.specs.{declared.EncoderState.EncoderState, Sent.fresh_state}
use Rattle.write_rules.specs.{declared.RawEventSink.RawEventSink, Range.events_in_range, Range.falls_after, Range.same_lengths, Range.sink_in_range}
use Rattle.write_rules.specs.Range.{grain_of, sink_not_before}

abbrev pub fresh_sink : Encoding → (header : Bool) → RawEventSink
fresh_sink e header = record { version = e; header_written = not header; n_events = 0; last_t = None; state = fresh_state }

-- what a writer holds that resumes behind a decoder: the coarse half, if that is started, low half and row not yet sent
abbrev pub held_state : Encoding → (started : Bool) (coarse : ℕ) → EncoderState
held_state e started coarse = record { time_high = cond started (Some (coarse / grain_of e)) None; time_low = None; y = None }

-- with no last time, a count of 0 and no header due
abbrev pub resumed_sink : Encoding → (started : Bool) (coarse : ℕ) → RawEventSink
resumed_sink e started coarse = record { version = e; header_written = true; n_events = 0; last_t = None; state = held_state e started coarse }

-- columns of these lengths: 12 where they differ, 4 over 2 ^ 28 events
abbrev pub lengths_outcome : (x y t p : ℕ) → Outcome Unit
lengths_outcome x y t p = cond (same_lengths x y t p) (cond (leb x (2 ^ 28)) (give tt) (refuse TooLong)) (refuse ColumnLengths)

-- what the writer and the columns ask for, the output aside: 10, 12, 4, 6, 7
abbrev pub check_outcome : RawEventSink → (xs ys : List ℕ) (ts : List ℤ) (ps : List ℕ) → Outcome Unit
check_outcome s xs ys ts ps =
    cond (sink_in_range s)
    (on_outcome refuse (λ u.
    cond (falls_after (sink_not_before s) ts) (refuse TimeOrder)
    (cond (events_in_range xs ys ts ps) (give tt) (refuse EventOutOfRange)))
    (lengths_outcome (length xs) (length ys) (length ts) (length ps)))
    (refuse StateOutOfRange)

-- as the code has it
abbrev pub check_of : Outcome Unit → Result (Unit {0}) Refusal
check_of = on_outcome Err (λ u. (Ok tt))
