-- Laws of specs/Checks.antt.
use Rattle.evt_types.specs.{Num.natural, Outcome.give, Outcome.given-unless, Outcome.given_if, Outcome.given_then, declared.Encoding.Encoding}
use Rattle.laws_stream.specs.Machine.{and_both}
use Rattle.std.proofs.Common.{arith, eqb-true, leb-true}
use Rattle.std.specs.Prelude.{List, eqb, leb, length, true, ℕ, ℤ, ◌&&◌, ◌^◌, ◌≡◌, ◌≤◌}
use Rattle.write_buffer.specs.declared.EncoderState.{EncoderState}
use Rattle.write_rules.specs.{Checks.Checked, Checks.event_fine, Checks.lengths, Checks.sized_of, Range.events_in_range, Range.falls_after, Range.held_in_range}
use Rattle.write_rules.specs.{Range.is_nothing, Range.last_in_range, Range.same_lengths, Range.sent_in_range, Range.sink_in_range, Range.sink_not_before}
use Rattle.std.specs.Prelude.{Option, Some, None}
use Rattle.write_rules.specs.{Range.time_in_range, Rules.check_outcome}
use Rattle.write_rules.specs.{declared.RawEventSink.RawEventSink}

-- ---- what a check that is passed says

count_as : (e : Encoding) (v : EncoderState) (n : ℕ) (l : Option ℤ) → last_in_range e v n l ≡ true → n ≤ 2 ^ 62
count_as e v n None h =
    let a = and_both (held_in_range e v.time_high) (is_nothing v.time_low && (is_nothing v.y && eqb n 0)) h in
    let b = and_both (is_nothing v.time_low) (is_nothing v.y && eqb n 0) a.1 in
    let c = and_both (is_nothing v.y) (eqb n 0) b.1 in
    omega (arith, eqb-true n 0 c.1)
count_as e v n (Some t) h =
    let a = and_both (time_in_range t) (leb n (2 ^ 62) && sent_in_range e v (natural t)) h in
    let b = and_both (leb n (2 ^ 62)) (sent_in_range e v (natural t)) a.1 in
    leb-true n (2 ^ 62) b.0

pub checked_of : (s : RawEventSink) (xs ys : List ℕ) (ts : List ℤ) (ps : List ℕ) → check_outcome s xs ys ts ps ≡ give tt → Checked s xs ys ts ps
checked_of s xs ys ts ps h =
    let a = given_if tt (sink_in_range s) _ _ h in
    let b = (given_then tt (lengths xs ys ts ps) _ a.1).1 in
    let l = given_if tt (same_lengths (length xs) (length ys) (length ts) (length ps)) _ _ b.0 in
    let f = given_if tt (leb (length xs) (2 ^ 28)) _ _ l.1 in
    let c = given-unless tt (falls_after (sink_not_before s) ts) _ _ b.1 in
    let e = given_if tt (events_in_range xs ys ts ps) _ _ c.1 in
    record {
      in_range_lem = a.0;
      count = count_as s.version s.state s.n_events s.last_t a.0;
      sized = sized_of xs ys ts ps l.0 (leb-true (length xs) (2 ^ 28) f.0);
      whole = λ i. (event_fine xs ys ts ps e.0 i).whole;
      rising = c.0;
      events = e.0;
    }
