-- What holds of appends: the empty one, and that the writer stays in range.
use Rattle.std.specs.Prelude.{◌≡◌, refl, Bool, true, false, ◌&&◌, ◌||◌, [], ℕ, leb, ℤ}
use Rattle.std.proofs.Common.{arith}
use Rattle.std.proofs.Math.Nat.{add-zero}
use borrow.Author.Tests.{le-leb}
use Rattle.evt_types.specs.{Event.Event, Outcome.give, Num.natural}
use Rattle.evt_types.specs.declared.{Encoding.Encoding, Encoding.TheVariants.Evt2, Encoding.TheVariants.Evt21, Encoding.TheVariants.Evt3}
use Rattle.write_buffer.specs.declared.EncoderState.{EncoderState}
use Rattle.write_words.specs.Encode.{encode_bytes}
use Rattle.std.specs.Prelude.{Option, Some, None}
use Rattle.write_rules.specs.declared.{RawEventSink.RawEventSink}
use Rattle.write_rules.specs.Range.{time_in_range, every, falls, falls_after, sink_in_range, sink_not_before}
use Rattle.write_append.specs.Rising.{state_none}
use Rattle.write_append.specs.Append.{last_after, sends, append_outcome}

-- ---- AN EMPTY APPEND is accepted by a writer in range, hands nothing over, and changes nothing: a header stays due

or_none : (b : Bool) → (b || false) ≡ b
or_none true = refl
or_none false = refl

and_none : (b : Bool) → (b && false) ≡ false
and_none true = refl
and_none false = refl

falls_none : (l : Option ℤ) → falls_after l [] ≡ false
unfolding falls
falls_none None = refl
falls_none (Some t) = refl

words_none : (e : Encoding) (v : EncoderState) → encode_bytes e v [] ≡ []
unfolding encode_bytes
words_none Evt2 v = refl
words_none Evt21 v = refl
words_none Evt3 v = refl

module _ (s : RawEventSink) (in_range_lem : sink_in_range s ≡ true) (width height room : ℕ) where
  sends_none : sends s width height [] [] [] [] ≡ []
  sends_none = rw (and_none _, words_none s.version s.state)

  pub empty_append : append_outcome s width height [] [] [] [] room ≡ give (record { bytes = []; sink = s })
  unfolding append_outcome every last_after
  empty_append =
      rw (
        in_range_lem,
        falls_none (sink_not_before s),
        sends_none,
        le-leb 0 room (omega arith),
        or_none s.header_written,
        add-zero s.n_events,
        state_none s.version s.state,
      )

-- ---- THE RANGE IS KEPT, the bound on the count aside

-- the last of some columns whose events are in range
pub record LastFine (l : Event) (last : Option ℤ) : Type 0 where
  pub time : ℤ
  pub is_last : last ≡ Some time
  pub fine : time_in_range time ≡ true
  pub same : natural time ≡ l.t
  pub row : leb l.y 2047 ≡ true
