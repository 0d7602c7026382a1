-- A writer's state as numbers and back, and what appending promises.
use Rattle.std.specs.Prelude.{◌≡◌, Bool, false, cond, not, ◌&&◌, List, ◌++◌, ℕ, eqb, ℤ, pos, negsuc, length, drop}
use Rattle.std.proofs.Common.{sym}
use Rattle.std.specs.Prelude.{Option, Some, None}
use Rattle.evt_types.specs.declared.{Refusal.Refusal, Refusal.TheVariants.StateOutOfRange}
use Rattle.evt_types.specs.{Num.encoding_number, Outcome.Outcome, Outcome.refuse, Told.Told, Told.told}
use Rattle.write_buffer.specs.declared.EncoderState.{EncoderState}
use Rattle.write_rules.specs.declared.{RawEventSink.RawEventSink}
use Rattle.write_append.specs.Append.{AppendedBytes, append_outcome, append_verdict, handed_over, sink_after}
use Rattle.c_values.specs.{Encoding.is_known, Encoding.encoding_of, Flags.flag, Flags.bit, Flags.is_flag, Reading.value_of, Reading.count_of}
use Rattle.c_values.specs.{Reading.refused_not, Reading.no_value}
use Rattle.c_writer.specs.{declared.writer.PropheseeAppended.PropheseeAppended, declared.writer.PropheseeSink.PropheseeSink}

-- ---- which numbers are a writer's

-- both 0, or the flag 1
abbrev pub is_held : (has value : ℕ) → Bool
is_held has value = cond (eqb has 0) (eqb value 0) (eqb has 1)

abbrev pub is_zero : ℤ → Bool
is_zero (pos n) = eqb n 0
is_zero (negsuc n) = false

abbrev pub is_last_held : (has : ℕ) → (t : ℤ) → Bool
is_last_held has t = cond (eqb has 0) (is_zero t) (eqb has 1)

abbrev pub is_state_held : PropheseeSink → Bool
is_state_held f = is_held f.has_time_high f.time_high && (is_held f.has_time_low f.time_low && is_held f.has_y f.y)

abbrev pub is_sink : PropheseeSink → Bool
is_sink f =
    (is_known f.encoding && (is_flag f.header_written && is_last_held f.has_last_t f.last_t))
    && is_state_held f

-- ---- what the numbers mean

-- a value counts only where its flag is set
abbrev pub sent_of : (has value : ℕ) → Option ℕ
sent_of has value = cond (flag has) (Some value) None

abbrev pub last_of : (has : ℕ) → (t : ℤ) → Option ℤ
last_of has t = cond (flag has) (Some t) None

abbrev pub state_of : PropheseeSink → EncoderState
state_of f = record {
  time_high = sent_of f.has_time_high f.time_high;
  time_low = sent_of f.has_time_low f.time_low;
  y = sent_of f.has_y f.y;
}

abbrev pub sink_of : PropheseeSink → RawEventSink
sink_of f = record {
  version = encoding_of f.encoding;
  header_written = flag f.header_written;
  n_events = f.n_events;
  last_t = last_of f.has_last_t f.last_t;
  state = state_of f;
}

-- ---- the numbers of a writer: specs/Laws.antt has that `sink_of` reads them back

abbrev pub has_sent : Option ℕ → ℕ
has_sent None = 0
has_sent (Some v) = 1

abbrev pub sent_value : Option ℕ → ℕ
sent_value None = 0
sent_value (Some v) = v

abbrev pub has_last : Option ℤ → ℕ
has_last None = 0
has_last (Some t) = 1

abbrev pub last_value : Option ℤ → ℤ
last_value None = pos 0
last_value (Some t) = t

abbrev pub flat_sink : RawEventSink → PropheseeSink
flat_sink s = record {
  n_events = s.n_events;
  last_t = last_value s.last_t;
  time_high = sent_value s.state.time_high;
  time_low = sent_value s.state.time_low;
  y = sent_value s.state.y;
  encoding = encoding_number s.version;
  header_written = bit s.header_written;
  has_last_t = has_last s.last_t;
  has_time_high = has_sent s.state.time_high;
  has_time_low = has_sent s.state.time_low;
  has_y = has_sent s.state.y;
}

-- a fresh writer: nothing is sent yet, and a header is due if it is asked for
abbrev pub writer_of : (encoding header : ℕ) → PropheseeSink
writer_of n header = record {
  n_events = 0;
  last_t = pos 0;
  time_high = 0;
  time_low = 0;
  y = 0;
  encoding = n;
  header_written = bit (not (flag header));
  has_last_t = 0;
  has_time_high = 0;
  has_time_low = 0;
  has_y = 0;
}

-- ---- appending

-- 10 for numbers that are no writer's, else as the library has it
abbrev pub append_outcome_c : PropheseeSink → (width height : ℕ) (xs ys : List ℕ) (ts : List ℤ) (ps : List ℕ) (room : ℕ) → Outcome AppendedBytes
append_outcome_c given width height xs ys ts ps room =
    cond (is_sink given) (append_outcome (sink_of given) width height xs ys ts ps room) (refuse StateOutOfRange)

-- an acceptance tells the bytes that are written, and brings the next writer; a refusal returns the given one
abbrev pub appended_of : PropheseeSink → Told → (next : RawEventSink) → PropheseeAppended
appended_of given t next = record {
  sink = cond (eqb t.number 0) (flat_sink next) given;
  told = count_of t;
  written = value_of t 0;
  refusal = t.number;
}

pub refused_appended : (given : PropheseeSink) (next : RawEventSink) (r : Refusal) (n k : ℕ) → n ≡ (told r).number → k ≡ count_of (told r)
    → record { sink = given; told = k; written = 0; refusal = n } ≡ appended_of given (told r) next
refused_appended given next r n k p q = λ i. record {
  sink = cond (sym (refused_not r) i) (flat_sink next) given;
  told = q i;
  written = sym (no_value r 0) i;
  refusal = p i;
}

-- what an append with this outcome promises
pub record AppendsC (given : PropheseeSink) (outcome : Outcome AppendedBytes) (out₀ : List ℕ) (r : PropheseeAppended) (out : List ℕ) : Type 0 where
  pub is_answer : r ≡ appended_of given (append_verdict outcome) (sink_after (sink_of given) outcome)
  pub is_sink_lem : sink_of r.sink ≡ sink_after (sink_of given) outcome
  pub is_output : out ≡ handed_over outcome ++ drop (length (handed_over outcome)) out₀

abbrev pub AppendOwedC : PropheseeSink → (width height : ℕ) (xs ys : List ℕ) (ts : List ℤ) (ps out₀ : List ℕ) (r : PropheseeAppended) (out : List ℕ) → Type 0
AppendOwedC given width height xs ys ts ps out₀ = AppendsC given (append_outcome_c given width height xs ys ts ps (length out₀)) out₀
