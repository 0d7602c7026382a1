-- What an append answers, hands over and leaves.
use Rattle.std.specs.Prelude.{◌≡◌, Bool, true, false, cond, not, ◌&&◌, ◌||◌, List, [], ◌∷◌, ◌++◌, ℕ, ◌+◌, leb, length, drop, ℤ}
use Rattle.evt_types.specs.{Outcome.Outcome, Outcome.refuse, Outcome.give, Outcome.on_outcome, Outcome.verdict, Outcome.handed_by, Told.Told, Told.told}
use Rattle.evt_types.specs.{Told.accepted, declared.Refusal.TheVariants.OutputTooShort}
use Rattle.write_buffer.specs.Columns.{events_in}
use Rattle.write_words.specs.Encode.{encode_state, encode_bytes}
use Rattle.std.specs.Prelude.{Option, Some, Result, Ok, Err}
use Rattle.evt_types.specs.declared.Refusal.{Refusal}
use Rattle.write_rules.specs.declared.{RawEventSink.RawEventSink}
use Rattle.write_append.specs.declared.{Appended.Appended}
use Rattle.write_header.specs.Header.{header_text}
use Rattle.write_rules.specs.Rules.{check_outcome}

abbrev pub some : {A : Type 0} → List A → Bool
some [] = false
some (a ∷ l) = true

abbrev pub header_due : RawEventSink → List ℕ → Bool
header_due s xs = not s.header_written && some xs

unfoldable pub last_after : Option ℤ → List ℤ → Option ℤ
last_after l [] = l
last_after l (t ∷ ts) = last_after (Some t) ts

module _ (s : RawEventSink) (xs ys : List ℕ) (ts : List ℤ) (ps : List ℕ) where
  abbrev pub word_bytes : List ℕ
  word_bytes = encode_bytes s.version s.state (events_in xs ys ts ps)

  -- the writer after an append that is accepted
  abbrev pub next_sink : RawEventSink
  next_sink = record {
    version = s.version;
    header_written = s.header_written || some xs;
    n_events = s.n_events + length xs;
    last_t = last_after s.last_t ts;
    state = encode_state s.version s.state (events_in xs ys ts ps);
  }

module _ (s : RawEventSink) (width height : ℕ) (xs ys : List ℕ) (ts : List ℤ) (ps : List ℕ) where
  -- a header that is due goes before the first words
  abbrev pub due_header : List ℕ
  due_header = cond (header_due s xs) (header_text s.version width height) []

  -- what an append that is accepted hands over
  abbrev pub sends : List ℕ
  sends = due_header ++ word_bytes s xs ys ts ps

-- ---- what an append comes to: a refusal, or the bytes that it hands over and the writer after it

pub record AppendedBytes : Type 0 where
  pub bytes : List ℕ
  pub sink : RawEventSink

-- what the writer and the columns are refused for (10, 12, 4, 6, 7), then 11 where the output, of `room` bytes, is too short
unfoldable pub append_outcome : RawEventSink → (width height : ℕ) (xs ys : List ℕ) (ts : List ℤ) (ps : List ℕ) (room : ℕ) → Outcome AppendedBytes
append_outcome s width height xs ys ts ps room =
    let all = sends s width height xs ys ts ps in
    on_outcome refuse (λ u. cond (leb (length all) room) (give (record { bytes = all; sink = next_sink s xs ys ts ps })) (refuse (OutputTooShort (length all))))
    (check_outcome s xs ys ts ps)

-- ---- what is read off an outcome

abbrev pub accepts : Outcome AppendedBytes → Bool
accepts = on_outcome (λ r. false) (λ a. true)

abbrev pub append_answer : Outcome AppendedBytes → Result ℕ Refusal
append_answer = on_outcome Err (λ a. Ok (length a.bytes))

-- an acceptance tells how many bytes are written
abbrev pub append_verdict : Outcome AppendedBytes → Told
append_verdict = verdict (λ a. length a.bytes ∷ [])

-- nothing on a refusal
abbrev pub handed_over : Outcome AppendedBytes → List ℕ
handed_over = handed_by (λ a. a.bytes)

-- as it was on a refusal
abbrev pub sink_after : RawEventSink → Outcome AppendedBytes → RawEventSink
sink_after s = on_outcome (λ r. s) (λ a. a.sink)

-- ---- promises

-- what an answer tells
abbrev pub told_append : Result ℕ Refusal → Told
told_append (Ok n) = accepted (n ∷ [])
told_append (Err r) = told r

-- what an append with this outcome promises: r is what it returns, and `out` the output that was out₀
pub record Appends (s : RawEventSink) (outcome : Outcome AppendedBytes) (out₀ : List ℕ) (r : Appended) (out : List ℕ) : Type 0 where
  pub is_told : told_append r.answer ≡ append_verdict outcome
  pub is_answer : r.answer ≡ append_answer outcome
  pub is_sink_lem : r.sink ≡ sink_after s outcome
  pub is_output : out ≡ handed_over outcome ++ drop (length (handed_over outcome)) out₀

abbrev pub AppendOwed : RawEventSink → (width height : ℕ) (xs ys : List ℕ) (ts : List ℤ) (ps out₀ : List ℕ) (r : Appended) (out : List ℕ) → Type 0
AppendOwed s width height xs ys ts ps out₀ = Appends s (append_outcome s width height xs ys ts ps (length out₀)) out₀
