-- Appends as they ran: by their contract alone, the bytes that they told to have written are the stream of their calls.
use Rattle.std.specs.Prelude.{◌≡◌, refl, List, [], ◌∷◌, ◌++◌, ℕ, length, take}
use Rattle.std.proofs.Common.{ap, ◌∙◌, take_at}
use Rattle.evt_types.specs.Outcome.{Outcome, refuse, give}
use Rattle.write_rules.specs.declared.RawEventSink.{RawEventSink}
use Rattle.write_append.specs.declared.Appended.{Appended}
use Rattle.write_append.specs.Append.{AppendedBytes, append_answer, handed_over, Appends, AppendOwed}
use Rattle.laws_handover.specs.Handover.{Call, call_outcome, next, call_bytes, stream_of, Ran, Chained, bytes_told, all_written, calls_of}

-- ---- one append

told-bytes : (o : Outcome AppendedBytes) → bytes_told (append_answer o) ≡ length (handed_over o)
told-bytes (refuse r) = refl
told-bytes (give a) = refl

module _ (s : RawEventSink) (c : Call) (out₀ : List ℕ) (room : c.room ≡ length out₀) (r : Appended) (out : List ℕ)
    (owed : AppendOwed s c.width c.height c.xs c.ys c.ts c.ps out₀ r out) where
  kept : Appends s (call_outcome s c) out₀ r out
  kept = rw (← room) at owed

  one_written : take (bytes_told r.answer) out ≡ call_bytes s c
  one_written =
      ap (λ (n : ℕ). take n out) (ap bytes_told kept.is_answer ∙ told-bytes (call_outcome s c)) ∙ ap (take (length (call_bytes s c))) kept.is_output
      ∙ take_at (call_bytes s c) _ (length (call_bytes s c)) refl

  one_sink : r.sink ≡ next s c
  one_sink = kept.is_sink_lem

-- ---- THE LIST

pub ran_written : (s : RawEventSink) (ran : List Ran) → Chained s ran → all_written ran ≡ stream_of s (calls_of ran)
ran_written s [] h = refl
ran_written s (a ∷ ran) h =
    ap (λ (l : List ℕ). l ++ all_written ran) (one_written s a.call a.out₀ a.is_room a.result a.out h.0)
    ∙ ap (λ (l : List ℕ). call_bytes s a.call ++ l)
    (ran_written a.result.sink ran h.1
    ∙ ap (λ (u : RawEventSink). stream_of u (calls_of ran)) (one_sink s a.call a.out₀ a.is_room a.result a.out h.0))
