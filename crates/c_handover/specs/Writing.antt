-- Appends that ran through the C interface are appends of the library: each writer in numbers is one of the library's, from the fresh one on.
use Rattle.std.specs.Prelude.{◌≡◌, refl, Bool, cond, List, [], ◌∷◌, ◌++◌, take}
use Rattle.std.proofs.Common.{sym, ap, subst, ◌∙◌}
use Rattle.evt_types.specs.{Outcome.Outcome, Outcome.refuse, Outcome.give}
use Rattle.write_rules.specs.declared.RawEventSink.{RawEventSink}
use Rattle.write_append.specs.Append.{AppendedBytes, append_answer, append_verdict, told_append, sink_after, AppendOwed}
use Rattle.laws_handover.specs.Handover.{Call, Ran, Chained, call_outcome, next, calls_of, bytes_told, all_written}
use Rattle.c_values.specs.{Reading.no_value, Reading.refused_not}
use Rattle.c_writer.specs.{declared.writer.PropheseeAppended.PropheseeAppended, declared.writer.PropheseeSink.PropheseeSink, Writer.flat_sink}
use Rattle.c_writer.specs.{Writer.appended_of, Laws.sink_back, Laws.sink_flat, Writer.AppendsC, Writer.AppendOwedC}
use Rattle.c_handover.specs.Statement.{RanC, ChainedC, calls_c, all_written_c}

-- the same appends, as the library returns them, from a writer s on
abbrev pub ran_from : RawEventSink → List RanC → List Ran
ran_from s [] = []
ran_from s (a ∷ ran) = record {
  call = a.call;
  out₀ = a.out₀;
  is_room = a.is_room;
  result = record { answer = append_answer (call_outcome s a.call); sink = next s a.call };
  out = a.out;
} ∷ ran_from (next s a.call) ran

told-append : (o : Outcome AppendedBytes) → told_append (append_answer o) ≡ append_verdict o
told-append (refuse r) = refl
told-append (give a) = refl

-- the bytes that were told
written_is : (given : PropheseeSink) (s : RawEventSink) (o : Outcome AppendedBytes)
    → (appended_of given (append_verdict o) (sink_after s o)).written ≡ bytes_told (append_answer o)
written_is given s (refuse r) = no_value r 0
written_is given s (give a) = refl

-- the writer that was returned is the library's, in numbers
sink_is : (s : RawEventSink) (o : Outcome AppendedBytes) → (appended_of (flat_sink s) (append_verdict o) (sink_after s o)).sink ≡ flat_sink (sink_after s o)
sink_is s (refuse r) = ap (λ (b : Bool). cond b (flat_sink s) (flat_sink s)) (refused_not r)
sink_is s (give a) = refl

-- ---- one append, by the library's writer in numbers

module _ (s : RawEventSink) (a : RanC) where
  abbrev c : Call
  c = a.call

  abbrev outcome : Outcome AppendedBytes
  outcome = call_outcome s c

  module _ (owed : AppendOwedC (flat_sink s) c.width c.height c.xs c.ys c.ts c.ps a.out₀ a.result a.out) where
    -- its outcome is the library's
    by_library : AppendsC (flat_sink s) outcome a.out₀ a.result a.out
    by_library = rw (sink_flat s, sink_back s, ← a.is_room) at owed

    is_owed : AppendOwed s c.width c.height c.xs c.ys c.ts c.ps a.out₀ (record { answer = append_answer outcome; sink = next s c }) a.out
    is_owed = rw (← a.is_room) (record { is_told = told-append outcome; is_answer = refl; is_sink_lem = refl; is_output = by_library.is_output })

    is_result : a.result ≡ appended_of (flat_sink s) (append_verdict outcome) (sink_after s outcome)
    is_result = by_library.is_answer ∙ ap (λ (u : RawEventSink). appended_of (flat_sink s) (append_verdict outcome) (sink_after u outcome)) (sink_back s)

    next_is : a.result.sink ≡ flat_sink (next s c)
    next_is = ap (λ (r : PropheseeAppended). r.sink) is_result ∙ sink_is s outcome

    bytes_are : a.result.written ≡ bytes_told (append_answer outcome)
    bytes_are = ap (λ (r : PropheseeAppended). r.written) is_result ∙ written_is (flat_sink s) s outcome

-- ---- all of them

pub chained : (s : RawEventSink) (ran : List RanC) → ChainedC (flat_sink s) ran → Chained s (ran_from s ran)
chained s [] h = tt
chained s (a ∷ ran) h =
    let n = next s a.call in
    (is_owed s a h.0, chained n ran (subst (λ (f : PropheseeSink). ChainedC f ran) (next_is s a h.0) h.1))

pub written : (s : RawEventSink) (ran : List RanC) → ChainedC (flat_sink s) ran → all_written (ran_from s ran) ≡ all_written_c ran
written s [] h = refl
written s (a ∷ ran) h =
    let n = next s a.call in
    let rest = written n ran (subst (λ (f : PropheseeSink). ChainedC f ran) (next_is s a h.0) h.1) in
    λ i. take (sym (bytes_are s a h.0) i) a.out ++ rest i

pub calls_are : (s : RawEventSink) (ran : List RanC) → calls_of (ran_from s ran) ≡ calls_c ran
calls_are s [] = refl
calls_are s (a ∷ ran) = ap (λ (l : List Call). a.call ∷ l) (calls_are (next s a.call) ran)
