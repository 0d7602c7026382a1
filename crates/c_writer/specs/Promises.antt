-- From what the library promises to what the C interface does.
use Rattle.std.specs.Prelude.{◌≡◌, refl, Bool, true, false, cond, List, ℕ, ℤ, length}
use Rattle.std.proofs.Common.{sym, ap, subst, ◌∙◌}
use Rattle.evt_types.specs.{declared.Refusal.TheVariants.StateOutOfRange}
use Rattle.evt_types.specs.{Outcome.Outcome, Outcome.refuse, Outcome.give, Told.told}
use Rattle.write_append.specs.declared.Appended.{Appended}
use Rattle.write_rules.specs.declared.RawEventSink.{RawEventSink}
use Rattle.write_append.specs.Append.{AppendedBytes, append_outcome, told_append, append_verdict, sink_after, AppendOwed}
use Rattle.c_values.specs.{Reading.refused_not}
use Rattle.c_writer.specs.{declared.writer.PropheseeAppended.PropheseeAppended, declared.writer.PropheseeSink.PropheseeSink, Laws.sink_back}
use Rattle.c_writer.specs.{Writer.is_sink, Writer.sink_of, Writer.flat_sink, Writer.appended_of, Writer.AppendsC, Writer.AppendOwedC}

module _ (given : PropheseeSink) (width height : ℕ) (xs ys : List ℕ) (ts : List ℤ) (ps out₀ : List ℕ) where
  pub appends : is_sink given ≡ true → (s : RawEventSink) → s ≡ sink_of given → (a : Appended) (out : List ℕ) → AppendOwed s width height xs ys ts ps out₀ a out
      → (r : PropheseeAppended) → r ≡ appended_of given (told_append a.answer) a.sink → AppendOwedC given width height xs ys ts ps out₀ r out
  appends is s is_s a out owed r is-r =
      let h = subst (λ (s : RawEventSink). AppendOwed s width height xs ys ts ps out₀ a out) is_s owed in
      let o = append_outcome (sink_of given) width height xs ys ts ps (length out₀) in
      let answer : r ≡ appended_of given (append_verdict o) (sink_after (sink_of given) o) = is-r ∙ (λ i. appended_of given (h.is_told i) (h.is_sink_lem i)) in
      subst (λ (k : Outcome AppendedBytes). AppendsC given k out₀ r out) (ap (λ (b : Bool). cond b o (refuse StateOutOfRange)) (sym is))
      (record { is_answer = answer; is_sink_lem = ap (λ (r : PropheseeAppended). sink_of r.sink) answer ∙ go o; is_output = h.is_output })
    where
      go : (o : Outcome AppendedBytes) → sink_of (appended_of given (append_verdict o) (sink_after (sink_of given) o)).sink ≡ sink_after (sink_of given) o
      go (refuse r) = ap (λ (b : Bool). sink_of (cond b (flat_sink (sink_of given)) given)) (refused_not r)
      go (give b) = sink_back b.sink

  -- numbers that are no writer's
  pub appends_not : is_sink given ≡ false → (s : RawEventSink) (r : PropheseeAppended) → r ≡ appended_of given (told StateOutOfRange) s
      → AppendOwedC given width height xs ys ts ps out₀ r out₀
  appends_not is s r is-r =
      let o = append_outcome (sink_of given) width height xs ys ts ps (length out₀) in
      subst (λ (k : Outcome AppendedBytes). AppendsC given k out₀ r out₀) (ap (λ (b : Bool). cond b o (refuse StateOutOfRange)) (sym is))
      (record { is_answer = is-r; is_sink_lem = ap (λ (r : PropheseeAppended). sink_of r.sink) is-r; is_output = refl })
