use Rattle.std.proofs.Common.{arith, sym, take, ◌*◌, ◌-◌, ◌∙◌, zero-mul, ◌≡◌}
use Rattle.laws_stream.specs.Words.{words_of}
use Rattle.trigger_fill.specs.Form.{known_at, size-pos, fine_fits}
use Rattle.trigger_fill.specs.Calm.{ease_other, paced_settled}
use Rattle.trigger_fill.specs.Back.{whole_times, word_before, still_words, still_next, still_end, whole-front, time_found, fine_found}
use Rattle.trigger_fill.proofs.back.across.Goals as goal

pub overflow_step-k : goal.overflow_step-k
overflow_step-k g c = size-pos (known_at c.FORM-f.ensures g.met.E.Format.known)

pub loop-k-init : goal.loop-k-init
loop-k-init g c = rw c.FORM-f.ensures (still_words whole_times g.met.E.Format.known c.args.front.now c.requires.whole)

pub returns-then-kind-eq-TYPE : goal.returns-then-kind-eq-TYPE
returns-then-kind-eq-TYPE g c =
    let k = c.loop-k in
    let n = g.E.Format.FORM.size in
    c.set_to.ensures ∙ rw c.coarse.ensures (time_found g.met.E.Format.known c.args.front.now ((k.k - 1) * n) (word_before k.k n c.loop-k-test.true)
    c.word-w.result (rw c.FORM-f.ensures at c.word-w.ensures) c.args.c k.invariant (sym c.kind-kind.ensures ∙ c.if-kind-eq-TYPE.true))

pub base-b-requires-clause-whole : goal.base-b-requires-clause-whole
base-b-requires-clause-whole g c =
    let k = c.loop-k in
    let n = g.E.Format.FORM.size in
    rw c.FORM-f.ensures (whole-front whole_times g.met.E.Format.known c.args.front.now k.invariant ((k.k - 1) * n)
    (word_before k.k n c.loop-k-test.true) c.word-w.result (rw c.FORM-f.ensures at c.word-w.ensures))

pub overflow_add-result : goal.overflow_add-result
overflow_add-result g c =
    let front = take ((c.loop-k.k - 1) * g.E.Format.FORM.size) c.args.front.now in
    record {
      fits = rw (c.low.ensures, c.base-b.ensures, c.FORM-f.ensures) (fine_fits g.met.E.Format.known
          (paced_settled g.met.E.Format.known (words_of g.E.Format.FORM.size front) c.requires.paced) c.word-w.result);
    }

pub returns-then-kind-f : goal.returns-then-kind-f
returns-then-kind-f g c =
    let k = c.loop-k in
    let n = g.E.Format.FORM.size in
    rw c.low.ensures (fine_found g.met.E.Format.known c.args.front.now ((k.k - 1) * n)
    (word_before k.k n c.loop-k-test.true) c.word-w.result (rw c.FORM-f.ensures at c.word-w.ensures) c.args.c k.invariant
    (λ e. c.if-kind-eq-TYPE.false (c.kind-kind.ensures ∙ e)) (sym c.kind-kind.ensures ∙ rw c.FORM-f.ensures at c.if-kind-f.true)
    c.base-b.result (rw c.FORM-f.ensures at c.base-b.ensures))

pub loop-k-preserved : goal.loop-k-preserved
loop-k-preserved g c =
    let k = c.loop-k in
    let n = g.E.Format.FORM.size in
    still_next whole_times g.met.E.Format.known c.args.front.now k.invariant ((k.k - 1) * n) (word_before k.k n c.loop-k-test.true)
    c.word-w.result (rw c.FORM-f.ensures at c.word-w.ensures)
    (λ t. ease_other g.E.Format.FORM t c.word-w.result (λ e. c.if-kind-eq-TYPE.false (c.kind-kind.ensures ∙ e))
    (λ e. (rw c.FORM-f.ensures at c.if-kind-f.false) (c.kind-kind.ensures ∙ e)))

pub returns : goal.returns
returns g c =
    let none : c.loop-k.k ≡ 0 = omega (arith, c.loop-k-test.false) in
    still_end whole_times g.met.E.Format.known c.args.front.now c.loop-k.invariant (rw (none, zero-mul) (size-pos g.met.E.Format.known)) c.args.c
