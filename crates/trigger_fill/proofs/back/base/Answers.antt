use Rattle.std.proofs.Common.{arith, sym, ◌*◌, ◌-◌, ◌∙◌, zero-mul, ◌≡◌}
use Rattle.trigger_fill.specs.Form.{known_at, size-pos}
use Rattle.trigger_fill.specs.Back.{coarse, word_before, still_words, still_next, still_end, coarse_found, coarse-kept}
use Rattle.trigger_fill.proofs.back.base.Goals as goal

pub overflow_step-k : goal.overflow_step-k
overflow_step-k g c = size-pos (known_at c.FORM-f.ensures g.met.E.Format.known)

pub loop-k-init : goal.loop-k-init
loop-k-init g c = rw c.FORM-f.ensures (still_words coarse g.met.E.Format.known c.args.front.now c.requires.whole)

pub returns-then-kind-eq-TYPE : goal.returns-then-kind-eq-TYPE
returns-then-kind-eq-TYPE g c =
    let k = c.loop-k in
    let n = g.E.Format.FORM.size in
    c.coarse.ensures
    ∙ coarse_found g.met.E.Format.known c.args.front.now ((k.k - 1) * n) (word_before k.k n c.loop-k-test.true) c.word-w.result
    (rw c.FORM-f.ensures at c.word-w.ensures) c.args.c k.invariant (sym c.kind.ensures ∙ c.if-kind-eq-TYPE.true)

pub loop-k-preserved : goal.loop-k-preserved
loop-k-preserved g c =
    let k = c.loop-k in
    let n = g.E.Format.FORM.size in
    still_next coarse g.met.E.Format.known c.args.front.now k.invariant ((k.k - 1) * n) (word_before k.k n c.loop-k-test.true) c.word-w.result
    (rw c.FORM-f.ensures at c.word-w.ensures)
    (coarse-kept g.E.Format.FORM c.word-w.result (λ e. c.if-kind-eq-TYPE.false (c.kind.ensures ∙ e)))

pub returns : goal.returns
returns g c =
    let none : c.loop-k.k ≡ 0 = omega (arith, c.loop-k-test.false) in
    still_end coarse g.met.E.Format.known c.args.front.now c.loop-k.invariant (rw (none, zero-mul) (size-pos g.met.E.Format.known)) c.args.c
