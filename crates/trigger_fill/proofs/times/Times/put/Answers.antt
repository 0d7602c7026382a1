use Rattle.std.proofs.Common.{length, sym, ap, ◌∙◌, arith, w64}
use Rattle.std.proofs.lemmas.Int.{to_z_pos}
use Rattle.trigger_fill.specs.Form.{known_at, paced_at, low_few, fields_few, small_trigger, trigger_in, trigger_word, no_trigger_lem}
use Rattle.trigger_fill.specs.Put.{put_one, put_none}
use Rattle.trigger_fill.proofs.times.Times.put.Goals as goal

pub overflow_add-t : goal.overflow_add-t
overflow_add-t g c =
    let known = known_at c.FORM-f.ensures g.met.E.Format.known in
    omega (arith, (small_trigger known (paced_at c.FORM-f.ensures c.requires.paced) c.args.word).t<, c.bits.ensures)

pub overflow_add-f-then-kind-eq-TYPE : goal.overflow_add-f-then-kind-eq-TYPE
overflow_add-f-then-kind-eq-TYPE g c = omega (arith, (fields_few (known_at c.FORM-f.ensures g.met.E.Format.known)).0)

pub bits-id-requires : goal.bits-id-requires
bits-id-requires g c = let few = fields_few (known_at c.FORM-f.ensures g.met.E.Format.known) in (omega (arith, few.0), few.2)

pub bits-value-requires : goal.bits-value-requires
bits-value-requires g c = ((low_few (known_at c.FORM-f.ensures g.met.E.Format.known)).0, omega arith)

pub overflow_cast-stamp : goal.overflow_cast-stamp
overflow_cast-stamp g c =
    let known = known_at c.FORM-f.ensures g.met.E.Format.known in
    omega (arith, (small_trigger known (paced_at c.FORM-f.ensures c.requires.paced) c.args.word).t<, c.bits.ensures)

pub bounds-ts-at : goal.bounds-ts-at
bounds-ts-at g c =
    omega (arith, ap length (trigger_word g.E.Format.FORM c.args.self c.args.word (sym c.kind-kind.ensures ∙ c.if-kind-eq-TYPE.true)))

pub bounds-ids-at : goal.bounds-ids-at
bounds-ids-at g c =
    omega (arith, ap length (trigger_word g.E.Format.FORM c.args.self c.args.word (sym c.kind-kind.ensures ∙ c.if-kind-eq-TYPE.true)))

pub bounds-values-at : goal.bounds-values-at
bounds-values-at g c =
    omega (arith, ap length (trigger_word g.E.Format.FORM c.args.self c.args.word (sym c.kind-kind.ensures ∙ c.if-kind-eq-TYPE.true)))

pub overflow_cast-ids : goal.overflow_cast-ids
overflow_cast-ids g c =
    let known = known_at c.FORM-f.ensures g.met.E.Format.known in
    omega (arith, (small_trigger known (paced_at c.FORM-f.ensures c.requires.paced) c.args.word).id<, c.bits-id.ensures)

pub returns-then-kind-eq-TYPE : goal.returns-then-kind-eq-TYPE
returns-then-kind-eq-TYPE g c =
    let a = c.args in
    let f = c.FORM-f.result in
    let known = known_at c.FORM-f.ensures g.met.E.Format.known in
    rw (
      ← c.FORM-f.ensures,
      c.bits-value.ensures,
      c.bits-id.ensures,
      c.bits.ensures,
      to_z_pos w64 (trigger_in f a.self a.word).t (small_trigger known (paced_at c.FORM-f.ensures c.requires.paced) a.word).t<,
    ) (put_one a.at (trigger_in f a.self a.word) (trigger_word f a.self a.word (rw (← c.FORM-f.ensures) at (sym c.kind-kind.ensures ∙ c.if-kind-eq-TYPE.true))))

pub returns : goal.returns
returns g c =
    put_none c.args.at (no_trigger_lem g.E.Format.FORM c.args.self c.args.word (λ e. c.if-kind-eq-TYPE.false (c.kind-kind.ensures ∙ e)))
