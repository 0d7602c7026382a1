use Rattle.std.proofs.Common.{sym, ◌∙◌}
use Rattle.trigger_fill.specs.Form.{raw_fits, after_fits, fine_fits, tick_time, tick_fine, tick_other}
use Rattle.trigger_fill.proofs.times.Times.tick.Goals as goal

pub overflow_mul-raw : goal.overflow_mul-raw
overflow_mul-raw g c = record { fits = rw (c.low-low.ensures, c.FORM-f.ensures) (raw_fits g.met.E.Format.known c.args.word) }

pub after-n-requires : goal.after-n-requires
after-n-requires g c = rw (c.low-low.ensures, c.FORM-f.ensures) (after_fits g.met.E.Format.known c.requires c.args.word)

pub returns-then-kind-eq-TYPE : goal.returns-then-kind-eq-TYPE
returns-then-kind-eq-TYPE g c =
    c.set_to.ensures ∙ rw (c.after-n.ensures, c.low-low.ensures, c.FORM-f.ensures) (sym (tick_time g.E.Format.FORM c.args.self c.args.word
    (sym c.kind-kind.ensures ∙ c.if-kind-eq-TYPE.true)))

pub overflow_add-result : goal.overflow_add-result
overflow_add-result g c = record { fits = rw c.low-low.ensures (fine_fits g.met.E.Format.known c.requires c.args.word) }

pub returns-then-kind-f : goal.returns-then-kind-f
returns-then-kind-f g c =
    let kind = c.kind-kind.ensures in
    rw c.low-low.ensures (sym (tick_fine g.E.Format.FORM c.args.self c.args.word (λ e. c.if-kind-eq-TYPE.false (kind ∙ e))
    (sym kind ∙ rw c.FORM-f.ensures at c.if-kind-f.true)))

pub returns : goal.returns
returns g c =
    let kind = c.kind-kind.ensures in
    sym (tick_other g.E.Format.FORM c.args.self c.args.word (λ e. c.if-kind-eq-TYPE.false (kind ∙ e))
    (λ e. (rw c.FORM-f.ensures at c.if-kind-f.false) (kind ∙ e)))
