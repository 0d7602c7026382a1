use Rattle.std.proofs.Common.{arith, ◌∙◌, ◌-◌}
use Rattle.read_seek.specs.Back.{rowless_start, rowless_next, row_found}
use Rattle.read_seek.proofs.back.row.Goals as goal

pub loop-k-init : goal.loop-k-init
loop-k-init c = rowless_start c.args.front.now

pub returns-then-kind-eq0 : goal.returns-then-kind-eq0
returns-then-kind-eq0 c =
    let k = c.loop-k in
    let a = c.args in
    c.bits.ensures ∙ row_found a.front.now k.k (k.k - 1) (omega arith) c.two_at-w.result
    c.two_at-w.ensures c.bits-kind.result c.bits-kind.ensures a.y k.invariant
    c.if-kind-eq0.true

pub loop-k-preserved : goal.loop-k-preserved
loop-k-preserved c =
    let k = c.loop-k.k in
    rowless_next c.args.front.now k (k - 1) (omega arith)
    c.two_at-w.result c.two_at-w.ensures c.bits-kind.result c.bits-kind.ensures
    c.loop-k.invariant c.if-kind-eq0.false
