use Rattle.std.proofs.Common.{◌∙◌, arith, ◌-◌}
use Rattle.read_seek.specs.Back.{baseless_start, baseless_next, base_found}
use Rattle.read_seek.proofs.back.base.Goals as goal

pub loop-k-init : goal.loop-k-init
loop-k-init c = baseless_start c.args.front.now

pub returns-then-kind-eq3 : goal.returns-then-kind-eq3
returns-then-kind-eq3 c =
    let a = c.args in
    let k = c.loop-k in
    let two_at = c.two_at-w in
    rw (c.saturating_add.ensures, c.bits.ensures, c.bits-sign.ensures) (base_found a.front.now k.k (k.k - 1)
    (omega arith) two_at.result two_at.ensures c.bits-kind.result
    c.bits-kind.ensures (record { x = a.x; p = a.p }) k.invariant c.if-kind-eq3.true)

pub loop-k-preserved : goal.loop-k-preserved
loop-k-preserved c =
    let k = c.loop-k in
    let two_at = c.two_at-w in
    baseless_next c.args.front.now k.k (k.k - 1) (omega arith)
    two_at.result two_at.ensures c.bits-kind.result c.bits-kind.ensures k.invariant
    c.if-kind-eq3.false c.saturating_add-by.result (c.saturating_add-by.ensures ∙ rw c.moves.ensures)
