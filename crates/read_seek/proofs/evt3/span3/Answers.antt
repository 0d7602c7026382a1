use Rattle.std.proofs.Common.{arith, length-take}
use Rattle.read_seek.specs.Put.{passed-within, put_found}
use Rattle.read_seek.proofs.evt3.span3.Goals as goal

pub slice_bounds-put-end : goal.slice_bounds-put-end
slice_bounds-put-end c =
    let a = c.args in
    let h = passed-within a.t0 a.t1 a.d a.bytes.now c.pass-r.result c.pass-r.ensures.0 in
    simp length-take (omega arith)

pub returns-then-d : goal.returns-then-d
returns-then-d c =
    let a = c.args in
    put_found a.t0 a.t1 a.d a.bytes.now c.if-d.true (omega arith)
    c.pass-r.result c.pass-r.ensures.0
    c.pass-r.ensures.1 c.put-decoder.result c.put-decoder.ensures
