use Rattle.std.proofs.Common.{sym, arith, length-drop, length-take-le}
use Rattle.laws_stream.specs.{Part.rest_of}
use Rattle.trigger_fill.specs.Form.{paced_none}
use Rattle.trigger_fill.specs.Calm.{side_of}
use Rattle.trigger_fill.specs.Reach.{reach-within, reach-whole, reach_on}
use Rattle.trigger_fill.proofs.find.reach.Goals as goal

pub is_late-late-requires : goal.is_late-late-requires
is_late-late-requires g c = paced_none c.requires.paced

pub slice_bounds-across-end : goal.slice_bounds-across-end
slice_bounds-across-end g c =
    let found = rw (rest_of c.args.bytes.now c.args.i) at c.find-n.ensures in
    let h = reach-within g.met.E.Format.known c.requires c.find-n.result c.is_late-late.result found in
    rw (rest_of c.args.bytes.now c.args.i) (sym (length-take-le _ _ h))

pub across-times-requires-clause-paced : goal.across-times-requires-clause-paced
across-times-requires-clause-paced g c = paced_none c.requires.paced

pub across-times-requires-clause-whole : goal.across-times-requires-clause-whole
across-times-requires-clause-whole g c =
    let found = rw (rest_of c.args.bytes.now c.args.i) at c.find-n.ensures in
    rw (rest_of c.args.bytes.now c.args.i) (reach-whole g.met.E.Format.known c.requires c.find-n.result c.is_late-late.result found)

pub overflow_add-result : goal.overflow_add-result
overflow_add-result g c =
    let found = rw (rest_of c.args.bytes.now c.args.i) at c.find-n.ensures in
    let h = reach-within g.met.E.Format.known c.requires c.find-n.result c.is_late-late.result found in
    omega (arith, h, length-drop c.args.i c.args.bytes.now)

pub returns : goal.returns
returns g c =
    let found = rw (rest_of c.args.bytes.now c.args.i) at c.find-n.ensures in
    reach_on g.met.E.Format.known c.requires c.find-n.result c.is_late-late.result found
    (rw c.is_late-late.ensures (side_of g.E.Format.FORM c.args.c)) c.across-times.result
    (rw (rest_of c.args.bytes.now c.args.i) at c.across-times.ensures)
