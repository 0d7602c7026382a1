use Rattle.std.proofs.Common.{arith}
use Rattle.evt3_run_words.specs.Masks.{scan_low, scan_small, scan_iteration, scan_out, scan_end}
use Rattle.evt3_run_words.proofs.next_masks.Goals as goal

pub overflow_sub-x : goal.overflow_sub-x
overflow_sub-x c =
    let p = c.requires in
    scan_low p.0 p.2 c.loop-next.invariant c.loop-next-test.true

pub overflow_add-mask : goal.overflow_add-mask
overflow_add-mask c =
    let p = c.requires in
    omega (arith, scan_small p.0 p.2 c.loop-next.invariant c.loop-next-test.true c.if-base-x.false)

pub loop-next-preserved : goal.loop-next-preserved
loop-next-preserved c =
    let p = c.requires in
    scan_iteration p.0 p.2 c.loop-next.invariant c.loop-next-test.true
    c.if-base-x.false c.bit-mask.result c.bit-mask.ensures

pub returns-then-base-x : goal.returns-then-base-x
returns-then-base-x c =
    let p = c.requires in
    scan_out p.0 p.2 c.loop-next.invariant c.loop-next-test.true c.if-base-x.true

pub returns : goal.returns
returns c = scan_end c.requires.0 c.requires.2 c.loop-next.invariant c.loop-next-test.false
