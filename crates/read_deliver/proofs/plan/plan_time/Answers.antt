use Rattle.std.proofs.Common.{arith}
use Rattle.read_deliver.specs.Plan.{within_time, able_time, within-span, planned_stray, planned_upto}
use Rattle.read_deliver.proofs.plan.plan_time.Goals as goal

pub slice_bounds-span-count : goal.slice_bounds-span-count
slice_bounds-span-count c =
    let a = c.args in
    let s = c.seek-s in
    within_time a.window a.number a.codec a.bytes.now c.requires.ready c.requires.timed s.result s.ensures.0 s.ensures.1

pub slice_bounds-span-start : goal.slice_bounds-span-start
slice_bounds-span-start c =
    let a = c.args in
    let s = c.seek-s in
    within_time a.window a.number a.codec a.bytes.now c.requires.ready c.requires.timed s.result s.ensures.0 s.ensures.1

pub span-e-requires-clause-able : goal.span-e-requires-clause-able
span-e-requires-clause-able c =
    let a = c.args in
    let s = c.seek-s in
    (able_time a.window a.number a.codec a.bytes.now c.requires.ready c.requires.timed s.result s.ensures.0 s.ensures.1).0

pub returns-then-e : goal.returns-then-e
returns-then-e c =
    let a = c.args in
    let s = c.seek-s in
    planned_stray a.window a.number a.codec a.bytes.now c.requires.ready c.requires.timed s.result s.ensures.0 s.ensures.1

pub overflow_add-result : goal.overflow_add-result
overflow_add-result c =
    let a = c.args in
    let s = c.seek-s in
    let e = c.span-e in
    omega (
      arith,
      within-span a.window a.number a.codec a.bytes.now c.requires.ready c.requires.timed s.result s.ensures.0 s.ensures.1 e.result e.ensures.0,
    )

pub returns : goal.returns
returns c =
    let a = c.args in
    let s = c.seek-s in
    let e = c.span-e in
    planned_upto a.window a.number a.codec a.bytes.now c.requires.ready c.requires.timed s.result s.ensures.0 s.ensures.1 e.result e.ensures.0 c.if-e.false
