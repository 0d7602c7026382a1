use Rattle.std.proofs.Common.{refl, arith}
use Rattle.evt3_run_rules.specs.Marks.{seek_along, seek_next, seek_end}
use Rattle.evt3_run_ends.proofs.run_at.Goals as goal

pub skip_blocks-j-requires : goal.skip_blocks-j-requires
skip_blocks-j-requires c =
    let a = c.args in
    (seek_along a.events.xs.now a.events.ys.now a.events.ts.now a.events.ps.now a.events.sized c.loop-m.invariant
    c.marks-m.result c.marks-m.ensures c.if-m-eq0.true).inside

pub loop-m-preserved-then-m-eq0 : goal.loop-m-preserved-then-m-eq0
loop-m-preserved-then-m-eq0 c =
    let a = c.args in
    seek_next a.events.xs.now a.events.ys.now a.events.ts.now a.events.ps.now a.events.sized c.loop-m.invariant
    c.marks-m.result c.marks-m.ensures c.if-m-eq0.true c.skip_blocks-j.result
    c.skip_blocks-j.ensures

pub returns : goal.returns
returns c =
    let a = c.args in seek_end a.events.xs.now a.events.ys.now a.events.ts.now a.events.ps.now a.events.sized c.loop-m.invariant (omega arith) _ refl refl
