use Rattle.std.proofs.Common.{◌-◌, arith}
use Rattle.evt3_run_rules.specs.Marks.{gather_full, gather_rest, gather_small, gather_iteration, stop_le}
use Rattle.evt3_run_ends.proofs.marks_one_by_one.Goals as goal
use Rattle.evt3_run_ends.proofs.marks_one_by_one.Goals.{then-last-i-ge63, else-last-i-ge63}

pub loop-j-init : goal.loop-j-init
loop-j-init c =
    let a = c.args in
    elim c.if-last-i-ge63.branch [
      | then-last-i-ge63 w ↦ rw w.end-is (gather_full a.events.xs.now a.events.ys.now a.events.ts.now a.events.ps.now a.i (omega arith))
      | else-last-i-ge63 w ↦ rw w.end-is (gather_rest a.events.xs.now a.events.ys.now a.events.ts.now a.events.ps.now a.i c.requires (omega arith))
    ]

pub overflow_mul-mask : goal.overflow_mul-mask
overflow_mul-mask c = omega (arith, gather_small _ _ _ _ c.loop-j.invariant)

pub overflow_add-mask : goal.overflow_add-mask
overflow_add-mask c =
    let a = c.args in
    omega (
      arith,
      gather_small _ _ _ _ c.loop-j.invariant,
      stop_le a.events.xs.now a.events.ys.now a.events.ts.now a.events.ps.now (c.loop-j.j - 1),
    )

pub loop-j-preserved : goal.loop-j-preserved
loop-j-preserved c =
    gather_iteration _ _ _ _ c.loop-j.invariant c.loop-j-test.true c.stops.result c.stops.ensures
