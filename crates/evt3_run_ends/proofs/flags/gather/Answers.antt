use Rattle.std.proofs.Common.{arith, ◌-◌}
use Rattle.evt3_run_ends.specs.Flags.{pack_start, pack_small, pack_iteration}
use Rattle.evt3_run_ends.proofs.flags.gather.Goals as goal

pub loop-j-init : goal.loop-j-init
loop-j-init c = pack_start c.args.flags.now

pub overflow_mul-mask : goal.overflow_mul-mask
overflow_mul-mask c = omega (arith, pack_small c.args.flags.now c.loop-j.invariant c.requires)

pub overflow_add-mask : goal.overflow_add-mask
overflow_add-mask c =
    omega (
      arith,
      pack_small c.args.flags.now c.loop-j.invariant c.requires,
      c.requires (c.loop-j.j - 1) (omega arith),
    )

pub loop-j-preserved : goal.loop-j-preserved
loop-j-preserved c = pack_iteration c.args.flags.now c.loop-j.invariant c.loop-j-test.true
