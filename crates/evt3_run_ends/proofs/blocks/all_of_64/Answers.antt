use Rattle.std.proofs.Common.{◌+◌, arith}
use Rattle.evt3_run_ends.specs.Blocks.{asked_iteration, asked_end}
use Rattle.evt3_run_ends.proofs.blocks.all_of_64.Goals as goal

pub loop-j-preserved : goal.loop-j-preserved
loop-j-preserved g c f said =
    let l = c.loop-j in
    asked_iteration f 64 c.args.i (l.invariant f said) (omega arith) c.holds-all.result
    (said (c.args.i + l.j) c.holds-all.result (omega arith) c.holds-all.ensures)

pub returns : goal.returns
returns g c f said = asked_end f 64 c.args.i (c.loop-j.invariant f said) (omega arith)
