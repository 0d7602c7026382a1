use Rattle.std.proofs.Common.{sym, ◌∙◌, arith}
use Rattle.evt3_run_ends.specs.Blocks.{along_block}
use Rattle.evt3_run_ends.proofs.blocks.skip_blocks.Goals as goal

pub loop-j-preserved : goal.loop-j-preserved
loop-j-preserved c =
    let a = c.args in
    along_block a.events.xs.now a.events.ys.now a.events.ts.now a.events.ps.now a.events.sized c.loop-j.invariant (omega arith)
    (sym c.block_goes_on.ensures ∙ c.if-block_goes_on.true)
