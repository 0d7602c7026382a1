use Rattle.std.proofs.Common.{sym, ◌∙◌}
use Rattle.write_rules.specs.Range.{sink_not_before}
use Rattle.write_rules.specs.Blocks.{looked_fine}
use Rattle.write_rules.specs.Checks.{falls_never}
use Rattle.write_rules.proofs.check_append.Goals as goal

pub events_in_range-requires : goal.events_in_range-requires
events_in_range-requires c =
    let looked = rw c.not_before-from.ensures at c.look_after.ensures in
    falls_never (sink_not_before c.args.sink) c.args.ts.now (looked_fine _ _ _ (sym looked ∙ c.in_ok-fine.was)).0
