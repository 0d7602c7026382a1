use Rattle.std.proofs.Common.{◌∙◌}
use Rattle.evt3_run_ends.specs.Flags.{flags_marks}
use Rattle.evt3_run_ends.proofs.flags.marks_at_once.Goals as goal

pub returns : goal.returns
returns c =
    let a = c.args in
    c.gather.ensures ∙ flags_marks a.events.xs.now a.events.ys.now a.events.ts.now a.events.ps.now a.i c.requires
    c.flag_places.ensures c.flag_times.ensures
