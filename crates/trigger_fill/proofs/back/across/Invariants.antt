use Rattle.std.proofs.Common.{◌*◌}
use Rattle.trigger_fill.specs.Back.{Still, whole_times}
use Rattle.trigger_fill.proofs.back.across.Given as goal

abbrev pub invariant-loop-k : goal.invariant-loop-k
invariant-loop-k g l = Still whole_times g.E.Format.FORM l.front (l.k * g.E.Format.FORM.size)
