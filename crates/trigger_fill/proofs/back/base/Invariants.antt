use Rattle.std.proofs.Common.{◌*◌}
use Rattle.trigger_fill.specs.Back.{Still, coarse}
use Rattle.trigger_fill.proofs.back.base.Given as goal

abbrev pub invariant-loop-k : goal.invariant-loop-k
invariant-loop-k g l = Still coarse g.E.Format.FORM l.front (l.k * g.E.Format.FORM.size)
