use Rattle.trigger_fill.specs.Form.{known_at, paced_at, late_fits}
use Rattle.trigger_fill.proofs.times.Times.is_late.Goals as goal

pub overflow_add-result : goal.overflow_add-result
overflow_add-result g c = record { fits = late_fits (known_at c.FORM-f.ensures g.met.E.Format.known) (paced_at c.FORM-f.ensures c.requires) }
