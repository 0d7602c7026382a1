use Rattle.std.proofs.Common.{arith}
use Rattle.trigger_fill.specs.Form.{raw_fits, after_fits}
use Rattle.trigger_fill.proofs.times.Times.coarse.Goals as goal

pub overflow_mul-raw : goal.overflow_mul-raw
overflow_mul-raw g c = record { fits = rw (c.low.ensures, c.FORM-f.ensures) (raw_fits g.met.E.Format.known c.args.word) }

pub overflow_add-result : goal.overflow_add-result
overflow_add-result g c =
    rw (c.low.ensures, c.FORM-f.ensures) (omega (arith, (after_fits g.met.E.Format.known c.requires c.args.word).1))
