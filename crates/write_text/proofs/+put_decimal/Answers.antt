use Rattle.std.proofs.Common.{arith}
use Rattle.write_text.specs.Stored.{stored_digit, stored_digits}
use Rattle.write_text.proofs.+put_decimal.Goals as goal

pub returns-then-n-lt10 : goal.returns-then-n-lt10
returns-then-n-lt10 t c = stored_digit c.args.n c.if-n-lt10.true c.put8.ensures

pub returns-else-n-lt10 : goal.returns-else-n-lt10
returns-else-n-lt10 t c =
    stored_digits c.args.n c.if-n-lt10.false (omega arith) c.put_decimal-end.ensures c.put8-else-n-lt10.ensures
