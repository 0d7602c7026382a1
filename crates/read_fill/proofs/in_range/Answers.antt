use Rattle.std.proofs.Common.{arith}
use Rattle.read_fill.proofs.in_range.Goals as goal

pub returns-in-Evt2 : goal.returns-in-Evt2
returns-in-Evt2 c = rw c.in-Evt2.is (c.in_range.ensures, tt)

pub returns-in-Evt21 : goal.returns-in-Evt21
returns-in-Evt21 c = rw c.in-Evt21.is (c.in_range-in-Evt21.ensures, tt)

pub returns-in-Evt3 : goal.returns-in-Evt3
returns-in-Evt3 c = rw c.in-Evt3.is (c.in_range-in-Evt3.ensures, omega arith)
