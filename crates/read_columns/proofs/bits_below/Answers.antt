use Rattle.std.proofs.Common.{sym, ◌-◌, arith}
use Rattle.read_columns.specs.Inside.{all-bits}
use Rattle.read_columns.proofs.bits_below.Goals as goal

pub returns-then-x-bound : goal.returns-then-x-bound
returns-then-x-bound c = sym (all-bits 32 c.args.mask (c.args.bound - c.args.x) c.requires.1 (omega arith))
