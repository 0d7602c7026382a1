use Rattle.std.proofs.Common.{arith, one-mul}
use lib.Bits.{and_mask}
use lib.Pow.{shl_exact}
use Rattle.evt_types.proofs.fields.bits.Goals as goal

pub returns : goal.returns
returns c = rw (shl_exact {a = 1} 1 c.args.n 64 (omega arith) (omega arith), one-mul, and_mask)
