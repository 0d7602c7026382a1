use Rattle.std.proofs.Common.{ap, arith, length, w64}
use Rattle.std.proofs.lemmas.Int.{to_z_pos}
use Rattle.evt_types.specs.Columns.{going_start, going_one, going_end}
use Rattle.read_columns.specs.Inside.{first_of}
use Rattle.read_columns.proofs.put1.Goals as goal

pub returns-then-sees-clause-wrote : goal.returns-then-sees-clause-wrote
returns-then-sees-clause-wrote c =
    let is = rw c.if-sees.true at c.sees.ensures in
    rw (is, to_z_pos w64 c.args.v.t c.requires.room.time)
    (going_end (omega (arith, ap length is)) (omega (arith, ap length is)) (omega (arith, ap length is)) (omega (arith, ap length is))
    (going_one (first_of c.args.v) going_start))

pub returns-else-sees-clause-wrote : goal.returns-else-sees-clause-wrote
returns-else-sees-clause-wrote c =
    let is = rw c.if-sees.false at c.sees.ensures in
    rw is (going_end (omega (arith, ap length is)) (omega (arith, ap length is)) (omega (arith, ap length is)) (omega (arith, ap length is)) going_start)
