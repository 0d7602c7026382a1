use Rattle.std.proofs.Common.{ap, ◌∙◌, arith}
use Rattle.read_columns.specs.Inside.{inside_at, inside_none, inside_one}
use Rattle.read_columns.proofs.sees.Goals as goal

pub returns-then-v-eq0 : goal.returns-then-v-eq0
returns-then-v-eq0 c =
    ap (inside_at c.args.width c.args.height c.args.v) c.if-v-eq0.true
    ∙ inside_none c.args.width c.args.height c.args.v

pub returns-else-v-eq0 : goal.returns-else-v-eq0
returns-else-v-eq0 c =
    rw c.inside.ensures (inside_one c.args.width c.args.height c.args.v (omega arith) c.requires.1)
