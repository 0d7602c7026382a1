use Rattle.read_capacity.specs.Laws.{need-most}
use Rattle.read_capacity.proofs.need.Goals as goal

pub returns-then-bound-room : goal.returns-then-bound-room
returns-then-bound-room c =
    let a = c.args in
    need-most a.window a.number a.codec a.bytes.now a.room c.most_over-bound.result c.most_over-bound.ensures c.if-bound-room.true
