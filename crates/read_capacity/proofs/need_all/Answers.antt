use Rattle.read_capacity.specs.Laws.{need-all-most}
use Rattle.read_capacity.proofs.need_all.Goals as goal

pub returns-then-most-room : goal.returns-then-most-room
returns-then-most-room c =
    let a = c.args in
    need-all-most a.width a.height a.codec a.bytes.now a.room c.most_from-most.result c.most_from-most.ensures c.if-most-room.true
