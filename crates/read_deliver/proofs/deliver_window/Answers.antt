use Rattle.read_deliver.proofs.deliver_window.Goals as goal
use Rattle.read_capacity.proofs.DeliverLaws.{delivers_filled}

pub returns : goal.returns
returns c =
    let a = c.args in
    delivers_filled a.window a.number a.codec a.bytes.now c.shortest-room.result c.need-n.result
    c.fill-t.result c.shortest-room.ensures c.need-n.ensures c.if-room-n.false c.fill-t.ensures.filled
    c.fill-t.ensures.wrote
