use Rattle.read_deliver.proofs.deliver_all.Goals as goal
use Rattle.read_capacity.proofs.DeliverLaws.{delivers_inside}

pub returns : goal.returns
returns c =
    let a = c.args in
    delivers_inside a.window.width a.window.height a.codec a.bytes.now c.shortest-room.result c.need_all-n.result
    c.fill_all-t.result c.shortest-room.ensures c.need_all-n.ensures c.if-room-n.false
    c.fill_all-t.ensures.filled c.fill_all-t.ensures.wrote
