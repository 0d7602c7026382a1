use Rattle.std.proofs.Common.{length}
use Rattle.read_rules.specs.Read.{body_events}
use Rattle.read_rules.specs.Laws.{ready_new}
use Rattle.read.proofs.read_body.Goals as goal
use Rattle.read_rules.proofs.ReadLaws.{delivers_body, reads_body}

pub deliver-d-requires : goal.deliver-d-requires
deliver-d-requires c =
    let new = c.new-codec in
    let a = c.args in
    ready_new a.size a.encoding a.limit new.result new.ensures (length a.body.now) c.requires

pub returns : goal.returns
returns c =
    let a = c.args in
    reads_body (body_events a.encoding a.size a.limit a.body.now) c.deliver-d.result (delivers_body a.size a.encoding
    a.limit c.new-codec.result c.new-codec.ensures a.body.now c.window_of-window.result c.requires c.window_of-window.ensures
    c.deliver-d.ensures) a.encoding a.size c.settle.result c.settle.ensures
