use Rattle.read_select.proofs.fill_evt2.Goals as goal

pub fill-requires-clause-ready : goal.fill-requires-clause-ready
fill-requires-clause-ready c =
    let r = c.requires.ready in
    rw c.new.ensures (record { bounded = r.able; long = r.long; low = r.low })

pub fill-requires-clause-fit : goal.fill-requires-clause-fit
fill-requires-clause-fit c = rw c.new.ensures c.requires.fit

pub returns-clause-filled : goal.returns-clause-filled
returns-clause-filled c = rw c.new.ensures at c.fill.ensures.filled

pub returns-clause-wrote : goal.returns-clause-wrote
returns-clause-wrote c = rw c.new.ensures at c.fill.ensures.wrote
