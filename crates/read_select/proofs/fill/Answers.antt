use Rattle.std.proofs.Common.{length}
use Rattle.evt_codec.specs.{Sound.able_fitting, declared.codec.Codec.TheVariants.Evt3}
use Rattle.read_select.specs.Pass.{Ready}
use Rattle.read_select.proofs.fill.Goals as goal

pub fill_evt2-requires-clause-ready : goal.fill_evt2-requires-clause-ready
fill_evt2-requires-clause-ready c = rw c.in-Evt2.is at c.requires.ready

pub fill_evt2-requires-clause-fit : goal.fill_evt2-requires-clause-fit
fill_evt2-requires-clause-fit c = rw c.in-Evt2.is at c.requires.fit

pub fill-requires-clause-ready : goal.fill-requires-clause-ready
fill-requires-clause-ready c =
    let r = rw c.in-Evt21.is at c.requires.ready in
    rw c.new.ensures (record { bounded = r.able; long = r.long; low = r.low })

pub fill-requires-clause-fit : goal.fill-requires-clause-fit
fill-requires-clause-fit c = rw c.new.ensures (rw c.in-Evt21.is at c.requires.fit)

pub fill-requires-in-Evt3-clause-ready : goal.fill-requires-in-Evt3-clause-ready
fill-requires-in-Evt3-clause-ready c =
    let r : Ready (Evt3 c.in-Evt3.d) c.args.number (length c.args.bytes.now) = rw c.in-Evt3.is at c.requires.ready in
    rw c.widen.ensures.0 (record {
      bounded = able_fitting (Evt3 c.in-Evt3.d) (length c.args.bytes.now) r.able c.widen.ensures.1.column;
      long = r.long;
      low = r.low;
    })

pub fill-requires-in-Evt3-clause-fit : goal.fill-requires-in-Evt3-clause-fit
fill-requires-in-Evt3-clause-fit c = rw c.widen.ensures.0 (rw c.in-Evt3.is at c.requires.fit)

pub returns-in-Evt2-clause-filled : goal.returns-in-Evt2-clause-filled
returns-in-Evt2-clause-filled c = rw c.in-Evt2.is c.fill_evt2.ensures.filled

pub returns-in-Evt2-clause-wrote : goal.returns-in-Evt2-clause-wrote
returns-in-Evt2-clause-wrote c = rw c.in-Evt2.is c.fill_evt2.ensures.wrote

pub returns-in-Evt21-clause-filled : goal.returns-in-Evt21-clause-filled
returns-in-Evt21-clause-filled c = rw c.in-Evt21.is (rw c.new.ensures at c.fill.ensures.filled)

pub returns-in-Evt21-clause-wrote : goal.returns-in-Evt21-clause-wrote
returns-in-Evt21-clause-wrote c = rw c.in-Evt21.is (rw c.new.ensures at c.fill.ensures.wrote)

pub returns-in-Evt3-clause-filled : goal.returns-in-Evt3-clause-filled
returns-in-Evt3-clause-filled c = rw c.in-Evt3.is (rw c.widen.ensures.0 at c.fill-in-Evt3.ensures.filled)

pub returns-in-Evt3-clause-wrote : goal.returns-in-Evt3-clause-wrote
returns-in-Evt3-clause-wrote c = rw c.in-Evt3.is (rw c.widen.ensures.0 at c.fill-in-Evt3.ensures.wrote)
