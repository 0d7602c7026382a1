-- By the codec's case: `begun`.
use Rattle.std.proofs.Common.{ap}
use Rattle.trigger_fill.specs.Start.{form_of, begun, handed}
use Rattle.trigger_fill.proofs.fill.Goals as goal

pub fill_from-requires-clause-place : goal.fill_from-requires-clause-place
fill_from-requires-clause-place c = (begun c.args.codec c.args.bytes.now c.requires.bounded c.outset_of-o.ensures (ap form_of c.in-Evt2.is)).place

pub fill_from-requires-clause-room : goal.fill_from-requires-clause-room
fill_from-requires-clause-room c =
    rw (begun c.args.codec c.args.bytes.now c.requires.bounded c.outset_of-o.ensures (ap form_of c.in-Evt2.is)).same c.requires.room

pub returns-in-Evt2 : goal.returns-in-Evt2
returns-in-Evt2 c = handed (begun c.args.codec c.args.bytes.now c.requires.bounded c.outset_of-o.ensures (ap form_of c.in-Evt2.is)) c.fill_from.ensures

pub fill_from-requires-in-Evt21-clause-place : goal.fill_from-requires-in-Evt21-clause-place
fill_from-requires-in-Evt21-clause-place c = (begun c.args.codec c.args.bytes.now c.requires.bounded c.outset_of-o.ensures (ap form_of c.in-Evt21.is)).place

pub fill_from-requires-in-Evt21-clause-room : goal.fill_from-requires-in-Evt21-clause-room
fill_from-requires-in-Evt21-clause-room c =
    rw (begun c.args.codec c.args.bytes.now c.requires.bounded c.outset_of-o.ensures (ap form_of c.in-Evt21.is)).same c.requires.room

pub returns-in-Evt21 : goal.returns-in-Evt21
returns-in-Evt21 c =
    handed (begun c.args.codec c.args.bytes.now c.requires.bounded c.outset_of-o.ensures (ap form_of c.in-Evt21.is)) c.fill_from-in-Evt21.ensures

pub fill_from-requires-in-Evt3-clause-place : goal.fill_from-requires-in-Evt3-clause-place
fill_from-requires-in-Evt3-clause-place c = (begun c.args.codec c.args.bytes.now c.requires.bounded c.outset_of-o.ensures (ap form_of c.in-Evt3.is)).place

pub fill_from-requires-in-Evt3-clause-room : goal.fill_from-requires-in-Evt3-clause-room
fill_from-requires-in-Evt3-clause-room c =
    rw (begun c.args.codec c.args.bytes.now c.requires.bounded c.outset_of-o.ensures (ap form_of c.in-Evt3.is)).same c.requires.room

pub returns-in-Evt3 : goal.returns-in-Evt3
returns-in-Evt3 c = handed (begun c.args.codec c.args.bytes.now c.requires.bounded c.outset_of-o.ensures (ap form_of c.in-Evt3.is)) c.fill_from-in-Evt3.ensures
