use Rattle.std.proofs.Common.{length}
use Rattle.evt_codec.specs.{Sound.able_fitting, declared.codec.Codec.TheVariants.Evt3}
use Rattle.read_select.specs.Pass.{Ready}
use Rattle.read_select.proofs.survey.Goals as goal

pub survey-requires : goal.survey-requires
survey-requires c =
    let r = rw c.in-Evt2.is at c.requires in
    rw c.new.ensures (record { bounded = r.able; long = r.long; low = r.low })

pub survey-requires-in-Evt21 : goal.survey-requires-in-Evt21
survey-requires-in-Evt21 c =
    let r = rw c.in-Evt21.is at c.requires in
    rw c.new-in-Evt21.ensures (record { bounded = r.able; long = r.long; low = r.low })

pub survey-requires-in-Evt3 : goal.survey-requires-in-Evt3
survey-requires-in-Evt3 c =
    let r : Ready (Evt3 c.in-Evt3.d) c.args.number (length c.args.bytes.now) = rw c.in-Evt3.is at c.requires in
    rw c.widen.ensures.0 (record {
      bounded = able_fitting (Evt3 c.in-Evt3.d) (length c.args.bytes.now) r.able c.widen.ensures.1.column;
      long = r.long;
      low = r.low;
    })

pub returns-in-Evt2 : goal.returns-in-Evt2
returns-in-Evt2 c = rw c.in-Evt2.is (rw c.new.ensures at c.survey.ensures)

pub returns-in-Evt21 : goal.returns-in-Evt21
returns-in-Evt21 c = rw c.in-Evt21.is (rw c.new-in-Evt21.ensures at c.survey-in-Evt21.ensures)

pub returns-in-Evt3 : goal.returns-in-Evt3
returns-in-Evt3 c = rw c.in-Evt3.is (rw c.widen.ensures.0 at c.survey-in-Evt3.ensures)
