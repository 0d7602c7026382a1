use Rattle.c_index.specs.Making.{answers_made}
use Rattle.c_index.proofs.opening.open_records.Goals as goal

pub returns-in-Ok : goal.returns-in-Ok
returns-in-Ok c =
    let a = c.args in
    answers_made a.recording.now a.records.now a.prepared _ c.in-Ok.is _ _ c.make_records-last.ensures _
    c.conclude.ensures _ c.from-in-Ok.ensures
