use Rattle.write_resume.specs.Ends.{behind-after}
use Rattle.write_resume.proofs.resume_words.Goals as goal
use Rattle.write_resume.proofs.EndsLaws.{behind-words}

pub returns-in-Ok : goal.returns-in-Ok
returns-in-Ok c =
    let e = c.args.encoding in
    behind-words e _ c.new.ensures (behind-after e c.decoder_after.ensures c.in-Ok.is c.resume.ensures)
