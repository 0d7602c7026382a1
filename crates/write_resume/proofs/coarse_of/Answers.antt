use Rattle.write_resume.proofs.coarse_of.Goals as goal

pub returns-in-Evt2 : goal.returns-in-Evt2
returns-in-Evt2 c = rw (c.in-Evt2.is, c.then_some.ensures)

pub returns-in-Evt21 : goal.returns-in-Evt21
returns-in-Evt21 c = rw (c.in-Evt21.is, c.then_some-in-Evt21.ensures)

pub returns-in-Evt3 : goal.returns-in-Evt3
returns-in-Evt3 c = rw (c.in-Evt3.is, c.then_some-in-Evt3.ensures)
