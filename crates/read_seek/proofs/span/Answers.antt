use Rattle.read_seek.proofs.span.Goals as goal

pub walk-requires-clause-bounded : goal.walk-requires-clause-bounded
walk-requires-clause-bounded c = rw c.new.ensures (rw c.in-Evt2.is at c.requires.able)

pub walk-requires-in-Evt21-clause-bounded : goal.walk-requires-in-Evt21-clause-bounded
walk-requires-in-Evt21-clause-bounded c = rw c.new-in-Evt21.ensures (rw c.in-Evt21.is at c.requires.able)

pub span3-requires-clause-paced : goal.span3-requires-clause-paced
span3-requires-clause-paced c = rw c.in-Evt3.is at c.requires.able

pub returns-in-Evt2 : goal.returns-in-Evt2
returns-in-Evt2 c = rw c.in-Evt2.is (rw c.new.ensures at c.walk.ensures)

pub returns-in-Evt21 : goal.returns-in-Evt21
returns-in-Evt21 c = rw c.in-Evt21.is (rw c.new-in-Evt21.ensures at c.walk-in-Evt21.ensures)

pub returns-in-Evt3 : goal.returns-in-Evt3
returns-in-Evt3 c = rw c.in-Evt3.is c.span3.ensures
