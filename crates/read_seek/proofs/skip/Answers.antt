use Rattle.read_seek.proofs.skip.Goals as goal

pub strides-requires-clause-bounded : goal.strides-requires-clause-bounded
strides-requires-clause-bounded c = rw c.in-Evt2.is at c.requires.able

pub strides-requires-in-Evt21-clause-bounded : goal.strides-requires-in-Evt21-clause-bounded
strides-requires-in-Evt21-clause-bounded c = rw c.evt2.ensures (rw c.in-Evt21.is at c.requires.able)

pub skip3-requires-clause-paced : goal.skip3-requires-clause-paced
skip3-requires-clause-paced c = rw c.in-Evt3.is at c.requires.able

pub returns-in-Evt2 : goal.returns-in-Evt2
returns-in-Evt2 c = rw c.in-Evt2.is c.strides.ensures

pub returns-in-Evt21 : goal.returns-in-Evt21
returns-in-Evt21 c = rw c.in-Evt21.is (rw c.evt2.ensures at c.strides-in-Evt21.ensures)

pub returns-in-Evt3 : goal.returns-in-Evt3
returns-in-Evt3 c = rw c.in-Evt3.is c.skip3.ensures
