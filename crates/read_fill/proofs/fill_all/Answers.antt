use Rattle.read_fill.proofs.fill_all.Goals as goal

pub words-requires-clause-bounded : goal.words-requires-clause-bounded
words-requires-clause-bounded c = rw c.new.ensures (rw c.in-Evt2.is at c.requires.bounded)

pub words-requires-clause-fit : goal.words-requires-clause-fit
words-requires-clause-fit c = rw c.new.ensures (rw c.in-Evt2.is at c.requires.fit)

pub words-requires-in-Evt21-clause-bounded : goal.words-requires-in-Evt21-clause-bounded
words-requires-in-Evt21-clause-bounded c = rw c.new-in-Evt21.ensures (rw c.in-Evt21.is at c.requires.bounded)

pub words-requires-in-Evt21-clause-fit : goal.words-requires-in-Evt21-clause-fit
words-requires-in-Evt21-clause-fit c = rw c.new-in-Evt21.ensures (rw c.in-Evt21.is at c.requires.fit)

pub words-requires-in-Evt3-clause-bounded : goal.words-requires-in-Evt3-clause-bounded
words-requires-in-Evt3-clause-bounded c = rw c.widen.ensures.0 (rw c.in-Evt3.is at c.requires.bounded)

pub words-requires-in-Evt3-clause-fit : goal.words-requires-in-Evt3-clause-fit
words-requires-in-Evt3-clause-fit c = rw c.widen.ensures.0 (rw c.in-Evt3.is at c.requires.fit)

pub returns-in-Evt2-clause-filled : goal.returns-in-Evt2-clause-filled
returns-in-Evt2-clause-filled c = rw c.in-Evt2.is (rw c.new.ensures at c.words.ensures.filled)

pub returns-in-Evt2-clause-wrote : goal.returns-in-Evt2-clause-wrote
returns-in-Evt2-clause-wrote c = rw c.in-Evt2.is (rw c.new.ensures at c.words.ensures.wrote)

pub returns-in-Evt21-clause-filled : goal.returns-in-Evt21-clause-filled
returns-in-Evt21-clause-filled c = rw c.in-Evt21.is (rw c.new-in-Evt21.ensures at c.words-in-Evt21.ensures.filled)

pub returns-in-Evt21-clause-wrote : goal.returns-in-Evt21-clause-wrote
returns-in-Evt21-clause-wrote c = rw c.in-Evt21.is (rw c.new-in-Evt21.ensures at c.words-in-Evt21.ensures.wrote)

pub returns-in-Evt3-clause-filled : goal.returns-in-Evt3-clause-filled
returns-in-Evt3-clause-filled c = rw c.in-Evt3.is (rw c.widen.ensures.0 at c.words-in-Evt3.ensures.filled)

pub returns-in-Evt3-clause-wrote : goal.returns-in-Evt3-clause-wrote
returns-in-Evt3-clause-wrote c = rw c.in-Evt3.is (rw c.widen.ensures.0 at c.words-in-Evt3.ensures.wrote)
