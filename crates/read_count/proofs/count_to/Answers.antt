use Rattle.read_count.proofs.count_to.Goals as goal

pub evt2-s-requires : goal.evt2-s-requires
evt2-s-requires c = rw c.in-Evt2.is at c.requires

pub evt21-s-requires : goal.evt21-s-requires
evt21-s-requires c = rw c.in-Evt21.is at c.requires

pub evt3-s-requires : goal.evt3-s-requires
evt3-s-requires c = rw c.in-Evt3.is at c.requires

pub returns-in-Evt2 : goal.returns-in-Evt2
returns-in-Evt2 c = let e = c.evt2-s.ensures in rw c.in-Evt2.is (rw (e.is_at, e.is_count, e.is_state), e.inv)

pub returns-in-Evt21 : goal.returns-in-Evt21
returns-in-Evt21 c = let e = c.evt21-s.ensures in rw c.in-Evt21.is (rw (e.is_at, e.is_count, e.is_state), e.inv)

pub returns-in-Evt3 : goal.returns-in-Evt3
returns-in-Evt3 c = let e = c.evt3-s.ensures in rw c.in-Evt3.is (rw (e.is_at, e.is_count, e.is_state), e.inv)
