use Rattle.write_words.specs.Across3.{enter_none}
use Rattle.write_words.proofs.evt3.enter.Goals as goal

pub returns : goal.returns
returns c =
    let a = c.args in
    let none = enter_none a.state a.t (rw c.loop_of-from.ensures at c.if-from-to.false) a.at a.out.now in
    record { entered = none.0; stores = none.1 }
