use Rattle.read_deliver.specs.Plan.{whole_in_range, plainly_whole, delivers_plainly}
use Rattle.read_deliver.proofs.deliver.Goals as goal

pub deliver_all-requires-clause-bounded : goal.deliver_all-requires-clause-bounded
deliver_all-requires-clause-bounded c =
    let a = c.args in
    let e = c.is_everything.ensures in
    let whole = whole_in_range a.window a.codec _ e.0 c.if-is_everything.true in
    (plainly_whole a.window a.number a.codec a.bytes.now c.requires whole e.1).able

pub returns-then-is_everything : goal.returns-then-is_everything
returns-then-is_everything c =
    let a = c.args in
    let e = c.is_everything.ensures in
    let whole = whole_in_range a.window a.codec _ e.0 c.if-is_everything.true in
    delivers_plainly (plainly_whole a.window a.number a.codec a.bytes.now c.requires whole e.1) c.deliver_all.ensures
