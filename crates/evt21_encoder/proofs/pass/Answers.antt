use Rattle.evt21_encoder.specs.Pass21.{under_start21, under_joined21, under_next21, under_iteration21, under_end21}
use Rattle.evt21_encoder.proofs.pass.Goals as goal

pub loop-i-init : goal.loop-i-init
loop-i-init c = let p = c.requires in under_start21 c.args.events.sized p.2 _ c.sent_number-high.ensures

pub with_bit-mask-requires : goal.with_bit-mask-requires
with_bit-mask-requires c q =
    let p = c.requires in
    (under_joined21 c.args.events.sized p.2 c.loop-i.invariant c.loop-i-test.true c.time-t.ensures c.event_word-key.ensures c.joined-on.ensures q).1

pub place_of-place-requires : goal.place_of-place-requires
place_of-place-requires c q =
    let p = c.requires in
    (under_joined21 c.args.events.sized p.2 c.loop-i.invariant c.loop-i-test.true c.time-t.ensures c.event_word-key.ensures c.joined-on.ensures q).0

pub put_words-at-requires : goal.put_words-at-requires
put_words-at-requires c =
    let p = c.requires in
    under_next21 c.args.events.sized p.2 c.loop-i.invariant c.loop-i-test.true c.time-t.ensures c.event_word-key.ensures c.joined-on.ensures
    c.with_bit-mask.ensures c.place_of-place.ensures p.0 p.1

pub loop-i-preserved : goal.loop-i-preserved
loop-i-preserved c =
    let put = c.put_words-at in
    let p = c.requires in
    under_iteration21 c.args.events.sized p.2 c.loop-i.invariant c.loop-i-test.true c.time-t.ensures c.event_word-key.ensures c.joined-on.ensures
    c.with_bit-mask.ensures c.place_of-place.ensures put.result _ put.ensures.ends put.ensures.stores

pub returns : goal.returns
returns c =
    let p = c.requires in
    let after = c.state_after-after in
    let all = under_end21 c.args.events.sized p.2 c.loop-i.invariant c.loop-i-test.false after.result after.ensures in
    record { passed = all.0; stores = all.1 }
