use Rattle.std.proofs.Common.{◌≡◌, ◌+◌, ◌-◌, ◌*◌, ◌%◌, arith}
use Rattle.evt3_run_words.specs.Masks.{masking_room, masking_iteration, masking_end}
use Rattle.evt3_run_words.proofs.put_masks.Goals as goal

pub put_digits-a-requires : goal.put_digits-a-requires
put_digits-a-requires c =
    let p = c.requires in
    let five = c.next_masks-five in
    (omega arith, omega arith, masking_room p.0 p.1 p.2 c.loop.invariant 5 (omega arith) (omega arith) five.result five.ensures p.3)

pub loop-preserved : goal.loop-preserved
loop-preserved c =
    let p = c.requires in
    let put = c.put_digits-a in
    let left : c.args.k - 5 * (c.loop.counter + 1) ≡ c.args.k - 5 * c.loop.counter - 5 = omega arith in
    rw left (masking_iteration p.0 p.1 p.2 c.loop.invariant (omega arith)
    c.next_masks-five.result c.next_masks-five.ensures put.result _ put.ensures.ends put.ensures.stores)

pub put_digits-requires : goal.put_digits-requires
put_digits-requires c =
    let p = c.requires in
    let l = c.loop in
    let last = c.next_masks-last in
    let left : c.args.k % 5 ≡ c.args.k - 5 * l.counter = omega arith in (
      omega arith,
      omega arith,
      rw left (masking_room p.0 p.1 p.2 l.invariant (c.args.k - 5 * l.counter) (omega arith) (omega arith) last.result last.ensures p.3),
    )

pub returns : goal.returns
returns c =
    let p = c.requires in
    let put = c.put_digits in
    let left : c.args.k % 5 ≡ c.args.k - 5 * c.loop.counter = omega arith in
    let all = masking_end p.0 p.1 p.2 c.loop.invariant (omega arith)
    c.next_masks-last.result c.next_masks-last.ensures put.result _ (rw left at put.ensures.ends) (rw left at put.ensures.stores) in
    record { ends = all.0; stores = all.1 }
