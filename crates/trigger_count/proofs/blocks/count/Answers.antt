-- No more words are counted than there are bytes, so that the sums fit.
use Rattle.std.proofs.Common.{ℕ, ◌≡◌, ◌<◌, ◌∙◌, ap, sym, ◌*◌, ◌+◌, ◌-◌, ◌%◌, arith, [], ◌∷◌, ◌++◌, length, drop, length-append, length-drop}
use Rattle.std.specs.Slice.Iter.{chunks_exact_rest}
use Rattle.laws_stream.specs.{Part.between, Part.rest_of}
use Rattle.evt_types.specs.Layout.{trigger_type}
use Rattle.trigger_count.specs.Types.{count_few}
use Rattle.trigger_count.specs.Blocks.{tally, head-part, counting_next, counting_end}
use Rattle.trigger_count.proofs.blocks.count.Goals as goal

pub loop-block-preserved : goal.loop-block-preserved
loop-block-preserved c =
    let l = c.loop-block.invariant in
    let step = c.in-Some.ensures.steps in
    let i = length c.loop-block.yielded * 64 in
    let head = head-part c.args.bytes.now i 64 c.in-Some.block.now (chunks_exact_rest c.next.new.self) l.4.within (sym l.3 ∙ step.1.0) (step.1.1 ∙ l.2) in
    let on : length (c.loop-block.yielded ++ (c.in-Some.block ∷ [])) * 64 ≡ i + 64 =
    omega (arith, length-append c.loop-block.yielded (c.in-Some.block ∷ [])) in (
      rw step.0 l.0,
      tt,
      step.0 ∙ l.2,
      rw on head.2,
      rw on (counting_next l.4 c.requires c.last_bytes-flags.ensures (λ k. (c.type_inv.bytes k).fits) head.0
          (c.sum.ensures ∙ ap (tally c.last_bytes-flags.result) head.1)),
    )

pub overflow_add-n : goal.overflow_add-n
overflow_add-n c =
    let l = c.loop-block.invariant in
    let step = c.in-Some.ensures.steps in
    let i = length c.loop-block.yielded * 64 in
    let head = head-part c.args.bytes.now i 64 c.in-Some.block.now (chunks_exact_rest c.next.new.self) l.4.within (sym l.3 ∙ step.1.0) (step.1.1 ∙ l.2) in
    let next = counting_next l.4 c.requires c.last_bytes-flags.ensures (λ k. (c.type_inv.bytes k).fits) head.0
    (c.sum.ensures ∙ ap (tally c.last_bytes-flags.result) head.1) in
    omega (arith, next.counts, count_few c.args.size trigger_type c.args.bytes.now)

pub returns : goal.returns
returns c =
    let l = c.loop-block.invariant in
    let i = length c.loop-block.yielded * 64 in
    let bytes = c.args.bytes.now in
    let few : length (drop i bytes) < 64 = rw (l.3, l.2) at c.in-None.ensures.steps.1.0 in
    let at : length bytes - length bytes % 64 ≡ i = omega (arith, l.4.within, few, length-drop i bytes) in
    let is : c.remainder-rest.result.now ≡ between bytes i (length bytes) =
    c.remainder-rest.ensures ∙ c.chunks_exact-blocks.ensures.remainder ∙ ap (λ (k : ℕ). drop k bytes) at ∙ sym (rest_of bytes i) in
    let count = counting_end l.4 c.requires c.last_bytes-flags.ensures (λ k. (c.type_inv.bytes k).fits) (omega (arith, few, l.4.within, length-drop i bytes))
    (c.sum-2.ensures ∙ ap (tally c.last_bytes-flags.result) is) in
    count

pub overflow_add-result : goal.overflow_add-result
overflow_add-result c =
    let l = c.loop-block.invariant in
    let i = length c.loop-block.yielded * 64 in
    let bytes = c.args.bytes.now in
    let few : length (drop i bytes) < 64 = rw (l.3, l.2) at c.in-None.ensures.steps.1.0 in
    let at : length bytes - length bytes % 64 ≡ i = omega (arith, l.4.within, few, length-drop i bytes) in
    let is : c.remainder-rest.result.now ≡ between bytes i (length bytes) =
    c.remainder-rest.ensures ∙ c.chunks_exact-blocks.ensures.remainder ∙ ap (λ (k : ℕ). drop k bytes) at ∙ sym (rest_of bytes i) in
    let count = counting_end l.4 c.requires c.last_bytes-flags.ensures (λ k. (c.type_inv.bytes k).fits) (omega (arith, few, l.4.within, length-drop i bytes))
    (c.sum-2.ensures ∙ ap (tally c.last_bytes-flags.result) is) in
    omega (arith, count, count_few c.args.size trigger_type bytes)
