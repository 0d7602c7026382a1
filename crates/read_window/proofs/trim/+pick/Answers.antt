use Rattle.std.proofs.Common.{sym, ◌∙◌, arith}
use Rattle.laws_stream.specs.Mask.{clear_lt}
use Rattle.read_window.specs.Trim.{picked_none, picked_out, picked_skipped, picked_few, picked_no_bits, picked_out_bit, picked_keep_bit, picked_pass_bit}
use Rattle.read_window.proofs.trim.+pick.Goals as goal

pub returns-then-mask-eq0 : goal.returns-then-mask-eq0
returns-then-mask-eq0 t c = let a = c.args in picked_no_bits a.v a.win a.k (picked_none a.v a.win a.k c.if-mask-eq0.true)

pub returns-then-win-v : goal.returns-then-win-v
returns-then-win-v t c = let a = c.args in picked_no_bits a.v a.win a.k (picked_out a.v a.win a.k c.if-win-v.true)

pub returns-then-skips : goal.returns-then-skips
returns-then-skips t c =
    let a = c.args in
    picked_no_bits a.v a.win a.k (picked_skipped a.v a.win a.k c.requires.0.mask< c.if-win-v.false (sym c.skips.ensures ∙ c.if-skips.true))

pub returns-then-win-saturating_add : goal.returns-then-win-saturating_add
returns-then-win-saturating_add t c =
    let a = c.args in
    picked_out_bit a.v a.win a.k (omega arith) c.requires.0.mask< c.pick.result (omega arith) c.pick.ensures

pub overflow_add-result : goal.overflow_add-result
overflow_add-result t c =
    let q = c.pick-r.ensures in
    let less = clear_lt c.args.v.mask (omega arith) in
    omega (arith, picked_few (omega arith) q.picked)

pub returns-then-spans : goal.returns-then-spans
returns-then-spans t c =
    let a = c.args in
    picked_keep_bit a.v a.win a.k (omega arith) c.requires.0.mask< c.pick-r.result (omega arith) c.if-win-v.false
    c.pick-r.ensures (sym c.spans.ensures ∙ c.if-spans.true)

pub returns-else-spans : goal.returns-else-spans
returns-else-spans t c =
    let a = c.args in
    picked_pass_bit a.v a.win a.k (omega arith) c.requires.0.mask< c.pick-r.result (omega arith) c.if-win-v.false
    c.pick-r.ensures (sym c.spans.ensures ∙ c.if-spans.false)
