use Rattle.std.proofs.Common.{◌≡◌, ◌∙◌, ◌+◌, ◌-◌, arith}
use Rattle.evt3_run_words.specs.Masks.{digit-iteration, digit-end}
use Rattle.evt3_run_words.proofs.put_digits.Goals as goal

pub loop-preserved : goal.loop-preserved
loop-preserved c =
    let l = c.loop in
    let left : c.args.k - (l.counter + 1) ≡ c.args.k - l.counter - 1 = omega arith in
    rw left (digit-iteration l.invariant (omega arith) _ (c.put16.ensures ∙ rw c.mask_word.ensures))

pub returns : goal.returns
returns c = let all = digit-end c.loop.invariant (omega arith) in record { ends = all.0; stores = all.1 }
