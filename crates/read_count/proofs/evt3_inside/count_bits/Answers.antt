use Rattle.std.proofs.Common.{arith}
use Rattle.read_count.specs.Evt3Inside.{count-bits_of, count-bits_few}
use Rattle.read_count.proofs.evt3_inside.count_bits.Goals as goal

pub overflow_add-result : goal.overflow_add-result
overflow_add-result c =
    let all = count-bits_of c.args.counts.now c.requires.table c.args.mask c.requires.small c.bits-low.result c.bits-high.result c.bits-low.ensures
    c.bits-high.ensures in
    omega (arith, all, count-bits_few c.args.mask c.requires.small)

pub returns : goal.returns
returns c =
    count-bits_of c.args.counts.now c.requires.table c.args.mask c.requires.small c.bits-low.result c.bits-high.result c.bits-low.ensures c.bits-high.ensures
