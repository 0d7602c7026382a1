-- The loop: `Passing`, over the decoder as its public struct has it.
use Rattle.std.proofs.Common.{◌-◌, length}
use Rattle.evt_types.specs.Layout.{word_size21}
use Rattle.evt21_decoder.specs.Evt21.{reader21, of2}
use Rattle.evt21_decoder.specs.Range.{Bounded21}
use Rattle.read_count.specs.Passing.{Passing}
use Rattle.read_count.proofs.to.evt21.Given as goal

abbrev pub invariant-loop-i : goal.invariant-loop-i
invariant-loop-i l = Passing word_size21 reader21 Bounded21 l.width l.height l.most (of2 l.initial.s) l.bytes (of2 l.s) l.n l.i

abbrev pub decreases-loop-i : goal.decreases-loop-i
decreases-loop-i l = length l.bytes - l.i
