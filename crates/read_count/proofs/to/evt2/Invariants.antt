-- The loop: `Passing`; the bound is the decoder's, and the word was read ahead.
use Rattle.std.proofs.Common.{◌≡◌, ◌-◌, length}
use Rattle.evt_types.specs.Ahead.{ahead}
use Rattle.evt_types.specs.Layout.{word_size2}
use Rattle.evt2_decoder.specs.Evt2.{reader2}
use Rattle.evt2_decoder.specs.Range.{Bounded2}
use Rattle.read_count.specs.Passing.{Passing}
use Rattle.read_count.specs.Evt2Inside.{key_bound}
use Rattle.read_count.proofs.to.evt2.Given as goal

abbrev pub invariant-loop-i : goal.invariant-loop-i
invariant-loop-i l = record {
  passing : Passing word_size2 reader2 Bounded2 l.width l.height l.most l.initial.s l.bytes l.s l.n l.i;
  bound : l.bound ≡ key_bound l.s.initialised l.width;
  word : l.w ≡ ahead word_size2 l.bytes l.i;
}

abbrev pub decreases-loop-i : goal.decreases-loop-i
decreases-loop-i l = length l.bytes - l.i
