-- The loop: `Counting`, over the decoder as its public struct has it; the word was read ahead.
use Rattle.std.proofs.Common.{◌≡◌, ◌-◌, length}
use Rattle.evt_types.specs.Ahead.{ahead}
use Rattle.evt_types.specs.Layout.{word_size3}
use Rattle.evt3_decoder.specs.Evt3.{reader3, slimmed}
use Rattle.evt3_decoder.specs.Range.{Bounded3}
use Rattle.read_count.specs.Counting.{Counting}
use Rattle.read_count.specs.Evt3Step.{decoder_of}
use Rattle.read_count.proofs.all.evt3.Given as goal

abbrev pub invariant-loop-i : goal.invariant-loop-i
invariant-loop-i l = record {
  counting : Counting word_size3 reader3 Bounded3 l.width l.height (slimmed (decoder_of l.initial.s)) l.bytes (slimmed (decoder_of l.s)) l.n l.top l.i;
  word : l.w ≡ ahead word_size3 l.bytes l.i;
}

abbrev pub decreases-loop-i : goal.decreases-loop-i
decreases-loop-i l = length l.bytes - l.i
