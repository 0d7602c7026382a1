use Rattle.std.proofs.Common.{◌∙◌}
use Rattle.evt3_run_words.specs.Loops.{single-iteration}
use Rattle.evt3_run_words.proofs.put_singles.Goals as goal

pub loop-j-preserved : goal.loop-j-preserved
loop-j-preserved c =
    single-iteration c.requires.0
    c.loop-j.invariant
    c.loop-j-test.true _
    (c.put16.ensures ∙ rw c.single_word.ensures)
