use Rattle.std.proofs.Common.{◌∙◌}
use Rattle.write_words.specs.Laws.{last-loop-some}
use Rattle.evt3_lead_words.specs.Evt3.{loop_of}
use Rattle.write_words.proofs.evt3.loops_ahead.Goals as goal

pub returns-then-n-gt0 : goal.returns-then-n-gt0
returns-then-n-gt0 c =
    let a = c.args in
    let last = last-loop-some (loop_of a.held) a.ts.now c.if-n-gt0.true in
    c.saturating_sub.ensures ∙ rw (c.loop_of.ensures, c.time_at-last.ensures, last)
