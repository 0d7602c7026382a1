use Rattle.std.proofs.Common.{ap, ◌∙◌, arith}
use Rattle.evt3_decoder.specs.Evt3.{slimmed}
use Rattle.read_count.specs.Passing.{passing_start, passing_end}
use Rattle.read_count.specs.Loops.{started3, reached3, word3_stop, word3_pass}
use Rattle.read_count.proofs.to.evt3.Goals as goal
use Rattle.read_count.proofs.to.evt3.Goals.{else-loop-i-test, then-loop-i-test+then-most-n}
use Rattle.evt3_decoder.proofs.RangeLaws.{bounded_step3}

pub loop-i-init : goal.loop-i-init
loop-i-init c = record {
  passing =
      passing_start (omega arith) bounded_step3 (started3 c.args.bytes.now (ap slimmed (c.counting-s.ensures ∙ c.widen.ensures.0))
      (record { regular = c.requires.regular; loops = c.requires.loops; column = c.widen.ensures.1.column }));
  word = c.two_at-w.ensures;
}

pub loop-i-preserved : goal.loop-i-preserved
loop-i-preserved c =
    let inv = c.loop-i.invariant in
    record {
      passing = word3_pass (record {
        more = c.loop-i-test.true;
        is_word = inv.word;
        agrees = c.table_step-g.ensures;
        is_bound = c.column_bound-bound.ensures;
        is_count = c.count_inside-m.ensures;
      }) inv.passing c.if-most-n.false;
      word = c.two_at-w-in-loop-i.ensures;
    }

pub returns : goal.returns
returns c =
    let inv = c.loop-i.invariant in
    reached3 (ap slimmed (c.counting-s.ensures ∙ c.widen.ensures.0)) (elim c.loop-i-test.branch [
      | else-loop-i-test w ↦ passing_end (omega arith) bounded_step3 inv.passing (omega arith)
      | then-loop-i-test+then-most-n w ↦ word3_stop (record {
        more = w.loop-i-test.true;
        is_word = inv.word;
        agrees = w.table_step-g.ensures;
        is_bound = c.column_bound-bound.ensures;
        is_count = w.count_inside-m.ensures;
      }) inv.passing w.if-most-n.true
    ]) c.slim-decoder.result (c.slim-decoder.ensures ∙ ap slimmed c.wide.ensures)
