use Rattle.std.proofs.Common.{arith, length}
use Rattle.read_rules.specs.Laws.{ready_new}
use Rattle.std.specs.Prelude.{Some}
use Rattle.trigger_rules.specs.Laws.{ends_none}
use Rattle.trigger_rules.proofs.end_before.Goals as goal
use Rattle.trigger_rules.proofs.EndLaws.{ends_by}

pub returns-then-n-eq0 : goal.returns-then-n-eq0
returns-then-n-eq0 c =
    rw c.if-n-eq0.true (ends_none c.args.size c.args.body.now c.requires c.args.encoding)

pub survey-words-requires : goal.survey-words-requires
survey-words-requires c =
    let a = c.args in
    ready_new a.size a.encoding (Some a.n) c.new-codec.result c.new-codec.ensures (length a.body.now) c.requires

pub overflow_mul-result : goal.overflow_mul-result
overflow_mul-result c =
    let ends = ends_by c.args.size c.args.body.now c.requires c.args.encoding c.args.n (omega (arith, c.if-n-eq0.false))
    c.new-codec.ensures c.window_of-window.ensures c.survey-words.ensures c.word_size.ensures in
    omega (arith, ends.0, c.requires)

pub returns : goal.returns
returns c =
    ends_by c.args.size c.args.body.now c.requires c.args.encoding c.args.n (omega (arith, c.if-n-eq0.false)) c.new-codec.ensures
    c.window_of-window.ensures c.survey-words.ensures c.word_size.ensures
