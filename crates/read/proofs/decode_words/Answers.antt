use Rattle.std.proofs.Common.{sym, ◌∙◌}
use Rattle.std.proofs.lemmas.Result.{err_from_is_err_and}
use Rattle.read_rules.specs.Laws.{words-refused}
use Rattle.read.proofs.decode_words.Goals as goal
use Rattle.read_rules.proofs.ReadLaws.{words_read}

pub returns-in_err-judge : goal.returns-in_err-judge
returns-in_err-judge c =
    let a = c.args in
    let p = err_from_is_err_and c.from_residual.result c.from_residual.ensures.1 in
    rw (p.1, p.2) (words-refused a.words.now a.encoding a.size a.limit _ (sym c.judge.ensures ∙ c.in_err-judge.was))

pub returns : goal.returns
returns c =
    let a = c.args in
    words_read a.words.now a.encoding a.size a.limit (sym c.judge.ensures ∙ c.in_ok-judge.was)
    c.read_body.ensures
