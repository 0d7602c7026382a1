use Rattle.std.proofs.Common.{sym, ◌∙◌}
use Rattle.c_values.specs.{Flags.passed, Encoding.is_known, Encoding.encoding_of}
use Rattle.c_triggers.specs.Promises.{reads_words}
use Rattle.prophesee_raw_c.proofs.triggers.prophesee_decode_words_triggers.Goals as goal

pub returns-in-Ok : goal.returns-in-Ok
returns-in-Ok c =
    let a = c.args in
    let p = passed (is_known a.encoding) (encoding_of a.encoding) c.in-Ok.e _ (sym c.coded.ensures ∙ c.in-Ok.is) in
    reads_words a.options _ c.from-o.ensures _ _ c.from.ensures a.words.now c.in-Ok.e c.decode_words_triggers-answer.ensures a.encoding p.0 p.1
