use Rattle.std.proofs.Common.{◌/◌, eqb}
use Rattle.evt_types.specs.Layout.{word_size21, grain2}
use Rattle.write_buffer.specs.Due.{both_stored}
use Rattle.evt21_encoder.specs.{Evt21.high_word21, Pass21.key_word}
use Rattle.evt21_encoder.proofs.put_words.Goals as goal

pub returns : goal.returns
returns c =
    let a = c.args in
    let high = rw c.high_word.ensures at c.put64.ensures in
    let word = rw c.masked_word-w.ensures at c.put64-2.ensures in
    let w = key_word a.key a.mask in
    let both = both_stored word_size21 (eqb a.high (a.t / grain2)) (high_word21 a.t) w a.out.now a.at c.past-a.ensures high word in
    record { ends = both.0; stores = both.1 }
