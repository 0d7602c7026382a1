use Rattle.std.proofs.Common.{refl, ◌∙◌, arith}
use Rattle.evt3_run_words.specs.Parts.{singles-length}
use Rattle.evt3_run_words.specs.Loops.{pair_stored}
use Rattle.evt3_run_words.proofs.put_pair.Goals as goal

pub put16-requires : goal.put16-requires
put16-requires c =
    let a = c.args in
    let n = singles-length a.p a.xs.now a.i a.end c.requires.0.low c.requires.0.high in
    (omega arith, λ h. omega (arith, c.requires.3 h, n))

pub returns : goal.returns
returns c =
    let a = c.args in
    let both = pair_stored a.p a.xs.now a.i a.end a.out.now a.at c.requires.1 c.requires.2 c.requires.0.high refl
    (c.put16.ensures ∙ rw c.single_word.ensures)
    (c.put16-2.ensures ∙ rw c.single_word-2.ensures) in
    record { ends = both.0; stores = both.1 }
