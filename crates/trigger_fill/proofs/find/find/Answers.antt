use Rattle.std.proofs.Common.{rules, not, ◌≡◌, ◌*◌, ◌∙◌, ap, arith, drop}
use Rattle.laws_stream.specs.{Part.rest_of, Words.value, Words.words_of}
use Rattle.trigger_fill.specs.declared.form.Form.{Form}
use Rattle.trigger_fill.specs.Form.{size-pos}
use Rattle.trigger_fill.specs.Calm.{notable}
use Rattle.trigger_fill.specs.Follow.{lead}
use Rattle.trigger_count.specs.Chunks.{Front, front_of}
use Rattle.trigger_fill.specs.Find.{lead_front, chunk_word}
use Rattle.trigger_fill.proofs.find.find.Goals as goal

pub returns : goal.returns
returns g c =
    let n = g.E.Format.FORM.size in
    let pos = size-pos g.met.E.Format.known in
    let rest = drop c.over-from.result c.args.s.now in
    let calm : Front (λ x. not (notable c.args.late g.E.Format.FORM (value x))) n rest c.count-calm.result =
    front_of (λ x. not (notable c.args.late g.E.Format.FORM (value x))) pos (c.chunks_exact.ensures.size ∙ ap (λ (f : Form). f.size) c.FORM.ensures)
    (c.chunks_exact.ensures.rest ∙ rest_of c.args.s.now c.over-from.result) c.chunks_exact.ensures.runs
    c.take_while.ensures.runs c.count-calm.ensures.runs (λ a r f q. search rules) c.args.s
    (λ x b f long called. rw (← chunk_word n x.now long) (search rules)) in
    let found : c.count-calm.result * n ≡ lead (notable c.args.late g.E.Format.FORM) (words_of n rest) * n =
    lead_front (notable c.args.late g.E.Format.FORM) pos calm in
    rw c.FORM-2.ensures (omega (arith, found, c.over-from.ensures.comes))
