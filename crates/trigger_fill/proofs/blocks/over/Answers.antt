use Rattle.std.proofs.Common.{rules, ap, ◌≡◌, ◌∙◌, ◌*◌, arith, eqb, length, List, ℕ}
use Rattle.std.specs.Slice.Iter.{chunks_exact_size}
use Rattle.laws_stream.specs.Words.{words_of}
use Rattle.trigger_fill.specs.Form.{known_at, size-pos, size_few}
use Rattle.trigger_fill.specs.Calm.{notable}
use Rattle.trigger_count.specs.Chunks.{Front, front_of, chunk-long}
use Rattle.trigger_fill.specs.Find.{tally, leading_blocks}
use Rattle.trigger_fill.proofs.blocks.over.Goals as goal

pub count-calm-requires-clause-can : goal.count-calm-requires-clause-can
count-calm-requires-clause-can g c =
    let pos = size-pos (known_at c.FORM-size.ensures g.met.E.Format.known) in
    let few = size_few (known_at c.FORM-size.ensures g.met.E.Format.known) in
    let size : chunks_exact_size c.take_while.result.iter ≡ 64 * c.FORM-size.result.size =
    ap chunks_exact_size c.take_while.ensures.source ∙ c.chunks_exact.ensures.size in (
      omega (arith, size, pos),
      record {
        at = λ xs t q x u given folds step y e.
            let long : length x.now ≡ 64 * c.FORM-size.result.size = chunk-long xs c.take_while.result.iter t u x given step ∙ size in
            rw e (omega (arith, long, few));
      },
    )

pub returns : goal.returns
returns g c =
    let pos = size-pos (known_at c.FORM-size.ensures g.met.E.Format.known) in
    let n = c.FORM-size.result.size in
    let P : List ℕ → _ = λ (x : List ℕ). eqb (tally (notable c.args.late g.E.Format.FORM) (words_of n x)) 0 in
    let calm : Front P (64 * n) c.args.s.now c.count-calm.result =
    front_of P (omega (arith, pos)) c.chunks_exact.ensures.size c.chunks_exact.ensures.rest c.chunks_exact.ensures.runs
    c.take_while.ensures.runs c.count-calm.ensures.runs (λ a r f q. search rules) c.args.s (λ x b f long called. search rules) in
    rw c.FORM-size.ensures (rw c.FORM-size.ensures at (leading_blocks pos 64 calm))
