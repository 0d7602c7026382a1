use Rattle.std.proofs.Common.{rules, not, ◌≡◌, ◌*◌}
use Rattle.trigger_fill.specs.Form.{known_at, size-pos}
use Rattle.trigger_fill.specs.Start.{is_time}
use Rattle.trigger_fill.specs.Follow.{lead}
use Rattle.trigger_count.specs.Chunks.{Front, front_of}
use Rattle.trigger_fill.specs.Find.{lead_front, chunk_word}
use Rattle.laws_stream.specs.Words.{value, words_of}
use Rattle.trigger_fill.proofs.first.first.Goals as goal

pub returns : goal.returns
returns g c =
    let pos = size-pos (known_at c.FORM.ensures g.met.E.Format.known) in
    let early : Front (λ x. not (is_time g.E.Format.FORM (value x))) c.FORM.result.size c.args.bytes.now c.count-early.result =
    front_of (λ x. not (is_time g.E.Format.FORM (value x))) pos c.chunks_exact.ensures.size c.chunks_exact.ensures.rest c.chunks_exact.ensures.runs
    c.take_while.ensures.runs c.count-early.ensures.runs (λ a r f q. search rules) c.args.bytes
    (λ x b f long called. rw (← chunk_word c.FORM.result.size x.now long) (search rules)) in
    let found : c.count-early.result * c.FORM.result.size ≡ lead (is_time g.E.Format.FORM) (words_of c.FORM.result.size c.args.bytes.now) * c.FORM.result.size =
    lead_front (is_time g.E.Format.FORM) pos early in
    rw (c.if-started.false, c.FORM-2.ensures) (rw c.FORM.ensures at found)
