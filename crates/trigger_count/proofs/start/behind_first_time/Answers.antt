use Rattle.std.proofs.Common.{rules}
use Rattle.trigger_count.specs.Chunks.{Front, front_of}
use Rattle.trigger_count.specs.Start.{is_early, behind_early}
use Rattle.trigger_count.proofs.start.behind_first_time.Goals as goal

pub returns : goal.returns
returns c =
    let early : Front is_early c.args.size c.args.bytes.now c.count-early.result =
    front_of is_early c.requires c.chunks_exact.ensures.size c.chunks_exact.ensures.rest c.chunks_exact.ensures.runs
    c.take_while.ensures.runs c.count-early.ensures.runs (λ a r f q. search rules) c.args.bytes (λ x b f long called. search rules) in
    rw c.min.ensures (behind_early c.requires (λ k. (c.type_inv.bytes k).fits) early)
