use Rattle.std.proofs.Common.{ap, ◌∙◌, length}
use Rattle.read_rules.specs.Laws.{ready_new}
use Rattle.trigger_rules.specs.{Laws.short_of}
use Rattle.trigger_rules.proofs.refused_short.Goals as goal
use Rattle.read_rules.proofs.ReadLaws.{body-handed}

pub survey-events-requires : goal.survey-events-requires
survey-events-requires c =
    ready_new c.args.size c.args.encoding c.args.limit c.new-codec.result c.new-codec.ensures (length c.args.body.now) c.requires

pub returns : goal.returns
returns c =
    let a = c.args in
    let count = rw (c.window_of-window.ensures, c.new-codec.ensures) at c.survey-events.ensures in
    c.short_of.ensures ∙ ap (λ k. short_of a.size k a.room a.n)
    (ap (λ t. t.count) count ∙ ap length (body-handed a.size a.encoding a.limit a.body.now c.requires))
