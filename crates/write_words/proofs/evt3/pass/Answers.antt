use Rattle.std.proofs.Common.{sym, ◌∙◌, arith}
use Rattle.write_words.specs.Across3.{paced_still}
use Rattle.write_words.proofs.evt3.pass.Goals as goal

pub pass_still-requires : goal.pass_still-requires
pass_still-requires c =
    let p = c.requires in
    let none = sym c.loops_ahead.ensures ∙ c.if-loops_ahead-eq0.true in
    (omega (arith, p.0), paced_still c.args.events.sized c.args.state p.3 none, omega (arith, p.1), p.2)
