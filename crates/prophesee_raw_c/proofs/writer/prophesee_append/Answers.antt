use Rattle.std.proofs.Common.{sym, ap, ◌∙◌}
use Rattle.std.specs.Prelude.{Err}
use Rattle.evt_types.specs.declared.Refusal.{Refusal}
use Rattle.write_append.specs.Append.{told_append}
use Rattle.c_values.specs.Flags.{passed, not_passed}
use Rattle.c_writer.specs.{Promises.appends, Promises.appends_not, Writer.is_sink, Writer.sink_of, Writer.appended_of}
use Rattle.prophesee_raw_c.proofs.writer.prophesee_append.Goals as goal

pub returns-in-Ok : goal.returns-in-Ok
returns-in-Ok c =
    let a = c.args in
    let p = passed (is_sink a.sink) (sink_of a.sink) c.in-Ok.s _ (sym c.try_from.ensures ∙ c.in-Ok.is) in
    appends a.sink _ _ _ _ _ _ _ p.0 _ p.1 _ _ c.append-a.ensures _ c.appended_of.ensures

pub returns-in-Err : goal.returns-in-Err
returns-in-Err c =
    let a = c.args in
    let s = sink_of a.sink in
    let p = not_passed (is_sink a.sink) s _ c.in-Err.refusal (sym c.try_from.ensures ∙ c.in-Err.is) in
    appends_not a.sink _ _ _ _ _ _ _ p.0 s _ (c.refused_of.ensures s ∙ ap (λ (r : Refusal). appended_of a.sink (told_append (Err r)) s) p.1)
