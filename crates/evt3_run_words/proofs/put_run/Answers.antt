use Rattle.std.proofs.Common.{refl, ◌∙◌, arith, length-append}
use Rattle.laws_stream.specs.Part.{between}
use Rattle.write_buffer.specs.Storing.{sets_empty}
use Rattle.evt3_lead_words.specs.Leads.{leads_bytes}
use Rattle.evt3_run_words.specs.Parts.{body-some, body-length, body_bytes}
use Rattle.evt3_run_words.proofs.put_run.Goals as goal

pub put_leads-a-requires : goal.put_leads-a-requires
put_leads-a-requires c =
    let a = c.args in
    let some = body-some a.p a.xs.now a.i a.end _ c.requires.1 c.requires.0.high refl in (
      omega arith,
      λ h. omega (
        arith,
        c.requires.3 h,
        length-append (leads_bytes a.high a.low a.row a.t a.y) (body_bytes a.p (between a.xs.now a.i a.end)),
      ),
    )

pub returns-then-out-gt0 : goal.returns-then-out-gt0
returns-then-out-gt0 c =
    let a = c.args in
    let leads = leads_bytes a.high a.low a.row a.t a.y in
    let body = body_bytes a.p (between a.xs.now a.i a.end) in
    let some = body-some a.p a.xs.now a.i a.end _ c.requires.1 c.requires.0.high refl in
    record { ends = omega (arith, length-append leads body); stores = c.put_body.ensures.stores ∙ c.put_leads-a.ensures.next body some }

pub returns-else-out-gt0 : goal.returns-else-out-gt0
returns-else-out-gt0 c =
    let put = c.put_leads-a in
    let a = c.args in
    let leads = leads_bytes a.high a.low a.row a.t a.y in
    let body = body_bytes a.p (between a.xs.now a.i a.end) in
    let some = body-some a.p a.xs.now a.i a.end _ c.requires.1 c.requires.0.high refl in
    let is = body-length a.p a.xs.now a.i a.end _ c.requires.1 c.requires.0.high refl in
    record {
      ends = omega (arith, length-append leads body);
      stores = sets_empty put.new.out put.result body c.if-out-gt0.false ∙ put.ensures.next body some;
    }
