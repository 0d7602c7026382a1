use Rattle.evt3_lead_words.specs.Leads.{leads_stored}
use Rattle.evt3_lead_words.proofs.put_leads.Goals as goal

pub returns : goal.returns
returns c =
    let a = c.args in
    let one = rw c.high_word.ensures at c.put_lead-a.ensures in
    let two = rw (c.low_word.ensures, c.low_kept.ensures) at c.put_lead-b.ensures in
    let three = rw c.row_word.ensures at c.put_lead.ensures in
    leads_stored a.high a.low a.row a.t a.y a.out.now a.at one.ends one.stores two.ends two.stores three.ends three.stores
