-- Laws of specs/Leads.antt.
use Rattle.evt3_lead_words.specs.{Evt3.high_sent3, Evt3.low_kept, Evt3.low_sent3, Evt3.row_sent3, Leads.lead_bytes, Leads.lead_parts, Leads.leads_bytes}
use Rattle.evt3_lead_words.specs.{Leads.low_number}
use Rattle.std.specs.Prelude.{Option}
use Rattle.evt_types.specs.{Layout.grain3}
use Rattle.std.proofs.Common.{arith, sym, ◌∙◌}
use Rattle.std.specs.Prelude.{Bool, cond, eqb, false, refl, true, ℕ, ◌%◌, ◌/◌, ◌<◌, ◌^◌, ◌≡◌}
use Rattle.write_buffer.specs.{Sent.number_is, Sent.sent_number, declared.EncoderState.EncoderState}

-- ---- the words of time and row

low_as : (b : Bool) (l : Option ℕ) → sent_number (low_kept b l) ≡ cond b (sent_number l) 0
low_as true l = refl
low_as false l = refl

pub leads_number : (v : EncoderState) (high low row t y : ℕ) → t < 2 ^ 64 → y < 2 ^ 16
    → high ≡ sent_number v.time_high → low ≡ sent_number v.time_low → row ≡ sent_number v.y → leads_bytes high low row t y ≡ lead_bytes v t y
leads_number v high low row t y t< y< h l r =
    let kept = low_kept (high_sent3 v t) v.time_low in
    let hi : eqb high (t / grain3) ≡ high_sent3 v t = rw h (number_is v.time_high (t / grain3) (omega arith)) in
    let number : low_number high low t ≡ sent_number kept = rw (hi, l) (sym (low_as (high_sent3 v t) v.time_low)) in
    let lo : eqb (low_number high low t) (t % grain3) ≡ low_sent3 v t = rw number (number_is kept (t % grain3) (omega arith)) in
    let ro : eqb row y ≡ row_sent3 v y = rw r (number_is v.y y (omega arith)) in
    sym (lead_parts v t y ∙ rw (lo, hi, ro))
