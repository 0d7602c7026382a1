use Rattle.std.proofs.Common.{◌∙◌, zero-add}
use Rattle.write_text.specs.Stored.{stored_then}
use Rattle.write_header.specs.Header.{header_text}
use Rattle.write_header.proofs.put_header.Goals as goal

-- The six texts, stored one behind another, are the header.
pub returns : goal.returns
unfolding header_text
returns c =
    let all = stored_then c.put_format-a.ensures (stored_then c.put_text-b.ensures (stored_then c.put_decimal-c.ensures
    (stored_then c.put_text-d.ensures (stored_then c.put_decimal-e.ensures c.put_text.ensures)))) in
    record { ends = all.ends ∙ zero-add _; stores = all.stores }
