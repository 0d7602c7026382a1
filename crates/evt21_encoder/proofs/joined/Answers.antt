use Rattle.evt21_encoder.specs.Pass21.{joins_none}
use Rattle.evt21_encoder.proofs.joined.Goals as goal

pub returns : goal.returns
returns c =
    let a = c.args in
    rw (c.no_rise.ensures, c.upper_half.ensures, c.upper_half-2.ensures) (joins_none a.last a.key a.sent a.high)
