use Rattle.std.proofs.Common.{rules, refl}
use Rattle.std.specs.Cmp.Rules.{signed_items}
use Rattle.demo_handover.proofs.compare.judge.Goals as goal

pub returns-then-ne-3 : goal.returns-then-ne-3
returns-then-ne-3 c = search (rules, signed_items)

pub returns : goal.returns
returns c =
    record {
      if_nothing = λ _. record { count = search rules; xs = search rules; ys = search rules; ts = search (rules, signed_items); ps = search rules };
      if_matches = λ _. refl;
    }
