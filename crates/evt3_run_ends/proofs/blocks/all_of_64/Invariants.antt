use Rattle.std.proofs.Common.{◌≡◌, Bool, ℕ, ◌+◌, ◌<◌}
use Rattle.evt3_run_ends.specs.Blocks.{Asked}
use Rattle.evt3_run_ends.proofs.blocks.all_of_64.Given as goal

abbrev pub invariant-loop-j : goal.invariant-loop-j
invariant-loop-j g l =
    (f : ℕ → Bool) → ((k : ℕ) (b : Bool) → k < l.i + 64 → goal.F-post g l.holds k b → b ≡ f k) → Asked f 64 l.i l.all l.j
