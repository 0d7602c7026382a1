-- What it means that nothing differs.
use Rattle.std.specs.Prelude.{◌≡◌, Result, Ok, List, ℕ, ◌-◌, take, drop}
use Rattle.demo_handover.specs.Given.{given_xs, given_ys, given_ts, given_ps}
use Rattle.demo_handover.specs.declared.{compare.Difference.Difference, compare.Got.Got, given.When.When}

-- the first n entries are those of another list from number `from` on
abbrev pub Agree : {A : Type 0} → (from n : ℕ) → (got given : List A) → Type 0
Agree from n got given = take n got ≡ take n (drop from given)

module _ (when : When) (got : Got) (from to : ℕ) where
  -- got are the given events from number `from` on, up to `to`
  pub record Matches : Type 0 where
    pub count : got.count ≡ Ok (to - from)
    pub xs : Agree from (to - from) got.xs given_xs
    pub ys : Agree from (to - from) got.ys given_ys
    pub ts : Agree from (to - from) got.ts (given_ts when)
    pub ps : Agree from (to - from) got.ps given_ps

  -- nothing differs exactly if they are
  pub record Judges (r : Result (Unit {0}) Difference) : Type 0 where
    pub if_nothing : r ≡ Ok tt → Matches
    pub if_matches : Matches → r ≡ Ok tt
