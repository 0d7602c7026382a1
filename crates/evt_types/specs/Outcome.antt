-- What a call comes to: a refusal, or what it hands over. The order in which an entry refuses stands in one definition of this type; its answer, what
-- that tells in numbers, and what is handed over are read off it.
use Rattle.std.specs.Prelude.{◌≡◌, refl, Bool, true, false, cond, List, [], ℕ}
use Rattle.std.proofs.Common.{arith}
use Rattle.evt_types.specs.{declared.Refusal.Refusal, Told.Told, Told.told, Told.accepted}

pub data Outcome (A : Type 0) : Type 0 where
  refuse : Refusal → Outcome A
  give : A → Outcome A

abbrev pub on_outcome : {A B : Type 0} → (Refusal → B) → (A → B) → Outcome A → B
on_outcome f g (refuse r) = f r
on_outcome f g (give a) = g a

-- in numbers: the refusal's, or 0 and the values of what is handed over
abbrev pub verdict : {A : Type 0} → (A → List ℕ) → Outcome A → Told
verdict values = on_outcome told (λ a. accepted (values a))

-- nothing on a refusal
abbrev pub handed_by : {A E : Type 0} → (A → List E) → Outcome A → List E
handed_by events = on_outcome (λ r. []) events

-- ---- laws: an outcome that gives has passed each condition before it

module _ {A : Type 0} (a : A) where
  pub never_given : {P : Type 0} (r : Refusal) → refuse r ≡ give a → P
  never_given r e = let no : ◌≡◌ {A = ℕ} 0 1 = cc in absurd (omega arith)

  pub given_if : (b : Bool) (o : Outcome A) (r : Refusal) → cond b o (refuse r) ≡ give a → (b ≡ true) × (o ≡ give a)
  given_if true o r e = (refl, e)
  given_if false o r e = never_given r e

  pub given-unless : (b : Bool) (o : Outcome A) (r : Refusal) → cond b (refuse r) o ≡ give a → (b ≡ false) × (o ≡ give a)
  given-unless true o r e = never_given r e
  given-unless false o r e = (refl, e)

  pub given_then : {B : Type 0} (k : Outcome B) (f : B → Outcome A) → on_outcome refuse f k ≡ give a → (b : B) × ((k ≡ give b) × (f b ≡ give a))
  given_then (refuse r) f e = never_given r e
  given_then (give b) f e = (b, (refl, e))
