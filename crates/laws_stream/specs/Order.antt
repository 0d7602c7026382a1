-- Events of any kind in order of time, and the greatest of what they hold.
use Rattle.std.specs.Prelude.{◌≡◌, refl, Bool, true, List, [], ◌∷◌, ◌++◌, map, ℕ, ◌≤◌, ◌<◌, max}
use Rattle.std.proofs.Common.{ap, arith}
use Rattle.laws_stream.specs.Machine.{All}

-- `clock`: an event's time; `ok`: whether an encoding can say the event at all
module _ {E : Type 0} (clock : E → ℕ) (ok : E → Bool) where
  pub record Fine (from : ℕ) (e : E) : Type 0 where
    pub rises : from ≤ clock e
    pub fine : ok e ≡ true

  -- each event is fine, and none is earlier than the one before
  abbrev pub Rise : ℕ → List E → Type 0
  Rise from [] = Unit
  Rise from (e ∷ es) = Fine from e × Rise (clock e) es

  abbrev pub last_of : ℕ → List E → ℕ
  last_of from [] = from
  last_of from (e ∷ es) = last_of (clock e) es

  pub rise_from : (a b : ℕ) (es : List E) → a ≤ b → Rise b es → Rise a es
  rise_from a b [] h r = tt
  rise_from a b (e ∷ es) h r = (record { rises = omega (arith, r.0.rises); fine = r.0.fine }, r.1)

  -- from any time up to the first event's
  pub rise_first : (from to : ℕ) (e : E) (es : List E) → to ≤ clock e → Rise from (e ∷ es) → Rise to (e ∷ es)
  rise_first from to e es h r = (record { rises = h; fine = r.0.fine }, r.1)

  pub rise_all : (b : ℕ) (es : List E) → Rise b es → All (λ e. b ≤ clock e) es
  rise_all b [] r = tt
  rise_all b (e ∷ es) r = (r.0.rises, rise_all b es (rise_from b (clock e) es r.0.rises r.1))

  pub rise_append : (from : ℕ) (a b : List E) → Rise from a → Rise (last_of from a) b → Rise from (a ++ b)
  rise_append from [] b r q = q
  rise_append from (e ∷ a) b r q = (r.0, rise_append (clock e) a b r.1 q)

  pub rise_last : (from : ℕ) (es : List E) → Rise from es → from ≤ last_of from es
  rise_last from [] r = omega arith
  rise_last from (e ∷ es) r = omega (arith, r.0.rises, rise_last (clock e) es r.1)

  -- what follows
  pub rise_suffix : (from : ℕ) (a b : List E) → Rise from (a ++ b) → Rise from b
  rise_suffix from [] b r = r
  rise_suffix from (e ∷ a) b r = rise_from from (clock e) b r.0.rises (rise_suffix (clock e) a b r.1)

-- the greatest f of some elements, 0 of none
module _ {E : Type 0} (f : E → ℕ) where
  abbrev pub greatest : List E → ℕ
  greatest [] = 0
  greatest (e ∷ es) = max (f e) (greatest es)

  pub greatest-append : (a b : List E) → greatest (a ++ b) ≡ max (greatest a) (greatest b)
  greatest-append [] b = omega arith
  greatest-append (e ∷ a) b = omega (arith, greatest-append a b)

  pub greatest-lt : (t : ℕ) (es : List E) → greatest es < t → All (λ e. f e < t) es
  greatest-lt t [] h = tt
  greatest-lt t (e ∷ es) h = (omega arith, greatest-lt t es (omega arith))

  pub greatest-le : (t : ℕ) (es : List E) → All (λ e. f e ≤ t) es → greatest es ≤ t
  greatest-le t [] h = omega arith
  greatest-le t (e ∷ es) h = omega (arith, h.0, greatest-le t es h.1)

pub greatest-map : {A E : Type 0} (f : E → ℕ) (g : A → E) (l : List A) → greatest f (map g l) ≡ greatest (λ a. f (g a)) l
greatest-map f g [] = refl
greatest-map f g (a ∷ l) = ap (max (f (g a))) (greatest-map f g l)

-- the latest of some events: what a checkpoint keeps
abbrev pub latest : {E : Type 0} → (E → ℕ) → List E → ℕ
latest clock es = greatest clock es
