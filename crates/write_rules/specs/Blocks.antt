-- Columns looked through block by block: what a block says of what is left, and what all blocks come to.
use Rattle.std.specs.Prelude.{◌≡◌, refl, Bool, true, false, ◌&&◌, ◌||◌, List, [], ◌∷◌, ◌++◌, ℕ, suc, ◌+◌, ◌-◌, ◌≤◌, ◌<◌, length, get_or, drop, ℤ, pos}
use Rattle.std.proofs.Common.{sym, ap, ◌∙◌, arith, length-drop, take_all}
use Rattle.std.proofs.Math.Bool.{and-false, and_assoc, or_assoc}
use Rattle.std.specs.Int.Signed.{lt_z}
use Rattle.laws_stream.specs.Part.{between, between-rest, between_get_d, length-between}
use Rattle.std.specs.Prelude.{None, Result, Ok, Err}
use Rattle.evt_types.specs.declared.{Refusal.Refusal, Refusal.TheVariants.TimeOrder}
use Rattle.write_rules.specs.Range.{time_in_range, every, at_most, events_in_range, falls, falls_after}
use Rattle.write_rules.specs.Checks.{last_of, falls-first, falls-end, every_none}

-- rule 7 but for the times
abbrev pub places_in_range : List ℕ → List ℕ → List ℕ → Bool
places_in_range xs ys ps = every (at_most 2047) xs && (every (at_most 2047) ys && every (at_most 1) ps)

-- 6 if a time falls, and else whether all places are in range
abbrev pub looked_of : (fall fine : Bool) → Result Bool Refusal
looked_of true fine = Err TimeOrder
looked_of false fine = Ok fine

pub looked_refused : (fall fine : Bool) (q : Refusal) → looked_of fall fine ≡ Err q → (fall ≡ true) × (q ≡ TimeOrder)
looked_refused true fine q e = (refl, cc)
looked_refused false fine q e = let z : ◌≡◌ {A = ℕ} 0 1 = cc in absurd (omega arith)

pub looked_fine : (fall fine b : Bool) → looked_of fall fine ≡ Ok b → (fall ≡ false) × (b ≡ fine)
looked_fine true fine b e = let z : ◌≡◌ {A = ℕ} 0 1 = cc in absurd (omega arith)
looked_fine false fine b e = (refl, cc)

-- ---- a part and what follows it

every_append : {A : Type 0} (f : A → Bool) (a b : List A) → every f (a ++ b) ≡ (every f a && every f b)
unfolding every
every_append f [] b = refl
every_append f (x ∷ a) b = ap (λ (c : Bool). f x && c) (every_append f a b) ∙ sym (and_assoc (f x) (every f a) (every f b))

falls-append : (from : ℤ) (a b : List ℤ) → falls from (a ++ b) ≡ (falls from a || falls (last_of from a) b)
unfolding falls
falls-append from [] b = refl
falls-append from (t ∷ a) b = ap (λ (c : Bool). lt_z t from || c) (falls-append t a b) ∙ sym (or_assoc (lt_z t from) (falls t a) (falls (last_of t a) b))

apart : (x y p x' y' p' : Bool) → ((x && x') && ((y && y') && (p && p'))) ≡ ((x && (y && p)) && (x' && (y' && p')))
apart false y p x' y' p' = refl
apart true y p false y' p' = sym (and-false (y && p))
apart true false p true y' p' = refl
apart true true p true false p' = sym (and-false p)
apart true true p true true p' = refl

places_parted : (xs ys ps : List ℕ) (i to : ℕ) → i ≤ to
    → places_in_range (drop i xs) (drop i ys) (drop i ps)
    ≡ (places_in_range (between xs i to) (between ys i to) (between ps i to) && places_in_range (drop to xs) (drop to ys) (drop to ps))
places_parted xs ys ps i to h =
    (λ j. places_in_range (sym (between-rest xs i to h) j) (sym (between-rest ys i to h) j) (sym (between-rest ps i to h) j))
    ∙ rw (
      every_append (at_most 2047) (between xs i to) (drop to xs),
      every_append (at_most 2047) (between ys i to) (drop to ys),
      every_append (at_most 1) (between ps i to) (drop to ps),
    )
    (apart (every (at_most 2047) (between xs i to)) (every (at_most 2047) (between ys i to)) (every (at_most 1) (between ps i to))
    (every (at_most 2047) (drop to xs)) (every (at_most 2047) (drop to ys)) (every (at_most 1) (drop to ps)))

-- all of rule 7
pub all_in_range : (xs ys : List ℕ) (ts : List ℤ) (ps : List ℕ)
    → (places_in_range xs ys ps && every time_in_range ts) ≡ events_in_range xs ys ts ps
all_in_range xs ys ts ps =
    and_assoc (every (at_most 2047) xs) (every (at_most 2047) ys && every (at_most 1) ps) (every time_in_range ts)
    ∙ ap (λ (b : Bool). every (at_most 2047) xs && b) (and_assoc (every (at_most 2047) ys) (every (at_most 1) ps) (every time_in_range ts))

-- ---- the loop

module _ (from : ℤ) (xs ys : List ℕ) (ts : List ℤ) (ps : List ℕ) where
  -- what is left from i on decides
  pub record Looking (last : ℤ) (ok : Bool) (i : ℕ) : Type 0 where
    pub within : i ≤ length ts
    pub order : falls last (drop i ts) ≡ falls from ts
    pub places : (ok && places_in_range (drop i xs) (drop i ys) (drop i ps)) ≡ places_in_range xs ys ps

  pub looking_start : Looking from true 0
  looking_start = record { within = omega arith; order = refl; places = refl }

  module _ {last : ℤ} {ok : Bool} {i : ℕ} (k : Looking last ok i) where
    -- a time that falls in a block falls
    pub looked_falls : (to : ℕ) → i ≤ to → falls last (between ts i to) ≡ true → Err TimeOrder ≡ looked_of (falls from ts) (places_in_range xs ys ps)
    looked_falls to h f =
        let b : falls from ts ≡ true =
        sym k.order ∙ ap (falls last) (sym (between-rest ts i to h)) ∙ falls-append last (between ts i to) (drop to ts) ∙ rw f in
        rw b

    pub looking_iteration : (to : ℕ) → i < to → to ≤ length ts → falls last (between ts i to) ≡ false → (ok' : Bool)
        → ok' ≡ (ok && places_in_range (between xs i to) (between ys i to) (between ps i to))
        → Looking (get_or ts (to - 1) (pos 0)) ok' to
    looking_iteration to h w f ok' is =
        let size : length (between ts i to) ≡ suc (to - 1 - i) = length-between ts i to (omega arith) w ∙ omega arith in
        let n : i + (to - 1 - i) ≡ to - 1 = omega arith in
        let l : last_of last (between ts i to) ≡ get_or ts (to - 1) (pos 0) =
        rw size (between_get_d ts i to (pos 0) (to - 1 - i) (omega arith) ∙ ap (λ (j : ℕ). get_or ts j (pos 0)) n) in
        record {
          within = w;
          order =
              sym (rw (f, l) at
              (sym k.order ∙ ap (falls last) (sym (between-rest ts i to (omega arith))) ∙ falls-append last (between ts i to) (drop to ts)));
          places =
              ap (λ (b : Bool). b && places_in_range (drop to xs) (drop to ys) (drop to ps)) is
              ∙ and_assoc ok (places_in_range (between xs i to) (between ys i to) (between ps i to)) (places_in_range (drop to xs) (drop to ys) (drop to ps))
              ∙ ap (λ (b : Bool). ok && b) (sym (places_parted xs ys ps i to (omega arith)))
              ∙ k.places;
        }

    -- the last block
    pub looked_end : (sized : length ts ≡ length xs) → length ys ≡ length xs → length ps ≡ length xs → (to : ℕ) → to ≡ length ts → (fall fine : Bool)
        → fall ≡ falls last (between ts i to) → fine ≡ (ok && places_in_range (between xs i to) (between ys i to) (between ps i to))
        → looked_of fall fine ≡ looked_of (falls from ts) (places_in_range xs ys ps)
    looked_end same-t same-y same_p to is fall fine f p =
        let all-t : between ts i to ≡ drop i ts = take_all (to - i) (drop i ts) (omega (arith, length-drop i ts)) in
        let all-x : between xs i to ≡ drop i xs = take_all (to - i) (drop i xs) (omega (arith, length-drop i xs)) in
        let all-y : between ys i to ≡ drop i ys = take_all (to - i) (drop i ys) (omega (arith, length-drop i ys)) in
        let all-p : between ps i to ≡ drop i ps = take_all (to - i) (drop i ps) (omega (arith, length-drop i ps)) in
        let order : fall ≡ falls from ts = f ∙ ap (falls last) all-t ∙ k.order in
        let places : fine ≡ places_in_range xs ys ps = p ∙ (λ j. ok && places_in_range (all-x j) (all-y j) (all-p j)) ∙ k.places in
        rw (order, places)

-- no event, no last time
pub looked_none : (xs ys : List ℕ) (ts : List ℤ) (ps : List ℕ) → length ts ≤ 0 → length xs ≤ 0 → length ys ≤ 0 → length ps ≤ 0
    → Ok true ≡ looked_of (falls_after None ts) (places_in_range xs ys ps)
looked_none xs ys ts ps ht hx hy hp =
    let fall : falls_after None ts ≡ false = sym (falls-first ts) ∙ falls-end ts (get_or ts 0 (pos 0)) 0 ht in
    rw (fall, every_none (at_most 2047) xs hx, every_none (at_most 2047) ys hy, every_none (at_most 1) ps hp)
