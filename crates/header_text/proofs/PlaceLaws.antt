-- Laws of specs/Place.antt.
use Prim.Native.Nat.{suc, zero, ℕ, ◌*◌, ◌+◌, ◌-◌, ◌<◌, ◌^◌, ◌≤◌}
use Rattle.header_text.specs.{Cases.by_bool, Number.all_digits, Number.digits_at, Number.digits_from, Number.digits_of, Number.digits_value, Number.goes_on_lem}
use Rattle.header_text.specs.{Number.is_digit, Number.number_from, Number.number_of, Number.read_of, Place.Begins, Place.Place, Place.go_fits, Place.go_number}
use Rattle.std.specs.Prelude.{Option, Some, None, Result, Ok, Err}
use Rattle.std.specs.Prelude.{ℕ}
use Rattle.header_text.specs.{Place.number-end, Place.stop_none, Place.value-number}
use Rattle.std.proofs.{Common.append-nil, Common.append_assoc, Common.arith, Common.length-take, Common.take-append-drop, Common.take-take, Common.◌∙◌}
use Rattle.std.proofs.{Math.Bool.false, Math.Bool.true, Math.Path.ap, Math.Path.sym}
use Rattle.std.specs.Prelude.{List, [], drop, eqb, length, ltb, refl, take, ◌++◌, ◌∷◌, ◌≡◌}
use borrow.Author.Tests.{ltb-false, ltb-true}

-- ---- numbers and answers

bad_same : (j k : ℕ) → ◌≡◌ {A = Result ℕ ℕ} (Err j) (Err k) → j ≡ k
bad_same j k e = cc

by_order : (j k : ℕ) → (j < k → ⊥) → (k < j → ⊥) → j ≡ k
by_order j k l g = omega arith

never : {A : Type 0} {o : Option ℕ} {n : ℕ} → o ≡ None → o ≡ Some n → A
never e h = absurd (let z : ◌≡◌ {A = ℕ} 0 1 = cc in omega arith)

-- ---- digits: the byte at which the reader stops

-- behind digits of value n, count bytes on: what stands before is a number, and with the byte there none begins so
record Stops (place n : ℕ) (s : List ℕ) (k : ℕ) : Type 0 where
  count : ℕ
  at : k ≡ place + count
  within : count < length s
  value : ℕ
  before : number_from n (take count s) ≡ Some value
  here : (t : List ℕ) → number_from n (take (suc count) s ++ t) ≡ None

stops : (place n : ℕ) (s : List ℕ) (k : ℕ) → n < 2 ^ 64 → digits_from place n s ≡ Err k → Stops place n s k
unfolding digits_from
stops place n [] k h e = absurd (let z : ◌≡◌ {A = ℕ} 0 1 = cc in omega arith)
stops place n (b ∷ s) k h e =
    by_bool (goes_on_lem n b)
    (λ g. let r = stops (place + 1) (n * 10 + (b - 48)) s k (go_fits n b g) (rw g at e) in
    record {
      count = suc r.count;
      at = omega arith;
      within = omega arith;
      value = r.value;
      before = go_number n b g _ ∙ r.before;
      here = λ t. go_number n b g _ ∙ r.here t;
    })
    (λ g. let z : Err place ≡ Err k = rw g at e in
    record { count = 0; at = omega (arith, bad_same k place (sym z)); within = omega arith; value = n; before = number-end n h; here = stop_none n b g })

-- digits begin a number: as they stand, or where there is none yet, with a `0` behind
record DigitsBegin (s : List ℕ) : Type 0 where
  rest : List ℕ
  value : ℕ
  number : digits_of (s ++ rest) ≡ Some value

digits_begin : (s : List ℕ) (n : ℕ) → number_from 0 s ≡ Some n → DigitsBegin s
unfolding digits_of number_from all_digits is_digit digits_value
digits_begin [] n e = record { rest = 48 ∷ []; value = 0; number = refl }
digits_begin (b ∷ s) n e = record { rest = []; value = n; number = ap digits_of (append-nil (b ∷ s)) ∙ e }

-- the same of one or more digits, also where they end
record DigitsPlace (place : ℕ) (s : List ℕ) (k : ℕ) : Type 0 where
  count : ℕ
  at : k ≡ place + count
  within : count ≤ length s
  before : DigitsBegin (take count s)
  here : count < length s → (t : List ℕ) → digits_of (take (suc count) s ++ t) ≡ None
  ended : count ≡ length s → digits_of s ≡ None

digits_place : (place : ℕ) (s : List ℕ) (k : ℕ) → digits_at place s ≡ Err k → DigitsPlace place s k
unfolding digits_at digits_of
digits_place place [] k e =
    record {
      count = 0;
      at = omega (arith, bad_same place k e);
      within = omega arith;
      before = digits_begin [] 0 (number-end 0 (omega arith));
      here = λ l. absurd (omega arith);
      ended = λ l. refl;
    }
digits_place place (b ∷ s) k e =
    let r = stops place 0 (b ∷ s) k (omega arith) e in
    record {
      count = r.count;
      at = r.at;
      within = omega (arith, r.within);
      before = digits_begin _ _ r.before;
      here = λ l. r.here;
      ended = λ l. absurd (omega (arith, r.within));
    }

-- ---- the whole text

nothing-begins : Begins []
unfolding number_of digits_of number_from all_digits is_digit digits_value
nothing-begins = record { rest = 48 ∷ []; value = 0; number = refl }

plain_begins : (b : ℕ) (s : List ℕ) → eqb b 43 ≡ false → (j : ℕ) → DigitsBegin (take j (b ∷ s)) → Begins (take j (b ∷ s))
unfolding number_of
plain_begins b s e zero r = nothing-begins
plain_begins b s e (suc j) r = record { rest = r.rest; value = r.value; number = rw e r.number }

module _ (b : ℕ) (s : List ℕ) (k : ℕ) where
  place_plus : eqb b 43 ≡ true → DigitsPlace 1 s k → Place (b ∷ s) k
  unfolding number_of
  place_plus e r =
      let p : k ≡ suc r.count = omega (arith, r.at) in
      rw p
      (record {
        within = omega (arith, r.within);
        before = record { rest = r.before.rest; value = r.before.value; number = rw e r.before.number };
        here = λ l h. never (r.here (omega arith) h.rest) (rw e at h.number);
        ended = λ l. rw e (r.ended (omega arith));
      })

  place_plain : eqb b 43 ≡ false → DigitsPlace 0 (b ∷ s) k → Place (b ∷ s) k
  unfolding number_of
  place_plain e r =
      let p : k ≡ r.count = omega (arith, r.at) in
      rw p
      (record {
        within = omega (arith, r.within);
        before = plain_begins b s e r.count r.before;
        here = λ l h. never (r.here l h.rest) (rw e at h.number);
        ended = λ l. rw e (r.ended l);
      })

-- the place that the reader tells is one
pub bad_place : (s : List ℕ) (k : ℕ) → read_of s ≡ Err k → Place s k
unfolding read_of number_of
bad_place [] k e =
    rw (← bad_same 0 k e) (record { within = omega arith; before = nothing-begins; here = λ l. absurd (omega arith); ended = λ l. refl })
bad_place (b ∷ s) k e =
    by_bool (eqb b 43) (λ p. place_plus b s k p (digits_place 1 s k (rw p at e)))
    (λ p. place_plain b s k p (digits_place 0 (b ∷ s) k (rw p at e)))

-- ---- no other place

module _ (s : List ℕ) where
  begins_less : (j k : ℕ) → j ≤ k → Begins (take k s) → Begins (take j s)
  begins_less j k h r =
      let e : take j s ++ drop j (take k s) ≡ take k s = rw (← take-take j k s h) (take-append-drop j (take k s)) in
      record { rest = drop j (take k s) ++ r.rest; value = r.value; number = rw (← append_assoc, e) r.number }

  number-begins : (n j : ℕ) → number_of s ≡ Some n → Begins (take j s)
  number-begins n j e = record { rest = drop j s; value = n; number = rw (take-append-drop j s) e }

  places_order : (j k : ℕ) → Place s j → Place s k → j < k → ⊥
  places_order j k p q h = p.here (omega (arith, q.within)) (begins_less (suc j) k h q.before)

  -- and any other would be that one
  pub place_bad : (k : ℕ) → Place s k → read_of s ≡ Err k
  place_bad k p = go (read_of s) refl
    where
      go : (r : Result ℕ ℕ) → read_of s ≡ r → read_of s ≡ Err k
      go (Ok n) e =
          let h = value-number s n e in
          absurd (by_bool (ltb k (length s)) (λ l. p.here (ltb-true k (length s) l) (number-begins n (suc k) h))
          (λ l. never (p.ended (omega (arith, ltb-false k (length s) l, p.within))) h))
      go (Err j) e =
          let q = bad_place s j e in
          let same : j ≡ k = by_order j k (places_order j k q p) (places_order k j p q) in
          e ∙ ap Err same

-- the bytes behind the place make no difference
pub bytes-behind : (s t : List ℕ) (k : ℕ) → k < length s → take (suc k) s ≡ take (suc k) t → read_of s ≡ Err k → read_of t ≡ Err k
bytes-behind s t k h e r =
    let p = bad_place s k r in
    let l : k < length t = omega (arith, length-take (suc k) s, length-take (suc k) t, ap length e) in
    let same : take k s ≡ take k t = sym (take-take k (suc k) s (omega arith)) ∙ ap (take k) e ∙ take-take k (suc k) t (omega arith) in
    place_bad t k
    (record {
      within = omega arith;
      before = rw same at p.before;
      here = λ m b. p.here h (rw e b);
      ended = λ m. absurd (omega arith);
    })
