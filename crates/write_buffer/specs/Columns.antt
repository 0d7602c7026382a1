-- Four columns as a list of events.
use Rattle.std.specs.Prelude.{◌≡◌, refl, true, List, [], ◌∷◌, map, ℕ, zero, suc, ◌+◌, ◌^◌, ◌≤◌, ◌<◌, length, get_or, drop, ℤ, pos}
use Rattle.std.proofs.Common.{sym, ap, ◌∙◌, arith, add-one, length-drop, drop_of_length-le, drop-cons, drop-drop}
use Rattle.std.proofs.lemmas.List.{length-map}
use Rattle.std.specs.Int.Signed.{non_neg}
use Rattle.evt_types.specs.{Num.natural, Event.Event, Columns.col_x}

abbrev pub event : (x y t p : ℕ) → Event
event x y t p = record { t = t; x = x; y = y; p = p }

-- as many as the shortest column has
abbrev pub events_in : List ℕ → List ℕ → List ℤ → List ℕ → List Event
events_in [] ys ts ps = []
events_in (x ∷ xs) [] ts ps = []
events_in (x ∷ xs) (y ∷ ys) [] ps = []
events_in (x ∷ xs) (y ∷ ys) (t ∷ ts) [] = []
events_in (x ∷ xs) (y ∷ ys) (t ∷ ts) (p ∷ ps) = event x y (natural t) p ∷ events_in xs ys ts ps

-- columns of one length, of at most 2^28 events
pub record Sized (xs ys : List ℕ) (ts : List ℤ) (ps : List ℕ) : Type 0 where
  pub few : length xs ≤ 2 ^ 28
  pub same-y : length ys ≡ length xs
  pub same-t : length ts ≡ length xs
  pub same_p : length ps ≡ length xs

-- no time is negative
abbrev pub Whole : List ℤ → Type 0
Whole ts = (i : ℕ) → non_neg (get_or ts i (pos 0)) ≡ true

-- ---- laws

-- the events from i on
module _ (xs ys : List ℕ) (ts : List ℤ) (ps : List ℕ) where
  abbrev pub events_past : ℕ → List Event
  events_past i = events_in (drop i xs) (drop i ys) (drop i ts) (drop i ps)

  abbrev pub event_of : ℕ → Event
  event_of i = event (get_or xs i 0) (get_or ys i 0) (natural (get_or ts i (pos 0))) (get_or ps i 0)

  module _ (s : Sized xs ys ts ps) where
    pub events-at : (i : ℕ) → i < length xs → events_past i ≡ event_of i ∷ events_past (i + 1)
    events-at i h =
        rw (
          add-one,
          drop-cons xs i 0 h,
          drop-cons ys i 0 (omega (arith, s.same-y)),
          drop-cons ts i (pos 0) (omega (arith, s.same-t)),
          drop-cons ps i 0 (omega (arith, s.same_p)),
        )

    pub events-end : (i : ℕ) → length xs ≤ i → events_past i ≡ []
    events-end i h = rw (drop_of_length-le xs h)

-- lists of one length
abbrev Even : List ℕ → List ℕ → List ℤ → List ℕ → Type 0
Even xs ys ts ps = (length ys ≡ length xs) × (length ts ≡ length xs) × (length ps ≡ length xs)

even_x : (xs ys : List ℕ) (ts : List ℤ) (ps : List ℕ) → Even xs ys ts ps → map col_x (events_in xs ys ts ps) ≡ xs
even_x [] ys ts ps h = refl
even_x (x ∷ xs) [] ts ps h = absurd (omega (arith, h.0))
even_x (x ∷ xs) (y ∷ ys) [] ps h = absurd (omega (arith, h.1))
even_x (x ∷ xs) (y ∷ ys) (t ∷ ts) [] h = absurd (omega (arith, h.2))
even_x (x ∷ xs) (y ∷ ys) (t ∷ ts) (p ∷ ps) h = ap (λ (l : List ℕ). x ∷ l) (even_x xs ys ts ps (omega (arith, h.0), omega (arith, h.1), omega (arith, h.2)))

even_drop : (n : ℕ) (xs ys : List ℕ) (ts : List ℤ) (ps : List ℕ) → Even xs ys ts ps
    → drop n (events_in xs ys ts ps) ≡ events_in (drop n xs) (drop n ys) (drop n ts) (drop n ps)
even_drop zero xs ys ts ps h = refl
even_drop (suc n) [] ys ts ps h = refl
even_drop (suc n) (x ∷ xs) [] ts ps h = absurd (omega (arith, h.0))
even_drop (suc n) (x ∷ xs) (y ∷ ys) [] ps h = absurd (omega (arith, h.1))
even_drop (suc n) (x ∷ xs) (y ∷ ys) (t ∷ ts) [] h = absurd (omega (arith, h.2))
even_drop (suc n) (x ∷ xs) (y ∷ ys) (t ∷ ts) (p ∷ ps) h = even_drop n xs ys ts ps (omega (arith, h.0), omega (arith, h.1), omega (arith, h.2))

module _ (xs ys : List ℕ) (ts : List ℤ) (ps : List ℕ) (s : Sized xs ys ts ps) where
  even_from : (i : ℕ) → Even (drop i xs) (drop i ys) (drop i ts) (drop i ps)
  even_from i = (rw (length-drop, length-drop, s.same-y), rw (length-drop, length-drop, s.same-t), rw (length-drop, length-drop, s.same_p))

  pub events-x : (i : ℕ) → map col_x (events_past xs ys ts ps i) ≡ drop i xs
  events-x i = even_x (drop i xs) (drop i ys) (drop i ts) (drop i ps) (even_from i)

  pub events-drop : (i n : ℕ) → drop n (events_past xs ys ts ps i) ≡ events_past xs ys ts ps (i + n)
  events-drop i n = even_drop n (drop i xs) (drop i ys) (drop i ts) (drop i ps) (even_from i) ∙ rw (drop-drop, drop-drop, drop-drop, drop-drop)

  pub events-length : (i : ℕ) → length (events_past xs ys ts ps i) ≡ length (drop i xs)
  events-length i = sym (length-map (events_past xs ys ts ps i) col_x) ∙ ap length (events-x i)
