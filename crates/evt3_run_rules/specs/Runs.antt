-- Runs: events that share time, row and polarity, where a rule says which column may come next. In EVT 3.0 x rises strictly.
use Rattle.std.specs.Prelude.{◌≡◌, Bool, ◌&&◌, eqb, ltb, get_or, take, drop}
use Rattle.std.proofs.Math.Path.{refl, ap}
use Rattle.std.proofs.Common.{sym, ◌∙◌, eqb-true, ltb-true}
use Rattle.std.proofs.Math.Bool.{true, false, cond}
use mathlib.Core.List.{List, [], ◌∷◌, ◌++◌, map}
use Prim.Native.Nat.{ℕ, suc, ◌-◌, ◌≤◌, ◌<◌}
use native.Mathlib.Omega.{arith}
use Rattle.std.proofs.Math.ListN.{length}
use Rattle.laws_stream.specs.{Machine.All, Machine.and_both, Mask.Inc}
use Rattle.evt_types.specs.{Event.Event, Columns.col_x}
use Rattle.write_buffer.specs.{Columns.event, Emits.concat_map}

pub record Run : Type 0 where
  pub t : ℕ
  pub y : ℕ
  pub p : ℕ
  pub xs : List ℕ

abbrev pub run_of : (t y p : ℕ) → List ℕ → Run
run_of t y p xs = record { t = t; y = y; p = p; xs = xs }

abbrev pub first_x : List ℕ → ℕ
first_x xs = get_or xs 0 0

abbrev pub last_x : List ℕ → ℕ
last_x xs = get_or xs (length xs - 1) 0

abbrev pub first_of : Run → Event
first_of r = event (first_x r.xs) r.y r.t r.p

abbrev pub single : Event → Run
single e = run_of e.t e.y e.p (e.x ∷ [])

abbrev pub prepend : Event → Run → Run
prepend e r = run_of e.t e.y e.p (e.x ∷ r.xs)

-- the first of some events, and n of those that follow
abbrev pub run_at : Event → ℕ → List Event → Run
run_at e n es = run_of e.t e.y e.p (e.x ∷ map col_x (take n es))

-- the events of a run
abbrev pub spread : (t y p : ℕ) → List ℕ → List Event
spread t y p xs = map (λ x. event x y t p) xs

abbrev pub given : Run → List Event
given r = spread r.t r.y r.p r.xs

abbrev pub given_by_lem : List Run → List Event
given_by_lem rs = concat_map given rs

-- `next last x`: column x may come next after `last`
module _ (next : (last x : ℕ) → Bool) where
  -- an event goes on a run of t, y and p whose last x is `last`
  abbrev pub goes_by : (t y p last : ℕ) → Event → Bool
  goes_by t y p last e = eqb e.t t && (eqb e.y y && (eqb e.p p && next last e.x))

  -- an event before some runs: in the first run where that goes on from the event, else alone
  abbrev pub glue_by : Event → List Run → List Run
  glue_by e [] = single e ∷ []
  glue_by e (r ∷ rs) = cond (goes_by e.t e.y e.p e.x (first_of r)) (prepend e r ∷ rs) (single e ∷ r ∷ rs)

  -- the longest runs, from the left
  abbrev pub runs_by : List Event → List Run
  runs_by [] = []
  runs_by (e ∷ es) = glue_by e (runs_by es)

  -- how many events go on a run
  unfoldable pub follow_by : (t y p last : ℕ) → List Event → ℕ
  follow_by t y p last [] = 0
  follow_by t y p last (e ∷ es) = cond (goes_by t y p last e) (suc (follow_by t y p e.x es)) 0

  -- ---- laws

  -- what going on says
  pub record GoesBy (t y p last : ℕ) (e : Event) : Type 0 where
    pub is_t : e.t ≡ t
    pub is_y : e.y ≡ y
    pub is_p : e.p ≡ p
    pub is_next : next last e.x ≡ true

  pub goes_by-true : (t y p last : ℕ) (e : Event) → goes_by t y p last e ≡ true → GoesBy t y p last e
  goes_by-true t y p last e h =
      let a = and_both _ _ h in
      let b = and_both _ _ a.1 in
      let c = and_both _ _ b.1 in
      record { is_t = eqb-true e.t t a.0; is_y = eqb-true e.y y b.0; is_p = eqb-true e.p p c.0; is_next = c.1 }

  abbrev rest : Event → List Event → List Run
  rest e es = runs_by (drop (follow_by e.t e.y e.p e.x es) es)

  abbrev first : Event → List Event → Run
  first e es = run_at e (follow_by e.t e.y e.p e.x es) es

  runs_go : (b : Bool) (e f : Event) (es : List Event) → goes_by e.t e.y e.p e.x f ≡ b → runs_by (f ∷ es) ≡ first f es ∷ rest f es
      → let n = cond b (suc (follow_by e.t e.y e.p f.x es)) 0 in
      cond b (prepend e (first f es) ∷ rest f es) (single e ∷ first f es ∷ rest f es) ≡ run_at e n (f ∷ es) ∷ runs_by (drop n (f ∷ es))
  runs_go true e f es q ih = let g = goes_by-true e.t e.y e.p e.x f q in rw (g.is_t, g.is_y, g.is_p)
  runs_go false e f es q ih = ap {B = List Run} (λ (l : List Run). single e ∷ l) (sym ih)

  -- the first run, and those of what is left
  pub runs_by-at : (e : Event) (es : List Event)
      → runs_by (e ∷ es) ≡ run_at e (follow_by e.t e.y e.p e.x es) es ∷ runs_by (drop (follow_by e.t e.y e.p e.x es) es)
  unfolding follow_by
  runs_by-at e [] = refl
  runs_by-at e (f ∷ es) = ap (glue_by e) (runs_by-at f es) ∙ runs_go (goes_by e.t e.y e.p e.x f) e f es refl (runs_by-at f es)

  pub follow_by-le : (t y p last : ℕ) (es : List Event) → follow_by t y p last es ≤ length es
  unfolding follow_by
  follow_by-le t y p last [] = omega arith
  follow_by-le t y p last (e ∷ es) = go (goes_by t y p last e) (follow_by-le t y p e.x es)
    where
      go : (b : Bool) → follow_by t y p e.x es ≤ length es → cond b (suc (follow_by t y p e.x es)) 0 ≤ suc (length es)
      go true h = omega arith
      go false h = omega arith

  -- what holds of one column, and of columns with one more before them from which they go on, holds of every run
  module _ (P : List ℕ → Type 0) (one : (x : ℕ) → P (x ∷ [])) (more : (x : ℕ) (xs : List ℕ) → next x (first_x xs) ≡ true → P xs → P (x ∷ xs)) where
    abbrev Holds : Run → Type 0
    Holds r = P r.xs

    glue_as : (b : Bool) (e : Event) (r : Run) (rs : List Run) → goes_by e.t e.y e.p e.x (first_of r) ≡ b → Holds r → All Holds rs
        → All Holds (cond b (prepend e r ∷ rs) (single e ∷ r ∷ rs)) × (given_by_lem (cond b (prepend e r ∷ rs) (single e ∷ r ∷ rs)) ≡ e ∷ (given r ++ given_by_lem rs))
    glue_as true e r rs q v vs =
        let g = goes_by-true e.t e.y e.p e.x (first_of r) q in
        ((more e.x r.xs g.is_next v, vs), rw (g.is_t, g.is_y, g.is_p))
    glue_as false e r rs q v vs = ((one e.x, (v, vs)), refl)

    glue_is : (e : Event) (rs : List Run) → All Holds rs → All Holds (glue_by e rs) × (given_by_lem (glue_by e rs) ≡ e ∷ given_by_lem rs)
    glue_is e [] vs = ((one e.x, tt), refl)
    glue_is e (r ∷ rs) vs = glue_as (goes_by e.t e.y e.p e.x (first_of r)) e r rs refl vs.0 vs.1

    -- and runs have all the events in order
    pub runs_by_are : (es : List Event) → All Holds (runs_by es) × (given_by_lem (runs_by es) ≡ es)
    runs_by_are [] = (tt, refl)
    runs_by_are (e ∷ es) =
        let ih = runs_by_are es in
        let g = glue_is e (runs_by es) ih.0 in
        (g.0, g.1 ∙ ap {B = List Event} (λ (l : List Event). e ∷ l) ih.1)

-- ---- EVT 3.0

abbrev pub goes : (t y p last : ℕ) → Event → Bool
goes = goes_by ltb

abbrev pub glue : Event → List Run → List Run
glue = glue_by ltb

abbrev pub runs : List Event → List Run
runs = runs_by ltb

abbrev pub follow : (t y p last : ℕ) → List Event → ℕ
follow = follow_by ltb

pub goes-true : (t y p last : ℕ) (e : Event) → goes t y p last e ≡ true → GoesBy ltb t y p last e
goes-true = goes_by-true ltb

pub runs-at : (e : Event) (es : List Event)
    → runs (e ∷ es) ≡ run_at e (follow e.t e.y e.p e.x es) es ∷ runs (drop (follow e.t e.y e.p e.x es) es)
runs-at = runs_by-at ltb

pub follow-le : (t y p last : ℕ) (es : List Event) → follow t y p last es ≤ length es
follow-le = follow_by-le ltb

-- some numbers that rise
pub record Rising (xs : List ℕ) : Type 0 where
  pub some : 1 ≤ length xs
  pub rises : Inc (first_x xs) (suc (last_x xs)) xs

abbrev pub Valid : Run → Type 0
Valid r = Rising r.xs

last_cons : (x : ℕ) (xs : List ℕ) → 1 ≤ length xs → last_x (x ∷ xs) ≡ last_x xs
last_cons x [] h = absurd (omega arith)
last_cons x (y ∷ xs) h =
    let a : suc (suc (length xs)) - 1 ≡ suc (length xs) = omega arith in
    let b : suc (length xs) - 1 ≡ length xs = omega arith in
    rw (a, b)

rising_single : (x : ℕ) → Rising (x ∷ [])
rising_single x = record { some = omega arith; rises = (omega arith, omega arith, tt) }

pub inc_from : (a b to : ℕ) (xs : List ℕ) → a ≤ first_x xs → Inc b to xs → Inc a to xs
inc_from a b to [] h i = tt
inc_from a b to (x ∷ xs) h i = (h, i.1, i.2)

first-lt : (b to : ℕ) (xs : List ℕ) → 1 ≤ length xs → Inc b to xs → first_x xs < to
first-lt b to [] h i = absurd (omega arith)
first-lt b to (x ∷ xs) h i = i.1

rising_cons : (x : ℕ) (xs : List ℕ) → ltb x (first_x xs) ≡ true → Rising xs → Rising (x ∷ xs)
rising_cons x xs q r =
    let h = ltb-true x (first_x xs) q in
    let e = last_cons x xs r.some in
    let f = first-lt (first_x xs) (suc (last_x xs)) xs r.some r.rises in
    record { some = omega arith; rises = (omega arith, omega (arith, e), rw e (inc_from (suc x) (first_x xs) (suc (last_x xs)) xs h r.rises)) }

-- runs have x that rise, and all the events in order
pub runs_are : (es : List Event) → All Valid (runs es) × (given_by_lem (runs es) ≡ es)
runs_are = runs_by_are ltb Rising rising_single rising_cons
