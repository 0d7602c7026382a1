-- Four columns of events: rows written from an index on, and what stands behind them.
use Rattle.std.specs.Prelude.{◌≡◌, refl, List, [], ◌∷◌, ◌++◌, map, ℕ, ◌+◌, ◌≤◌, ◌<◌, ◌^◌, length, set, ℤ, pos}
use Rattle.std.proofs.Common.{arith, length-append}
use Rattle.laws_stream.specs.Columns.{written, Column, column_start, column-one, column-run, column-end}
use Rattle.evt_types.specs.{declared.vector.Vector.Vector, Event.Event}

abbrev pub col_x : Event → ℕ
col_x e = e.x

abbrev pub col_y : Event → ℕ
col_y e = e.y

abbrev pub col_t : Event → ℤ
col_t e = pos e.t

abbrev pub col_p : Event → ℕ
col_p e = e.p

-- n events of v have room in columns of these lengths from `at` on, and fit them
pub record Room (n : ℕ) (v : Vector) (at xs ys ts ps : ℕ) : Type 0 where
  pub mask : v.mask < 2 ^ 32
  pub column : v.x < 65536
  pub row : v.y < 65536
  pub time : v.t < 2 ^ 63
  pub sign : v.p < 2
  pub room-x : at + n ≤ xs
  pub room-y : at + n ≤ ys
  pub room-t : at + n ≤ ts
  pub room_p : at + n ≤ ps

-- columns of these lengths hold n events
pub record Fits (n xs ys ts ps : ℕ) : Type 0 where
  pub fit_x : n ≤ xs
  pub fit_y : n ≤ ys
  pub fit_t : n ≤ ts
  pub fit_p : n ≤ ps

-- the columns hold the events from `at` on, and are else what they were
pub record Wrote (es : List Event) (at : ℕ) (xs₀ ys₀ : List ℕ) (ts₀ : List ℤ) (ps₀ xs ys : List ℕ) (ts : List ℤ) (ps : List ℕ) : Type 0 where
  pub is_x : xs ≡ written xs₀ at (map col_x es)
  pub is_y : ys ≡ written ys₀ at (map col_y es)
  pub is_t : ts ≡ written ts₀ at (map col_t es)
  pub is_p : ps ≡ written ps₀ at (map col_p es)

-- On the way: n rows are written, and with `left` written from n on the columns hold all of `es` from `at` on.
pub record Going (es : List Event) (at : ℕ) (xs₀ ys₀ : List ℕ) (ts₀ : List ℤ) (ps₀ : List ℕ) (left : List Event) (n : ℕ) (xs ys : List ℕ)
    (ts : List ℤ) (ps : List ℕ) : Type 0 where
  pub count : n + length left ≡ at + length es
  pub in_x : Column col_x es at xs₀ left n xs
  pub in_y : Column col_y es at ys₀ left n ys
  pub in_t : Column col_t es at ts₀ left n ts
  pub in_p : Column col_p es at ps₀ left n ps

module _ {es : List Event} {at : ℕ} {xs₀ ys₀ : List ℕ} {ts₀ : List ℤ} {ps₀ : List ℕ} where
  pub going_start : Going es at xs₀ ys₀ ts₀ ps₀ es at xs₀ ys₀ ts₀ ps₀
  going_start = record { count = refl; in_x = column_start col_x; in_y = column_start col_y; in_t = column_start col_t; in_p = column_start col_p }

  pub going_one : (e : Event) {left : List Event} {n : ℕ} {xs ys : List ℕ} {ts : List ℤ} {ps : List ℕ} → Going es at xs₀ ys₀ ts₀ ps₀ (e ∷ left) n xs ys ts ps
      → Going es at xs₀ ys₀ ts₀ ps₀ left (n + 1) (set xs n (col_x e)) (set ys n (col_y e)) (set ts n (col_t e)) (set ps n (col_p e))
  going_one e g = record {
    count = omega arith;
    in_x = column-one col_x e g.in_x;
    in_y = column-one col_y e g.in_y;
    in_t = column-one col_t e g.in_t;
    in_p = column-one col_p e g.in_p;
  }

  pub going_run : (a : List Event) {left : List Event} {n : ℕ} {xs ys : List ℕ} {ts : List ℤ} {ps : List ℕ} {xs' ys' : List ℕ} {ts' : List ℤ} {ps' : List ℕ}
      → n + length a ≤ length xs → n + length a ≤ length ys → n + length a ≤ length ts → n + length a ≤ length ps
      → Wrote a n xs ys ts ps xs' ys' ts' ps' → Going es at xs₀ ys₀ ts₀ ps₀ (a ++ left) n xs ys ts ps
      → Going es at xs₀ ys₀ ts₀ ps₀ left (n + length a) xs' ys' ts' ps'
  going_run a {left} hx hy ht hp w g = record {
    count = omega (arith, length-append a left);
    in_x = column-run col_x a hx w.is_x g.in_x;
    in_y = column-run col_y a hy w.is_y g.in_y;
    in_t = column-run col_t a ht w.is_t g.in_t;
    in_p = column-run col_p a hp w.is_p g.in_p;
  }

  pub going_end : {n : ℕ} {xs ys : List ℕ} {ts : List ℤ} {ps : List ℕ}
      → at + length es ≤ length xs₀ → at + length es ≤ length ys₀ → at + length es ≤ length ts₀ → at + length es ≤ length ps₀
      → Going es at xs₀ ys₀ ts₀ ps₀ [] n xs ys ts ps → Wrote es at xs₀ ys₀ ts₀ ps₀ xs ys ts ps
  going_end hx hy ht hp g = record {
    is_x = column-end col_x hx g.in_x;
    is_y = column-end col_y hy g.in_y;
    is_t = column-end col_t ht g.in_t;
    is_p = column-end col_p hp g.in_p;
  }
