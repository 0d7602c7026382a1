-- The events of a word that lie inside a sensor of width x height: those with x < width and y < height.
use Rattle.std.specs.Prelude.{◌≡◌, refl, Bool, true, false, cond, List, [], ◌∷◌, map, ℕ, zero, suc, ◌+◌}
use Rattle.std.specs.Prelude.{◌-◌, ◌/◌, ◌%◌, ◌≤◌, ◌<◌, ◌^◌, min, max, length, set, ℤ, pos, eqb, ltb}
use Rattle.std.proofs.Common.{sym, ap, ◌∙◌, arith, add-zero, mod-eq_of_lt, lt_of_lt_of_le, set-set, pow_mono, eqb-true, ltb-true, ltb-false, lt-ltb, le-ltb}
use Rattle.std.proofs.Math.Bool.{and-true, and-false}
use Rattle.std.proofs.Math.Nat.{mod-le}
use Rattle.std.proofs.lemmas.List.{length-map}
use Rattle.std.specs.Int.Bits.{bit_and}
use Rattle.std.proofs.lemmas.Nat.{and_le_l}
use Rattle.std.specs.Int.Count.{count_trailing_zeros}
use Rattle.std.proofs.lemmas.Bool.{eqb-false}
use Rattle.laws_stream.specs.{Machine.all_of, Machine.all_mapped, Mask.bits, Mask.bits-zero}
use Rattle.laws_stream.specs.{Mask.trailing_wide, Order.greatest, Slice.onto, Slice.sift, Slice.sift_none, Slice.sift-all, Slice.sift_mapped}
use Rattle.evt_types.specs.Columns.{Going, going_one}
use Rattle.evt_types.specs.{declared.vector.Vector.Vector, Num.is_inside, Event.Event, Event.event_at, Event.events_of}
use Rattle.laws_stream.proofs.MaskLaws.{bits-one, bits_below, bits_few, low_bit}

abbrev pub inside : (width height : ℕ) → Event → Bool
inside width height e = is_inside width height e.x e.y

abbrev pub inside_of : (width height : ℕ) → Vector → List Event
inside_of width height v = sift (inside width height) (events_of v)

abbrev pub clock : Event → ℕ
clock e = e.t

-- ---- a loop over the bits: the events of v's bits m

abbrev pub events_at : Vector → ℕ → List Event
events_at v m = map (event_at v) (bits 32 v.x m)

-- the event of the lowest bit
abbrev pub first_of : Vector → Event
first_of v = record { t = v.t; x = v.x; y = v.y; p = v.p }

abbrev pub inside_at : (width height : ℕ) → Vector → ℕ → List Event
inside_at width height v m = sift (inside width height) (events_at v m)

module _ (v : Vector) where
  pub events_none : events_at v 0 ≡ []
  events_none = rw (bits-zero 32 v.x)

  pub events-next : (m : ℕ) → 0 < m → m < 2 ^ 32 → events_at v m ≡ event_at v (v.x + count_trailing_zeros 64 m) ∷ events_at v (bit_and m (m - 1))
  events-next m h l = ap (map (event_at v)) (low_bit 32 v.x m h l) ∙ rw (trailing_wide 32 64 m h l (omega arith))

  pub events-some : (m : ℕ) → 0 < m → m < 2 ^ 32 → 1 ≤ length (events_at v m)
  events-some m h l = rw (events-next m h l) (omega arith)

  -- the lowest two
  pub events-two : (m n : ℕ) → n ≡ bit_and m (m - 1) → 0 < n → m < 2 ^ 32
      → events_at v m ≡ event_at v (v.x + count_trailing_zeros 64 m) ∷ event_at v (v.x + count_trailing_zeros 64 n) ∷ events_at v (bit_and n (n - 1))
  events-two m n is h l =
      let few : n ≤ m = omega (arith, and_le_l m (m - 1)) in
      events-next m (omega arith) l ∙ rw (← is, events-next n h (omega arith))

  -- one bit or two are left: the first event is written to n, the last to where it belongs, which is n again if there is but one
  module _ {es : List Event} {at : ℕ} {xs₀ ys₀ : List ℕ} {ts₀ : List ℤ} {ps₀ : List ℕ} {n : ℕ} {xs ys : List ℕ} {ts : List ℤ} {ps : List ℕ} where
    pub going_last : (m r : ℕ) → r ≡ bit_and m (m - 1) → bit_and r (r - 1) ≡ 0 → 0 < m → m < 2 ^ 32
        → Going es at xs₀ ys₀ ts₀ ps₀ (events_at v m) n xs ys ts ps → (l k : ℕ) → l ≡ cond (eqb r 0) m r → k ≡ n + cond (eqb r 0) 0 1
        → let a = event_at v (v.x + count_trailing_zeros 64 m) in
        let b = event_at v (v.x + count_trailing_zeros 64 l) in
        Going es at xs₀ ys₀ ts₀ ps₀ [] (k + 1) (set (set xs n a.x) k b.x) (set (set ys n a.y) k b.y)
        (set (set ts n (pos a.t)) k (pos b.t)) (set (set ps n a.p) k b.p)
    going_last m r is-r none h small g l k is-l is-k = rw (is-l, is-k) (go (eqb r 0) refl)
      where
        a : Event
        a = event_at v (v.x + count_trailing_zeros 64 m)

        go : (c : Bool) → eqb r 0 ≡ c →
            let b = event_at v (v.x + count_trailing_zeros 64 (cond c m r)) in
            Going es at xs₀ ys₀ ts₀ ps₀ [] (n + cond c 0 1 + 1) (set (set xs n a.x) (n + cond c 0 1) b.x)
            (set (set ys n a.y) (n + cond c 0 1) b.y) (set (set ts n (pos a.t)) (n + cond c 0 1) (pos b.t))
            (set (set ps n a.p) (n + cond c 0 1) b.p)
        go true e =
            let z = eqb-true r 0 e in
            let one : Going es at xs₀ ys₀ ts₀ ps₀ (a ∷ []) n xs ys ts ps = rw (events-next m h small, ← is-r, z, events_none) at g in
            rw (add-zero n, set-set xs n, set-set ys n, set-set ts n, set-set ps n) (going_one a one)
        go false e =
            let z = eqb-false r 0 e in
            let b = event_at v (v.x + count_trailing_zeros 64 r) in
            let two : Going es at xs₀ ys₀ ts₀ ps₀ (a ∷ b ∷ []) n xs ys ts ps = rw (events-two m r is-r (omega arith) small, none, events_none) at g in
            going_one b (going_one a two)

module _ (width height : ℕ) (v : Vector) where
  pub inside_none : inside_at width height v 0 ≡ []
  inside_none = ap (sift (inside width height)) (events_none v)

  pub inside-next : (m : ℕ) → 0 < m → m < 2 ^ 32
      → inside_at width height v m
      ≡ onto (is_inside width height (min (v.x + count_trailing_zeros 64 m) 65535) v.y) (event_at v (v.x + count_trailing_zeros 64 m))
      (inside_at width height v (bit_and m (m - 1)))
  inside-next m h l = ap (sift (inside width height)) (events-next v m h l)

  pub inside_one : v.mask ≡ 1 → v.x < 65536 → inside_of width height v ≡ onto (is_inside width height v.x v.y) (first_of v) []
  inside_one e h =
      let x : min v.x 65535 ≡ v.x = omega arith in
      rw (e, bits-one 31 v.x, x)

  -- ---- none

  pub inside_out : height ≤ v.y → (m : ℕ) → inside_at width height v m ≡ []
  inside_out h m =
      let out : (c : ℕ) → inside width height (event_at v c) ≡ false = λ c. rw (le-ltb v.y height h) (and-false (ltb (min c 65535) width)) in
      sift_none (inside width height) (events_at v m) (all_mapped _ (event_at v) (bits 32 v.x m) (all_of _ out (bits 32 v.x m)))

-- ---- a mask clipped to the sensor

-- no column passes 65,535: a wider sensor has all
abbrev pub column_bound : ℕ → ℕ
column_bound width = cond (ltb width 65536) width 65568

-- the bits of columns below the bound
abbrev pub below : (x mask bound : ℕ) → ℕ
below x mask bound = mask % 2 ^ (bound - x)

-- these, where the row is inside
abbrev pub kept_bits : (x y mask bound height : ℕ) → ℕ
kept_bits x y mask bound height = cond (ltb y height) (below x mask bound) 0

abbrev pub clipped : (width height : ℕ) → Vector → ℕ
clipped width height v = kept_bits v.x v.y v.mask (column_bound width) height

-- fewer bits than are left
pub all-bits : (k m j : ℕ) → m < 2 ^ k → k ≤ j → m % 2 ^ j ≡ m
all-bits k m j h l = mod-eq_of_lt (lt_of_lt_of_le h (pow_mono l))

pub low_bits : (m j : ℕ) → m / 2 ^ 0 % 2 ^ j ≡ m % 2 ^ j
low_bits m j = ap (λ (n : ℕ). n % 2 ^ j) (omega arith)

-- no bits come up
pub kept_small : (k x y mask bound height : ℕ) → mask < 2 ^ k → kept_bits x y mask bound height < 2 ^ k
kept_small k x y mask bound height h = go (ltb y height)
  where
    go : (b : Bool) → cond b (below x mask bound) 0 < 2 ^ k
    go true = omega (arith, mod-le mask (2 ^ (bound - x)))
    go false = omega arith

saturated : (c width : ℕ) → width < 65536 → ltb (min c 65535) width ≡ ltb c width
saturated c width h = go (ltb c width) refl
  where
    go : (b : Bool) → ltb c width ≡ b → ltb (min c 65535) width ≡ b
    go true e = let l = ltb-true c width e in lt-ltb (min c 65535) width (omega arith)
    go false e = let l = ltb-false c width e in le-ltb (min c 65535) width (omega arith)

module _ (width height : ℕ) (v : Vector) (column : v.x < 65536) (small : v.mask < 2 ^ 32) where
  row_clipped : v.y < height → inside_of width height v ≡ events_at v (below v.x v.mask (column_bound width))
  row_clipped y = go (ltb width 65536) refl
    where
      go : (b : Bool) → ltb width 65536 ≡ b → inside_of width height v ≡ events_at v (below v.x v.mask (cond b width 65568))
      go true e =
          let l = ltb-true width 65536 e in
          sift_mapped (inside width height) (event_at v) (λ c. ltb c width)
          (λ c. rw (lt-ltb v.y height y, saturated c width l) (and-true (ltb c width))) (bits 32 v.x v.mask)
          ∙ ap (map (event_at v)) (bits_below 32 v.x v.mask width)
      go false e =
          let l = ltb-false width 65536 e in
          let in_all : (c : ℕ) → inside width height (event_at v c) ≡ true = λ c. rw (lt-ltb v.y height y, lt-ltb (min c 65535) width (omega arith)) in
          sift-all (inside width height) (events_of v) (all_mapped _ (event_at v) (bits 32 v.x v.mask) (all_of _ in_all (bits 32 v.x v.mask)))
          ∙ ap (events_at v) (sym (all-bits 32 v.mask (65568 - v.x) small (omega arith)))

  -- the events inside are those of the clipped mask
  pub inside-clipped : inside_of width height v ≡ events_at v (clipped width height v)
  inside-clipped = go (ltb v.y height) refl
    where
      go : (b : Bool) → ltb v.y height ≡ b → inside_of width height v ≡ events_at v (cond b (below v.x v.mask (column_bound width)) 0)
      go true e = row_clipped (ltb-true v.y height e)
      go false e = inside_out width height v (ltb-false v.y height e) v.mask ∙ sym (events_none v)

-- ---- how many, and when

pub sift_few : {E : Type 0} (f : E → Bool) (es : List E) → length (sift f es) ≤ length es
sift_few f [] = omega arith
sift_few f (e ∷ es) = go (f e) (sift_few f es)
  where
    go : (b : Bool) → length (sift f es) ≤ length es → length (onto b e (sift f es)) ≤ suc (length es)
    go true h = omega arith
    go false h = omega arith

-- a mask of j bits
pub events_few : (v : Vector) (j : ℕ) → v.mask < 2 ^ j → length (events_of v) ≤ j
events_few v j h = rw (length-map (bits 32 v.x v.mask) (event_at v)) (bits_few 32 j v.x v.mask h)

-- the maximum time of n events, all at time t
abbrev pub latest_of : ℕ → ℕ → ℕ
latest_of zero t = 0
latest_of (suc n) t = t

pub latest-some : (n t : ℕ) → (n ≡ 0 → ⊥) → latest_of n t ≡ t
latest-some zero t h = absurd (h refl)
latest-some (suc n) t h = refl

latest_more : (n t : ℕ) → max t (latest_of n t) ≡ t
latest_more zero t = omega arith
latest_more (suc n) t = omega arith

module _ (v : Vector) (f : Event → Bool) where
  latest-from : (l : List ℕ) → greatest clock (sift f (map (event_at v) l)) ≡ latest_of (length (sift f (map (event_at v) l))) v.t
  latest-from [] = refl
  latest-from (c ∷ l) = go (f (event_at v c)) (sift f (map (event_at v) l)) (latest-from l)
    where
      go : (b : Bool) (es : List Event) → greatest clock es ≡ latest_of (length es) v.t
          → greatest clock (onto b (event_at v c) es) ≡ latest_of (length (onto b (event_at v c) es)) v.t
      go true es h = ap (max v.t) h ∙ latest_more (length es) v.t
      go false es h = h

pub inside-latest : (width height : ℕ) (v : Vector) → greatest clock (inside_of width height v) ≡ latest_of (length (inside_of width height v)) v.t
inside-latest width height v = latest-from v (inside width height) (bits 32 v.x v.mask)
