-- Blocks of 64 events that all go on a run, told from the four columns one by one.
use Rattle.std.specs.Prelude.{◌≡◌, refl, Bool, true, false, ◌&&◌, List, ℕ, zero, suc, ◌+◌, ◌-◌, ◌≤◌, ◌<◌, eqb, ltb, ℤ, length, get_or}
use Rattle.std.proofs.Common.{sym, ap, ◌∙◌, arith, add-zero, lt-ltb}
use Rattle.std.proofs.Math.Bool.{and-true, and_assoc}
use Rattle.laws_stream.specs.Machine.{and_both}
use Rattle.write_buffer.specs.{Columns.Sized, Every.every_from, Every.every_from_none, Every.every_from-some, Every.every_from_and, Every.every_from-same}
use Rattle.evt3_run_rules.specs.Marks.{time_at, go_on, joins_next, stop_at, Along, goes_on}

-- a row or a polarity
abbrev pub is_at : List ℕ → (y i : ℕ) → Bool
is_at ys y i = eqb (get_or ys i 0) y

abbrev pub is_time : List ℤ → (t i : ℕ) → Bool
is_time ts t i = eqb (time_at ts i) t

abbrev pub rises_after : List ℕ → ℕ → Bool
rises_after xs i = ltb (get_or xs i 0) (get_or xs (i + 1) 0)

-- ---- a loop that asks of n places from i on: j of them are asked

module _ (f : ℕ → Bool) (n i : ℕ) where
  pub record Asked (all : Bool) (j : ℕ) : Type 0 where
    pub below : j ≤ n
    pub so_far : (all && every_from f (n - j) (i + j)) ≡ every_from f n i

  pub asked_start : Asked true 0
  asked_start = record { below = omega arith; so_far = let all : n - 0 ≡ n = omega arith in rw (add-zero, all) }

  pub asked_iteration : {all : Bool} {j : ℕ} → Asked all j → j < n → (b : Bool) → b ≡ f (i + j) → Asked (all && b) (j + 1)
  asked_iteration {all} {j} a h b e =
      let left : n - j ≡ suc (n - (j + 1)) = omega arith in
      let to : i + j + 1 ≡ i + (j + 1) = omega arith in
      let split : every_from f (n - j) (i + j) ≡ (f (i + j) && every_from f (n - (j + 1)) (i + (j + 1))) = rw (left, every_from-some f, to) in
      record { below = omega arith; so_far = rw (e, and_assoc all (f (i + j))) (ap (λ (b : Bool). all && b) (sym split) ∙ a.so_far) }

  pub asked_end : {all : Bool} {j : ℕ} → Asked all j → n ≤ j → all ≡ every_from f n i
  asked_end {all} {j} a h =
      let left : n - j ≡ 0 = omega (arith, a.below) in
      sym (and-true all) ∙ (rw (left, every_from_none f) at a.so_far)

-- what `&&` gives, where its second part is told only if the first is true
pub then_told : {a b v : Bool} → (r : Bool) → r ≡ a → r ≡ true → v ≡ b → v ≡ (a && b)
then_told r e t f = rw (sym e ∙ t) f

pub else_told : {a v : Bool} → (b r : Bool) → r ≡ a → r ≡ false → v ≡ r → v ≡ (a && b)
else_told b r e n f = rw (sym e ∙ n) (f ∙ n)

-- ---- 64 events go on a run

-- the times are told last
last_of : (t y p x : Bool) → (t && (y && (p && x))) ≡ (y && (p && (x && t)))
last_of true y p true = refl
last_of true y p false = refl
last_of false true true true = refl
last_of false true true false = refl
last_of false true false x = refl
last_of false false p x = refl

module _ (xs ys : List ℕ) (ts : List ℤ) (ps : List ℕ) where
  block_is : (n i : ℕ)
      → every_from (joins_next xs ys ts ps) n i
      ≡ (every_from (is_at ys (get_or ys i 0)) n (i + 1) && (every_from (is_at ps (get_or ps i 0)) n (i + 1)
      && (every_from (rises_after xs) n i && every_from (is_time ts (time_at ts i)) n (i + 1))))
  block_is n i =
      let nt : ℕ → Bool = λ (j : ℕ). eqb (time_at ts (j + 1)) (time_at ts j) in
      let ny : ℕ → Bool = λ (j : ℕ). eqb (get_or ys (j + 1) 0) (get_or ys j 0) in
      let np : ℕ → Bool = λ (j : ℕ). eqb (get_or ps (j + 1) 0) (get_or ps j 0) in
      every_from_and nt (λ j. ny j && (np j && rises_after xs j)) n i
      ∙ ap (λ (b : Bool). every_from nt n i && b)
      (every_from_and ny (λ j. np j && rises_after xs j) n i ∙ ap (λ (b : Bool). every_from ny n i && b) (every_from_and np (rises_after xs) n i))
      ∙ last_of (every_from nt n i) (every_from ny n i) (every_from np n i) (every_from (rises_after xs) n i)
      ∙ rw (
        every_from-same (time_at ts) (time_at ts i) n i refl,
        every_from-same (λ j. get_or ys j 0) (get_or ys i 0) n i refl,
        every_from-same (λ j. get_or ps j 0) (get_or ps i 0) n i refl,
      )

  -- told by the rows, then the polarities, then the columns, and then the times
  pub block-told : (n i : ℕ) {yp ypx r : Bool}
      → yp ≡ (every_from (is_at ys (get_or ys i 0)) n (i + 1) && every_from (is_at ps (get_or ps i 0)) n (i + 1))
      → ypx ≡ (yp && every_from (rises_after xs) n i) → r ≡ (ypx && every_from (is_time ts (time_at ts i)) n (i + 1))
      → r ≡ every_from (joins_next xs ys ts ps) n i
  block-told n i {yp} {ypx} {r} e f g =
      g ∙ rw (
        f,
        e,
        and_assoc (every_from (is_at ys (get_or ys i 0)) n (i + 1) && every_from (is_at ps (get_or ps i 0)) n (i + 1)) (every_from (rises_after xs) n i)
            (every_from (is_time ts (time_at ts i)) n (i + 1)),
        and_assoc (every_from (is_at ys (get_or ys i 0)) n (i + 1)) (every_from (is_at ps (get_or ps i 0)) n (i + 1))
            (every_from (rises_after xs) n i && every_from (is_time ts (time_at ts i)) n (i + 1)),
      ) (sym (block_is n i))

  module _ (sized : Sized xs ys ts ps) where
    -- a block of them leads along the run
    every_along : (n i : ℕ) → i + n < length xs → every_from (joins_next xs ys ts ps) n i ≡ true → i + n + go_on xs ys ts ps (i + n) ≡ i + go_on xs ys ts ps i
    every_along zero i h e = rw add-zero
    every_along (suc n) i h e =
        let b = and_both (joins_next xs ys ts ps i) (every_from (joins_next xs ys ts ps) n (i + 1)) (sym (every_from-some (joins_next xs ys ts ps) n i) ∙ e) in
        let s : stop_at xs ys ts ps i ≡ 0 = rw (lt-ltb (i + 1) (length xs) (omega arith), b.0) in
        let g = goes_on xs ys ts ps sized i in
        let ih = every_along n (i + 1) (omega arith) b.1 in
        let to : i + suc n ≡ i + 1 + n = omega arith in
        rw to (ih ∙ omega (arith, rw s at g))

    module _ {i j : ℕ} (a : Along xs ys ts ps i j) where
      pub along_block : j + 64 < length xs → every_from (joins_next xs ys ts ps) 64 j ≡ true → Along xs ys ts ps i (j + 64)
      along_block h e = record { inside = h; further = omega (arith, a.further); same = every_along 64 j h e ∙ a.same }
