-- Which bytes of a block of 64 are the last of a word of n bytes: a table of 0 and 1, and the loop that fills it.
use Rattle.std.specs.Prelude.{◌≡◌, refl, Bool, true, false, cond, List, ℕ, ◌+◌, ◌*◌, ◌%◌, ◌≤◌, ◌<◌, eqb, length, get_or, set}
use Rattle.std.proofs.Common.{◌∙◌, arith, mod-eq_of_lt, ne_eqb, eqb-true, length-set, get_or-set_same, get_or-set_other}
use Rattle.std.proofs.Math.Nat.{mod_self, mul-add-mod_self_right}
use Rattle.std.proofs.lemmas.Bool.{eqb-false}

-- a whole number of words makes a block
pub record Block (n : ℕ) : Type 0 where
  pub words : ℕ
  pub pos : 0 < n
  pub whole : words * n ≡ 64

-- 1 for the last byte of a word
abbrev pub last_flag : (n j : ℕ) → ℕ
last_flag n j = cond (eqb ((j + 1) % n) 0) 1 0

pub record LastBytes (n : ℕ) (flags : List ℕ) : Type 0 where
  pub long : length flags ≡ 64
  pub each : (j : ℕ) → j < 64 → get_or flags j 0 ≡ last_flag n j

-- ---- byte r of word k

module _ (n k r : ℕ) where
  rest_is : (k * n + r + 1) % n ≡ (r + 1) % n
  rest_is = let e : k * n + r + 1 ≡ k * n + (r + 1) = omega arith in rw e (mul-add-mod_self_right k n (r + 1))

  pub flag_early : r + 1 < n → last_flag n (k * n + r) ≡ 0
  flag_early h = rw (rest_is, mod-eq_of_lt h, ne_eqb (r + 1) 0 (λ e. absurd (omega arith)))

  pub flag-last : r + 1 ≡ n → last_flag n (k * n + r) ≡ 1
  flag-last h = rw (rest_is, h, mod_self n)

-- ---- the loop

-- the first j flags are stored
pub record Filling (n : ℕ) (flags : List ℕ) (j : ℕ) : Type 0 where
  pub long : length flags ≡ 64
  pub stored : (m : ℕ) → m < j → get_or flags m 0 ≡ last_flag n m

pub filling_start : {n : ℕ} {flags : List ℕ} → length flags ≡ 64 → Filling n flags 0
filling_start e = record { long = e; stored = λ m h. absurd (omega arith) }

module _ {n : ℕ} {flags : List ℕ} {j : ℕ} (g : Filling n flags j) where
  pub filling_next : j < 64 → (b : ℕ) → b ≡ last_flag n j → Filling n (set flags j b) (j + 1)
  filling_next h b e = record { long = length-set flags j b ∙ g.long; stored = λ m l. go m l (eqb m j) refl }
    where
      go : (m : ℕ) → m < j + 1 → (c : Bool) → eqb m j ≡ c → get_or (set flags j b) m 0 ≡ last_flag n m
      go m l true q = rw (eqb-true m j q) (get_or-set_same flags j b 0 (omega (arith, g.long)) ∙ e)
      go m l false q = get_or-set_other flags j m b 0 (eqb-false m j q) ∙ g.stored m (let k = eqb-false m j q in omega arith)

  pub filling_end : 64 ≤ j → LastBytes n flags
  filling_end h = record { long = g.long; each = λ m k. g.stored m (omega arith) }
