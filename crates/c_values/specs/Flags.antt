-- Flags: truth as a number, and back.
use Rattle.std.specs.Prelude.{◌≡◌, refl, Bool, true, false, cond, not, ◌&&◌, ℕ, eqb, ltb, Ok, Err}
use Rattle.std.proofs.Common.{sym, arith, eqb-true, ltb-true}
use Rattle.std.proofs.lemmas.Bool.{eqb-false}

-- any number but 0 is true
abbrev pub flag : ℕ → Bool
flag n = not (eqb n 0)

abbrev pub bit : Bool → ℕ
bit b = cond b 1 0

-- 0 or 1
abbrev pub is_flag : ℕ → Bool
is_flag n = ltb n 2

-- ---- laws

pub bit-flag : (b : Bool) → is_flag (bit b) ≡ true
bit-flag true = refl
bit-flag false = refl

pub bit_back : (b : Bool) → flag (bit b) ≡ b
bit_back true = refl
bit_back false = refl

pub flag_back : (n : ℕ) → is_flag n ≡ true → bit (flag n) ≡ n
flag_back n h = go (eqb n 0) (eqb-true n 0) (eqb-false n 0)
  where
    go : (b : Bool) → (b ≡ true → n ≡ 0) → (b ≡ false → n ≡ 0 → ⊥) → bit (not b) ≡ n
    go true p q = sym (p refl)
    go false p q = let z = q refl in omega (arith, ltb-true n 2 h)

pub both : (a b : Bool) → (a && b) ≡ true → (a ≡ true) × (b ≡ true)
both true true h = (refl, refl)
both true false h = let z : ◌≡◌ {A = ℕ} 0 1 = cc in absurd (omega arith)
both false b h = let z : ◌≡◌ {A = ℕ} 0 1 = cc in absurd (omega arith)

-- a value that a test accepted
pub passed : {A E : Type 0} (b : Bool) (x y : A) (e : E) → cond b (Ok x) (Err e) ≡ Ok y → (b ≡ true) × (y ≡ x)
passed true x y e h = (refl, cc)
passed false x y e h = let z : ◌≡◌ {A = ℕ} 0 1 = cc in absurd (omega arith)

pub not_passed : {A E : Type 0} (b : Bool) (x : A) (e f : E) → cond b (Ok x) (Err e) ≡ Err f → (b ≡ false) × (f ≡ e)
not_passed true x e f h = let z : ◌≡◌ {A = ℕ} 0 1 = cc in absurd (omega arith)
not_passed false x e f h = (refl, cc)
