-- Texts as their bytes: ASCII, and numbers in decimal.
use Rattle.std.specs.Prelude.{◌≡◌, refl, Bool, true, false, cond, List, [], ◌∷◌, ◌++◌, ℕ, zero, suc, ◌+◌, ◌/◌, ◌%◌, ◌^◌, ◌≤◌, ◌<◌, ltb, length}
use Rattle.std.proofs.Common.{ap, arith, length-append, lt-ltb, le-ltb, ltb-false}
use Prim.Native.Char.{code}
use Prim.Native.String.{String, [] as none, ◌∷◌ as ◌then◌}

abbrev pub ascii : String → List ℕ
ascii none = []
ascii (c then s) = code c ∷ ascii s

-- `0` to `9`
abbrev pub digit : ℕ → ℕ
digit d = 48 + d

-- the decimal digits of n, of which there are at most `most`
unfoldable pub digits : (most n : ℕ) → List ℕ
digits zero n = []
digits (suc k) n = cond (ltb n 10) (digit n ∷ []) (digits k (n / 10) ++ (digit (n % 10) ∷ []))

-- n in decimal without leading zeros, `0` for 0; n has at most n + 1 digits
unfoldable pub decimal : ℕ → List ℕ
decimal n = digits (suc n) n

-- ---- laws

digits_as : (b : Bool) (j k n : ℕ) → ltb n 10 ≡ b → n < suc j → n < suc k → ((m : ℕ) → m < j → m < k → digits j m ≡ digits k m)
    → cond b (digit n ∷ []) (digits j (n / 10) ++ (digit (n % 10) ∷ [])) ≡ cond b (digit n ∷ []) (digits k (n / 10) ++ (digit (n % 10) ∷ []))
digits_as true j k n q h l ih = refl
digits_as false j k n q h l ih =
    let ge = ltb-false n 10 q in
    ap (λ (d : List ℕ). d ++ (digit (n % 10) ∷ [])) (ih (n / 10) (omega arith) (omega arith))

-- any bound that is large enough
digits_same : (j k n : ℕ) → n < j → n < k → digits j n ≡ digits k n
unfolding digits
digits_same zero k n h l = absurd (omega arith)
digits_same (suc j) zero n h l = absurd (omega arith)
digits_same (suc j) (suc k) n h l = digits_as (ltb n 10) j k n refl h l (λ m. digits_same j k m)

pub decimal-one : (n : ℕ) → n < 10 → decimal n ≡ digit n ∷ []
unfolding decimal digits
decimal-one n h = rw (lt-ltb n 10 h)

pub decimal_more : (n : ℕ) → 10 ≤ n → decimal n ≡ decimal (n / 10) ++ (digit (n % 10) ∷ [])
unfolding decimal digits
decimal_more n h = rw (le-ltb n 10 h) (ap (λ (d : List ℕ). d ++ (digit (n % 10) ∷ [])) (digits_same n (suc (n / 10)) (n / 10) (omega arith) (omega arith)))

few_as : (b : Bool) (k j n : ℕ) → ltb n 10 ≡ b → (10 ≤ n → length (digits j (n / 10)) ≤ k)
    → length (cond b (digit n ∷ []) (digits j (n / 10) ++ (digit (n % 10) ∷ []))) ≤ suc k
few_as true k j n q ih = omega arith
few_as false k j n q ih = omega (arith, ih (ltb-false n 10 q), length-append (digits j (n / 10)) (digit (n % 10) ∷ []))

digits_few : (k j n : ℕ) → n < 10 ^ suc k → length (digits j n) ≤ suc k
unfolding digits
digits_few k zero n h = omega arith
digits_few zero (suc j) n h = few_as (ltb n 10) 0 j n refl (λ ge. absurd (omega arith))
digits_few (suc k) (suc j) n h = few_as (ltb n 10) (suc k) j n refl (λ ge. digits_few k j (n / 10) (omega arith))

-- a number of 64 bits has at most 20 digits
pub decimal_few : (n : ℕ) → n < 2 ^ 64 → length (decimal n) ≤ 20
unfolding decimal
decimal_few n h = digits_few 19 (suc n) n (omega arith)
