-- What holds at each of some places in a row; and what numbers come to that are gathered by `|`, without
-- a branch: all are below a power of two where the result is.
use Rattle.std.specs.Prelude.{◌≡◌, refl, Bool, true, false, cond, ◌&&◌, ℕ, zero, suc, ◌+◌, ◌^◌, eqb, leb}
use Rattle.std.proofs.Common.{sym, ap, ◌∙◌, arith, ne_eqb, eqb-true, leb-true, leb-false, le-leb}
use Rattle.std.specs.Int.Bits.{bit_or, bit_xor, xor_self, xor_add_and, or_add_and}
use Rattle.std.proofs.lemmas.Nat.{or_lt, and_le_l, and_le_r}
use Rattle.std.proofs.lemmas.Bool.{eqb-false, lt-leb}

-- at n places from i on
unfoldable pub every_from : (ℕ → Bool) → (n i : ℕ) → Bool
every_from f zero i = true
every_from f (suc n) i = f i && every_from f n (i + 1)

pub every_from_none : (f : ℕ → Bool) (i : ℕ) → every_from f 0 i ≡ true
unfolding every_from
every_from_none f i = refl

pub every_from-some : (f : ℕ → Bool) (n i : ℕ) → every_from f (suc n) i ≡ (f i && every_from f n (i + 1))
unfolding every_from
every_from-some f n i = refl

pub every_from_and : (f g : ℕ → Bool) (n i : ℕ) → every_from (λ j. f j && g j) n i ≡ (every_from f n i && every_from g n i)
unfolding every_from
every_from_and f g zero i = refl
every_from_and f g (suc n) i =
    ap (λ (b : Bool). (f i && g i) && b) (every_from_and f g n (i + 1)) ∙ swap (f i) (g i) (every_from f n (i + 1)) (every_from g n (i + 1))
  where
    swap : (a b c d : Bool) → ((a && b) && (c && d)) ≡ ((a && c) && (b && d))
    swap true true c d = refl
    swap true false true d = refl
    swap true false false d = refl
    swap false b c d = refl

-- numbers that are each the one before are all the first
pub every_from-same : (v : ℕ → ℕ) (c n i : ℕ) → v i ≡ c → every_from (λ j. eqb (v (j + 1)) (v j)) n i ≡ every_from (λ j. eqb (v j) c) n (i + 1)
unfolding every_from
every_from-same v c zero i e = refl
every_from-same v c (suc n) i e = rw e (go (eqb (v (i + 1)) c) refl (every_from-same v c n (i + 1)))
  where
    nexts : Bool
    nexts = every_from (λ j. eqb (v (j + 1)) (v j)) n (i + 1)

    firsts : Bool
    firsts = every_from (λ j. eqb (v j) c) n (i + 1 + 1)

    go : (b : Bool) → eqb (v (i + 1)) c ≡ b → (v (i + 1) ≡ c → nexts ≡ firsts) → (b && nexts) ≡ (b && firsts)
    go true q ih = ih (eqb-true (v (i + 1)) c q)
    go false q ih = refl

-- ---- two numbers are at most 2^k - 1 where both are

or_as : (c d : Bool) (k most a b : ℕ) → suc most ≡ 2 ^ k → leb a most ≡ c → leb b most ≡ d → leb (bit_or a b) most ≡ (c && d)
or_as true true k most a b e p q =
    let lt = or_lt k a b (omega (arith, leb-true a most p)) (omega (arith, leb-true b most q)) in
    le-leb (bit_or a b) most (omega arith)
or_as true false k most a b e p q = lt-leb (bit_or a b) most (omega (arith, leb-true a most p, leb-false b most q, or_add_and a b, and_le_l a b))
or_as false d k most a b e p q = lt-leb (bit_or a b) most (omega (arith, leb-false a most p, or_add_and a b, and_le_r a b))

pub or_most : (k most a b : ℕ) → suc most ≡ 2 ^ k → leb (bit_or a b) most ≡ (leb a most && leb b most)
or_most k most a b e = or_as (leb a most) (leb b most) k most a b e refl refl

-- ---- at most 0 is 0

pub none_leb : (a : ℕ) → eqb a 0 ≡ leb a 0
none_leb zero = refl
none_leb (suc a) = ne_eqb (suc a) 0 (λ e. omega arith) ∙ sym (lt-leb (suc a) 0 (omega arith))

-- bits that differ are left of `^`
pub xor_equal : (a b : ℕ) → bit_xor a b ≡ 0 → a ≡ b
xor_equal a b h = omega (arith, xor_add_and a b, and_le_l a b, and_le_r a b)

pub xor_none : (a b : ℕ) → leb (bit_xor a b) 0 ≡ eqb a b
xor_none a b = go (eqb a b) refl
  where
    go : (c : Bool) → eqb a b ≡ c → leb (bit_xor a b) 0 ≡ c
    go true q = rw (eqb-true a b q, xor_self b)
    go false q = sym (none_leb (bit_xor a b)) ∙ ne_eqb (bit_xor a b) 0 (λ z. eqb-false a b q (xor_equal a b z))

pub flag_none : (c : Bool) → leb (cond c 0 1) 0 ≡ c
flag_none true = refl
flag_none false = refl
