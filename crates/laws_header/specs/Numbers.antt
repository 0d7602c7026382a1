-- A number written in decimal is read back as that number.
use Rattle.std.proofs.Common.{◌≡◌, refl, Bool, true, false, ℕ, zero, suc, ◌+◌, ◌-◌, ◌*◌, ◌/◌, ◌%◌, ◌^◌, ◌≤◌, ◌<◌, ltb, length, ◌∙◌, ap, arith, length-append}
use Rattle.std.proofs.Common.{lt-ltb, ltb-true, ltb-false, le-leb, leb-true, ne_eqb, List, [], ◌∷◌, ◌++◌, append-nil}
use Rattle.std.specs.Prelude.{Some}
use Rattle.std.proofs.lemmas.Bool.{lt-leb}
use Rattle.laws_stream.specs.Machine.{and_both}
use Rattle.header_text.specs.{Cases.by_bool, Text.is_blank, Text.from, Text.any, Text.trim_start, Text.trim_end, Text.trim_of}
use Rattle.header_text.specs.Number.{is_digit, all_digits, digits_value, number_from, digits_of, number_of}
use Rattle.write_text.specs.Text.{digit, decimal, decimal-one, decimal_more}
use Rattle.laws_header.specs.Texts.{ends_dark}

-- ---- digits

digit_range : (b : ℕ) → is_digit b ≡ true → (48 ≤ b) × (b ≤ 57)
unfolding is_digit
digit_range b h = let e = and_both _ _ h in (leb-true 48 b e.0, leb-true b 57 e.1)

digit-digit : (d : ℕ) → d < 10 → is_digit (digit d) ≡ true
unfolding is_digit
digit-digit d h = rw (le-leb 48 (digit d) (omega arith), le-leb (digit d) 57 (omega arith))

pub digit_dark : (b : ℕ) → is_digit b ≡ true → is_blank b ≡ false
unfolding is_blank
digit_dark b h = let r = digit_range b h in rw (ne_eqb b 32 (λ e. omega arith), le-leb 9 b (omega arith), lt-leb b 13 (omega arith))

all_cons : (b : ℕ) (s : List ℕ) → all_digits (b ∷ s) ≡ true → (is_digit b ≡ true) × (all_digits s ≡ true)
unfolding all_digits
all_cons b s h = and_both _ _ h

all-last : (s : List ℕ) (b : ℕ) → all_digits s ≡ true → is_digit b ≡ true → all_digits (s ++ (b ∷ [])) ≡ true
unfolding all_digits
all-last [] b h e = rw e
all-last (x ∷ s) b h e = let k = all_cons x s h in rw k.0 (all-last s b k.1 e)

-- digits have no byte of a class that has no digit
pub digits_none : (p : ℕ → Bool) → ((b : ℕ) → 48 ≤ b → b ≤ 57 → p b ≡ false) → (s : List ℕ) → all_digits s ≡ true → any p s ≡ false
unfolding any
digits_none p others [] h = refl
digits_none p others (b ∷ s) h =
    let k = all_cons b s h in
    let r = digit_range b k.0 in
    rw (others b r.0 r.1) (digits_none p others s k.1)

-- digits are the number of their value
digits_number : (s : List ℕ) → all_digits s ≡ true → 0 < length s → digits_value 0 s < 2 ^ 64 → number_of s ≡ Some (digits_value 0 s)
unfolding number_of digits_of number_from
digits_number [] h long fits = absurd (omega arith)
digits_number (b ∷ s) h long fits =
    let r = digit_range b (all_cons b s h).0 in
    rw (ne_eqb b 43 (λ e. omega arith), h, lt-ltb (digits_value 0 (b ∷ s)) (2 ^ 64) fits)

-- and begin with no blank
digits_start : (s t : List ℕ) → all_digits s ≡ true → 0 < length s → trim_start (s ++ t) ≡ s ++ t
unfolding trim_start from
digits_start [] t h long = absurd (omega arith)
digits_start (b ∷ s) t h long = rw (digit_dark b (all_cons b s h).0)

value-last : (n : ℕ) (s : List ℕ) (b : ℕ) → digits_value n (s ++ (b ∷ [])) ≡ digits_value n s * 10 + (b - 48)
unfolding digits_value
value-last n [] b = refl
value-last n (x ∷ s) b = value-last (n * 10 + (x - 48)) s b

-- ---- a number in decimal

pub record Decimal (n : ℕ) (s : List ℕ) : Type 0 where
  pub all : all_digits s ≡ true
  pub value : digits_value 0 s ≡ n
  pub front : List ℕ
  pub last : ℕ
  pub ends : s ≡ front ++ (last ∷ [])
  pub last-digit : is_digit last ≡ true

is_one : (n : ℕ) → n < 10 → Decimal n (decimal n)
unfolding all_digits digits_value
is_one n h =
    let e = digit-digit n h in
    rw (decimal-one n h) (record { all = rw e; value = omega arith; front = []; last = digit n; ends = refl; last-digit = e })

is_more : (n : ℕ) → 10 ≤ n → Decimal (n / 10) (decimal (n / 10)) → Decimal n (decimal n)
is_more n h d =
    let e = digit-digit (n % 10) (omega arith) in
    rw (decimal_more n h)
    (record {
      all = all-last _ _ d.all e;
      value = rw (value-last 0 (decimal (n / 10)) (digit (n % 10)), d.value) (omega arith);
      front = decimal (n / 10);
      last = digit (n % 10);
      ends = refl;
      last-digit = e;
    })

decimal_go : (k n : ℕ) → n < k → Decimal n (decimal n)
decimal_go zero n h = absurd (omega arith)
decimal_go (suc k) n h =
    by_bool (ltb n 10) (λ e. is_one n (ltb-true n 10 e))
    (λ e. let ge = ltb-false n 10 e in is_more n ge (decimal_go k (n / 10) (omega arith)))

pub is_decimal : (n : ℕ) → Decimal n (decimal n)
is_decimal n = decimal_go (suc n) n (omega arith)

module _ (n : ℕ) where
  decimal-some : 0 < length (decimal n)
  decimal-some = let d = is_decimal n in omega (arith, simp length-append at (ap length d.ends))

  pub decimal_none : (p : ℕ → Bool) → ((b : ℕ) → 48 ≤ b → b ≤ 57 → p b ≡ false) → any p (decimal n) ≡ false
  decimal_none p others = digits_none p others (decimal n) (is_decimal n).all

  pub decimal_read : ltb n (2 ^ 64) ≡ true → number_of (decimal n) ≡ Some n
  decimal_read fits =
      let d = is_decimal n in
      digits_number (decimal n) d.all decimal-some (rw d.value (ltb-true n (2 ^ 64) fits)) ∙ ap Some d.value

  -- a number of 64 bits that is written is read back
  pub number-decimal : n < 2 ^ 64 → number_of (decimal n) ≡ Some n
  number-decimal fits = decimal_read (lt-ltb n (2 ^ 64) fits)

  -- it has no blank at its ends, whatever follows or goes before
  pub decimal_start : (t : List ℕ) → trim_start (decimal n ++ t) ≡ decimal n ++ t
  decimal_start t = digits_start (decimal n) t (is_decimal n).all decimal-some

  pub decimal-end : (s : List ℕ) → trim_end (s ++ decimal n) ≡ s ++ decimal n
  decimal-end s = let d = is_decimal n in rw d.ends (ends_dark s d.front d.last (digit_dark d.last d.last-digit))

  pub decimal_trimmed : trim_of (decimal n) ≡ decimal n
  unfolding trim_of
  decimal_trimmed = let e = rw append-nil at (decimal_start []) in rw e (decimal-end [])
