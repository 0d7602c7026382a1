-- Texts stored one behind another, as far as a list reaches.
use Rattle.std.specs.Prelude.{◌≡◌, refl, List, [], ◌∷◌, ◌++◌, ℕ, ◌+◌, ◌/◌, ◌%◌, ◌^◌, ◌≤◌, ◌<◌, length, drop, set, get_or}
use Rattle.std.proofs.Common.{ap, ◌∙◌, arith, add-zero, add-one, length-append, drop_of_length-le, drop-cons}
use Rattle.std.proofs.lemmas.List.Edits.{sets}
use Rattle.std.proofs.Math.Seq.{length-sets}
use Rattle.write_buffer.specs.Storing.{Storing, storing_start, storing_iteration, stored_both}
use Rattle.write_text.specs.Text.{digit, decimal, decimal-one, decimal_more, decimal_few}

-- `text`, which has at most `most` bytes, is stored from `at` on, and r is where it ends
pub record Stored (most : ℕ) (out₀ : List ℕ) (at : ℕ) (text : List ℕ) (r : ℕ) (out : List ℕ) : Type 0 where
  pub ends : r ≡ at + length text
  pub few : length text ≤ most
  pub stores : out ≡ sets out₀ at text

pub stored_weaken : {m n : ℕ} {out₀ : List ℕ} {at : ℕ} {text : List ℕ} {r : ℕ} {out : List ℕ} → m ≤ n → Stored m out₀ at text r out
    → Stored n out₀ at text r out
stored_weaken h s = record { ends = s.ends; few = omega (arith, s.few); stores = s.stores }

-- one behind the other
pub stored_then : {m n : ℕ} {out₀ : List ℕ} {at : ℕ} {a : List ℕ} {r₁ : ℕ} {o₁ : List ℕ} {b : List ℕ} {r₂ : ℕ} {o₂ : List ℕ}
    → Stored m out₀ at a r₁ o₁ → Stored n o₁ r₁ b r₂ o₂ → Stored (m + n) out₀ at (a ++ b) r₂ o₂
stored_then {m} {n} {out₀} {at} {a} {r₁} {o₁} {b} s t =
    let both = stored_both out₀ at a b s.ends s.stores t.ends t.stores in
    record { ends = both.0; few = omega (arith, length-append a b, s.few, t.few); stores = both.1 }

pub stored_length : {most : ℕ} {out₀ : List ℕ} {at : ℕ} {text : List ℕ} {r : ℕ} {out : List ℕ} → Stored most out₀ at text r out → length out ≡ length out₀
stored_length {most} {out₀} {at} {text} s = ap length s.stores ∙ length-sets out₀ at text

pub stored_within : {most : ℕ} {out₀ : List ℕ} {text : List ℕ} {r : ℕ} {out : List ℕ} → most ≤ length out₀ → Stored most out₀ 0 text r out → r ≤ length out
stored_within h s = omega (arith, s.ends, s.few, stored_length s)

-- ---- a loop that stores a text byte by byte: the bytes from i on are to come

abbrev pub Copying : (text : List ℕ) (at : ℕ) (out₀ : List ℕ) (i : ℕ) (out : List ℕ) → Type 0
Copying text at out₀ i out = Storing text at out₀ (drop i text) (at + i) out

module _ {text : List ℕ} {at : ℕ} {out₀ : List ℕ} where
  pub copying_start : Copying text at out₀ 0 out₀
  copying_start = rw (add-zero at) storing_start

  pub copying_iteration : {i : ℕ} {out out' : List ℕ} → i < length text → out' ≡ set out (at + i) (get_or text i 0) → Copying text at out₀ i out
      → Copying text at out₀ (i + 1) out'
  copying_iteration {i} h o s =
      let is : at + (i + 1) ≡ at + i + 1 = omega arith in
      rw is (storing_iteration (get_or text i 0 ∷ []) (drop (i + 1) text) (drop-cons text i 0 h ∙ rw add-one) o s)

  pub copying_end : {i : ℕ} {out : List ℕ} → length text ≤ i → Copying text at out₀ i out → Stored (length text) out₀ at text (at + length text) out
  copying_end {i} {out} h s = record { ends = refl; few = omega arith; stores = rw (drop_of_length-le text h) at s.stores }

-- ---- a byte, and a number by its digits

pub stored_byte : (b : ℕ) {out₀ : List ℕ} {at : ℕ} {out : List ℕ} → out ≡ set out₀ at b → Stored 1 out₀ at (b ∷ []) (at + 1) out
stored_byte b e = record { ends = refl; few = omega arith; stores = e }

module _ {out₀ : List ℕ} {at : ℕ} where
  pub stored_digit : (n : ℕ) {out : List ℕ} → n < 10 → out ≡ set out₀ at (digit n) → Stored 20 out₀ at (decimal n) (at + 1) out
  stored_digit n h e = rw (decimal-one n h) (stored_weaken (omega arith) (stored_byte (digit n) e))

  pub stored_digits : (n : ℕ) {r : ℕ} {o₁ o₂ : List ℕ} → 10 ≤ n → n < 2 ^ 64 → Stored 20 out₀ at (decimal (n / 10)) r o₁ → o₂ ≡ set o₁ r (digit (n % 10))
      → Stored 20 out₀ at (decimal n) (r + 1) o₂
  stored_digits n h k s e =
      let both = stored_then s (stored_byte (digit (n % 10)) e) in
      let is = decimal_more n h in
      record { ends = both.ends ∙ rw is; few = decimal_few n k; stores = both.stores ∙ rw is }
