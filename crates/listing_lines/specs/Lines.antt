-- The lines of the listing, by their fields.
use Rattle.std.specs.Prelude.{◌≡◌, List, ℕ, ◌+◌, set}
use Rattle.std.proofs.Common.{arith}
use Rattle.evt_types.specs.{declared.Refusal.Refusal, Told.told, Num.encoding_number}
use Rattle.std.specs.Prelude.{Result, Ok, Err}
use Rattle.read_rules.specs.declared.{Reading.Reading}
use Rattle.write_buffer.specs.Columns.{event}
use Rattle.write_text.specs.{Text.ascii, Text.decimal, Stored.Stored, Stored.stored_byte, Stored.stored_then, Stored.stored_weaken}
use Rattle.listing_lines.specs.Listing.{field, space, newline, refused_line, read_line, event_line}

-- the first line
abbrev pub head_line : Result Reading Refusal → List ℕ
head_line (Ok r) = read_line r
head_line (Err r) = refused_line r

-- ---- a line is stored if its fields are

pub stored_field : {out₀ : List ℕ} {at : ℕ} (n b : ℕ) {r : ℕ} {o₁ o₂ : List ℕ} → Stored 20 out₀ at (decimal n) r o₁ → o₂ ≡ set o₁ r b
    → Stored 21 out₀ at (field n b) (r + 1) o₂
unfolding field
stored_field n b s e = stored_then s (stored_byte b e)

module _ {out₀ : List ℕ} {at : ℕ} {o₁ o₂ o₃ o₄ : List ℕ} {r₁ r₂ r₃ r₄ : ℕ} where
  pub stored_event : (t x y p : ℕ) → Stored 21 out₀ at (field t space) r₁ o₁ → Stored 21 o₁ r₁ (field x space) r₂ o₂ → Stored 21 o₂ r₂ (field y space) r₃ o₃
      → Stored 21 o₃ r₃ (field p newline) r₄ o₄ → Stored 84 out₀ at (event_line (event x y t p)) r₄ o₄
  unfolding event_line
  stored_event t x y p a b c d = stored_then (stored_then (stored_then a b) c) d

  pub stored_reading : {o₀ : List ℕ} {r₀ : ℕ} (r : Reading) (n : ℕ) → n ≡ encoding_number r.encoding → Stored 3 out₀ at (ascii "EVT") r₀ o₀
      → Stored 21 o₀ r₀ (field n space) r₁ o₁
      → Stored 21 o₁ r₁ (field r.width space) r₂ o₂ → Stored 21 o₂ r₂ (field r.height space) r₃ o₃ → Stored 21 o₃ r₃ (field r.count newline) r₄ o₄
      → Stored 96 out₀ at (read_line r) r₄ o₄
  unfolding read_line
  stored_reading r n is e a b c d = stored_weaken (omega arith) (stored_then (stored_then (stored_then (stored_then e (rw is at a)) b) c) d)

pub stored_refused : {out₀ : List ℕ} {at : ℕ} {o₁ o₂ : List ℕ} {r₁ r₂ : ℕ} (r : Refusal) (n : ℕ) → n ≡ (told r).number
    → Stored 8 out₀ at (ascii "refused ") r₁ o₁ → Stored 21 o₁ r₁ (field n newline) r₂ o₂
    → Stored 96 out₀ at (refused_line r) r₂ o₂
unfolding refused_line
stored_refused r n is e a = stored_weaken (omega arith) (stored_then e (rw is at a))
