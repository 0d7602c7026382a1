-- EVT3: the bytes of the words of time and row.
use Rattle.std.specs.Prelude.{◌≡◌, Bool, cond, List, ◌++◌, ℕ, ◌+◌, ◌*◌, ◌/◌, ◌%◌, ◌≤◌, eqb, length}
use Rattle.std.proofs.Common.{sym, ap, ◌∙◌, append_assoc, arith, length-append}
use Rattle.std.proofs.lemmas.List.Edits.{sets}
use Rattle.laws_stream.specs.{Machine.words, Machine.words_append, Words.stream, Words.bytes, Words.stream-append}
use Rattle.evt_types.specs.Layout.{word_size3, grain3}
use Rattle.write_buffer.specs.{declared.EncoderState.EncoderState, Sent.due}
use Rattle.write_buffer.specs.Due.{due_bytes, due_few, due-next}
use Rattle.evt3_lead_words.specs.Evt3.{high_word3, low_word3, row_word3, high_sent3, low_sent3, row_sent3, leads3}

abbrev pub due_bytes3 : (sent : Bool) → ℕ → List ℕ
due_bytes3 = due_bytes word_size3

-- of three words, each by whether its content was sent
abbrev pub due_three : (b₁ b₂ b₃ : Bool) (w₁ w₂ w₃ : ℕ) → List ℕ
due_three b₁ b₂ b₃ w₁ w₂ w₃ = due_bytes3 b₁ w₁ ++ (due_bytes3 b₂ w₂ ++ due_bytes3 b₃ w₃)

abbrev pub lead_bytes : EncoderState → (t y : ℕ) → List ℕ
lead_bytes v t y = stream word_size3 (words (leads3 v t y))

-- by the numbers of what was sent
abbrev pub low_number : (high low t : ℕ) → ℕ
low_number high low t = cond (eqb high (t / grain3)) low 0

abbrev pub leads_bytes : (high low row t y : ℕ) → List ℕ
leads_bytes high low row t y =
    due_three (eqb high (t / grain3)) (eqb (low_number high low t) (t % grain3)) (eqb row y) (high_word3 t) (low_word3 t) (row_word3 y)

-- the three words stored one after the other, each in the place of the one before where that isn't due:
-- what is stored next, a word at the least, goes after those that are due
pub record Leads (high low row t y at : ℕ) (out₀ : List ℕ) (r : ℕ) (out : List ℕ) : Type 0 where
  pub place : r ≡ at + length (leads_bytes high low row t y)
  pub next : (l : List ℕ) → word_size3 ≤ length l → sets out r l ≡ sets out₀ at (leads_bytes high low row t y ++ l)

-- ---- three words

module _ (b₁ b₂ b₃ : Bool) (w₁ w₂ w₃ : ℕ) where
  abbrev one : List ℕ
  one = due_bytes3 b₁ w₁

  abbrev two : List ℕ
  two = due_bytes3 b₂ w₂

  abbrev three : List ℕ
  three = due_bytes3 b₃ w₃

  pub three-length : length (due_three b₁ b₂ b₃ w₁ w₂ w₃) ≡ length one + (length two + length three)
  three-length = length-append one (two ++ three) ∙ rw (length-append two)

  pub three_few : length (due_three b₁ b₂ b₃ w₁ w₂ w₃) ≤ 3 * word_size3
  three_few = omega (arith, three-length, due_few word_size3 b₁ w₁, due_few word_size3 b₂ w₂, due_few word_size3 b₃ w₃)

  three-words : stream word_size3 (words (due b₁ w₁ ++ (due b₂ w₂ ++ due b₃ w₃))) ≡ due_three b₁ b₂ b₃ w₁ w₂ w₃
  three-words =
      rw (words_append (due b₁ w₁), words_append (due b₂ w₂), stream-append word_size3 (words (due b₁ w₁)), stream-append word_size3 (words (due b₂ w₂)))

  three-next : (out : List ℕ) (at : ℕ) {o₁ o₂ o₃ : List ℕ} {p q r : ℕ} → p ≡ at + length one → o₁ ≡ sets out at (bytes word_size3 w₁)
      → q ≡ p + length two → o₂ ≡ sets o₁ p (bytes word_size3 w₂) → r ≡ q + length three → o₃ ≡ sets o₂ q (bytes word_size3 w₃)
      → (l : List ℕ) → word_size3 ≤ length l → sets o₃ r l ≡ sets out at (due_three b₁ b₂ b₃ w₁ w₂ w₃ ++ l)
  three-next out at {o₁} {o₂} {o₃} {p} {q} ep op eq oq er or l h =
      due-next word_size3 b₃ w₃ o₂ q er or l h
      ∙ due-next word_size3 b₂ w₂ o₁ p eq oq (three ++ l) (omega (arith, length-append three l))
      ∙ due-next word_size3 b₁ w₁ out at ep op (two ++ (three ++ l)) (omega (arith, length-append two (three ++ l), length-append three l))
      ∙ ap (sets out at) (sym (append_assoc one (two ++ three) l ∙ ap (λ (k : List ℕ). one ++ k) (append_assoc two three l)))

-- ---- the words of time and row

pub lead_parts : (v : EncoderState) (t y : ℕ) → lead_bytes v t y ≡ due_three (high_sent3 v t) (low_sent3 v t) (row_sent3 v y) (high_word3 t) (low_word3 t) (row_word3 y)
unfolding leads3
lead_parts v t y = three-words (high_sent3 v t) (low_sent3 v t) (row_sent3 v y) (high_word3 t) (low_word3 t) (row_word3 y)

module _ (high low row t y : ℕ) where
  abbrev is_high : Bool
  is_high = eqb high (t / grain3)

  abbrev is_low : Bool
  is_low = eqb (low_number high low t) (t % grain3)

  pub leads_length : length (leads_bytes high low row t y)
      ≡ length (due_bytes3 is_high (high_word3 t)) + (length (due_bytes3 is_low (low_word3 t)) + length (due_bytes3 (eqb row y) (row_word3 y)))
  leads_length = three-length is_high is_low (eqb row y) (high_word3 t) (low_word3 t) (row_word3 y)

  pub leads_few : length (leads_bytes high low row t y) ≤ 3 * word_size3
  leads_few = three_few is_high is_low (eqb row y) (high_word3 t) (low_word3 t) (row_word3 y)

  pub leads_stored : (out : List ℕ) (at : ℕ) {o₁ o₂ o₃ : List ℕ} {a b c : ℕ}
      → a ≡ at + length (due_bytes3 is_high (high_word3 t)) → o₁ ≡ sets out at (bytes word_size3 (high_word3 t))
      → b ≡ a + length (due_bytes3 is_low (low_word3 t)) → o₂ ≡ sets o₁ a (bytes word_size3 (low_word3 t))
      → c ≡ b + length (due_bytes3 (eqb row y) (row_word3 y)) → o₃ ≡ sets o₂ b (bytes word_size3 (row_word3 y))
      → Leads high low row t y at out c o₃
  leads_stored out at ea oa eb ob ec oc = record {
    place = omega (arith, leads_length);
    next = three-next is_high is_low (eqb row y) (high_word3 t) (low_word3 t) (row_word3 y) out at ea oa eb ob ec oc;
  }

pub lead_few : (v : EncoderState) (t y : ℕ) → length (lead_bytes v t y) ≤ 3 * word_size3
lead_few v t y = rw lead_parts (three_few (high_sent3 v t) (low_sent3 v t) (row_sent3 v y) (high_word3 t) (low_word3 t) (row_word3 y))
