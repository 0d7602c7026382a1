-- EVT3: the loops over one run, and what holds on the way.
use Rattle.std.specs.Prelude.{◌≡◌, refl, Bool, true, false, List, [], ◌∷◌, ℕ, ◌+◌, ◌-◌, ◌*◌, ◌≤◌, ◌<◌, length, get_or, eqb}
use Rattle.std.proofs.Common.{sym, ◌∙◌, arith, eqb-true}
use Rattle.std.proofs.lemmas.List.Edits.{sets}
use Rattle.std.proofs.lemmas.Bool.{eqb-false}
use Rattle.laws_stream.specs.{Part.between, Part.between-at, Part.between-end, Columns.sets_append, Words.bytes}
use Rattle.evt_types.specs.Layout.{word_size3}
use Rattle.write_buffer.specs.Storing.{Roomy, sets_over, Storing, storing_start, storing_iteration, storing_room, storing_end}
use Rattle.evt3_lead_words.specs.Evt3.{single_word3}
use Rattle.evt3_run_words.specs.Parts.{single_bytes, Part, singles-length}

-- ---- a word for each event

pub record Single (p : ℕ) (xs : List ℕ) (i e : ℕ) (out₀ : List ℕ) (at : ℕ) (out : List ℕ) (a j : ℕ) : Type 0 where
  pub above : i ≤ j
  pub below : j ≤ e
  pub place : a + word_size3 * i ≡ at + word_size3 * j
  pub storing : Storing (single_bytes p (between xs i e)) at out₀ (single_bytes p (between xs j e)) a out

module _ {p : ℕ} {xs : List ℕ} {i e : ℕ} {out₀ : List ℕ} {at : ℕ} (part : Part xs i e at) where
  pub single_start : Single p xs i e out₀ at out₀ at i
  single_start = record { above = omega arith; below = part.low; place = refl; storing = storing_start }

  module _ {out : List ℕ} {a j : ℕ} (s : Single p xs i e out₀ at out a j) where
    pub single-iteration : j < e → (out' : List ℕ) → out' ≡ sets out a (bytes word_size3 (single_word3 p (get_or xs j 0)))
        → Single p xs i e out₀ at out' (a + word_size3) (j + 1)
    single-iteration h out' o = record {
      above = omega (arith, s.above);
      below = omega arith;
      place = omega (arith, s.place);
      storing =
          storing_iteration (bytes word_size3 (single_word3 p (get_or xs j 0))) (single_bytes p (between xs (j + 1) e)) (rw (between-at xs j e 0 h part.high)) o
          s.storing;
    }

    pub single-room : j < e → Roomy out₀ at (length (single_bytes p (between xs i e))) → Roomy out a word_size3
    single-room h r =
        storing_room (bytes word_size3 (single_word3 p (get_or xs j 0))) (single_bytes p (between xs (j + 1) e)) (rw (between-at xs j e 0 h part.high))
        s.storing r

    pub single-end : e ≤ j → (a ≡ at + length (single_bytes p (between xs i e))) × (out ≡ sets out₀ at (single_bytes p (between xs i e)))
    single-end h = storing_end (rw (between-end xs j e h) at s.storing)

-- ---- one or two events, each of the two words that are stored being one of theirs

module _ (p : ℕ) (xs : List ℕ) (i e : ℕ) (out : List ℕ) (at : ℕ) (h : i < e) (few : e ≤ i + 2) (f : e ≤ length xs) where
  abbrev word_at : ℕ → List ℕ
  word_at j = bytes word_size3 (single_word3 p (get_or xs j 0))

  pair_as : (b : Bool) {o₁ o₂ : List ℕ} {last : ℕ} → eqb e (i + 1) ≡ b → last ≡ at + word_size3 * (e - 1 - i) → o₁ ≡ sets out at (word_at i)
      → o₂ ≡ sets o₁ last (word_at (e - 1))
      → o₂ ≡ sets out at (single_bytes p (between xs i e))
  pair_as true q l o₁ o₂ =
      let e₁ = eqb-true e (i + 1) q in
      let here : between xs i e ≡ get_or xs i 0 ∷ [] = between-at xs i e 0 h f ∙ rw (between-end xs (i + 1) e (omega arith)) in
      let same : e - 1 ≡ i = omega arith in
      let z : at + word_size3 * (i - i) ≡ at = omega arith in
      o₂ ∙ rw (o₁, l, same, z, here) (sets_over out at (word_at i) (word_at i) (omega arith))
  pair_as false q l o₁ o₂ =
      let ne = eqb-false e (i + 1) q in
      let here : between xs i e ≡ get_or xs i 0 ∷ get_or xs (i + 1) 0 ∷ [] =
      between-at xs i e 0 h f ∙ rw (between-at xs (i + 1) e 0 (omega arith) f, between-end xs (i + 1 + 1) e (omega arith)) in
      let next : e - 1 ≡ i + 1 = omega arith in
      let two : at + word_size3 * (i + 1 - i) ≡ at + word_size3 = omega arith in
      o₂ ∙ rw (o₁, l, next, two, here) (sym (sets_append out at (word_at i) (word_at (i + 1))))

  pub pair_stored : {o₁ o₂ : List ℕ} {last : ℕ} → last ≡ at + word_size3 * (e - 1 - i) → o₁ ≡ sets out at (word_at i) → o₂ ≡ sets o₁ last (word_at (e - 1))
      → (last + word_size3 ≡ at + length (single_bytes p (between xs i e))) × (o₂ ≡ sets out at (single_bytes p (between xs i e)))
  pair_stored l o₁ o₂ = (omega (arith, singles-length p xs i e (omega arith) f), pair_as (eqb e (i + 1)) refl l o₁ o₂)
