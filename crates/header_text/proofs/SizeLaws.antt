-- A size at the byte that was found is the size at the first such byte.
use Rattle.std.specs.Prelude.{ℕ, ◌≡◌, ◌<◌, List, length, true, Option, Some, None, position}
use Rattle.std.specs.Option.{option_or}
use Rattle.std.proofs.Common.{◌∙◌, arith, ltb-true}
use Rattle.evt_types.specs.declared.SensorSize.{SensorSize}
use Rattle.header_text.specs.Cases.{by_bool}
use Rattle.header_text.specs.Text.{is_byte, up_to, any}
use Rattle.header_text.specs.Size.{size_at, geometry_of}
use Rattle.header_text.specs.Parts.{halves_at}
use Rattle.header_text.proofs.TextLaws.{count-take, rest-after, lt-up_to, position-up_to}

-- the byte n is the first c
halves_size : (c : ℕ) (s : List ℕ) (n : ℕ) → n ≡ length (up_to (is_byte c) s) → halves_at n s ≡ size_at c s
unfolding halves_at size_at
halves_size c s n e = rw (count-take (is_byte c) s n e, rest-after (is_byte c) s n e)

module _ (s : List ℕ) where
  -- a byte was found where one is, at the first
  found : (c n : ℕ) → any (is_byte c) s ≡ true → Some (length (up_to (is_byte c) s)) ≡ Some n → (n < length s) × (halves_at n s ≡ size_at c s)
  found c n here e =
      let is : n ≡ length (up_to (is_byte c) s) = cc in
      let within : length (up_to (is_byte c) s) < length s = ltb-true _ _ (lt-up_to (is_byte c) s ∙ here) in
      (omega arith, halves_size c s n is)

  abbrev place : ℕ → Option ℕ
  place c = position (is_byte c) s

  -- by the place of the first `x`, or else of the first `X`
  pub parted : (old : Option SensorSize) (n : ℕ) → option_or (place 120) (place 88) ≡ Some n → (n < length s) × (halves_at n s ≡ geometry_of s old)
  unfolding geometry_of
  parted old n e =
      by_bool (any (is_byte 120) s) (λ x. rw x (found 120 n x (rw (position-up_to (is_byte 120) s, x) at e)))
      (λ x. by_bool (any (is_byte 88) s)
      (λ y. rw (x, y) (found 88 n y (rw (position-up_to (is_byte 120) s, x, position-up_to (is_byte 88) s, y) at e)))
      (λ y. let no : None ≡ Some n = rw (position-up_to (is_byte 120) s, x, position-up_to (is_byte 88) s, y) at e in absurd cc))

  pub whole : (old : Option SensorSize) → option_or (place 120) (place 88) ≡ None → old ≡ geometry_of s old
  unfolding geometry_of
  whole old e =
      by_bool (any (is_byte 120) s) (λ x. let no : Some (length (up_to (is_byte 120) s)) ≡ None = rw (position-up_to (is_byte 120) s, x) at e in absurd cc)
      (λ x. by_bool (any (is_byte 88) s)
      (λ y. let no : Some (length (up_to (is_byte 88) s)) ≡ None = rw (position-up_to (is_byte 120) s, x, position-up_to (is_byte 88) s, y) at e in absurd cc)
      (λ y. rw (x, y)))
