-- What a call tells: the table's number, 0 for an acceptance, and the values that go with it.
-- Every promise about an answer goes through a function into `Told`.
use Rattle.std.specs.Prelude.{Result, Ok, Err, ◌≡◌, refl, cond, List, [], ◌∷◌, map, ℕ, ◌<◌, eqb, ℤ, pos, negsuc}
use Rattle.std.proofs.Common.{sym, ap, ◌∙◌, arith}
use Rattle.evt_types.specs.declared.{Encoding.Encoding, Encoding.TheVariants.Evt2, Encoding.TheVariants.Evt21, Encoding.TheVariants.Evt3}
use Rattle.evt_types.specs.declared.Refusal.{Refusal}
use Rattle.evt_types.specs.declared.Refusal.TheVariants.{InvalidSensorSize, UnknownEncoding, HeaderNotAscii, TooLong, ColumnsTooShort, TimeOrder}
use Rattle.evt_types.specs.declared.Refusal.TheVariants.{EventOutOfRange, InvalidSpacing, TooFewRecords, StateOutOfRange, OutputTooShort, ColumnLengths}
use Rattle.evt_types.specs.declared.Refusal.TheVariants.{TriggerColumnsTooShort}

pub record Told : Type 0 where
  pub number : ℕ
  pub values : List ℤ

abbrev pub accepted : List ℕ → Told
accepted vs = record { number = 0; values = map pos vs }

-- a refusal that tells nothing besides its number
abbrev pub refused : ℕ → Told
refused n = record { number = n; values = [] }

-- a refusal that tells a count
abbrev pub short : ℕ → ℕ → Told
short n need = record { number = n; values = pos need ∷ [] }

-- the table
abbrev pub told : Refusal → Told
told InvalidSensorSize = refused 1
told UnknownEncoding = refused 2
told HeaderNotAscii = refused 3
told TooLong = refused 4
told (ColumnsTooShort n) = short 5 n
told TimeOrder = refused 6
told EventOutOfRange = refused 7
told InvalidSpacing = refused 8
told (TooFewRecords n) = short 9 n
told StateOutOfRange = refused 10
told (OutputTooShort n) = short 11 n
told ColumnLengths = refused 12
told (TriggerColumnsTooShort n) = short 13 n

-- ---- no two cases are told alike

abbrev first : List ℤ → ℕ
first [] = 0
first (pos n ∷ vs) = n
first (negsuc n ∷ vs) = 0

abbrev meant : Told → Refusal
meant t =
    let n = t.number in
    let v = first t.values in
    cond (eqb n 1) InvalidSensorSize (cond (eqb n 2) UnknownEncoding (cond (eqb n 3) HeaderNotAscii (cond (eqb n 4) TooLong
    (cond (eqb n 5) (ColumnsTooShort v) (cond (eqb n 6) TimeOrder (cond (eqb n 7) EventOutOfRange (cond (eqb n 8) InvalidSpacing
    (cond (eqb n 9) (TooFewRecords v) (cond (eqb n 10) StateOutOfRange (cond (eqb n 11) (OutputTooShort v)
    (cond (eqb n 12) ColumnLengths (TriggerColumnsTooShort v))))))))))))

meant-told : (r : Refusal) → meant (told r) ≡ r
meant-told InvalidSensorSize = refl
meant-told UnknownEncoding = refl
meant-told HeaderNotAscii = refl
meant-told TooLong = refl
meant-told (ColumnsTooShort n) = refl
meant-told TimeOrder = refl
meant-told EventOutOfRange = refl
meant-told InvalidSpacing = refl
meant-told (TooFewRecords n) = refl
meant-told StateOutOfRange = refl
meant-told (OutputTooShort n) = refl
meant-told ColumnLengths = refl
meant-told (TriggerColumnsTooShort n) = refl

pub told-apart : (a b : Refusal) → told a ≡ told b → a ≡ b
told-apart a b e = sym (meant-told a) ∙ ap meant e ∙ meant-told b

-- a refusal's number is not 0
pub told-numbered : (r : Refusal) → 0 < (told r).number
told-numbered InvalidSensorSize = omega arith
told-numbered UnknownEncoding = omega arith
told-numbered HeaderNotAscii = omega arith
told-numbered TooLong = omega arith
told-numbered (ColumnsTooShort n) = omega arith
told-numbered TimeOrder = omega arith
told-numbered EventOutOfRange = omega arith
told-numbered InvalidSpacing = omega arith
told-numbered (TooFewRecords n) = omega arith
told-numbered StateOutOfRange = omega arith
told-numbered (OutputTooShort n) = omega arith
told-numbered ColumnLengths = omega arith
told-numbered (TriggerColumnsTooShort n) = omega arith

-- the values of an acceptance, back
abbrev pub naturals : List ℤ → List ℕ
naturals [] = []
naturals (pos n ∷ vs) = n ∷ naturals vs
naturals (negsuc n ∷ vs) = 0 ∷ naturals vs

pub accepted-naturals : (vs : List ℕ) → naturals (accepted vs).values ≡ vs
accepted-naturals [] = refl
accepted-naturals (v ∷ vs) = ap (λ (l : List ℕ). v ∷ l) (accepted-naturals vs)

-- ---- an encoding of its number, back: 2 where there is none of that number
abbrev pub encoding_numbered : ℕ → Result Encoding Refusal
encoding_numbered n =
    cond (eqb n 2) (Ok Evt2) (cond (eqb n 21) (Ok Evt21) (cond (eqb n 3) (Ok Evt3) (Err UnknownEncoding)))
