-- What decoding one word promises, for any decoder: out of range, 10 and the decoder as it was; else the word's events and the decoder after it.
use Rattle.std.specs.Prelude.{◌≡◌, refl, Bool, true, false, cond, [], ◌∷◌, pos}
use Rattle.std.specs.Prelude.{Result, Ok, Err}
use Rattle.evt_types.specs.declared.Refusal.{Refusal}
use Rattle.evt_types.specs.declared.{Refusal.TheVariants.StateOutOfRange, vector.EventVector.EventVector, vector.Vector.Vector}
use Rattle.evt_types.specs.{Told.Told, Told.told, Told.refused, Event.narrowed}

-- an acceptance tells column, row, time, polarity and mask
abbrev pub told_events : EventVector → Told
told_events v = record { number = 0; values = pos v.x ∷ pos v.y ∷ v.t ∷ pos v.p ∷ pos v.mask ∷ [] }

abbrev pub told_decode : Result EventVector Refusal → Told
told_decode (Ok v) = told_events v
told_decode (Err r) = told r

-- ---- by whether the decoder is in range

abbrev pub decode_verdict : Bool → Vector → Told
decode_verdict ok v = cond ok (told_events (narrowed v)) (refused 10)

abbrev pub decode_answer : Bool → Vector → Result EventVector Refusal
decode_answer ok v = cond ok (Ok (narrowed v)) (Err StateOutOfRange)

-- `next` and `answer` are what a decoder `d`, in range or not, owes for a word after which it is `after` and that has the events v
pub record Owed {D : Type 0} (ok : Bool) (d after : D) (v : Vector) (next : D) (answer : Result EventVector Refusal) : Type 0 where
  pub is_next : next ≡ cond ok after d
  pub is_told : told_decode answer ≡ decode_verdict ok v
  pub is_answer : answer ≡ decode_answer ok v

-- ---- laws

module _ {D : Type 0} (d after : D) (v : Vector) where
  pub owed_refused : (ok : Bool) → ok ≡ false → Owed ok d after v d (Err StateOutOfRange)
  owed_refused ok h = rw h (record { is_next = refl; is_told = refl; is_answer = refl })

  pub owed_events : (ok : Bool) (next : D) (n : EventVector) → ok ≡ true → next ≡ after → n ≡ narrowed v → Owed ok d after v next (Ok n)
  owed_events ok next n h e f = rw (h, e, f) (record { is_next = refl; is_told = refl; is_answer = refl })
