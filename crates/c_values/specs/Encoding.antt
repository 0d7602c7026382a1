-- An encoding as a number, and what a call comes to that is given one.
use Rattle.std.specs.Prelude.{◌≡◌, refl, Bool, true, false, cond, ◌||◌, List, ℕ, eqb, ltb, length, Result, Ok, Err}
use Rattle.std.proofs.Common.{sym, eqb-true, arith}
use Rattle.evt_types.specs.declared.{Encoding.Encoding, Encoding.TheVariants.Evt2, Encoding.TheVariants.Evt21, Encoding.TheVariants.Evt3, Refusal.Refusal}
use Rattle.evt_types.specs.declared.{Refusal.TheVariants.UnknownEncoding, Refusal.TheVariants.TooLong}
use Rattle.evt_types.specs.{Num.most_bytes, Num.encoding_number, Outcome.Outcome, Outcome.refuse}

abbrev pub is_known : ℕ → Bool
is_known n = eqb n 2 || (eqb n 21 || eqb n 3)

abbrev pub encoding_of : ℕ → Encoding
encoding_of n = cond (eqb n 3) Evt3 (cond (eqb n 21) Evt21 Evt2)

-- a refusal of n bytes that comes behind 4
abbrev pub behind_too_long : (n : ℕ) → Refusal → Refusal
behind_too_long n r = cond (ltb most_bytes n) TooLong r

-- an unknown encoding gets 2, behind 4 and before everything else
abbrev pub coded_outcome : {A : Type 0} → (n : ℕ) → (words : List ℕ) → (Encoding → Outcome A) → Outcome A
coded_outcome n words f = cond (is_known n) (f (encoding_of n)) (refuse (behind_too_long (length words) UnknownEncoding))

-- the encoding of a known number; else the refusal of that many bytes
abbrev pub coded : (n bytes : ℕ) → Result Encoding Refusal
coded n bytes = cond (is_known n) (Ok (encoding_of n)) (Err (behind_too_long bytes UnknownEncoding))

-- ---- laws: what an encoding's number makes of a call

module _ {A : Type 0} (n : ℕ) (words : List ℕ) (f : Encoding → Outcome A) where
  pub coded_known : is_known n ≡ true → f (encoding_of n) ≡ coded_outcome n words f
  coded_known h = rw h

  pub coded_unknown : is_known n ≡ false → refuse (behind_too_long (length words) UnknownEncoding) ≡ coded_outcome n words f
  coded_unknown h = rw h

-- ---- the known numbers are those of the encodings

pub number_known : (e : Encoding) → is_known (encoding_number e) ≡ true
number_known Evt2 = refl
number_known Evt21 = refl
number_known Evt3 = refl

pub encoding_back : (e : Encoding) → encoding_of (encoding_number e) ≡ e
encoding_back Evt2 = refl
encoding_back Evt21 = refl
encoding_back Evt3 = refl

pub number_back : (n : ℕ) → is_known n ≡ true → encoding_number (encoding_of n) ≡ n
number_back n = go (eqb n 2) (eqb n 21) (eqb n 3) (eqb-true n 2) (eqb-true n 21) (eqb-true n 3)
  where
    go : (two next three : Bool) → (two ≡ true → n ≡ 2) → (next ≡ true → n ≡ 21) → (three ≡ true → n ≡ 3) → (two || (next || three)) ≡ true
        → encoding_number (cond three Evt3 (cond next Evt21 Evt2)) ≡ n
    go two next true p r q h = sym (q refl)
    go two true false p r q h = sym (r refl)
    go true false false p r q h = sym (p refl)
    go false false false p r q h = let z : ◌≡◌ {A = ℕ} 0 1 = cc in absurd (omega arith)
