-- Bytes stored piece by piece, as far as a list reaches; and a loop that gives a writer its input piece by piece, and stores the bytes of its words.
use Rattle.std.specs.Prelude.{◌≡◌, refl, List, [], ◌∷◌, ◌++◌, ℕ, zero, suc, ◌+◌, ◌/◌, ◌%◌, ◌^◌, ◌≤◌, ◌<◌, length, set, take}
use Rattle.std.proofs.Common.{sym, ◌∙◌, arith, add-zero, pow-suc, length-append, set-set}
use Rattle.std.proofs.Math.Path.{ap}
use Rattle.std.proofs.lemmas.List.Edits.{sets, sets-eq}
use Rattle.std.proofs.lemmas.Slice.{put_mid-paste}
use Rattle.std.specs.Int.{byte_at, bytes_low_first}
use Rattle.std.proofs.Math.Nat.{div-div-eq-div-mul}
use borrow.Rule.Slice.PartMut.{put_mid}
use Rattle.std.proofs.Math.Seq.{length-sets, set_out}
use Rattle.std.proofs.lemmas.List.{set_comm, take_all}
use Rattle.laws_stream.specs.{Columns.sets_append, Machine.Machine, Machine.Note, Machine.run, Machine.emits, Machine.words, Machine.words_append}
use Rattle.laws_stream.specs.{Words.stream, Words.bytes, Words.stream-append}

-- nothing is stored past the end
pub sets_out : (l : List ℕ) (i : ℕ) (vs : List ℕ) → length l ≤ i → sets l i vs ≡ l
sets_out l i [] h = refl
sets_out l i (v ∷ vs) h = ap (λ (k : List ℕ). sets k (suc i) vs) (set_out l i v h) ∙ sets_out l (suc i) vs (omega arith)

-- the library's bytes of a number, the low byte first, are a word's
le_byte : (i n : ℕ) → byte_at i n ≡ n / 256 ^ i % 256
le_byte zero n = let e : n / 256 ^ 0 ≡ n = omega arith in rw e
le_byte (suc i) n = refl

le_bytes_from : (i k n : ℕ) → bytes_low_first i k n ≡ bytes k (n / 256 ^ i)
le_bytes_from i zero n = refl
le_bytes_from i (suc k) n =
    let e : n / 256 ^ suc i ≡ n / 256 ^ i / 256 = rw pow-suc (sym (div-div-eq-div-mul n (256 ^ i) 256)) in
    rw (le_byte i n, ← e) (ap (λ (l : List ℕ). n / 256 ^ i % 256 ∷ l) (le_bytes_from (suc i) k n))

pub le_bytes : (k n : ℕ) → bytes_low_first 0 k n ≡ bytes k n
le_bytes k n = let e : n / 256 ^ 0 ≡ n = omega arith in le_bytes_from 0 k n ∙ ap (bytes k) e

-- a word's bytes copied to a part of the buffer
pub stored : (out part vs : List ℕ) (at n : ℕ) → part ≡ vs → n ≡ length vs → at + length vs ≤ length out → put_mid at n out part ≡ sets out at vs
stored out part vs at n p q h =
    let all : take n vs ≡ vs = take_all n vs (omega arith) in
    put_mid-paste at n out part vs n p refl q ∙ rw (all, q) (sym (sets-eq vs out at h))

-- n bytes have room from `at` on, or there is no byte at all: then nothing is stored
abbrev pub Roomy : (out : List ℕ) (at n : ℕ) → Type 0
Roomy out at n = 0 < length out → at + n ≤ length out

-- what is stored after some bytes has room where both have
pub roomy_rest : (out o : List ℕ) (at : ℕ) {r : ℕ} (w rest : List ℕ) → r ≡ at + length w → length o ≡ length out → Roomy out at (length (w ++ rest))
    → Roomy o r (length rest)
roomy_rest out o at w rest e n r h = omega (arith, r (omega arith), length-append w rest)

pub sets_empty : (l : List ℕ) (i : ℕ) (vs : List ℕ) → length l ≤ 0 → l ≡ sets l i vs
sets_empty l i vs h = sym (sets_out l i vs (omega arith))

set_sets : (l : List ℕ) (i a j : ℕ) (vs : List ℕ) → i < j → set (sets l j vs) i a ≡ sets (set l i a) j vs
set_sets l i a j [] h = refl
set_sets l i a j (v ∷ vs) h = set_sets (set l j v) i a (suc j) vs (omega arith) ∙ ap (λ (k : List ℕ). sets k (suc j) vs) (set_comm l j i v a (λ e. omega arith))

-- what is stored is lost where as much is stored again
pub sets_over : (l : List ℕ) (i : ℕ) (us vs : List ℕ) → length us ≤ length vs → sets (sets l i us) i vs ≡ sets l i vs
sets_over l i [] vs h = refl
sets_over l i (u ∷ us) [] h = absurd (omega arith)
sets_over l i (u ∷ us) (v ∷ vs) h =
    rw (set_sets (set l i u) i v (suc i) us (omega arith), set-set l i u v) (sets_over (set l i v) (suc i) us vs (omega arith))

-- On the way to `all` stored from at₀ on: `left` is to be stored from `at` on.
pub record Storing (all : List ℕ) (at₀ : ℕ) (out₀ : List ℕ) (left : List ℕ) (at : ℕ) (out : List ℕ) : Type 0 where
  pub long : length out ≡ length out₀
  pub count : at + length left ≡ at₀ + length all
  pub stores : sets out at left ≡ sets out₀ at₀ all

module _ {all : List ℕ} {at₀ : ℕ} {out₀ : List ℕ} where
  pub storing_start : Storing all at₀ out₀ all at₀ out₀
  storing_start = record { long = refl; count = refl; stores = refl }

  pub storing_iteration : {left : List ℕ} {at : ℕ} {out out' : List ℕ} (w rest : List ℕ) → left ≡ w ++ rest → out' ≡ sets out at w
      → Storing all at₀ out₀ left at out
      → Storing all at₀ out₀ rest (at + length w) out'
  storing_iteration {left} {at} {out} {out'} w rest e o s = record {
    long = ap length o ∙ length-sets out at w ∙ s.long;
    count = omega (arith, ap length e, length-append w rest, s.count);
    stores = rw o (sym (sets_append out at w rest) ∙ ap (sets out at) (sym e) ∙ s.stores);
  }

  -- what is stored in the place of what is left, and no longer than that, is lost
  pub storing_over : {left : List ℕ} {at : ℕ} {out out' : List ℕ} (w : List ℕ) → length w ≤ length left → out' ≡ sets out at w
      → Storing all at₀ out₀ left at out → Storing all at₀ out₀ left at out'
  storing_over {left} {at} {out} w h o s =
      record { long = ap length o ∙ length-sets out at w ∙ s.long; count = s.count; stores = rw o (sets_over out at w left h ∙ s.stores) }

  -- what comes next has room where all has
  pub storing_room : {left : List ℕ} {at : ℕ} {out : List ℕ} (w rest : List ℕ) → left ≡ w ++ rest → Storing all at₀ out₀ left at out
      → Roomy out₀ at₀ (length all) → Roomy out at (length w)
  storing_room {left} {at} {out} w rest e s r h = omega (arith, r (omega (arith, s.long)), ap length e, length-append w rest, s.count, s.long)

  pub storing_end : {at : ℕ} {out : List ℕ} → Storing all at₀ out₀ [] at out → (at ≡ at₀ + length all) × (out ≡ sets out₀ at₀ all)
  storing_end {at} s = (sym (add-zero at) ∙ s.count, s.stores)

-- one store after another
pub stored_both : (out : List ℕ) (at : ℕ) {o₁ o₂ : List ℕ} {r₁ r₂ : ℕ} (a b : List ℕ) → r₁ ≡ at + length a → o₁ ≡ sets out at a → r₂ ≡ r₁ + length b
    → o₂ ≡ sets o₁ r₁ b
    → (r₂ ≡ at + length (a ++ b)) × (o₂ ≡ sets out at (a ++ b))
stored_both out at a b e o f p = (omega (arith, length-append a b), p ∙ rw (o, e) (sym (sets_append out at a b)))

module _ {Q I E : Type 0} (size : ℕ) (W : Machine Q I (Note ℕ E)) where
  -- the bytes of the words that one piece of the input makes, and those of all
  abbrev pub piece : Q → I → List ℕ
  piece v a = stream size (words (W.emit v a))

  unfoldable pub bytes_from : Q → List I → List ℕ
  bytes_from v l = stream size (words (emits W v l))

  pub bytes-cons : (v : Q) (a : I) (l : List I) → bytes_from v (a ∷ l) ≡ piece v a ++ bytes_from (W.step v a) l
  unfolding bytes_from
  bytes-cons v a l =
      ap (stream size) (words_append (W.emit v a) (emits W (W.step v a) l)) ∙ stream-append size (words (W.emit v a)) (words (emits W (W.step v a) l))

  -- On the way: from the state v, `left` of the input is to come, and the bytes before `at` are stored.
  pub record Going (v₀ : Q) (all : List I) (at₀ : ℕ) (out₀ : List ℕ) (left : List I) (v : Q) (at : ℕ) (out : List ℕ) : Type 0 where
    pub state : run W v left ≡ run W v₀ all
    pub storing : Storing (bytes_from v₀ all) at₀ out₀ (bytes_from v left) at out

  module _ {v₀ : Q} {all : List I} {at₀ : ℕ} {out₀ : List ℕ} where
    pub going_start : Going v₀ all at₀ out₀ all v₀ at₀ out₀
    going_start = record { state = refl; storing = storing_start }

    pub going_iteration : {v : Q} {at : ℕ} {out out' : List ℕ} (a : I) (l : List I) → out' ≡ sets out at (piece v a) → Going v₀ all at₀ out₀ (a ∷ l) v at out
        → Going v₀ all at₀ out₀ l (W.step v a) (at + length (piece v a)) out'
    going_iteration {v} a l e g =
        record { state = g.state; storing = storing_iteration (piece v a) (bytes_from (W.step v a) l) (bytes-cons v a l) e g.storing }

    pub going_room : {v : Q} {at : ℕ} {out : List ℕ} (a : I) (l : List I) → Going v₀ all at₀ out₀ (a ∷ l) v at out
        → Roomy out₀ at₀ (length (bytes_from v₀ all)) → Roomy out at (length (piece v a))
    going_room {v} a l g r = storing_room (piece v a) (bytes_from (W.step v a) l) (bytes-cons v a l) g.storing r

    pub going_end : {v : Q} {at : ℕ} {out : List ℕ} → Going v₀ all at₀ out₀ [] v at out
        → (v ≡ run W v₀ all) × (at ≡ at₀ + length (bytes_from v₀ all)) × (out ≡ sets out₀ at₀ (bytes_from v₀ all))
    unfolding bytes_from
    going_end g = let s = storing_end g.storing in (g.state, s.0, s.1)
