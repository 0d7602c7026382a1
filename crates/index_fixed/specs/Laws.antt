-- Opening into the first k records of a list says what becomes of the whole list.
use Rattle.std.specs.Prelude.{◌≡◌, refl, ℕ, zero, suc, ◌+◌, ◌≤◌, min, ℤ, Bool, true, false, List, [], ◌∷◌, ◌++◌, length, take, drop, replicate, ltb}
use Rattle.std.proofs.Common.{sym, ◌∙◌, ap, subst, not-suc-le-zero, le_of_suc-le-suc, arith, append_assoc, take-append-drop, length-append}
use Rattle.std.proofs.Common.{length-take-le, take_all, ltb-true, ltb-false}
use Rattle.evt_types.specs.Outcome.{Outcome}
use Rattle.std.specs.Prelude.{Result}
use Rattle.evt_types.specs.declared.Refusal.{Refusal}
use Rattle.index_build.specs.declared.Opening.{Opening}
use Rattle.index_build.specs.declared.{Checkpoint.Checkpoint, RawSliceSource.RawSliceSource}
use Rattle.index_build.specs.Index.{Body, Opens, open_records}
use Rattle.slice_rules.specs.{Slice.SlicesIndex, Slice.SlicesTime}

fewer : (a b n k : ℕ) → n ≡ a + b → n ≡ k → a ≤ k
fewer a b n k e l = omega arith

module _ {X : Type 0} where
  drop-take : (j k : ℕ) (xs : List X) → j ≤ k → drop j (take k xs) ++ drop k xs ≡ drop j xs
  drop-take zero k xs h = take-append-drop k xs
  drop-take (suc j) zero xs h = absurd (not-suc-le-zero h)
  drop-take (suc j) (suc k) [] h = refl
  drop-take (suc j) (suc k) (x ∷ xs) h = drop-take j k xs (le_of_suc-le-suc h)

  -- what is put in front of the first k is put in front of all
  in_front : (made zs xs : List X) (k : ℕ) → length zs ≡ k → zs ≡ made ++ drop (length made) (take k xs) → zs ++ drop k xs ≡ made ++ drop (length made) xs
  in_front made zs xs k l e =
      ap (λ (ys : List X). ys ++ drop k xs) e ∙ append_assoc made (drop (length made) (take k xs)) (drop k xs)
      ∙ ap (λ (ys : List X). made ++ ys) (drop-take (length made) k xs
      (fewer (length made) (length (drop (length made) (take k xs))) (length zs) k (ap length e ∙ length-append made (drop (length made) (take k xs))) l))

-- `outcome` is told how many records there is room for
pub opens_whole : (outcome : ℕ → Outcome Body) (r : Result Opening Refusal) (xs zs : List Checkpoint) (k : ℕ) → k ≤ length xs → length zs ≡ k
    → Opens (outcome (length (take k xs))) r (take k xs) zs → Opens (outcome k) r xs (zs ++ drop k xs)
opens_whole outcome r xs zs k le l o =
    let o' : Opens (outcome k) r (take k xs) zs = subst (λ (m : ℕ). Opens (outcome m) r (take k xs) zs) (length-take-le k xs le) o in
    record { is_told = o'.is_told; is_answer = o'.is_answer; is_records = in_front (open_records (outcome k)) zs xs k l o'.is_records }

-- the same opening, at an equal room and equal blank records
pub opens_at : (outcome : ℕ → Outcome Body) (r : Result Opening Refusal) (n : ℕ) (xs : List Checkpoint) {k k' : ℕ} {b b' : Checkpoint} → k ≡ k' → b ≡ b'
    → Opens (outcome k) r (replicate n b) xs → Opens (outcome k') r (replicate n b') xs
opens_at outcome r n xs {k} {k'} {b} {b'} e e' o =
    subst (λ (m : ℕ). Opens (outcome m) r (replicate n b') xs) e (subst (λ (c : Checkpoint). Opens (outcome k) r (replicate n c) xs) e' o)

-- as many as there are, at most, are taken
pub take_clamped : {X : Type 0} (m n k : ℕ) (xs : List X) → length xs ≡ m → k ≡ min n m → take k xs ≡ take n xs
take_clamped {X} m n k xs len e = go (ltb n m) refl
  where
    go : (b : Bool) → ltb n m ≡ b → take k xs ≡ take n xs
    go true q = let same : k ≡ n = omega (arith, ltb-true n m q) in ap (λ (j : ℕ). take j xs) same
    go false q = take_all k xs (omega (arith, ltb-false n m q)) ∙ sym (take_all n xs (omega (arith, ltb-false n m q)))

-- ---- a slice over the first min n 64 of 64 records is one over the first n

pub index-over : (recording : List ℕ) (s : RawSliceSource) (records : List Checkpoint) (n k i0 i1 : ℕ) → length records ≡ 64 → k ≡ min n 64
    → {r : Result ℕ Refusal} {x₀ y₀ : List ℕ} {t₀ : List ℤ} {p₀ x y : List ℕ} {t : List ℤ} {p : List ℕ}
    → SlicesIndex recording s (take k records) i0 i1 r x₀ y₀ t₀ p₀ x y t p → SlicesIndex recording s (take n records) i0 i1 r x₀ y₀ t₀ p₀ x y t p
index-over recording s records n k i0 i1 len e {r} {x₀} {y₀} {t₀} {p₀} {x} {y} {t} {p} h =
    subst (λ (cs : List Checkpoint). SlicesIndex recording s cs i0 i1 r x₀ y₀ t₀ p₀ x y t p) (take_clamped 64 n k records len e) h

pub time_over : (recording : List ℕ) (s : RawSliceSource) (records : List Checkpoint) (n k : ℕ) (t0 t1 a0 a1 : ℤ) → length records ≡ 64 → k ≡ min n 64
    → a0 ≡ t0 → a1 ≡ t1 → {r : Result ℕ Refusal} {x₀ y₀ : List ℕ} {t₀ : List ℤ} {p₀ x y : List ℕ} {t : List ℤ} {p : List ℕ}
    → SlicesTime recording s (take k records) a0 a1 r x₀ y₀ t₀ p₀ x y t p → SlicesTime recording s (take n records) t0 t1 r x₀ y₀ t₀ p₀ x y t p
time_over recording s records n k t0 t1 a0 a1 len e e₀ e₁ {r} {x₀} {y₀} {t₀} {p₀} {x} {y} {t} {p} h =
    subst (λ (b : ℤ). SlicesTime recording s (take n records) t0 b r x₀ y₀ t₀ p₀ x y t p) e₁
    (subst (λ (b : ℤ). SlicesTime recording s (take n records) b a1 r x₀ y₀ t₀ p₀ x y t p) e₀
    (subst (λ (cs : List Checkpoint). SlicesTime recording s cs a0 a1 r x₀ y₀ t₀ p₀ x y t p) (take_clamped 64 n k records len e) h))
