-- Where the making of the records stands: what holds before each iteration, after it, and at the end.
use Rattle.std.specs.Prelude.{◌≡◌, refl, List, [], ◌∷◌, ◌++◌, ℕ, suc, ◌+◌, ◌<◌, length, take, drop, set, get_or}
use Rattle.std.proofs.Common.{sym, ap, ◌∙◌, arith, add-one, drop-cons, drop_of_length-le, length-take, append-nil}
use Rattle.std.proofs.lemmas.List.{set_at}
use Rattle.std.proofs.Math.Seq.{append_snoc}
use Rattle.index_build.specs.declared.{Builder.Builder, Checkpoint.Checkpoint}
use Rattle.index_build.specs.Index.{firsts}
use Rattle.index_build.specs.Build.{record_of, next_of, Fit, Advanced, Begun, builder_at, made_at}
use Rattle.index_build.specs.Laws.{builder_next, builder_fit, length-firsts}

-- ---- what is written in front, while all behind it is as it was

pub set_next : {A : Type 0} (front ys : List A) (i : ℕ) (a : A) → length front ≡ i → i < length ys
    → set (front ++ drop i ys) i a ≡ (front ++ (a ∷ [])) ++ drop (suc i) ys
set_next {A} front ys i a long h =
    ap (λ (k : List A). set (front ++ k) i a) (drop-cons ys i a h)
    ∙ set_at front (get_or ys i a) (drop (suc i) ys) a i long
    ∙ sym (append_snoc front a (drop (suc i) ys))

-- where only the first n may be written
pub written_to : {A : Type 0} (front ys : List A) (n : ℕ) → (front ++ drop n (take n ys)) ++ drop n ys ≡ front ++ drop n ys
written_to {A} front ys n =
    ap (λ (k : List A). (front ++ k) ++ drop n ys) (drop_of_length-le (take n ys) {i = n} (omega (arith, length-take n ys)))
    ∙ ap (λ (k : List A). k ++ drop n ys) (append-nil front)

-- ---- the records

-- the first n records in front, and behind them all as it was
abbrev pub laid_to : List ℕ → Builder → List Checkpoint → ℕ → List Checkpoint
laid_to l t ys n = firsts (made_at l t) n ++ drop n ys

-- the first i of t₀ are made
pub record Stage (l : List ℕ) (t₀ : Builder) (ys : List Checkpoint) (i : ℕ) (t : Builder) (zs : List Checkpoint) : Type 0 where
  pub is_builder : t ≡ builder_at l t₀ i
  pub laid : zs ≡ laid_to l t₀ ys i

module _ (l : List ℕ) {room : ℕ} (t₀ : Builder) (ok : Begun l room t₀) (ys : List Checkpoint) where
  pub stage_start : Stage l t₀ ys 0 t₀ ys
  stage_start = record { is_builder = ok.is_first; laid = refl }

  module _ (i : ℕ) (below : i < t₀.cap) (t : Builder) (zs : List Checkpoint) (s : Stage l t₀ ys i t zs) where
    pub stage_fit : Fit l t
    stage_fit = rw s.is_builder (builder_fit l t₀ ok i below)

    pub stage_next : i < length ys → (c : Checkpoint) (u : Builder) → Advanced l t c u → Stage l t₀ ys (i + 1) u (set zs i c)
    stage_next h c u a =
        let is : c ≡ made_at l t₀ i = a.is_record_lem ∙ ap record_of s.is_builder in
        rw add-one (record {
          is_builder = a.is_next ∙ ap (next_of l) s.is_builder ∙ builder_next l t₀ ok i below;
          laid = (λ j. set (s.laid j) i (is j)) ∙ set_next (firsts (made_at l t₀) i) ys i (made_at l t₀ i) (length-firsts (made_at l t₀) i) h;
        })
