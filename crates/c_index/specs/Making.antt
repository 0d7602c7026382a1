-- The making of an index's records: one iteration after another, and that the end is what opening promises.
use Rattle.std.specs.Prelude.{◌≡◌, refl, Bool, true, false, cond, List, [], ◌∷◌, ◌++◌, ℕ, suc, ◌+◌, ◌<◌, length, take, drop, set}
use Rattle.std.proofs.Common.{sym, ap, ◌∙◌, arith, add-one}
use Rattle.std.proofs.lemmas.List.{length-map}
use Rattle.evt_types.specs.declared.{Refusal.Refusal, Refusal.TheVariants.UnknownEncoding}
use Rattle.evt_types.specs.{Outcome.Outcome, Outcome.refuse, Outcome.give, Told.told}
use Rattle.std.specs.Prelude.{Result, Ok, Err}
use Rattle.index_build.specs.declared.Opening.{Opening}
use Rattle.index_build.specs.declared.{Builder.Builder, Checkpoint.Checkpoint}
use Rattle.index_build.specs.{Index.Body, Index.firsts, Index.open_answer, Index.open_records}
use Rattle.index_build.specs.{Index.told_open, Index.told-answer, Index.open_words_outcome, Laws.builder_next, Laws.builder_fit, Laws.length-firsts, Stage.set_next, Stage.written_to}
use Rattle.index_build.specs.Open.{Accepted, IfGiven, Builds}
use Rattle.index_build.specs.Build.{record_of, next_of, Fit, Advanced, Begun, builder_at, made_at, prepared_by, concluded}
use Rattle.c_values.specs.{Encoding.is_known, Encoding.encoding_of, Encoding.behind_too_long}
use Rattle.c_index.specs.{declared.opening.PropheseeOpenOptions.PropheseeOpenOptions, declared.opening.PropheseeOpening.PropheseeOpening}
use Rattle.c_index.specs.{Opening.words_options_of, Opening.open_words_outcome_c, Opening.opened_of, Opening.OpensC, Records.flat_record}
use Rattle.c_index.specs.{Records.entries_of, Records.entries_all}
use Rattle.index_build.proofs.OpenLaws.{accepted-words, builds}

-- the first n records in front, and behind them all as it was
abbrev pub laid_to : List ℕ → Builder → List (List ℕ) → ℕ → List (List ℕ)
laid_to l t es₀ n = entries_all (firsts (made_at l t) n) ++ drop n es₀

pub record Makes (l : List ℕ) (t : Builder) (es₀ : List (List ℕ)) (r : Builder) (es : List (List ℕ)) : Type 0 where
  pub is_builder : r ≡ builder_at l t t.cap
  pub is_entries : es ≡ laid_to l t es₀ t.cap

-- what is prepared for `room` records in l
abbrev pub Begins : List ℕ → ℕ → Result Builder Refusal → Type 0
Begins l room (Err r) = Unit
Begins l room (Ok t) = Begun l room t

-- and what it comes to, whichever outcome it was prepared by
abbrev pub Answers : List ℕ → Result Builder Refusal → List (List ℕ) → PropheseeOpening → List (List ℕ) → Type 0
Answers l p es₀ n es = (outcome : Outcome Body) → IfGiven (Accepted l (length es₀)) outcome → p ≡ prepared_by outcome → OpensC outcome n es₀ es

-- ---- one record more

entries_append : (a b : List Checkpoint) → entries_all (a ++ b) ≡ entries_all a ++ entries_all b
entries_append [] b = refl
entries_append (c ∷ cs) b = ap (λ (l : List (List ℕ)). entries_of (flat_record c) ∷ l) (entries_append cs b)

-- ---- one iteration after another

-- the first i records are made
pub record Stage (l : List ℕ) (t₀ : Builder) (es₀ : List (List ℕ)) (i : ℕ) (t : Builder) (es : List (List ℕ)) : Type 0 where
  pub is_builder : t ≡ builder_at l t₀ i
  pub laid : es ≡ laid_to l t₀ es₀ i

module _ (l : List ℕ) {room : ℕ} (t₀ : Builder) (ok : Begun l room t₀) (es₀ : List (List ℕ)) where
  pub stage_start : Stage l t₀ es₀ 0 t₀ es₀
  stage_start = record { is_builder = ok.is_first; laid = refl }

  module _ (i : ℕ) (below : i < t₀.cap) (t : Builder) (es : List (List ℕ)) (s : Stage l t₀ es₀ i t es) where
    pub stage_fit : Fit l t
    stage_fit = rw s.is_builder (builder_fit l t₀ ok i below)

    pub stage_next : i < length es₀ → (c : Checkpoint) (u : Builder) → Advanced l t c u → (v : List ℕ) → v ≡ entries_of (flat_record c)
        → Stage l t₀ es₀ (i + 1) u (set es i v)
    stage_next h c u a v is =
        let made = made_at l t₀ i in
        let front = entries_all (firsts (made_at l t₀) i) in
        let record_is : c ≡ made = a.is_record_lem ∙ ap record_of s.is_builder in
        rw add-one (record {
          is_builder = a.is_next ∙ ap (next_of l) s.is_builder ∙ builder_next l t₀ ok i below;
          laid =
              (λ j. set (s.laid j) i (is j)) ∙ (λ j. set (laid_to l t₀ es₀ i) i (entries_of (flat_record (record_is j))))
              ∙ set_next front es₀ i (entries_of (flat_record made)) (length-map (firsts (made_at l t₀) i) _ ∙ length-firsts (made_at l t₀) i) h
              ∙ ap (λ (k : List (List ℕ)). k ++ drop (suc i) es₀) (sym (entries_append (firsts (made_at l t₀) i) (made ∷ [])));
        })

  -- where only as many as are made may be written
  pub makes : (t : Builder) (es : List (List ℕ)) → Stage l t₀ (take t₀.cap es₀) t₀.cap t es → Makes l t₀ es₀ t (es ++ drop t₀.cap es₀)
  makes t es s = record {
    is_builder = s.is_builder;
    is_entries = ap (λ (k : List (List ℕ)). k ++ drop t₀.cap es₀) s.laid ∙ written_to (entries_all (firsts (made_at l t₀) t₀.cap)) es₀ t₀.cap;
  }

-- ---- what opening promises

pub begins : (l : List ℕ) (room : ℕ) (outcome : Outcome Body) → IfGiven (Accepted l room) outcome → (p : Result Builder Refusal) → p ≡ prepared_by outcome → Begins l room p
begins l room outcome ok (Err r) is = tt
begins l room outcome ok (Ok t) is = (builds l room outcome ok t is).begun

-- whatever the number of the encoding
pub accepted_coded : (words : List ℕ) (n : ℕ) (o : PropheseeOpenOptions) (room : ℕ) → IfGiven (Accepted words room) (open_words_outcome_c words n o room)
accepted_coded words n o room = go (is_known n)
  where
    go : (b : Bool) → IfGiven (Accepted words room)
        (cond b (open_words_outcome words (words_options_of (encoding_of n) o) room) (refuse (behind_too_long (length words) UnknownEncoding)))
    go true = accepted-words words (words_options_of (encoding_of n) o) room
    go false = tt

pub answers_refused : (l : List ℕ) (es : List (List ℕ)) (p : Result Builder Refusal) (r : Refusal) → p ≡ Err r → (n : PropheseeOpening) → n ≡ opened_of (told r)
    → Answers l p es n es
answers_refused l es p r is n is_n (refuse q) ok by =
    let e : r ≡ q = cc in
    record { is_answer = is_n ∙ ap (λ (x : Refusal). opened_of (told x)) e; is_records = refl }
answers_refused l es p r is n is_n (give b) ok by = let z : ◌≡◌ {A = ℕ} 0 1 = cc in absurd (omega arith)

module _ (l : List ℕ) (es₀ : List (List ℕ)) (p : Result Builder Refusal) (t : Builder) (is : p ≡ Ok t) (r : Builder) (es : List (List ℕ)) (m : Makes l t es₀ r es)
    (a : Result Opening Refusal) (is-a : a ≡ Ok (concluded r)) (n : PropheseeOpening) (is_n : n ≡ opened_of (told_open a)) where
  pub answers_made : Answers l p es₀ n es
  answers_made outcome ok by =
      let b : Builds l (length es₀) outcome t = builds l (length es₀) outcome ok t (sym is ∙ by) in
      let answer : a ≡ open_answer outcome = is-a ∙ ap (λ (u : Builder). Ok (concluded u)) m.is_builder ∙ b.is_answer in
      let count : t.cap ≡ length (open_records outcome) = sym (length-firsts (made_at l t) t.cap) ∙ ap length b.is_records in
      record {
        is_answer = is_n ∙ ap opened_of (ap told_open answer ∙ told-answer outcome);
        is_records = m.is_entries ∙ (λ i. entries_all (b.is_records i) ++ drop (count i) es₀);
      }
