-- The chunks of a slice before the first that fails a test: how many `chunks_exact`, `take_while` and `count` find, and the words of those chunks.
use Rattle.std.specs.Prelude.{◌≡◌, refl, Bool, true, false, List, [], ◌∷◌, ◌++◌, ℕ, ◌+◌, ◌*◌, ◌/◌, ◌≤◌, ◌<◌, length, take, drop, Option, Some, None}
use Rattle.std.proofs.Common.{sym, ◌∙◌, arith, zero-add, mul-le-mul_right, mul_comm, length-append}
use Rattle.std.proofs.Math.Seq.{take-append_seam, drop-append_seam}
use denote.Ref.{Bor}
use denote.Param.Members.{Mut}
use Rattle.std.specs.Fn.{CalledAt}
use Rattle.std.specs.declared.slice.ChunksExact.{ChunksExact}
use Rattle.std.specs.Slice.Iter.{chunks_exact_steps, chunks_exact_rest, chunks_exact_size}
use Rattle.std.specs.Iterator.{Yields}
use Rattle.std.specs.Iterator.Runs.{Run, SomeRun, WholeRun, EachRunFrom, EveryRun, IsTakeWhileRun, IsChunksExactRun, CallKeepsClosure}
use Rattle.laws_stream.specs.Words.{value, words_of, words-next}

-- m chunks of n bytes pass, and the next does not
pub record Front (P : List ℕ → Bool) (n : ℕ) (l : List ℕ) (m : ℕ) : Type 0 where
  pub within : m * n ≤ length l
  pub passes : (k : ℕ) → k < m → P (take n (drop (k * n) l)) ≡ true
  pub stops : m * n + n ≤ length l → P (take n (drop (m * n) l)) ≡ false

module _ {S T F : Type 0} {steps : S → Option (Bor (List ℕ)) → S → Type 0} {source : T → Option (Bor (List ℕ)) → T → Type 0}
    (p : Run steps) (q : Run source) {g : Mut F (Bor (Bor (List ℕ)) × Unit {0}) Bool} {f : F} (P : List ℕ → Bool) {n : ℕ} (pos : 0 < n) (l : List ℕ)
    (chunks : IsChunksExactRun q n l) (takes : IsTakeWhileRun p q g f) (whole : p.whole ≡ true) (keeps : CallKeepsClosure g f) (some : Bor (List ℕ))
    (tests : (x : Bor (List ℕ)) (b : Bool) (f' : F) → length x.now ≡ n → CalledAt g f x b f' → P x.now ≡ b) where
  passing : (k : ℕ) → k < p.len → (o : Option (Bor (List ℕ))) → p.at k ≡ o → P (take n (drop (k * n) l)) ≡ true
  passing k h None e = let read = rw e at (p.reads k some h) in cc
  passing k h (Some x) e =
      let called : CalledAt g f x true f = rw e at ((takes.2 keeps).0 k) in
      let chunk = rw (takes.1 k h ∙ e) at (chunks.2 k) in
      rw (← chunk.2.0) (tests x true f chunk.0 called)

  stopping : (o : Option (Bor (List ℕ))) → q.at p.len ≡ o → p.len * n + n ≤ length l → P (take n (drop (p.len * n) l)) ≡ false
  stopping None e h =
      let at = rw e at ((takes.2 keeps).1 whole) in
      let all : p.len ≡ length l / n = sym at.1 ∙ chunks.1 at.0 in
      absurd (omega (arith, pos, rw all at h, mul_comm (length l / n) n))
  stopping (Some x) e h =
      let at = rw e at ((takes.2 keeps).1 whole) in
      let chunk = rw e at (chunks.2 p.len) in
      rw (← chunk.2.0) (tests x false at.0 chunk.0 at.1)

  pub front_run : Front P n l p.len
  front_run = record {
    within = omega (arith, chunks.0, mul-le-mul_right {m = p.len} {n = q.len} n takes.0);
    passes = λ k h. passing k h (p.at k) refl;
    stops = stopping (q.at p.len) refl;
  }

-- as the calls say it
module _ {S F : Type 0} {steps : S → Option (Bor (List ℕ)) → S → Type 0} {s : ChunksExact ℕ} {t : S}
    {g : Mut F (Bor (Bor (List ℕ)) × Unit {0}) Bool} {f : F} where
  pub front_of : (P : List ℕ → Bool) {n : ℕ} → 0 < n → {l : List ℕ} {m : ℕ} → chunks_exact_size s ≡ n → chunks_exact_rest s ≡ l
      → EveryRun (chunks_exact_steps {A = ℕ}) (λ q. 0 < chunks_exact_size q.from → IsChunksExactRun q (chunks_exact_size q.from) (chunks_exact_rest q.from))
      → EachRunFrom steps t (λ p. SomeRun (chunks_exact_steps {A = ℕ}) s (λ q. IsTakeWhileRun p q g f))
      → WholeRun steps t (λ p. m ≡ p.len) → CallKeepsClosure g f → Bor (List ℕ)
      → ((x : Bor (List ℕ)) (b : Bool) (f' : F) → length x.now ≡ n → CalledAt g f x b f' → P x.now ≡ b) → Front P n l m
  front_of P {n} pos {l} {m} size rest chunks takes (p, from_t, whole, is) keeps some tests =
      let (q, from_s, takes) = takes p p.seen from_t in
      let chunk : IsChunksExactRun q n l = rw (from_s, size, rest) at (chunks q q.seen (rw (from_s, size) pos)) in
      rw is (front_run p q P pos l chunk takes whole keeps some tests)

-- each chunk is as long as they are at the start
pub chunk-long : (xs : List (Bor (List ℕ))) (s t u : ChunksExact ℕ) (x : Bor (List ℕ)) → Yields (chunks_exact_steps {A = ℕ}) s xs t
    → chunks_exact_steps t (Some x) u → length x.now ≡ chunks_exact_size s
chunk-long [] s t u x e step = rw e step.1.1
chunk-long (y ∷ ys) s t u x (j, first, y_rest) step = chunk-long ys j t u x y_rest step ∙ first.0

-- the words of a chunk and of what follows
pub chunk-words : (n : ℕ) → 0 < n → (x l : List ℕ) → length x ≡ n → words_of n (x ++ l) ≡ value x ∷ words_of n l
chunk-words n pos x l h =
    let long : 0 + n ≤ length (x ++ l) = omega (arith, h, length-append x l) in
    words-next n pos (x ++ l) 0 long ∙ rw (← h, zero-add, take-append_seam, drop-append_seam) refl
