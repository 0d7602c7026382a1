-- A loop that passes over words up to a number of events, for every machine and every word size: what holds at index i, at the start, after a word, at the end.
use Rattle.std.specs.Prelude.{◌≡◌, List, ℕ, suc, ◌+◌, ◌-◌, ◌*◌, ◌/◌, ◌≤◌, ◌<◌, length, drop}
use Rattle.std.proofs.Common.{sym, ap, ◌∙◌, arith, zero-add}
use Rattle.laws_stream.specs.{Machine.Machine, Words.words_of, Words.words-end, Words.length-words, PassOver.Over, PassOver.here, PassOver.one_over}
use Rattle.laws_stream.specs.{PassOver.over, PassOver.numbers_in, PassOver.over-nil, PassOver.over_on, PassOver.over_stop}
use Rattle.evt_types.specs.{declared.vector.Vector.Vector, Event.Event}
use Rattle.read_columns.specs.Inside.{inside, inside_of}
use Rattle.read_fill.specs.Iteration.{Iteration, iteration-words}

module _ {S : Type 0} (n : ℕ) (M : Machine S ℕ Event) (Inv : ℕ → S → Type 0) (width height most : ℕ) (s₀ : S) (bytes : List ℕ) where
  -- how far it goes in all, and from index i where `count` events lie behind
  abbrev pub over_all : Over S
  over_all = over M (inside width height) most s₀ (words_of n bytes)

  abbrev further : S → (count i : ℕ) → Over S
  further s count i = over M (inside width height) (most - count) s (words_of n (drop i bytes))

  abbrev plus : (words count : ℕ) → Over S → Over S
  plus words count r = record { words = words + r.words; count = count + r.count; state = r.state }

  pub record Passing (s : S) (count i : ℕ) : Type 0 where
    pub words : ℕ
    pub is_at : i ≡ words * n
    pub within : i ≤ length bytes
    pub few : count ≤ most
    pub inv : Inv (length (words_of n (drop i bytes))) s
    pub ends : plus words count (further s count i) ≡ over_all

  -- what the loop tells
  pub record Reached (i count : ℕ) (s : S) : Type 0 where
    pub is_at : i ≡ over_all.words * n
    pub is_count : count ≡ over_all.count
    pub is_state : s ≡ over_all.state
    pub inv : Inv (length (drop i bytes) / n) s

module _ {S : Type 0} {n : ℕ} {M : Machine S ℕ Event} {Inv : ℕ → S → Type 0} {width height most : ℕ} {s₀ : S} {bytes : List ℕ} (pos : 0 < n)
    (keeps : (k : ℕ) (s : S) (w : ℕ) → Inv (suc k) s → Inv k (M.step s w)) where
  pub passing_start : Inv (length (words_of n bytes)) s₀ → Passing n M Inv width height most s₀ bytes s₀ 0 0
  passing_start b =
      let e : most - 0 ≡ most = omega arith in
      record { words = 0; is_at = omega arith; within = omega arith; few = omega arith; inv = b; ends = rw (e, zero-add, zero-add) }

  module _ {s : S} {count i : ℕ} (u : Passing n M Inv width height most s₀ bytes s count i) where
    reached : further n M Inv width height most s₀ bytes s count i ≡ here s → Reached n M Inv width height most s₀ bytes i count s
    reached e =
        let all = over_all n M Inv width height most s₀ bytes in
        let f : record { words = u.words + 0; count = count + 0; state = s } ≡ all =
        ap (plus n M Inv width height most s₀ bytes u.words count) (sym e) ∙ u.ends in
        let w : u.words + 0 ≡ all.words = ap (λ (r : Over S). r.words) f in
        let c : count + 0 ≡ all.count = ap (λ (r : Over S). r.count) f in
        record {
          is_at = rw (← w) (omega (arith, u.is_at));
          is_count = omega arith;
          is_state = ap (λ (r : Over S). r.state) f;
          inv = rw (length-words n (drop i bytes)) at u.inv;
        }

    -- no word is left
    pub passing_end : length bytes < i + n → Reached n M Inv width height most s₀ bytes i count s
    passing_end h = reached (rw (words-end n pos bytes i h) (over-nil M (inside width height) (most - count) s))

    -- the next word
    module _ {s' : S} {v : Vector} (t : Iteration n M bytes s i s' v) {m : ℕ} (is_m : m ≡ length (inside_of width height v)) where
      has : numbers_in M (inside width height) s t.word ≡ m
      has = rw t.is_events (sym is_m)

      pub passing_stop : most - count < m → Reached n M Inv width height most s₀ bytes i count s
      passing_stop h =
          reached
          (rw (iteration-words pos t) (over_stop M (inside width height) (most - count) s t.word (words_of n (drop (i + n) bytes)) (omega (arith, has))))

      pub passing_next : m ≤ most - count → Passing n M Inv width height most s₀ bytes s' (count + m) (i + n)
      passing_next h =
          let k = inside width height in
          let rest = words_of n (drop (i + n) bytes) in
          let on = over_on M k (most - count) s t.word rest (omega (arith, has)) in
          let r = over M k (most - count - m) (M.step s t.word) rest in
          let f : further n M Inv width height most s₀ bytes s count i ≡ one_over m r = rw (iteration-words pos t) (rw has at on) in
          let e : most - (count + m) ≡ most - count - m = omega arith in
          let w : u.words + 1 + r.words ≡ u.words + suc r.words = omega arith in
          let c : count + m + r.count ≡ count + (m + r.count) = omega arith in
          rw t.is_next (record {
            words = u.words + 1;
            is_at = omega (arith, u.is_at);
            within = t.more;
            few = omega (arith, u.few);
            inv = keeps (length rest) s t.word (rw (iteration-words pos t) at u.inv);
            ends = rw (e, w, c) (ap (plus n M Inv width height most s₀ bytes u.words count) (sym f) ∙ u.ends);
          })
