-- Laws of specs/Words.antt.
use Rattle.laws_stream.specs.{Machine.All, Machine.all_take, Words.Fits, Words.length-stream, Words.length-words, Words.stream, Words.take-stream}
use Rattle.laws_stream.specs.{Words.words_of, Words.words_of-append, Words.words_of-stream}
use Rattle.std.proofs.{Common.ap, Common.append-nil, Common.arith, Common.drop_at, Common.le-div_iff_mul-le, Common.length-take, Common.length-take-le}
use Rattle.std.proofs.{Common.mod-lt, Common.subst, Common.sym, Common.take-append-drop, Common.take_at, Common.◌∙◌, Math.Nat.div-eq_of_eq-mul_left}
use Rattle.std.proofs.{Math.Nat.div-eq_of_lt}
use Rattle.std.specs.Prelude.{List, drop, length, take, ℕ, ◌%◌, ◌*◌, ◌++◌, ◌/◌, ◌<◌, ◌≡◌, ◌≤◌}

module _ (n : ℕ) where
  module _ (pos : 0 < n) where
    -- so many words have so many bytes
    pub words-within : (k : ℕ) (l : List ℕ) → k ≤ length (words_of n l) → k * n ≤ length l
    words-within k l h = (le-div_iff_mul-le pos).0 (subst (λ (m : ℕ). k ≤ m) (length-words n l) h)

    -- at a whole number of words
    module _ (k : ℕ) (l : List ℕ) (h : k * n ≤ length l) where
      halves : words_of n (take (k * n) l) ++ words_of n (drop (k * n) l) ≡ words_of n l
      halves = sym (words_of-append n pos k (take (k * n) l) (drop (k * n) l) (length-take-le (k * n) l h)) ∙ ap (words_of n) (take-append-drop (k * n) l)

      first : length (words_of n (take (k * n) l)) ≡ k
      first = length-words n (take (k * n) l) ∙ div-eq_of_eq-mul_left pos (length-take-le (k * n) l h)

      pub words_taken : words_of n (take (k * n) l) ≡ take k (words_of n l)
      words_taken = sym (take_at (words_of n (take (k * n) l)) (words_of n (drop (k * n) l)) k first) ∙ ap (take k) halves

      pub words_dropped : words_of n (drop (k * n) l) ≡ drop k (words_of n l)
      words_dropped = sym (drop_at (words_of n (take (k * n) l)) (words_of n (drop (k * n) l)) k first) ∙ ap (drop k) halves

    -- the words of a stream, with a broken one behind them
    pub words_of_broken : (ws rest : List ℕ) → All (Fits n) ws → length rest < n → words_of n (stream n ws ++ rest) ≡ ws
    words_of_broken ws rest h lt = words_of-append n pos (length ws) (stream n ws) rest (length-stream n ws) ∙ rw (words_of-stream n pos ws h, div-eq_of_lt lt) (append-nil ws)

    -- THE CUT: of c bytes the whole words are left
    pub words_of-take : (c : ℕ) (ws : List ℕ) → All (Fits n) ws → words_of n (take c (stream n ws)) ≡ take (c / n) ws
    words_of-take c ws h =
        let lt : length (take (c % n) (stream n (drop (c / n) ws))) < n = rw length-take (omega (arith, mod-lt c pos)) in
        ap (words_of n) (take-stream n c ws) ∙ words_of_broken (take (c / n) ws) (take (c % n) (stream n (drop (c / n) ws))) (all_take (Fits n) (c / n) ws h) lt
