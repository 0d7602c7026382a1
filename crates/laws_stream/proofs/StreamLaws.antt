-- Laws of specs/Stream.antt.
use Rattle.laws_stream.proofs.WordsLaws.{words_of-take}
use Rattle.laws_stream.specs.{Format.Format, Format.Good, Format.Lawful, Format.givens, Machine.All, Machine.Machine, Machine.Note, Machine.cut}
use Rattle.laws_stream.specs.{Machine.emits-append, Machine.notes, Machine.notes_split, Machine.run-append, Machine.says_emits, Machine.says_fits}
use Rattle.laws_stream.specs.{Machine.words, Slice.Past, Slice.over_time, Slice.reached, Slice.says_past, Slice.within, Stream.after, Stream.decode}
use Rattle.laws_stream.specs.{Stream.decode_f, Stream.noted_bytes, Words.Fits, Words.words_of, Words.words_of-append, Words.words_of-stream}
use Rattle.std.proofs.{Common.ap, Common.length-take-le, Common.sym, Common.take-append-drop, Common.◌∙◌, lemmas.List.append_cancel_left}
use Rattle.std.specs.Prelude.{Bool, List, [], drop, false, length, take, true, ℕ, ◌*◌, ◌++◌, ◌/◌, ◌<◌, ◌≡◌, ◌≤◌}

module _ {S E : Type 0} (n : ℕ) (D : Machine S ℕ E) where
  -- at any whole number of words
  pub decode-append : 0 < n → (s : S) (k : ℕ) (a b : List ℕ) → length a ≡ k * n → decode n D s (a ++ b) ≡ decode n D s a ++ decode n D (after n D s a) b
  decode-append pos s k a b h = rw (words_of-append n pos k a b h) (emits-append D s (words_of n a) (words_of n b))

  pub after-append : 0 < n → (s : S) (k : ℕ) (a b : List ℕ) → length a ≡ k * n → after n D s (a ++ b) ≡ after n D (after n D s a) b
  after-append pos s k a b h = rw (words_of-append n pos k a b h) (run-append D s (words_of n a) (words_of n b))

  pub split_words : 0 < n → (k : ℕ) (l : List ℕ) → k * n ≤ length l → words_of n (take (k * n) l) ++ words_of n (drop (k * n) l) ≡ words_of n l
  split_words pos k l h =
      sym (words_of-append n pos k (take (k * n) l) (drop (k * n) l) (length-take-le (k * n) l h)) ∙ ap (words_of n) (take-append-drop (k * n) l)

module _ {S Q I E : Type 0} (F : Format S Q I E) (L : Lawful F) where
  module _ (s : S) (ns : List (Note ℕ E)) (good : Good F s ns []) where
    ns_fits : All (Fits F.size) (words ns)
    ns_fits = says_fits F.reader (Fits F.size) F.Ready s ns [] good

    pub decode-whole : decode_f F L s (noted_bytes F L ns) ≡ notes ns
    decode-whole = rw (words_of-stream F.size L.sized (words ns) ns_fits) (says_emits F.reader (Fits F.size) F.Ready s ns [] good)

    pub decode_cut : (c : ℕ) → decode_f F L s (take c (noted_bytes F L ns)) ≡ notes (take (c / F.size) ns)
    decode_cut c = rw (words_of-take F.size L.sized c (words ns) ns_fits) (cut F.reader (Fits F.size) F.Ready (c / F.size) s ns [] good)

  -- what is written can be sliced
  pub good_past : (keep : E → Bool) (done : S → Bool) → ((s : S) (es : List E) → F.Ready s es → done s ≡ true → All (λ e. keep e ≡ false) es)
      → (s : S) (ns : List (Note ℕ E)) → Good F s ns [] → Past F.reader keep done s (words_of F.size (noted_bytes F L ns))
  good_past keep done over s ns g =
      rw (words_of-stream F.size L.sized (words ns) (ns_fits s ns g)) (says_past F.reader keep done (Fits F.size) F.Ready over s ns [] g)

  -- what was missing, and no more, written by a fresh writer behind what is left
  module _ (s : S) (ns : List (Note ℕ E)) (good : Good F s ns []) (c : ℕ) (is : List I) (valid : All F.Valid is)
      (missing : decode_f F L s (take c (noted_bytes F L ns)) ++ givens F is ≡ notes ns) where
    left : givens F is ≡ notes (drop (c / F.size) ns)
    left = append_cancel_left (notes (take (c / F.size) ns)) (givens F is) (notes (drop (c / F.size) ns))
        (ap (λ (l : List E). l ++ givens F is) (sym (decode_cut s ns good c)) ∙ missing ∙ sym (notes_split (c / F.size) ns))

-- a stream that was written, cut and resumed or not: after the first word that reaches t₁ nothing between t₀ and t₁ follows
module _ {S Q I E : Type 0} (F : Format S Q I E) (L : Lawful F) (live : S → Bool) (time : S → ℕ) (clock : E → ℕ)
    (ahead : (s : S) (es : List E) → F.Ready s es → live s ≡ true → All (λ e. time s ≤ clock e) es) where
  pub good_timed : (t₀ t₁ : ℕ) (s : S) (ns : List (Note ℕ E)) → Good F s ns []
      → Past F.reader (within clock t₀ t₁) (reached live time t₁) s (words_of F.size (noted_bytes F L ns))
  good_timed t₀ t₁ = good_past F L (within clock t₀ t₁) (reached live time t₁) (λ s es rd d. over_time live time t₁ clock t₀ s es (ahead s es rd) d)
