-- Laws of texts that are put together: their first byte of a class, their blanks, their lines.
use Rattle.std.proofs.Common.{◌≡◌, refl, Bool, true, false, cond, ℕ, ap, true≢false, List, [], ◌∷◌, ◌++◌, append_assoc}
use Rattle.header_text.specs.{Cases.by_bool, Text.is_blank, Text.is_byte, Text.up_to, Text.from, Text.any, Text.trim_end}
use Rattle.header_text.proofs.TextLaws.{trim_dark}
use Rattle.header.specs.Lines.{is_end, joined, lines_of, starts_percent, leading, through_end, header_lines}

-- ---- the first byte of a class

module _ (p : ℕ → Bool) where
  none_cons : (b : ℕ) (s : List ℕ) → any p (b ∷ s) ≡ false → (p b ≡ false) × (any p s ≡ false)
  unfolding any
  none_cons b s h = by_bool (p b) (λ e. absurd (true≢false (rw e at h))) (λ e. (e, rw e at h))

  pub none_append : (s t : List ℕ) → any p s ≡ false → any p t ≡ false → any p (s ++ t) ≡ false
  unfolding any
  none_append [] t a b = b
  none_append (x ∷ s) t a b = let n = none_cons x s a in rw n.0 (none_append s t n.1 b)

  -- a text whose first byte of the class is the b between s and t
  pub record Parted (s t : List ℕ) (b : ℕ) : Type 0 where
    pub found : any p (s ++ (b ∷ t)) ≡ true
    pub front : up_to p (s ++ (b ∷ t)) ≡ s
    pub rest : from p (s ++ (b ∷ t)) ≡ b ∷ t

  pub parted : (s t : List ℕ) (b : ℕ) → any p s ≡ false → p b ≡ true → Parted s t b
  unfolding any up_to from
  parted [] t b a e = record { found = rw e; front = rw e; rest = rw e }
  parted (x ∷ s) t b a e =
      let n = none_cons x s a in
      let r = parted s t b n.1 e in
      record { found = rw n.0 r.found; front = rw n.0 (ap (λ (l : List ℕ). x ∷ l) r.front); rest = rw n.0 r.rest }

-- ---- trimming

-- a last byte that is no blank, after any other bytes
pub ends_dark : (s t : List ℕ) (b : ℕ) → is_blank b ≡ false → trim_end (s ++ (t ++ (b ∷ []))) ≡ s ++ (t ++ (b ∷ []))
ends_dark s t b e = rw (← append_assoc s t (b ∷ [])) (trim_dark (s ++ t) b e)

-- ---- lines

line_first : (s t : List ℕ) → any (is_byte 10) s ≡ false → lines_of (s ++ (10 ∷ t)) ≡ (s ++ (10 ∷ [])) ∷ lines_of t
unfolding lines_of joined
line_first [] t a = refl
line_first (b ∷ s) t a = let n = none_cons (is_byte 10) b s a in rw (n.0, line_first s t n.1)

-- a line that begins with `%` is the header's, and unless it is an end line what follows it goes on
pub header_line : (s t : List ℕ) → any (is_byte 10) s ≡ false
    → header_lines (37 ∷ (s ++ (10 ∷ t))) ≡ (37 ∷ (s ++ (10 ∷ []))) ∷ cond (is_end (37 ∷ (s ++ (10 ∷ [])))) [] (header_lines t)
unfolding header_lines through_end leading starts_percent any
header_line s t a = rw (line_first (37 ∷ s) t a)
