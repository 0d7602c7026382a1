-- Laws of texts: where they part, trimming, names; and the loops of src/text.rt over them.
use Prim.Native.Nat.{ℕ, suc, ◌+◌, ◌-◌, ◌<◌, ◌≤◌}
use mathlib.Core.Path.{◌≡◌, refl, sym, ◌∙◌, ap}
use mathlib.Core.List.{List, [], ◌∷◌, ◌++◌, reverse, reverse-append, reverse-reverse}
use mathlib.Core.Bool.{Bool, true, false, and-false}
use native.Mathlib.Numerals.{add-one}
use native.Mathlib.Omega.{arith}
use lib.ListN.{length, get_or, take, drop, length-drop, drop_of_length-le}
use lib.Seq.{take_all, drop-cons, drop-drop, take-suc}
use lib.Dec.{ltb, leb-suc-suc}
use borrow.Author.Tests.{lt-ltb, le-ltb, ltb-false}
use Rattle.std.specs.Prelude.{Option, Some, None, unwrap_or}
use Rattle.std.specs.List.{list_all, zip, position, position_or_len}
use Rattle.std.proofs.lemmas.List.Recursion.{is_position_or_len}
use mathlib.Core.Bool.{cond}
use Rattle.std.specs.Char.{to_ascii_lowercase}
use Rattle.std.specs.Prelude.{nat_eq}
use Rattle.std.proofs.Common.{append_assoc, append-nil, take-append-drop, get_or-drop}
use Rattle.header_text.specs.Cases.{by_bool}
use Rattle.header_text.specs.Text.{is_blank, up_to, from, any, rest_of, trim_start, trim_end, lower_of, begins}

pub at_drop : (s : List ℕ) (i : ℕ) → i < length s → drop i s ≡ get_or s i 0 ∷ drop (i + 1) s
at_drop s i h = rw (add-one, drop-cons s i 0)

pub at-end : (s : List ℕ) (i : ℕ) → length s ≤ i → drop i s ≡ []
at-end s i h = drop_of_length-le s h

pub tail-part : (s : List ℕ) (k : ℕ) → k ≤ length s → take (length s - k) (drop k s) ≡ drop k s
tail-part s k h = take_all (length s - k) (drop k s) (omega (arith, length-drop k s))

-- ---- where a text parts

pub up_to-le : (p : ℕ → Bool) (s : List ℕ) → length (up_to p s) ≤ length s
unfolding up_to
up_to-le p [] = omega arith
up_to-le p (b ∷ s) = by_bool (p b) (λ e. rw e (omega arith)) (λ e. rw e (omega (arith, up_to-le p s)))

pub take-up_to : (p : ℕ → Bool) (s : List ℕ) → take (length (up_to p s)) s ≡ up_to p s
unfolding up_to
take-up_to p [] = refl
take-up_to p (b ∷ s) = by_bool (p b) (λ e. rw e) (λ e. rw e (ap (λ (t : List ℕ). b ∷ t) (take-up_to p s)))

pub drop-up_to : (p : ℕ → Bool) (s : List ℕ) → drop (length (up_to p s)) s ≡ from p s
unfolding up_to from
drop-up_to p [] = refl
drop-up_to p (b ∷ s) = by_bool (p b) (λ e. rw e) (λ e. rw e (drop-up_to p s))

pub lt-up_to : (p : ℕ → Bool) (s : List ℕ) → ltb (length (up_to p s)) (length s) ≡ any p s
unfolding up_to any
lt-up_to p [] = le-ltb 0 0 (omega arith)
lt-up_to p (b ∷ s) =
    by_bool (p b) (λ e. rw e (lt-ltb 0 (suc (length s)) (omega arith)))
    (λ e. rw e (leb-suc-suc (suc (length (up_to p s))) (length s) ∙ lt-up_to p s))

more-up_to : (p : ℕ → Bool) (b : ℕ) (s : List ℕ) → length (up_to p (b ∷ s)) ≡ cond (p b) 0 (1 + length (up_to p s))
unfolding up_to
more-up_to p b s = by_bool (p b) (λ e. rw e) (λ e. rw e (omega arith))

-- as `position` finds it
pub position-up_to : (p : ℕ → Bool) (s : List ℕ) → position p s ≡ cond (any p s) (Some (length (up_to p s))) None
unfolding up_to
position-up_to p s =
    let is : length (up_to p s) ≡ position_or_len p s = is_position_or_len (λ t. length (up_to p t)) p refl (more-up_to p) s in
    rw (← is, lt-up_to p s)

pub found-up_to : (p : ℕ → Bool) (s : List ℕ) (r : Option ℕ) → r ≡ position p s → unwrap_or r (length s) ≡ length (up_to p s)
found-up_to p s r e =
    rw (e, position-up_to p s)
    (by_bool (any p s) (λ h. rw h) (λ h. rw h (omega (arith, up_to-le p s, ltb-false (length (up_to p s)) (length s) (lt-up_to p s ∙ h)))))

drop-one : (s : List ℕ) → drop 1 s ≡ rest_of s
unfolding rest_of
drop-one [] = refl
drop-one (b ∷ s) = refl

-- n bytes stand before the first with the property, or there is none
module _ (p : ℕ → Bool) (s : List ℕ) (n : ℕ) (e : n ≡ length (up_to p s)) where
  pub count-le : n ≤ length s
  count-le = omega (arith, up_to-le p s)

  pub count-take : take n s ≡ up_to p s
  count-take = rw e (take-up_to p s)

  pub count-drop : take (length s - n) (drop n s) ≡ from p s
  count-drop = tail-part s n count-le ∙ rw e (drop-up_to p s)

  pub rest-after : drop (n + 1) s ≡ rest_of (from p s)
  rest-after =
      let d : drop n s ≡ from p s = rw e (drop-up_to p s) in
      sym (drop-drop 1 n s) ∙ drop-one (drop n s) ∙ ap rest_of d

-- ---- trimming the end

pub trim_dark : (s : List ℕ) (b : ℕ) → is_blank b ≡ false → trim_end (s ++ (b ∷ [])) ≡ s ++ (b ∷ [])
unfolding trim_end trim_start from
trim_dark s b e = rw (reverse-append s (b ∷ [])) (rw e (sym (ap reverse (reverse-append s (b ∷ []))) ∙ reverse-reverse (s ++ (b ∷ []))))

pub trim_blank : (s : List ℕ) (b : ℕ) → is_blank b ≡ true → trim_end (s ++ (b ∷ [])) ≡ trim_end s
unfolding trim_end trim_start from
trim_blank s b e = rw (reverse-append s (b ∷ [])) (rw e)

-- the byte n is the last that isn't blank, or there is none
trim_blanks : (s t : List ℕ) → ((k : ℕ) → k < length t → is_blank (get_or t k 0) ≡ true) → trim_end (s ++ t) ≡ trim_end s
trim_blanks s [] blanks = ap trim_end (append-nil s)
trim_blanks s (b ∷ t) blanks =
    ap trim_end (sym (append_assoc s (b ∷ []) t))
    ∙ trim_blanks (s ++ (b ∷ [])) t (λ k h. blanks (suc k) (omega arith)) ∙ trim_blank s b (blanks 0 (omega arith))

pub trim_last : (s : List ℕ) (n : ℕ) → n < length s → is_blank (get_or s n 0) ≡ false
    → ((k : ℕ) → n + 1 ≤ k → k < length s → is_blank (get_or s k 0) ≡ true) → take (n + 1) s ≡ trim_end s
trim_last s n h here after =
    let last : take (n + 1) s ≡ take n s ++ (get_or s n 0 ∷ []) = rw add-one (take-suc s n 0 h) in
    let blanks : trim_end (take (n + 1) s ++ drop (n + 1) s) ≡ trim_end (take (n + 1) s) =
    trim_blanks (take (n + 1) s) (drop (n + 1) s)
    (λ k l. rw (get_or-drop (n + 1) s k 0) (after (n + 1 + k) (omega arith) (omega (arith, length-drop (n + 1) s)))) in
    sym (ap trim_end (sym (take-append-drop (n + 1) s)) ∙ blanks ∙ ap trim_end last ∙ trim_dark (take n s) (get_or s n 0) here ∙ sym last)

pub trim_none : (s : List ℕ) → ((k : ℕ) → k < length s → is_blank (get_or s k 0) ≡ true) → [] ≡ trim_end s
unfolding trim_end trim_start from
trim_none s none = sym (trim_blanks [] s none)

-- ---- names

pub begins-short : (name s : List ℕ) → length s < length name → begins name s ≡ false
unfolding begins
begins-short [] s h = absurd (omega arith)
begins-short (n ∷ name) [] h = refl
begins-short (n ∷ name) (b ∷ s) h = rw (begins-short name s (omega arith), and-false)

-- a byte of the text against one of the name
abbrev pub named : ℕ × ℕ → Bool
named p = nat_eq (to_ascii_lowercase p.0) p.1

lower-same : (b : ℕ) → to_ascii_lowercase b ≡ lower_of b
unfolding lower_of
lower-same b = grind arith

pub begins-zip : (name s : List ℕ) → length name ≤ length s → list_all named (zip s name) ≡ begins name s
unfolding begins
begins-zip [] [] h = refl
begins-zip [] (b ∷ s) h = refl
begins-zip (n ∷ name) [] h = absurd (omega arith)
begins-zip (n ∷ name) (b ∷ s) h = rw (lower-same b, begins-zip name s (omega arith))
