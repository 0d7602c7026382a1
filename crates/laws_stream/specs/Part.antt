-- Parts of a list: what stands from index i to before e, `&l[i..e]`, and what is left from i on, `&l[i..]`.
use Rattle.std.specs.Prelude.{◌≡◌, List, [], ◌∷◌, ◌++◌, ℕ, suc, ◌+◌, ◌-◌, ◌≤◌, ◌<◌, length, get_or, take, drop}
use Rattle.std.proofs.Common.{sym, ap, ◌∙◌, arith, add-one, length-take, length-drop, take-append-drop, drop-cons, drop-drop, get_or-take, get_or-drop, take_all}

abbrev pub between : {A : Type 0} → List A → (i e : ℕ) → List A
between l i e = take (e - i) (drop i l)

pub rest_of : {A : Type 0} (l : List A) (i : ℕ) → take (length l - i) (drop i l) ≡ drop i l
rest_of l i = take_all (length l - i) (drop i l) (omega (arith, length-drop i l))

module _ {A : Type 0} (l : List A) (i e : ℕ) where
  pub between-rest : i ≤ e → between l i e ++ drop e l ≡ drop i l
  between-rest h =
      let n : i + (e - i) ≡ e = omega arith in
      sym (ap (λ (r : List A). between l i e ++ r) (drop-drop (e - i) i l ∙ ap (λ (k : ℕ). drop k l) n)) ∙ take-append-drop (e - i) (drop i l)

  pub between-at : (d : A) → i < e → e ≤ length l → between l i e ≡ get_or l i d ∷ between l (i + 1) e
  between-at d h k =
      let n : e - i ≡ suc (e - suc i) = omega arith in
      rw (add-one, drop-cons l i d (omega arith), n)

  pub between-end : e ≤ i → between l i e ≡ []
  between-end h = let n : e - i ≡ 0 = omega arith in rw n

  pub between_get_d : (d : A) (k : ℕ) → i + k < e → get_or (between l i e) k d ≡ get_or l (i + k) d
  between_get_d d k h = let n : k < e - i = omega arith in rw (get_or-take (e - i) (drop i l) k d n, get_or-drop)

  pub length-between : i ≤ e → e ≤ length l → length (between l i e) ≡ e - i
  length-between h k = rw (length-take, length-drop) (omega arith)

  pub between_few : length (between l i e) ≤ length l
  between_few = omega (arith, length-take (e - i) (drop i l), length-drop i l)
