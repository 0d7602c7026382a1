-- Words of n bytes, the low byte first. A last word that is broken off is no word.
use Rattle.std.specs.Prelude.{◌≡◌, refl, ◌↔◌, List, [], ◌∷◌, ◌++◌, ℕ, zero, suc, ◌+◌, ◌*◌, ◌/◌, ◌%◌, ◌^◌, ◌≤◌, ◌<◌, length, take, drop, get_or}
use Rattle.std.proofs.Common.{sym, ap, ◌∙◌, append_assoc, arith, zero-add, suc-add, suc-mul, zero-mul, div-add-mod', le-div_iff_mul-le, add-one, length-append, length-drop, take_at, drop_at, take-add, drop-cons, drop-drop}
use Rattle.std.proofs.Math.Nat.{div-eq_of_eq-mul_left, div-eq-sub-div, mul-add-div_right, div-eq_of_lt}
use Rattle.std.proofs.Math.Seq.{take-append-add, drop-append-add, take-nil, drop-nil}
use Rattle.std.proofs.lemmas.List.{take-append-le, drop-append-le}
use Rattle.laws_stream.specs.Machine.{All}

abbrev pub bytes : ℕ → ℕ → List ℕ
bytes zero w = []
bytes (suc n) w = w % 256 ∷ bytes n (w / 256)

abbrev pub value : List ℕ → ℕ
value [] = 0
value (b ∷ bs) = b + value bs * 256

pub length-bytes : (n w : ℕ) → length (bytes n w) ≡ n
length-bytes zero w = refl
length-bytes (suc n) w = ap suc (length-bytes n (w / 256))

pub value-bytes : (n w : ℕ) → w < 256 ^ n → value (bytes n w) ≡ w
value-bytes zero w h = omega arith
value-bytes (suc n) w h =
    let ih = value-bytes n (w / 256) (omega arith) in
    omega (arith, ih)

-- of the bytes at i and after
pub value-next : (k : ℕ) (l : List ℕ) (i : ℕ) → i < length l → value (take (suc k) (drop i l)) ≡ get_or l i 0 + value (take k (drop (suc i) l)) * 256
value-next k l i h = rw (drop-cons l i 0 h)

pub value-two : (l : List ℕ) (i : ℕ) → i + 2 ≤ length l → value (take 2 (drop i l)) ≡ get_or l i 0 + get_or l (i + 1) 0 * 256
value-two l i h =
    let a = value-next 1 l i (omega arith) in
    let b = value-next 0 l (suc i) (omega arith) in
    rw add-one (omega (arith, a, b))

pub value_four : (l : List ℕ) (i : ℕ) → i + 4 ≤ length l
    → value (take 4 (drop i l)) ≡ get_or l i 0 + get_or l (i + 1) 0 * 256 + get_or l (i + 2) 0 * 65536 + get_or l (i + 3) 0 * 16777216
value_four l i h =
    let a = value-next 3 l i (omega arith) in
    let b = value-next 2 l (suc i) (omega arith) in
    let c = value-next 1 l (suc (suc i)) (omega arith) in
    let d = value-next 0 l (suc (suc (suc i))) (omega arith) in
    let e : i + 2 ≡ suc (suc i) = omega arith in
    let f : i + 3 ≡ suc (suc (suc i)) = omega arith in
    rw (add-one, e, f) (omega (arith, a, b, c, d))

-- by its halves
pub value_eight : (l : List ℕ) (i : ℕ) → i + 8 ≤ length l → value (take 8 (drop i l)) ≡ value (take 4 (drop i l)) + value (take 4 (drop (i + 4) l)) * 4294967296
value_eight l i h =
    let a = value-next 7 l i (omega arith) in
    let b = value-next 6 l (suc i) (omega arith) in
    let c = value-next 5 l (suc (suc i)) (omega arith) in
    let d = value-next 4 l (suc (suc (suc i))) (omega arith) in
    let e : i + 1 ≡ suc i = omega arith in
    let f : i + 2 ≡ suc (suc i) = omega arith in
    let g : i + 3 ≡ suc (suc (suc i)) = omega arith in
    let k : i + 4 ≡ suc (suc (suc (suc i))) = omega arith in
    rw (value_four l i (omega arith), e, f, g, k) (omega (arith, a, b, c, d))

empty : (a : List ℕ) → length a ≡ 0 → a ≡ []
empty [] h = refl
empty (x ∷ a) h = absurd (omega arith)

module _ (n : ℕ) where
  abbrev pub Fits : ℕ → Type 0
  Fits w = w < 256 ^ n

  abbrev pub stream : List ℕ → List ℕ
  stream [] = []
  stream (w ∷ ws) = bytes n w ++ stream ws

  -- the first k words
  abbrev pub parse : ℕ → List ℕ → List ℕ
  parse zero l = []
  parse (suc k) l = value (take n l) ∷ parse k (drop n l)

  abbrev pub words_of : List ℕ → List ℕ
  words_of l = parse (length l / n) l

  length-parse : (k : ℕ) (l : List ℕ) → length (parse k l) ≡ k
  length-parse zero l = refl
  length-parse (suc k) l = ap suc (length-parse k (drop n l))

  pub length-words : (l : List ℕ) → length (words_of l) ≡ length l / n
  length-words l = length-parse (length l / n) l

  pub stream-append : (a b : List ℕ) → stream (a ++ b) ≡ stream a ++ stream b
  stream-append [] b = refl
  stream-append (w ∷ a) b = rw (stream-append a b, append_assoc)

  pub length-stream : (ws : List ℕ) → length (stream ws) ≡ length ws * n
  length-stream [] = sym (zero-mul n)
  length-stream (w ∷ ws) = length-append (bytes n w) (stream ws) ∙ rw (length-bytes n w, length-stream ws, suc-mul) (omega arith)

  skip : (k w : ℕ) → suc k * n ≡ length (bytes n w) + k * n
  skip k w = rw length-bytes (omega arith)

  pub take-stream-words : (k : ℕ) (ws : List ℕ) → take (k * n) (stream ws) ≡ stream (take k ws)
  take-stream-words zero ws = rw zero-mul
  take-stream-words (suc k) [] = take-nil (suc k * n)
  take-stream-words (suc k) (w ∷ ws) =
      ap (λ (j : ℕ). take j (bytes n w ++ stream ws)) (skip k w) ∙ take-append-add (bytes n w) (stream ws) (k * n)
      ∙ ap (λ (l : List ℕ). bytes n w ++ l) (take-stream-words k ws)

  pub drop-stream-words : (k : ℕ) (ws : List ℕ) → drop (k * n) (stream ws) ≡ stream (drop k ws)
  drop-stream-words zero ws = rw zero-mul
  drop-stream-words (suc k) [] = drop-nil (suc k * n)
  drop-stream-words (suc k) (w ∷ ws) =
      ap (λ (j : ℕ). drop j (bytes n w ++ stream ws)) (skip k w) ∙ drop-append-add (bytes n w) (stream ws) (k * n) ∙ drop-stream-words k ws

  pub take-stream : (c : ℕ) (ws : List ℕ) → take c (stream ws) ≡ stream (take (c / n) ws) ++ take (c % n) (stream (drop (c / n) ws))
  take-stream c ws =
      ap (λ (j : ℕ). take j (stream ws)) (sym (div-add-mod' c n)) ∙ take-add (c / n * n) (c % n) (stream ws)
      ∙ rw (take-stream-words (c / n) ws, drop-stream-words (c / n) ws)

  -- k words, and what follows
  pub parse-append : (k m : ℕ) (a b : List ℕ) → length a ≡ k * n → parse (k + m) (a ++ b) ≡ parse k a ++ parse m b
  parse-append zero m a b h = rw (zero-add, empty a (h ∙ zero-mul n))
  parse-append (suc k) m a b h =
      let le : n ≤ length a = omega arith in
      let ih = parse-append k m (drop n a) b (length-drop n a ∙ omega arith) in
      rw (suc-add, take-append-le n a b le, drop-append-le n a b le, ih)

  pub parse-stream : (ws : List ℕ) → All Fits ws → parse (length ws) (stream ws) ≡ ws
  parse-stream [] h = refl
  parse-stream (w ∷ ws) h =
      rw (
        take_at (bytes n w) (stream ws) n (length-bytes n w),
        drop_at (bytes n w) (stream ws) n (length-bytes n w),
        value-bytes n w h.0,
        parse-stream ws h.1,
      )

  module _ (pos : 0 < n) where
    -- word k is among the first c / n where its last byte is among the first c
    pub whole : (c k : ℕ) → (k < c / n) ↔ (suc k * n ≤ c)
    whole c k = le-div_iff_mul-le pos

    -- a loop over the bytes l that stands at i: the next word, or none
    pub words-next : (l : List ℕ) (i : ℕ) → i + n ≤ length l → words_of (drop i l) ≡ value (take n (drop i l)) ∷ words_of (drop (i + n) l)
    words-next l i h =
        let le : n ≤ length (drop i l) = rw length-drop (omega arith) in
        let e : length (drop i l) / n ≡ suc (length (drop n (drop i l)) / n) = div-eq-sub-div pos le ∙ rw (add-one, length-drop n (drop i l)) in
        rw (e, drop-drop n i l)

    pub words-end : (l : List ℕ) (i : ℕ) → length l < i + n → words_of (drop i l) ≡ []
    words-end l i h =
        let z : length (drop i l) / n ≡ 0 = div-eq_of_lt (rw length-drop (omega arith)) in
        rw z

    -- what follows a whole number of words
    pub words_of-append : (k : ℕ) (a b : List ℕ) → length a ≡ k * n → words_of (a ++ b) ≡ words_of a ++ words_of b
    words_of-append k a b h =
        let ea : length a / n ≡ k = div-eq_of_eq-mul_left pos h in
        let e : length (a ++ b) / n ≡ k + length b / n = rw (length-append, h) (mul-add-div_right pos k (length b)) in
        rw (e, ea) (parse-append k (length b / n) a b h)

    pub words_of-stream : (ws : List ℕ) → All Fits ws → words_of (stream ws) ≡ ws
    words_of-stream ws h = rw (div-eq_of_eq-mul_left pos (length-stream ws)) (parse-stream ws h)
