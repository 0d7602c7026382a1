-- EVT3: the masks of a run's vector words, five at a time: 60 columns are the bits of one number.
use Rattle.std.specs.Prelude.{◌≡◌, Bool, true, false, cond, ltb, get_or}
use Rattle.std.proofs.Math.Path.{refl, ap}
use Rattle.std.proofs.Common.{sym, subst, ◌∙◌, zero-add, suc-add, pow-add, ltb-true, ltb-false}
use mathlib.Core.List.{List, [], ◌∷◌, ◌++◌}
use Prim.Native.Nat.{ℕ, zero, suc, ◌+◌, ◌-◌, ◌*◌, ◌/◌, ◌%◌, ◌^◌, ◌≤◌, ◌<◌}
use native.Mathlib.Omega.{arith}
use Rattle.std.proofs.Math.ListN.{length}
use Rattle.std.proofs.lemmas.List.Edits.{sets}
use Rattle.laws_stream.specs.{Part.between, Part.between-at, Part.between-end, Mask.Inc, Mask.mask, Mask.mask_lt, Words.stream, Words.bytes}
use Rattle.laws_stream.specs.{Words.stream-append}
use Rattle.evt_types.specs.Layout.{word_size3, word3}
use Rattle.evt3_run_words.specs.declared.MaskBits.{MaskBits}
use Rattle.evt3_run_rules.specs.Runs.{Rising, first_x, last_x}
use Rattle.evt3_lead_words.specs.Evt3.{mask_word3, nearby, beyond}
use Rattle.write_buffer.specs.Storing.{Roomy, Storing, storing_start, storing_iteration, storing_room, storing_end}
use Rattle.evt3_run_words.specs.Parts.{Part, mask_words, mask_bytes, first_is, last_is, nearby_in, nearby_out, beyond_in, beyond_out}

-- the words of k masks of 12 columns, from the bits of these columns
unfoldable pub digit_words : (k m : ℕ) → List ℕ
digit_words zero m = []
digit_words (suc k) m = word3 4 (m % 4096) ∷ digit_words k (m / 4096)

abbrev pub digit_bytes : (k m : ℕ) → List ℕ
digit_bytes k m = stream word_size3 (digit_words k m)

pub digits-length : (k m : ℕ) → length (digit_bytes k m) ≡ word_size3 * k
unfolding digit_words
digits-length zero m = refl
digits-length (suc k) m = omega (arith, digits-length k (m / 4096))

-- ---- the front of a list up to a limit, and the rest

near_as : (c : Bool) (mid b to x : ℕ) (l : List ℕ) → ltb x mid ≡ c → b ≤ x → x < to → Inc (suc x) to l
    → Inc (suc x) mid (nearby mid l) × Inc mid to (beyond mid l) → Inc b mid (cond c (x ∷ nearby mid l) []) × Inc mid to (cond c (beyond mid l) (x ∷ l))
near_as true mid b to x l q h k i ih = ((h, ltb-true x mid q, ih.0), ih.1)
near_as false mid b to x l q h k i ih = (tt, (ltb-false x mid q, k, i))

-- of rising numbers
pub near_inc : (mid b to : ℕ) (l : List ℕ) → Inc b to l → Inc b mid (nearby mid l) × Inc mid to (beyond mid l)
unfolding nearby beyond
near_inc mid b to [] i = (tt, tt)
near_inc mid b to (x ∷ l) i = near_as (ltb x mid) mid b to x l refl i.0 i.1 i.2 (near_inc mid (suc x) to l i.2)

module _ (mid to : ℕ) (h : mid ≤ to) where
  split_as : (c : Bool) (x : ℕ) (l : List ℕ) → ltb x mid ≡ c → nearby to l ≡ nearby mid l ++ nearby to (beyond mid l) → beyond to (beyond mid l) ≡ beyond to l
      → (nearby to (x ∷ l) ≡ cond c (x ∷ nearby mid l) [] ++ nearby to (cond c (beyond mid l) (x ∷ l)))
      × (beyond to (cond c (beyond mid l) (x ∷ l)) ≡ beyond to (x ∷ l))
  split_as true x l q n f =
      let lt : x < to = omega (arith, ltb-true x mid q) in
      (nearby_in to x l lt ∙ ap (λ (k : List ℕ). x ∷ k) n, f ∙ sym (beyond_in to x l lt))
  split_as false x l q n f = (refl, refl)

  -- through a lower limit
  pub near_split : (l : List ℕ) → (nearby to l ≡ nearby mid l ++ nearby to (beyond mid l)) × (beyond to (beyond mid l) ≡ beyond to l)
  unfolding nearby beyond
  near_split [] = (refl, refl)
  near_split (x ∷ l) = let ih = near_split l in split_as (ltb x mid) x l refl ih.0 ih.1

-- below all is nothing
beyond-all : (b to : ℕ) (l : List ℕ) → Inc b to l → beyond b l ≡ l
unfolding beyond
beyond-all b to [] i = refl
beyond-all b to (x ∷ l) i = beyond_out b x l i.0

-- ---- 12 bits of a mask, and the rest

mask_append : (b : ℕ) (l k : List ℕ) → mask b (l ++ k) ≡ mask b l + mask b k
mask_append b [] k = omega arith
mask_append b (x ∷ l) k = omega (arith, mask_append b l k)

mask-high : (b from to : ℕ) (l : List ℕ) → b + 12 ≤ from → Inc from to l → mask b l ≡ 4096 * mask (b + 12) l
mask-high b from to [] h i = refl
mask-high b from to (x ∷ l) h i =
    let n : x - b ≡ 12 + (x - (b + 12)) = omega (arith, i.0) in
    let p : 2 ^ (x - b) ≡ 4096 * 2 ^ (x - (b + 12)) = ap (λ (k : ℕ). 2 ^ k) n ∙ pow-add 2 12 (x - (b + 12)) in
    omega (arith, p, mask-high b (suc x) to l (omega (arith, i.0)) i.2)

module _ (b top lim : ℕ) (l : List ℕ) (h : b + 12 ≤ lim) (i : Inc b top l) where
  mask_parts : mask b (nearby lim l) ≡ mask b (nearby (b + 12) l) + 4096 * mask (b + 12) (nearby lim (beyond (b + 12) l))
  mask_parts =
      let far = (near_inc lim (b + 12) top (beyond (b + 12) l) (near_inc (b + 12) b top l i).1).0 in
      ap (mask b) (near_split (b + 12) lim h l).0 ∙ mask_append b (nearby (b + 12) l) (nearby lim (beyond (b + 12) l))
      ∙ ap (λ (n : ℕ). mask b (nearby (b + 12) l) + n) (mask-high b (b + 12) lim (nearby lim (beyond (b + 12) l)) (omega arith) far)

  pub mask_low : mask b (nearby lim l) % 4096 ≡ mask b (nearby (b + 12) l) % 4096
  mask_low = omega (arith, mask_parts)

  pub mask-rest : mask b (nearby lim l) / 4096 ≡ mask (b + 12) (nearby lim (beyond (b + 12) l))
  mask-rest = omega (arith, mask_parts, mask_lt 12 b (b + 12) b (nearby (b + 12) l) (omega arith) (omega arith) (near_inc (b + 12) b top l i).0)

-- THE MASKS of the first k vector words are the digits of the bits up to a limit
pub masks-digits : (k n b top lim : ℕ) (l : List ℕ) → b + 12 * k ≤ lim → Inc b top l
    → mask_words (k + n) b l ≡ digit_words k (mask b (nearby lim l)) ++ mask_words n (b + 12 * k) (beyond (b + 12 * k) l)
unfolding mask_words digit_words
masks-digits zero n b top lim l h i =
    let z : b + 12 * 0 ≡ b = omega arith in
    rw (zero-add, z, beyond-all b top l i)
masks-digits (suc k) n b top lim l h i =
    let le : b + 12 ≤ lim = omega arith in
    let far = (near_inc (b + 12) b top l i).1 in
    let ih = masks-digits k n (b + 12) top lim (beyond (b + 12) l) (omega arith) far in
    let to : b + 12 + 12 * k ≡ b + 12 * suc k = omega arith in
    let rest : beyond (b + 12 * suc k) (beyond (b + 12) l) ≡ beyond (b + 12 * suc k) l = (near_split (b + 12) (b + 12 * suc k) (omega arith) l).1 in
    rw (suc-add, mask_low b top lim l le i, mask-rest b top lim l le i) (ap (λ (r : List ℕ). mask_word3 b (nearby (b + 12) l) ∷ r) (ih ∙ rw (to, rest)))

-- ---- the columns of a run

pub inc_to : (b to top : ℕ) (l : List ℕ) → to ≤ top → Inc b to l → Inc b top l
inc_to b to top [] h i = tt
inc_to b to top (x ∷ l) h i = (i.0, omega (arith, i.1), inc_to (suc x) to top l h i.2)

pub rising_inc : (xs : List ℕ) (i e top : ℕ) → i < e → e ≤ length xs → get_or xs (e - 1) 0 < top → Rising (between xs i e)
    → Inc (get_or xs i 0) top (between xs i e)
rising_inc xs i e top h f l r =
    let part = between xs i e in
    rw (← first_is xs i e h f) (inc_to (first_x part) (suc (last_x part)) top part (rw (last_is xs i e h f) (omega arith)) r.rises)

-- ---- the bits of 60 columns

-- those from b on, of the numbers from `from` on
pub record NextMasks (xs : List ℕ) (from e b : ℕ) (w : MaskBits) : Type 0 where
  pub is_mask : w.mask ≡ mask b (nearby (b + 60) (between xs from e))
  pub is_rest : between xs w.next e ≡ beyond (b + 60) (between xs from e)
  pub within : w.next ≤ e

inc_from : (a b to : ℕ) (l : List ℕ) → a ≤ b → Inc b to l → Inc a to l
inc_from a b to [] h i = tt
inc_from a b to (x ∷ l) h i = (omega (arith, i.0), i.1, i.2)

pub record Scanning (xs : List ℕ) (from e b top m c : ℕ) : Type 0 where
  pub below : c ≤ e
  pub rise : Inc b top (between xs c e)
  pub sum : m + mask b (nearby (b + 60) (between xs c e)) ≡ mask b (nearby (b + 60) (between xs from e))
  pub rest : beyond (b + 60) (between xs c e) ≡ beyond (b + 60) (between xs from e)

module _ {xs : List ℕ} {from e b top : ℕ} (part : Part xs from e 0) (rising : Inc b top (between xs from e)) where
  pub scan_start : Scanning xs from e b top 0 from
  scan_start = record { below = part.low; rise = rising; sum = omega arith; rest = refl }

  module _ {m c : ℕ} (s : Scanning xs from e b top m c) where
    abbrev x : ℕ
    x = get_or xs c 0

    here : c < e → between xs c e ≡ x ∷ between xs (c + 1) e
    here h = between-at xs c e 0 h part.high

    rise_here : c < e → Inc b top (x ∷ between xs (c + 1) e)
    rise_here h = rw (here h) at s.rise

    pub scan_low : c < e → b ≤ x
    scan_low h = (rise_here h).0

    near : c < e → x < b + 60 → nearby (b + 60) (between xs c e) ≡ x ∷ nearby (b + 60) (between xs (c + 1) e)
    near h k = ap (nearby (b + 60)) (here h) ∙ nearby_in (b + 60) x (between xs (c + 1) e) k

    pub scan_small : c < e → x < b + 60 → m + 2 ^ (x - b) < 2 ^ 60
    scan_small h k =
        let lt =
        mask_lt 60 b (b + 60) b (nearby (b + 60) (between xs from e)) (omega arith) (omega arith) (near_inc (b + 60) b top (between xs from e) rising).0 in
        omega (arith, lt, s.sum, ap (mask b) (near h k))

    pub scan_iteration : c < e → x < b + 60 → (d : ℕ) → d ≡ 2 ^ (x - b) → Scanning xs from e b top (m + d) (c + 1)
    scan_iteration h k d q =
        let r = rise_here h in
        let far : beyond (b + 60) (between xs c e) ≡ beyond (b + 60) (between xs (c + 1) e) =
        ap (beyond (b + 60)) (here h) ∙ beyond_in (b + 60) x (between xs (c + 1) e) k in
        record {
          below = omega arith;
          rise = inc_from b (suc x) top (between xs (c + 1) e) (omega (arith, r.0)) r.2;
          sum = omega (arith, ap (mask b) (near h k), s.sum);
          rest = sym far ∙ s.rest;
        }

    stop : nearby (b + 60) (between xs c e) ≡ [] → beyond (b + 60) (between xs c e) ≡ between xs c e → NextMasks xs from e b (record { mask = m; next = c })
    stop n f = record { is_mask = omega (arith, ap (mask b) n, s.sum); is_rest = sym f ∙ s.rest; within = s.below }

    pub scan_out : c < e → b + 60 ≤ x → NextMasks xs from e b (record { mask = m; next = c })
    scan_out h k =
        stop (ap (nearby (b + 60)) (here h) ∙ nearby_out (b + 60) x (between xs (c + 1) e) k)
        (ap (beyond (b + 60)) (here h) ∙ beyond_out (b + 60) x (between xs (c + 1) e) k ∙ sym (here h))

    pub scan_end : e ≤ c → NextMasks xs from e b (record { mask = m; next = e })
    unfolding nearby beyond
    scan_end h =
        let all : c ≡ e = omega (arith, s.below) in
        subst (λ (n : ℕ). NextMasks xs from e b (record { mask = m; next = n })) all (stop (rw (between-end xs c e h)) (rw (between-end xs c e h)))

-- ---- the digits of one number

pub record Digiting (k m₀ : ℕ) (out₀ : List ℕ) (at : ℕ) (out : List ℕ) (a m left : ℕ) : Type 0 where
  pub place : a + word_size3 * left ≡ at + word_size3 * k
  pub storing : Storing (digit_bytes k m₀) at out₀ (digit_bytes left m) a out

module _ {k m₀ : ℕ} {out₀ : List ℕ} {at : ℕ} where
  pub digit_start : Digiting k m₀ out₀ at out₀ at m₀ k
  digit_start = record { place = refl; storing = storing_start }

  module _ {out : List ℕ} {a m left : ℕ} (s : Digiting k m₀ out₀ at out a m left) where
    next : 0 < left → digit_bytes left m ≡ bytes word_size3 (word3 4 (m % 4096)) ++ digit_bytes (left - 1) (m / 4096)
    unfolding digit_words
    next h = let n : left ≡ suc (left - 1) = omega arith in ap (λ (j : ℕ). digit_bytes j m) n

    pub digit-iteration : 0 < left → (out' : List ℕ) → out' ≡ sets out a (bytes word_size3 (word3 4 (m % 4096)))
        → Digiting k m₀ out₀ at out' (a + word_size3) (m / 4096) (left - 1)
    digit-iteration h out' o = record {
      place = omega (arith, s.place);
      storing = storing_iteration (bytes word_size3 (word3 4 (m % 4096))) (digit_bytes (left - 1) (m / 4096)) (next h) o s.storing;
    }

    pub digit_room : 0 < left → Roomy out₀ at (word_size3 * k) → Roomy out a word_size3
    digit_room h r = storing_room (bytes word_size3 (word3 4 (m % 4096))) (digit_bytes (left - 1) (m / 4096)) (next h) s.storing (rw (digits-length k m₀) r)

    pub digit-end : left ≤ 0 → (a ≡ at + word_size3 * k) × (out ≡ sets out₀ at (digit_bytes k m₀))
    unfolding digit_words
    digit-end h = let n : left ≡ 0 = omega arith in (omega (arith, s.place), (storing_end (rw n at s.storing)).1)

-- ---- the vector words of a run

pub record Masking (xs : List ℕ) (i e b₀ k top : ℕ) (out₀ : List ℕ) (at : ℕ) (out : List ℕ) (a c b left : ℕ) : Type 0 where
  pub below : c ≤ e
  pub base : b + 12 * left ≤ 2 ^ 20
  pub place : a + word_size3 * left ≡ at + word_size3 * k
  pub rise : Inc b top (between xs c e)
  pub storing : Storing (mask_bytes k b₀ (between xs i e)) at out₀ (mask_bytes left b (between xs c e)) a out

module _ {xs : List ℕ} {i e b₀ k top : ℕ} {out₀ : List ℕ} {at : ℕ} (part : Part xs i e at) (fits : b₀ + 12 * k ≤ 2 ^ 20)
    (rising : Inc b₀ top (between xs i e)) where
  pub masking_start : Masking xs i e b₀ k top out₀ at out₀ at i b₀ k
  masking_start = record { below = part.low; base = fits; place = refl; rise = rising; storing = storing_start }

  module _ {out : List ℕ} {a c b left : ℕ} (s : Masking xs i e b₀ k top out₀ at out a c b left) where
    -- the first n words, from the bits of 60 columns
    front : (n : ℕ) → n ≤ 5 → n ≤ left → (w : MaskBits) → NextMasks xs c e b w
        → mask_bytes left b (between xs c e) ≡ digit_bytes n w.mask ++ mask_bytes (left - n) (b + 12 * n) (beyond (b + 12 * n) (between xs c e))
    front n h k w wd =
        let here = between xs c e in
        let all : left ≡ n + (left - n) = omega arith in
        ap (λ (j : ℕ). mask_bytes j b here) all
        ∙ ap (stream word_size3) (masks-digits n (left - n) b top (b + 60) here (omega arith) s.rise)
        ∙ rw (stream-append word_size3 (digit_words n (mask b (nearby (b + 60) here))), ← wd.is_mask)

    pub masking_room : (n : ℕ) → n ≤ 5 → n ≤ left → (w : MaskBits) → NextMasks xs c e b w → Roomy out₀ at (length (mask_bytes k b₀ (between xs i e)))
        → Roomy out a (word_size3 * n)
    masking_room n h k w wd r =
        rw (← digits-length n w.mask) (storing_room (digit_bytes n w.mask) (mask_bytes (left - n) (b + 12 * n) (beyond (b + 12 * n) (between xs c e)))
        (front n h k w wd) s.storing r)

    pub masking_iteration : 5 ≤ left → (w : MaskBits) → NextMasks xs c e b w → (r : ℕ) (out' : List ℕ) → r ≡ a + word_size3 * 5
        → out' ≡ sets out a (digit_bytes 5 w.mask)
        → Masking xs i e b₀ k top out₀ at out' r w.next (b + 60) (left - 5)
    masking_iteration h w wd r out' q o =
        let n = digits-length 5 w.mask in
        let to : r ≡ a + length (digit_bytes 5 w.mask) = omega (arith, n) in
        record {
          below = wd.within;
          base = omega (arith, s.base);
          place = omega (arith, s.place);
          rise = rw wd.is_rest (near_inc (b + 60) b top (between xs c e) s.rise).1;
          storing =
              rw (to, wd.is_rest) (storing_iteration (digit_bytes 5 w.mask) (mask_bytes (left - 5) (b + 60) (beyond (b + 60) (between xs c e)))
              (front 5 (omega arith) (omega arith) w wd) o s.storing);
        }

    pub masking_end : left ≤ 5 → (w : MaskBits) → NextMasks xs c e b w → (r : ℕ) (out' : List ℕ) → r ≡ a + word_size3 * left
        → out' ≡ sets out a (digit_bytes left w.mask)
        → (r ≡ at + length (mask_bytes k b₀ (between xs i e))) × (out' ≡ sets out₀ at (mask_bytes k b₀ (between xs i e)))
    unfolding mask_words
    masking_end h w wd r out' q o =
        let n = digits-length left w.mask in
        let to : r ≡ a + length (digit_bytes left w.mask) = omega (arith, n) in
        let none : left - left ≡ 0 = omega arith in
        let last = rw none at (front left h (omega arith) w wd) in
        let e = storing_end (storing_iteration (digit_bytes left w.mask) [] last o s.storing) in
        (to ∙ e.0, e.1)
