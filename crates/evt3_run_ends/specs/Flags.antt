-- A flag for each of 64 events, 1 where a run ends, and the first 63 of them as the bits of a number.
use Rattle.std.specs.Prelude.{◌≡◌, refl, Bool, true, false, cond, ◌&&◌, List, ℕ, zero, suc, ◌+◌, ◌-◌, ◌*◌, ◌^◌, ◌≤◌, ◌<◌, eqb, ltb, ℤ, length, get_or, set}
use Rattle.std.proofs.Common.{sym, ap, ◌∙◌, arith, add-zero, pow-suc, lt-ltb, eqb-true, length-set, get_or-set_same, get_or-set_other}
use Rattle.std.proofs.Math.Nat.{pow-le-pow_right}
use Rattle.std.proofs.lemmas.Bool.{eqb-false}
use Rattle.std.specs.Int.Bits.{bit_or}
use Rattle.evt3_run_rules.specs.Marks.{time_at, joins_next, stop_at, marks, marks_none, marks-some, marks_from, left_full}

-- 1 where a run doesn't go on
abbrev pub ends : Bool → ℕ
ends goes = cond goes 0 1

-- an event goes on the run of the one before it as far as column, row and polarity tell
abbrev pub place_goes : (last y p x y₂ p₂ : ℕ) → Bool
place_goes last y p x y₂ p₂ = eqb y₂ y && (eqb p₂ p && ltb last x)

abbrev pub place_goes_at : (xs ys ps : List ℕ) → ℕ → Bool
place_goes_at xs ys ps i = place_goes (get_or xs i 0) (get_or ys i 0) (get_or ps i 0) (get_or xs (i + 1) 0) (get_or ys (i + 1) 0) (get_or ps (i + 1) 0)

abbrev pub place_ends : (xs ys ps : List ℕ) → ℕ → ℕ
place_ends xs ys ps i = ends (place_goes_at xs ys ps i)

abbrev pub time_ends : List ℤ → ℕ → ℕ
time_ends ts i = ends (eqb (time_at ts (i + 1)) (time_at ts i))

-- each of 64 flags is what v says
pub record Filled (v : ℕ → ℕ) (flags : List ℕ) : Type 0 where
  pub long : length flags ≡ 64
  pub each : (j : ℕ) → j < 64 → get_or flags j 0 ≡ v j

-- flags are 0 or 1
abbrev pub Flags : List ℕ → Type 0
Flags flags = (j : ℕ) → j < 64 → get_or flags j 0 ≤ 1

-- n numbers of 0 and 1 from i on, the first the lowest bit
unfoldable pub bits : (v : ℕ → ℕ) (n i : ℕ) → ℕ
bits v zero i = 0
bits v (suc n) i = v i + 2 * bits v n (i + 1)

abbrev pub flag_at : List ℕ → ℕ → ℕ
flag_at flags j = get_or flags j 0

-- ---- laws

-- ---- flags stored one by one

module _ (v : ℕ → ℕ) (old : List ℕ) where
  pub record Filling (flags : List ℕ) (j : ℕ) : Type 0 where
    pub below : j ≤ 64
    pub long : length flags ≡ 64
    pub stored : (m : ℕ) → m < j → get_or flags m 0 ≡ v m
    pub left : (m : ℕ) → j ≤ m → get_or flags m 0 ≡ get_or old m 0

  pub fill_start : length old ≡ 64 → Filling old 0
  fill_start e = record { below = omega arith; long = e; stored = λ m h. absurd (omega arith); left = λ m h. refl }

  module _ {flags : List ℕ} {j : ℕ} (g : Filling flags j) where
    pub fill_iteration : j < 64 → (b : ℕ) → b ≡ v j → Filling (set flags j b) (j + 1)
    fill_iteration h b e = record {
      below = omega arith;
      long = length-set flags j b ∙ g.long;
      stored = at;
      left = λ m l. get_or-set_other flags j m b 0 (λ q. absurd (omega arith)) ∙ g.left m (omega arith);
    }
      where
        at : (m : ℕ) → m < j + 1 → get_or (set flags j b) m 0 ≡ v m
        at m l = go (eqb m j) refl
          where
            go : (c : Bool) → eqb m j ≡ c → get_or (set flags j b) m 0 ≡ v m
            go true q = rw (eqb-true m j q) (get_or-set_same flags j b 0 (omega (arith, g.long)) ∙ e)
            go false q = get_or-set_other flags j m b 0 (eqb-false m j q) ∙ g.stored m (let n = eqb-false m j q in omega arith)

    pub fill_end : 64 ≤ j → Filled v flags
    fill_end h = record { long = g.long; each = λ m k. g.stored m (omega arith) }

-- ---- flags gathered into a number, the last first

bits_none : (v : ℕ → ℕ) (i : ℕ) → bits v 0 i ≡ 0
unfolding bits
bits_none v i = refl

bits-some : (v : ℕ → ℕ) (n i : ℕ) → bits v (suc n) i ≡ v i + 2 * bits v n (i + 1)
unfolding bits
bits-some v n i = refl

bits-lt : (flags : List ℕ) → Flags flags → (n i : ℕ) → i + n ≤ 64 → bits (flag_at flags) n i < 2 ^ n
bits-lt flags small zero i h = omega (arith, bits_none (flag_at flags) i)
bits-lt flags small (suc n) i h = rw (bits-some (flag_at flags) n i, pow-suc) (omega (arith, bits-lt flags small n (i + 1) (omega arith), small i (omega arith)))

module _ (flags : List ℕ) where
  pub record Packing (mask j : ℕ) : Type 0 where
    pub below : j ≤ 63
    pub is_mask : mask ≡ bits (flag_at flags) (63 - j) j

  pub pack_start : Packing 0 63
  pack_start = record { below = omega arith; is_mask = sym (bits_none (flag_at flags) 63) }

  module _ {mask j : ℕ} (g : Packing mask j) where
    pub pack_small : Flags flags → mask < 2 ^ 63
    pack_small small =
        let le : 2 ^ (63 - j) ≤ 2 ^ 63 = pow-le-pow_right (omega arith) {j = 63} (omega arith) in
        omega (arith, g.is_mask, bits-lt flags small (63 - j) j (omega (arith, g.below)))

    pub pack_iteration : 0 < j → Packing (2 * mask + flag_at flags (j - 1)) (j - 1)
    pack_iteration h =
        let n : 63 - (j - 1) ≡ suc (63 - j) = omega (arith, g.below) in
        let up : j - 1 + 1 ≡ j = omega arith in
        let next = ap (bits (flag_at flags) (63 - j)) up in
        record {
          below = omega (arith, g.below);
          is_mask = rw n (sym (bits-some (flag_at flags) (63 - j) (j - 1) ∙ omega (arith, next, g.is_mask)));
        }

    pub pack_end : j ≤ 0 → mask ≡ bits (flag_at flags) 63 0
    pack_end h = let e : j ≡ 0 = omega arith in g.is_mask ∙ rw e

-- ---- the flags of 64 events are their marks

or_flags : (c d : Bool) → bit_or (ends c) (ends d) ≡ ends (d && c)
or_flags true true = refl
or_flags true false = refl
or_flags false true = refl
or_flags false false = refl

ends-le : (c : Bool) → ends c ≤ 1
ends-le true = omega arith
ends-le false = omega arith

module _ (xs ys : List ℕ) (ts : List ℤ) (ps : List ℕ) (i : ℕ) (room : i + 64 < length xs) {places flags : List ℕ} where
  module _ (fp : Filled (λ j. place_ends xs ys ps (i + j)) places) (ft : Filled (λ j. bit_or (flag_at places j) (time_ends ts (i + j))) flags) where
    flag_is : (j : ℕ) → j < 64 → get_or flags j 0 ≡ ends (joins_next xs ys ts ps (i + j))
    flag_is j h = ft.each j h ∙ rw (fp.each j h) (or_flags (place_goes_at xs ys ps (i + j)) (eqb (time_at ts (i + j + 1)) (time_at ts (i + j))))

    pub flags_small : Flags flags
    flags_small j h = rw (flag_is j h) (ends-le (joins_next xs ys ts ps (i + j)))

    flag_stop : (j : ℕ) → j < 64 → get_or flags j 0 ≡ stop_at xs ys ts ps (i + j)
    flag_stop j h = flag_is j h ∙ rw (lt-ltb (i + j + 1) (length xs) (omega arith))

    bits-marks : (n j : ℕ) → j + n ≤ 64 → bits (flag_at flags) n j ≡ marks xs ys ts ps n (i + j)
    bits-marks zero j h = bits_none (flag_at flags) j ∙ sym (marks_none xs ys ts ps (i + j))
    bits-marks (suc n) j h =
        let to : i + (j + 1) ≡ i + j + 1 = omega arith in
        let ih = bits-marks n (j + 1) (omega arith) in
        bits-some (flag_at flags) n j ∙ rw (flag_stop j (omega arith), ih, to) (sym (marks-some xs ys ts ps n (i + j)))

    pub flags_marks : bits (flag_at flags) 63 0 ≡ marks_from xs ys ts ps i
    flags_marks = bits-marks 63 0 (omega arith) ∙ rw (add-zero, left_full xs ys ts ps i (omega arith))
