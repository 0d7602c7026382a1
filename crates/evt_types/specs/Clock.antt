-- The coarse time of a decoder: what a time word makes of it, and when it is out of range (10).
use Rattle.std.specs.Prelude.{◌≡◌, Bool, true, false, cond, ◌&&◌, ℕ, suc, ◌+◌, ◌-◌, ◌*◌, ◌/◌, ◌%◌, ◌≤◌, ◌<◌, leb, ltb, eqb}
use native.Mathlib.Omega.{arith}
use Rattle.std.proofs.Common.{mul-lt-mul_of_pos_right, div-add-mod', mod-lt, add-mul, mul_assoc, le-div_iff_mul-le, div-lt_iff_lt-mul, le-leb, lt-ltb, eq-eqb, leb-true, ltb-true, eqb-true}
use Rattle.std.proofs.Math.Nat.{mul-mod_left}
use Rattle.laws_stream.specs.{Loop.loops_after, Loop.time_after, Loop.in_period, Machine.and_both}
use Rattle.evt_types.specs.declared.clock.Clock.{Clock}

abbrev pub clock_after : (period threshold old loops raw : ℕ) → Clock
clock_after period threshold old loops raw =
    record { coarse = time_after period threshold old loops raw; loops = loops_after period threshold old loops raw }

-- at most `most` loops; the coarse time is loops × period and a multiple of the grain below the period; the time is less than a grain past it
abbrev pub clock_in_range : (period grain most coarse time loops : ℕ) → Bool
clock_in_range period grain most coarse time loops =
    leb loops most && (eqb (coarse / period) loops && (eqb (coarse % grain) 0 && (leb coarse time && ltb (time - coarse) grain)))

-- ---- laws

-- what holds of both holds of either
pub either : {A : Type 0} (P : A → Type 0) (t : Bool) {a b : A} → P a → P b → P (cond t a b)
either P true p q = p
either P false p q = q

-- the clock of a started decoder: a period is k grains
pub record Ticking (k grain coarse time loops : ℕ) : Type 0 where
  pub low : loops * (k * grain) ≤ coarse
  pub high : coarse < suc loops * (k * grain)
  pub whole : coarse % grain ≡ 0
  pub past : coarse ≤ time
  pub near : time < coarse + grain

module _ (k grain : ℕ) (pos : 0 < grain) (more : 0 < k * grain) where
  -- a time word sets it
  pub ticking_word : (threshold old loops q : ℕ) → q < k
      → let t = time_after (k * grain) threshold old loops (q * grain) in Ticking k grain t t (loops_after (k * grain) threshold old loops (q * grain))
  unfolding time_after
  ticking_word threshold old loops q h =
      let n = loops_after (k * grain) threshold old loops (q * grain) in
      let p = in_period (k * grain) threshold old loops (q * grain) (mul-lt-mul_of_pos_right h pos) in
      let e : q * grain + n * (k * grain) ≡ (q + n * k) * grain = rw (add-mul, mul_assoc) in
      record { low = p.0; high = p.1; whole = rw e (mul-mod_left (q + n * k) grain); past = omega arith; near = omega arith }

  -- and it is in range where the loops are few
  pub ticking_range : (most coarse time loops : ℕ) → Ticking k grain coarse time loops → loops ≤ most
      → clock_in_range (k * grain) grain most coarse time loops ≡ true
  ticking_range most coarse time loops t h =
      let lo : loops ≤ coarse / (k * grain) = (le-div_iff_mul-le more).1 t.low in
      let hi : coarse / (k * grain) < suc loops = (div-lt_iff_lt-mul more).1 t.high in
      rw (
        le-leb loops most h,
        eq-eqb (coarse / (k * grain)) loops (omega arith),
        eq-eqb (coarse % grain) 0 t.whole,
        le-leb coarse time t.past,
        lt-ltb (time - coarse) grain (omega (arith, t.near, t.past)),
      )

  pub range_ticking : (most coarse time loops : ℕ) → clock_in_range (k * grain) grain most coarse time loops ≡ true
      → Ticking k grain coarse time loops × (loops ≤ most)
  range_ticking most coarse time loops h =
      let a = and_both _ _ h in
      let b = and_both _ _ a.1 in
      let c = and_both _ _ b.1 in
      let d = and_both _ _ c.1 in
      let e : coarse / (k * grain) ≡ loops = eqb-true (coarse / (k * grain)) loops b.0 in
      let s : coarse / (k * grain) * (k * grain) + coarse % (k * grain) ≡ coarse = div-add-mod' coarse (k * grain) in
      let s' : loops * (k * grain) + coarse % (k * grain) ≡ coarse = rw e at s in
      let past : coarse ≤ time = leb-true coarse time d.0 in
      let near = ltb-true (time - coarse) grain d.1 in (
        record { low = omega arith; high = omega (arith, mod-lt coarse more); whole = eqb-true (coarse % grain) 0 c.0; past = past; near = omega arith },
        leb-true loops most a.0,
      )
