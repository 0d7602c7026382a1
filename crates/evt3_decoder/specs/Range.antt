-- What every decoder that started fresh keeps, and what follows: at most 2^30 bytes from a fresh decoder leave it in range, and from any
-- decoder in range no sum of so many words wraps and every event time fits an i64. (One step from the maximum number of loops may leave the range.)
use Rattle.std.specs.Prelude.{◌≡◌, refl, Bool, true, false, not, ℕ, suc, ◌+◌, ◌*◌, ◌^◌, ◌≤◌, ◌<◌}
use Rattle.std.proofs.Common.{sym, ◌∙◌, true≢false, arith, leb-true, eqb-true}
use Rattle.laws_stream.specs.Machine.{and_both}
use Rattle.evt3_decoder.specs.declared.Decoder.{Decoder}
use Rattle.evt_types.specs.Clock.{Ticking, range_ticking}
use Rattle.evt_types.specs.Layout.{grain3}
use Rattle.evt3_decoder.specs.Evt3.{fresh3, period3, in_range3, is_zero, Sane3, Slim, widened}

pub record Regular3 (d : Decoder) : Type 0 where
  pub unstarted : d.initialised ≡ false → d ≡ fresh3
  pub started : d.initialised ≡ true → Ticking 4096 grain3 d.time_base d.time d.high_loops × (d.y < 2048)

pub regular_fresh3 : Regular3 fresh3
regular_fresh3 = record { unstarted = λ h. refl; started = λ h. absurd (true≢false (sym h)) }

-- a rule that leaves a started decoder started
pub goes_on3 : (e : Decoder) → e.initialised ≡ true → Ticking 4096 grain3 e.time_base e.time e.high_loops × (e.y < 2048) → Regular3 e
goes_on3 e on t = record { unstarted = λ h. absurd (true≢false (sym on ∙ h)); started = λ h. t }

pub row3 : (d : Decoder) → Regular3 d → d.y < 2048
row3 d r = go d.initialised refl
  where
    go : (b : Bool) → d.initialised ≡ b → d.y < 2048
    go true e = (r.started e).1
    go false e = rw (r.unstarted e) (omega arith)

pub below3 : (d : Decoder) → Regular3 d → d.time_base < suc d.high_loops * period3
below3 d r = go d.initialised refl
  where
    go : (b : Bool) → d.initialised ≡ b → d.time_base < suc d.high_loops * period3
    go true h = (r.started h).0.high
    go false h = rw (r.unstarted h) (omega arith)

pub near3 : (d : Decoder) → Regular3 d → d.time < d.time_base + grain3
near3 d r = go d.initialised refl
  where
    go : (b : Bool) → d.initialised ≡ b → d.time < d.time_base + grain3
    go true h = (r.started h).0.near
    go false h = rw (r.unstarted h) (omega arith)

is_off : (b : Bool) → not b ≡ true → b ≡ false
is_off true h = sym h
is_off false h = refl

zero3 : (d : Decoder) → d.initialised ≡ false → is_zero d ≡ true → d ≡ fresh3
zero3 d e h =
    let a = and_both _ _ h in
    let b = and_both _ _ a.1 in
    let c = and_both _ _ b.1 in
    let f = and_both _ _ c.1 in
    let g = and_both _ _ f.1 in
    λ i. record {
      initialised = e i;
      time_base = eqb-true d.time_base 0 a.0 i;
      time = eqb-true d.time 0 b.0 i;
      y = eqb-true d.y 0 c.0 i;
      base_x = eqb-true d.base_x 0 f.0 i;
      polarity = is_off d.polarity g.0 i;
      high_loops = eqb-true d.high_loops 0 g.1 i;
    }

pub regular_range3 : (d : Decoder) → in_range3 d ≡ true → Regular3 d × (d.high_loops ≤ 2 ^ 28)
regular_range3 d h = go d.initialised refl
  where
    go : (b : Bool) → d.initialised ≡ b → Regular3 d × (d.high_loops ≤ 2 ^ 28)
    go true e =
        let a = and_both _ _ (rw e at h) in
        let t = range_ticking 4096 grain3 (omega arith) (omega arith) (2 ^ 28) d.time_base d.time d.high_loops a.0 in
        (goes_on3 d e (t.0, omega (arith, leb-true d.y 2047 a.1)), t.1)
    go false e =
        let z = zero3 d e (rw e at h) in
        (record { unstarted = λ f. z; started = λ f. absurd (true≢false (sym f ∙ e)) }, rw z (omega arith))

-- the decoder can take n words more, and no sum wraps; but for the base column, which fits 16 bits by its type
pub record Paced3 (n : ℕ) (d : Decoder) : Type 0 where
  pub regular : Regular3 d
  pub loops : d.high_loops + n ≤ 3 * 2 ^ 28

-- with the column
pub record Bounded3 (n : ℕ) (d : Decoder) : Type 0 where
  pub regular : Regular3 d
  pub loops : d.high_loops + n ≤ 3 * 2 ^ 28
  pub column : d.base_x < 2 ^ 16

pub bounded_range3 : (n : ℕ) (d : Decoder) → in_range3 d ≡ true → d.base_x < 2 ^ 16 → n ≤ 2 ^ 29 → Bounded3 n d
bounded_range3 n d h x k = let r = regular_range3 d h in record { regular = r.0; loops = omega (arith, r.1); column = x }

pub bounded_sane3 : {n : ℕ} {d : Decoder} → Bounded3 n d → Sane3 (widened d)
bounded_sane3 {n} {d} b = record { loops = omega (arith, b.loops); base = omega (arith, b.loops, below3 d b.regular) }

pub bounded_slim3 : {n : ℕ} {d : Decoder} → Bounded3 n d → Slim (widened d)
bounded_slim3 {n} {d} b = record { row = omega (arith, row3 d b.regular); column = b.column }
