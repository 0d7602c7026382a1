-- What every decoder that started fresh keeps, and what follows: at most 2^30 bytes from a fresh decoder leave it in range, and from any
-- decoder in range no sum of so many words wraps and every event time fits an i64. (One step from the maximum number of loops may leave the range.)
use Rattle.std.specs.Prelude.{◌≡◌, refl, Bool, true, false, ℕ, suc, ◌+◌, ◌*◌, ◌^◌, ◌≤◌, ◌<◌}
use Rattle.std.proofs.Common.{sym, ◌∙◌, true≢false, arith, eqb-true}
use Rattle.laws_stream.specs.Machine.{and_both}
use Rattle.evt2_decoder.specs.declared.Evt2Decoder.{Evt2Decoder}
use Rattle.evt_types.specs.Clock.{Ticking, range_ticking}
use Rattle.evt_types.specs.Layout.{grain2}
use Rattle.evt2_decoder.specs.Evt2.{fresh2, period2, in_range2, Sane2}

pub record Regular2 (d : Evt2Decoder) : Type 0 where
  pub unstarted : d.initialised ≡ false → d ≡ fresh2
  pub started : d.initialised ≡ true → Ticking (2 ^ 28) grain2 d.time_high d.time d.high_loops

pub regular_fresh2 : Regular2 fresh2
regular_fresh2 = record { unstarted = λ h. refl; started = λ h. absurd (true≢false (sym h)) }

pub below2 : (d : Evt2Decoder) → Regular2 d → d.time_high < suc d.high_loops * period2
below2 d r = go d.initialised refl
  where
    go : (b : Bool) → d.initialised ≡ b → d.time_high < suc d.high_loops * period2
    go true h = (r.started h).high
    go false h = rw (r.unstarted h) (omega arith)

pub regular_range2 : (d : Evt2Decoder) → in_range2 d ≡ true → Regular2 d × (d.high_loops ≤ 2 ^ 27)
regular_range2 d h = go d.initialised refl
  where
    go : (b : Bool) → d.initialised ≡ b → Regular2 d × (d.high_loops ≤ 2 ^ 27)
    go true e =
        let t = range_ticking (2 ^ 28) grain2 (omega arith) (omega arith) (2 ^ 27) d.time_high d.time d.high_loops (rw e at h) in
        (record { unstarted = λ f. absurd (true≢false (sym e ∙ f)); started = λ f. t.0 }, t.1)
    go false e =
        let a = and_both _ _ (rw e at h) in
        let b = and_both _ _ a.1 in
        let is_high_lem = eqb-true d.time_high 0 a.0 in
        let is_time_lem = eqb-true d.time 0 b.0 in
        let is-loops = eqb-true d.high_loops 0 b.1 in (
          record {
            unstarted = λ f. (λ i. record { initialised = e i; time_high = is_high_lem i; time = is_time_lem i; high_loops = is-loops i });
            started = λ f. absurd (true≢false (sym f ∙ e));
          },
          omega arith,
        )

-- the decoder can take n words more, and no sum wraps
pub record Bounded2 (n : ℕ) (d : Evt2Decoder) : Type 0 where
  pub regular : Regular2 d
  pub loops : d.high_loops + n ≤ 3 * 2 ^ 27

pub bounded_range2 : (n : ℕ) (d : Evt2Decoder) → in_range2 d ≡ true → n ≤ 2 ^ 28 → Bounded2 n d
bounded_range2 n d h k = let r = regular_range2 d h in record { regular = r.0; loops = omega (arith, r.1) }

pub bounded_sane2 : {n : ℕ} {d : Evt2Decoder} → Bounded2 n d → Sane2 d
bounded_sane2 {n} {d} b = record { loops = omega (arith, b.loops); high = omega (arith, b.loops, below2 d b.regular) }
