-- A clock in its period reads a time word for a later coarse time as that time: the time-loop law for any clock that is k grains to a period.
use Rattle.std.specs.Prelude.{◌≡◌, ℕ, suc, ◌+◌, ◌*◌, ◌/◌, ◌%◌, ◌≤◌, ◌<◌}
use Rattle.std.proofs.Common.{arith, le-div_iff_mul-le, div-lt_iff_lt-mul}
use Rattle.laws_stream.specs.Loop.{loops_after, time_after}
use Rattle.evt_types.specs.Clock.{Ticking}
use Rattle.laws_stream.proofs.LoopLaws.{tracks}

module _ (k grain threshold : ℕ) (more : 0 < k * grain) (some : 0 < threshold) where
  pub ticking_tracks : (coarse time loops raw t : ℕ) → Ticking k grain coarse time loops → raw ≡ t % (k * grain)
      → coarse ≤ t → t + threshold ≤ coarse + k * grain
      → (loops_after (k * grain) threshold coarse loops raw ≡ t / (k * grain)) × (time_after (k * grain) threshold coarse loops raw ≡ t)
  ticking_tracks coarse time loops raw t c e later near =
      let low : loops ≤ coarse / (k * grain) = (le-div_iff_mul-le more).1 c.low in
      let high : coarse / (k * grain) < suc loops = (div-lt_iff_lt-mul more).1 c.high in
      let l : loops ≡ coarse / (k * grain) = omega arith in
      rw (e, l) (tracks (k * grain) threshold coarse t more some later near)
