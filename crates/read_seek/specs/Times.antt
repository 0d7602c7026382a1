-- What of an EVT3 decoder tells the time: what a word does to it, in the code's form, is what the step does.
use Rattle.std.specs.Prelude.{◌≡◌, refl, Bool, true, cond, ℕ, zero, suc, ◌+◌, ◌*◌, ◌/◌, ◌%◌, ◌≤◌, ◌<◌, ◌^◌, eqb}
use Rattle.std.proofs.Common.{ap, arith, pow_mono, ne_eqb}
use Rattle.std.proofs.Math.Nat.{div-eq_of_lt}
use Rattle.laws_stream.specs.{Loop.loops_after, Loop.time_after, Seek.Reach}
use Rattle.evt3_decoder.specs.{declared.Decoder.Decoder, Evt3.by_type, Evt3.kind_on, Evt3.kind_of, Evt3.step_as, Evt3.step3, Evt3.period3, Evt3.threshold3}
use Rattle.evt_types.specs.Layout.{type3, time3, word_size3, grain3}
pub use Rattle.evt_codec.specs.Reader.{carries_as}
use Rattle.read_seek.specs.declared.{evt3.Spanned.Spanned, times.Times.Times}

abbrev pub times_of : Decoder → Times
times_of d = record { base = d.time_base; time = d.time; loops = d.high_loops }

-- bounds under which no sum wraps
pub record Slow (c : Times) : Type 0 where
  pub loops : c.loops < 2 ^ 38
  pub base : c.base < 2 ^ 62

abbrev pub set_to : (coarse loops : ℕ) → Times
set_to coarse loops = record { base = coarse; time = coarse; loops = loops }

-- by the word's type k, to a started decoder
abbrev pub ticked_as : ℕ → Times → ℕ → Times
ticked_as k c w =
    cond (eqb k 8)
    (set_to (time_after period3 threshold3 c.base c.loops (time3 w * grain3)) (loops_after period3 threshold3 c.base c.loops (time3 w * grain3)))
    (record { base = c.base; time = cond (eqb k 6) (c.base + time3 w) c.time; loops = c.loops })

abbrev pub ticked : Times → ℕ → Times
ticked c w = ticked_as (type3 w) c w

-- what the loop by times alone tells of where a seek ends
abbrev pub spanned_of : Reach Decoder → Spanned
spanned_of r = record { at = r.words * word_size3; stray = r.stray; times = times_of r.state }

-- a started decoder goes by the type alone
pub started_step_lem : (d : Decoder) (w : ℕ) → d.initialised ≡ true → step3 d w ≡ step_as (kind_on (type3 w)) d w
unfolding step3
started_step_lem d w on = ap (λ (b : Bool). step_as (kind_of (type3 w) b) d w) on

module _ (d : Decoder) (w : ℕ) (on : d.initialised ≡ true) where
  pub step_on : (step3 d w).initialised ≡ true
  step_on = rw (started_step_lem d w on) (by_type (λ k. (step_as (kind_on k) d w).initialised ≡ true) (type3 w) on on on on on on refl
      (λ e0 e2 e3 e4 e5 e6 e8. rw (e0, e2, e3, e4, e5, e6, e8) on))

  pub step_times : times_of (step3 d w) ≡ ticked (times_of d) w
  step_times = rw (started_step_lem d w on)
      (by_type (λ k. times_of (step_as (kind_on k) d w) ≡ ticked_as k (times_of d) w) (type3 w) refl refl refl refl refl refl refl
      (λ e0 e2 e3 e4 e5 e6 e8. rw (e0, e2, e3, e4, e5, e6, e8)))

-- the types that carry events, as the bits of 52
bit_past : (k : ℕ) → 6 ≤ k → eqb (52 / 2 ^ k % 2 ^ 1) 1 ≡ carries_as k
bit_past k h =
    let le = pow_mono h in
    let none : 52 / 2 ^ k ≡ 0 = div-eq_of_lt (omega arith) in
    rw (none, ne_eqb k 2 (λ e. omega arith), ne_eqb k 4 (λ e. omega arith), ne_eqb k 5 (λ e. omega arith))

pub carries-bit : (k : ℕ) → eqb (52 / 2 ^ k % 2 ^ 1) 1 ≡ carries_as k
carries-bit zero = refl
carries-bit (suc zero) = refl
carries-bit (suc (suc zero)) = refl
carries-bit (suc (suc (suc zero))) = refl
carries-bit (suc (suc (suc (suc zero)))) = refl
carries-bit (suc (suc (suc (suc (suc zero))))) = refl
carries-bit (suc (suc (suc (suc (suc (suc k)))))) = bit_past (suc (suc (suc (suc (suc (suc k)))))) (omega arith)
