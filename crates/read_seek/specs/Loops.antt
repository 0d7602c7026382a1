-- The loop over EVT3 words that goes by the times alone.
use Rattle.std.specs.Prelude.{◌≡◌, refl, Bool, true, false, ◌&&◌, ◌||◌, List, ℕ, ◌+◌, ◌/◌, ◌≤◌, ◌<◌, ltb, length, drop}
use Rattle.std.proofs.Common.{sym, ap, ◌∙◌}
use Rattle.laws_stream.specs.{Words.length-words, Seek.Reach}
use Rattle.evt_types.specs.{Ahead.ahead, Layout.type3, Layout.word_size3}
use Rattle.evt3_decoder.specs.{declared.Decoder.Decoder, Evt3.step3, Range.Bounded3, Range.bounded_sane3}
use Rattle.evt_codec.specs.{Reader.evt3, Reader.carries_as, Sound.sound3}
use Rattle.read_seek.specs.{declared.times.Times.Times, Seek.reach3, Times.times_of}
use Rattle.read_seek.specs.{Times.Slow, Times.ticked, Times.spanned_of, Times.step_on, Times.step_times}
use Rattle.read_seek.specs.Iteration.{Seeking, Found, seeking_start, found_end, found_stop, seeking_next}

module _ (t₀ t₁ : ℕ) (d : Decoder) (bytes : List ℕ) where
  -- of some started decoder
  pub record Passing (c : Times) (f : Bool) (i : ℕ) : Type 0 where
    pub state : Decoder
    pub on : state.initialised ≡ true
    pub is : c ≡ times_of state
    pub seeking : Seeking evt3 t₀ t₁ d bytes state f i

  abbrev pub Passes : Times → Bool → ℕ → Type 0
  Passes c f i =
      (record { at = i; stray = f; times = c } ≡ spanned_of (reach3 t₀ t₁ d bytes)) × Bounded3 (length (drop i bytes) / word_size3) (reach3 t₀ t₁ d bytes).state

  pub passing_start : d.initialised ≡ true → Bounded3 (length bytes / word_size3) d → Passing (times_of d) false 0
  passing_start on b = record { state = d; on = on; is = refl; seeking = seeking_start sound3 b }

  module _ {f : Bool} {i : ℕ} where
    passes : {c : Times} {s : Decoder} → c ≡ times_of s → Found evt3 t₀ t₁ d bytes s f i → Passes c f i
    passes {s = s} is p = (
      rw is (ap (λ (k : ℕ). record { at = k; stray = f; times = times_of s }) p.is_at ∙ ap spanned_of p.ends),
      rw (length-words word_size3 (drop i bytes)) at (rw (ap (λ (r : Reach Decoder). r.state) p.ends) at p.inv),
    )

    pub passing_end : {c : Times} → Passing c f i → length bytes < i + word_size3 → Passes c f i
    passing_end u h = passes u.is (found_end sound3 u.seeking h)

    pub passing_slow : {c : Times} → Passing c f i → Slow c
    passing_slow u = let a = bounded_sane3 u.seeking.inv in rw u.is (record { loops = a.loops; base = a.base })

    module _ (h : i + word_size3 ≤ length bytes) (w : ℕ) (is_IsWord : w ≡ ahead word_size3 bytes i)
        {c : Times} (u : Passing c f i) (c' : Times) (is_next : c' ≡ ticked c w) where
      is_step : c' ≡ times_of (step3 u.state w)
      is_step = is_next ∙ ap (λ (c : Times). ticked c w) u.is ∙ sym (step_times u.state w u.on)

      pub passing_stop : t₁ ≤ c'.time → Passes c f i
      passing_stop l = passes u.is (found_stop sound3 u.seeking h w is_IsWord (step3 u.state w) refl (rw is_step at l))

      pub passing_next : c'.time < t₁ → (k : ℕ) → k ≡ type3 w → (g : Bool) → g ≡ (f || (ltb c'.time t₀ && carries_as k)) → Passing c' g (i + word_size3)
      passing_next l k is-type g is-stray = record {
        state = step3 u.state w;
        on = step_on u.state w u.on;
        is = is_step;
        seeking = seeking_next sound3 u.seeking h w is_IsWord (step3 u.state w) refl (rw is_step at l) (carries_as k) (ap carries_as is-type) g
            (rw is_step at is-stray);
      }
