-- Laws of specs/Laws.antt.
use Rattle.evt_codec.specs.{Codec.events_from, Reader.view, Sound.able_range, Sound.sound, declared.codec.Codec.Codec}
use Rattle.evt_types.specs.{Event.Event, Num.most_bytes, Outcome.Outcome, Outcome.give, Outcome.on_outcome, Outcome.refuse}
use Rattle.evt_types.specs.{declared.Refusal.TheVariants.InvalidSensorSize, declared.Refusal.TheVariants.InvalidSpacing}
use Rattle.evt_types.specs.{declared.Refusal.TheVariants.StateOutOfRange, declared.Refusal.TheVariants.TooLong}
use Rattle.header.specs.Header.{has_zero}
use Rattle.index_build.specs.{Index.spacing_ok, Open.spaced, declared.Checkpoint.Checkpoint, declared.RawSliceSource.RawSliceSource}
use Rattle.index_records.specs.{Choose.passes_of, InRange.index_in_range}
use Rattle.laws_stream.specs.{Select.by_number_lem, Slice.sift}
use Rattle.read_capacity.specs.{Deliver.most_from, Deliver.shortest, Laws.numbered-most}
use Rattle.read_rules.specs.Read.{kept}
use Rattle.read_select.specs.{Pass.Able, Uses.numbered_over, Uses.over_by_number, Uses.over_by_time}
use Rattle.read_window.specs.declared.Window.{Window}
use Rattle.slice_rules.specs.{From.SlicesFrom, From.asked_by_number, From.asked_by_time, From.number_window, From.passed_from, Laws.Began}
use Rattle.slice_rules.specs.{Laws.start_good, Laws.start_is, Slice.SlicesIndex, Slice.SlicesTime, Slice.end_of}
use Rattle.slice_rules.specs.{Slice.events_until, Slice.first_of, Slice.index_events, Slice.is_during, Slice.room_outcome, Slice.size_of, Slice.slice_outcome}
use Rattle.std.specs.Prelude.{Result}
use Rattle.evt_types.specs.declared.Refusal.{Refusal}
use Rattle.slice_rules.specs.{Slice.starting_at, Slice.time_events, Times.time_over, Times.time_window, declared.Asked.Asked}
use Rattle.std.proofs.{Common.ltb-false, Common.mul_comm, Common.subst, Common.true≢false, Common.◌∙◌, Math.Bool.cond, Math.Bool.true, Math.Dec.leb}
use Rattle.std.proofs.{Math.ListN.drop, Math.ListN.length, Math.ListN.length-drop, Math.Path.ap, Math.Path.refl, Math.Path.sym}
use Rattle.std.specs.{Int.Signed.lt_z, Prelude.Bool, Prelude.false, Prelude.ltb, Prelude.ℕ, Prelude.ℤ, Prelude.◌*◌, Prelude.◌+◌, Prelude.◌<◌, Prelude.◌^◌}
use Rattle.std.specs.{Prelude.◌≡◌, Prelude.◌≤◌}
use mathlib.Core.List.{List, [], ◌∷◌}
use native.Mathlib.Omega.{arith}

most_small : (c : Codec) (n : ℕ) → most_from c n ≤ 6 * n
most_small c n = subst (λ (k : ℕ). k ≤ 6 * n) (mul_comm (view c).reader.most _) ((sound c).spread n)

-- ---- with the records judged all is as specs/Slice.antt has it

module _ (recording : List ℕ) (s : RawSliceSource) (records : List Checkpoint) (ok : Bool) (from es : List Event)
    (judged : spacing_ok s.encoding s.spacing ≡ true → ok ≡ index_in_range s records)
    (same : length recording ≤ most_bytes → index_in_range s records ≡ true → from ≡ es) where
  same_outcome : (room : ℕ) → slice_outcome recording s ok from room ≡ slice_outcome recording s (index_in_range s records) es room
  unfolding slice_outcome
  same_outcome room =
      go (ltb most_bytes (length recording)) refl (has_zero (size_of s)) (spacing_ok s.encoding s.spacing) refl (index_in_range s records) refl
    where
      checked : (long zero spaced ok : Bool) → Outcome Unit
      checked long zero spaced ok =
          cond long (refuse TooLong) (cond zero (refuse InvalidSensorSize) (cond spaced (cond ok (give tt) (refuse StateOutOfRange)) (refuse InvalidSpacing)))

      go : (a : Bool) → ltb most_bytes (length recording) ≡ a → (b c : Bool) → spacing_ok s.encoding s.spacing ≡ c → (d : Bool) → index_in_range s records ≡ d
          → on_outcome refuse (λ u. room_outcome from room) (checked a b c ok) ≡ on_outcome refuse (λ u. room_outcome es room) (checked a b c d)
      go true p b c q d r = refl
      go false p true c q d r = refl
      go false p false false q d r = refl
      go false p false true q true r = rw (judged q ∙ r) (ap (λ (l : List Event). room_outcome l room) (same (ltb-false most_bytes (length recording) p) r))
      go false p false true q false r = rw (judged q ∙ r)

  pub slices_from : {r : Result ℕ Refusal} {xs₀ ys₀ : List ℕ} {ts₀ : List ℤ} {ps₀ xs ys : List ℕ} {ts : List ℤ} {ps : List ℕ}
      → SlicesFrom recording s ok from r xs₀ ys₀ ts₀ ps₀ xs ys ts ps
      → SlicesFrom recording s (index_in_range s records) es r xs₀ ys₀ ts₀ ps₀ xs ys ts ps
  slices_from {r} {xs₀} {ys₀} {ts₀} {ps₀} h = rw (same_outcome (shortest xs₀ ys₀ ts₀ ps₀)) at h

-- ---- the record that a slice starts at

module _ (s : RawSliceSource) (records : List Checkpoint) (asked : Asked) (judged : Bool) (start : Checkpoint) (b : Began s records asked judged start) where
  -- what is decoded from there on
  starting : (p : Checkpoint → Bool) (f : Checkpoint → List Event) → passes_of asked.choice ≡ p → index_in_range s records ≡ true
      → f start ≡ starting_at p f records
  unfolding index_in_range
  starting p f e = go records refl
    where
      go : (l : List Checkpoint) → records ≡ l → index_in_range s l ≡ true → f start ≡ starting_at p f l
      go [] r ok = absurd (true≢false (sym ok))
      go (c ∷ cs) r ok = ap f (start_is s records asked judged start b p e c cs r ok)

  module _ (recording : List ℕ) (short : length recording ≤ 2 ^ 30) (ok : index_in_range s records ≡ true) where
    able_start : Able (length (drop start.byte_offset recording)) start.codec
    able_start =
        able_range start.codec (length (drop start.byte_offset recording)) (start_good s records asked judged start b ok).decoder
        (omega (arith, length-drop start.byte_offset recording))

    same_number : (i0 i1 : ℕ) → passes_of asked.choice ≡ (λ c. leb c.event_index (first_of s i0)) → asked.window ≡ number_window s i0 i1
        → passed_from recording asked.window start ≡ index_events recording s records i0 i1
    unfolding index_events
    same_number i0 i1 e w =
        let f : Checkpoint → List Event = λ c.
        by_number_lem (first_of s i0) (end_of s i0 i1) c.event_index (kept (size_of s) (events_from c.codec (drop c.byte_offset recording))) in
        ap (λ (win : Window). passed_from recording win start) w
        ∙ over_by_number (number_window s i0 i1) start.codec (drop start.byte_offset recording) able_start refl (omega arith) start.event_index
        ∙ starting (λ c. leb c.event_index (first_of s i0)) f e ok

    same_time : (t0 t1 : ℤ) → passes_of asked.choice ≡ (λ c. lt_z c.time t0)
        → asked.window ≡ time_window s.width s.height 0 18446744073709551615 t0 t1
        → passed_from recording asked.window start ≡ time_events recording s records t0 t1
    unfolding time_events
    same_time t0 t1 e w =
        let win = time_window s.width s.height 0 18446744073709551615 t0 t1 in
        let rest = drop start.byte_offset recording in
        let f : Checkpoint → List Event = λ c. sift (is_during t0 t1) (kept (size_of s) (events_until t1 c.codec (drop c.byte_offset recording))) in
        let few : start.event_index + length (numbered_over win start.codec rest) < 18446744073709551615 =
        omega (
          arith,
          (start_good s records asked judged start b ok).few,
          numbered-most win 0 start.codec rest,
          most_small start.codec (length rest),
          length-drop start.byte_offset recording,
        ) in
        ap (λ (win : Window). passed_from recording win start) w
        ∙ over_by_time win start.event_index start.codec rest (omega arith) few
        ∙ sym (time_over s.width s.height 0 18446744073709551615 t0 t1 start.codec rest)
        ∙ starting (λ c. lt_z c.time t0) f e ok

-- ---- by number and by time

module _ (recording : List ℕ) (s : RawSliceSource) (records : List Checkpoint) (asked : Asked) (judged : Bool) (start : Checkpoint)
    (b : Began s records asked judged start) where
  module _ (i0 i1 : ℕ) (is : asked ≡ asked_by_number s i0 i1) where
    pub slices_index : {r : Result ℕ Refusal} {xs₀ ys₀ : List ℕ} {ts₀ : List ℤ} {ps₀ xs ys : List ℕ} {ts : List ℤ} {ps : List ℕ}
        → SlicesFrom recording s judged (passed_from recording asked.window start) r xs₀ ys₀ ts₀ ps₀ xs ys ts ps
        → SlicesIndex recording s records i0 i1 r xs₀ ys₀ ts₀ ps₀ xs ys ts ps
    slices_index =
        slices_from recording s records judged (passed_from recording asked.window start) (index_events recording s records i0 i1) (λ _. b.judged)
        (λ short ok. same_number s records asked judged start b recording short ok i0 i1
        (ap (λ (a : Asked). passes_of a.choice) is) (ap (λ (a : Asked). a.window) is))

  module _ (t0 t1 : ℤ) (is : asked ≡ asked_by_time s t0 t1) where
    pub slices_time : {r : Result ℕ Refusal} {xs₀ ys₀ : List ℕ} {ts₀ : List ℤ} {ps₀ xs ys : List ℕ} {ts : List ℤ} {ps : List ℕ}
        → SlicesFrom recording s judged (passed_from recording asked.window start) r xs₀ ys₀ ts₀ ps₀ xs ys ts ps
        → SlicesTime recording s records t0 t1 r xs₀ ys₀ ts₀ ps₀ xs ys ts ps
    slices_time =
        slices_from recording s records judged (passed_from recording asked.window start) (time_events recording s records t0 t1) (λ _. b.judged)
        (λ short ok. same_time s records asked judged start b recording short ok t0 t1
        (ap (λ (a : Asked). passes_of a.choice) is) (ap (λ (a : Asked). a.window) is))
