-- What an append is judged by: rules 10, 12, 6 and 7.
use Rattle.std.specs.Prelude.{Bool, true, false, ◌&&◌, ◌||◌, List, [], ◌∷◌, ℕ, ◌*◌, ◌/◌, ◌%◌, ◌^◌, eqb, ltb, leb, ℤ, pos}
use Rattle.std.specs.Int.Signed.{lt_z, non_neg}
use Rattle.evt_types.specs.Layout.{grain2, grain3}
use Rattle.evt_types.specs.declared.{Encoding.Encoding, Encoding.TheVariants.Evt2, Encoding.TheVariants.Evt21, Encoding.TheVariants.Evt3}
use Rattle.std.specs.Prelude.{Option, Some, None}
use Rattle.evt_types.specs.{Num.natural}
use Rattle.write_buffer.specs.declared.EncoderState.{EncoderState}
use Rattle.write_rules.specs.declared.{RawEventSink.RawEventSink}

-- ---- 7: x or y > 2047, p > 1, t < 0 or t ≥ 2 ^ 34

abbrev pub time_bound : ℕ
time_bound = 2 ^ 34

abbrev pub time_in_range : ℤ → Bool
time_in_range t = non_neg t && ltb (natural t) time_bound

unfoldable pub every : {A : Type 0} → (A → Bool) → List A → Bool
every f [] = true
every f (a ∷ l) = f a && every f l

abbrev pub at_most : ℕ → ℕ → Bool
at_most most n = leb n most

abbrev pub events_in_range : List ℕ → List ℕ → List ℤ → List ℕ → Bool
events_in_range xs ys ts ps = every (at_most 2047) xs && (every (at_most 2047) ys && (every (at_most 1) ps && every time_in_range ts))

-- ---- 6: a time below the one before, below the last append's, or, without such, below the coarse time that is held

unfoldable pub falls : (from : ℤ) → List ℤ → Bool
falls from [] = false
falls from (t ∷ ts) = lt_z t from || falls t ts

abbrev pub falls_after : Option ℤ → List ℤ → Bool
falls_after None [] = false
falls_after None (t ∷ ts) = falls t ts
falls_after (Some last) ts = falls last ts

-- the unit of a high half
abbrev pub grain_of : Encoding → ℕ
grain_of Evt2 = grain2
grain_of Evt21 = grain2
grain_of Evt3 = grain3

-- the time that no event of an append may be below: a resumed writer holds a coarse time and has no last time
abbrev pub not_before : Encoding → (held : Option ℕ) → Option ℤ → Option ℤ
not_before e held (Some t) = Some t
not_before e None None = None
not_before e (Some h) None = Some (pos (h * grain_of e))

abbrev pub sink_not_before : RawEventSink → Option ℤ
sink_not_before s = not_before s.version s.state.time_high s.last_t

-- ---- 12: columns of several lengths

abbrev pub same_lengths : (a b c d : ℕ) → Bool
same_lengths a b c d = eqb b a && (eqb c a && eqb d a)

-- ---- 10: a writer out of range

abbrev pub is_nothing : Option ℕ → Bool
is_nothing None = true
is_nothing (Some g) = false

-- sent as q, or not at all
abbrev pub belongs : Option ℕ → (q : ℕ) → Bool
belongs None q = true
belongs (Some g) q = eqb g q

abbrev pub sent_at_most : Option ℕ → (most : ℕ) → Bool
sent_at_most None most = true
sent_at_most (Some g) most = leb g most

-- nothing but a high half is sent
abbrev pub high_in_range : EncoderState → (high : ℕ) → Bool
high_in_range v high = belongs v.time_high high && (is_nothing v.time_low && is_nothing v.y)

-- the halves are those of the last time; EVT3 alone has a low half and a row
abbrev pub sent_in_range : Encoding → EncoderState → (last : ℕ) → Bool
sent_in_range Evt2 v t = high_in_range v (t / grain2)
sent_in_range Evt21 v t = high_in_range v (t / grain2)
sent_in_range Evt3 v t = belongs v.time_high (t / grain3) && (belongs v.time_low (t % grain3) && sent_at_most v.y 2047)

-- a high half without a last time: its coarse time is within 7's bounds
abbrev pub held_in_range : Encoding → Option ℕ → Bool
held_in_range e None = true
held_in_range e (Some h) = ltb (h * grain_of e) time_bound

-- without a last time no low half and no row was sent, and none counted
abbrev pub last_in_range : Encoding → EncoderState → (count : ℕ) → Option ℤ → Bool
last_in_range e v n None = held_in_range e v.time_high && (is_nothing v.time_low && (is_nothing v.y && eqb n 0))
last_in_range e v n (Some t) = time_in_range t && (leb n (2 ^ 62) && sent_in_range e v (natural t))

abbrev pub sink_in_range : RawEventSink → Bool
sink_in_range s = last_in_range s.version s.state s.n_events s.last_t
