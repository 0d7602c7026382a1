-- Laws of specs/Rising.antt.
use Rattle.std.specs.Prelude.{Option, Some}
use Rattle.evt_types.specs.{declared.Encoding.Encoding}
use Rattle.laws_stream.specs.Order.{last_of}
use Rattle.std.proofs.Common.{arith}
use Rattle.std.specs.Prelude.{List, [], length, refl, ℕ, ℤ, ◌∷◌, ◌≡◌}
use Rattle.write_append.specs.{Append.last_after, Append.next_sink, Rising.checked_rise, Rising.clock, Rising.earliest, Rising.in_bounds, Rising.state_none}
use Rattle.write_buffer.specs.Columns.{events_in}
use Rattle.write_rules.specs.{Checks.Checked, Range.not_before, Range.sink_not_before}
use Rattle.write_rules.specs.{declared.RawEventSink.RawEventSink}
use Rattle.write_words.specs.Encode.{encode_state}

-- ---- the writer's time after it

after-some : (e : Encoding) (held : Option ℕ) (l m : Option ℤ) (t : ℤ) (ts : List ℤ) → not_before e held (last_after l (t ∷ ts)) ≡ last_after m (t ∷ ts)
unfolding last_after
after-some e held l m t [] = refl
after-some e held l m t (u ∷ ts) = after-some e held (Some t) (Some t) u ts

next_time : (s : RawEventSink) (xs ys : List ℕ) (ts : List ℤ) (ps : List ℕ) → length ts ≡ length xs
    → sink_not_before (next_sink s xs ys ts ps) ≡ last_after (sink_not_before s) ts
unfolding last_after
next_time s [] ys [] ps h = rw (state_none s.version s.state)
next_time s (x ∷ xs) ys [] ps h = absurd (omega arith)
next_time s xs ys (t ∷ ts) ps h =
    after-some s.version (encode_state s.version s.state (events_in xs ys (t ∷ ts) ps)).time_high s.last_t (sink_not_before s) t ts

pub append-last : (s : RawEventSink) (xs ys : List ℕ) (ts : List ℤ) (ps : List ℕ) → Checked s xs ys ts ps
    → earliest (sink_not_before (next_sink s xs ys ts ps)) ≡ last_of clock in_bounds (earliest (sink_not_before s)) (events_in xs ys ts ps)
append-last s xs ys ts ps k = rw (next_time s xs ys ts ps k.sized.same-t) (checked_rise s xs ys ts ps k).1
