-- Between numbers and the library's own writers nothing is lost, and nothing else is read as one of them.
use Rattle.std.specs.Prelude.{◌≡◌, refl, Bool, true, false, cond, not, ◌&&◌, ℕ, ◌<◌, ◌^◌, eqb, ℤ, pos, negsuc}
use Rattle.std.proofs.Common.{sym, ap, arith, of_z, eqb-true, ne_eqb}
use Rattle.std.specs.Int.Signed.{mag}
use Rattle.std.specs.Int.{w64}
use Rattle.std.specs.Prelude.{Option, Some, None}
use Rattle.write_rules.specs.declared.{RawEventSink.RawEventSink}
use Rattle.write_rules.specs.Rules.{fresh_sink}
use Rattle.c_values.specs.{Encoding.is_known}
use Rattle.c_values.specs.{Encoding.encoding_of, Encoding.number_known, Encoding.encoding_back, Encoding.number_back, Flags.flag, Flags.bit, Flags.is_flag}
use Rattle.c_values.specs.{Flags.bit-flag, Flags.bit_back, Flags.flag_back, Flags.both}
use Rattle.c_writer.specs.{declared.writer.PropheseeSink.PropheseeSink, Writer.is_held, Writer.is_zero, Writer.is_last_held, Writer.is_state_held}
use Rattle.c_writer.specs.{Writer.is_sink, Writer.sent_of, Writer.last_of, Writer.sink_of, Writer.has_sent, Writer.sent_value, Writer.has_last}
use Rattle.c_writer.specs.{Writer.last_value, Writer.flat_sink, Writer.writer_of}

-- a signed number is 0 where its bits are
pub zero_bits : (t : ℤ) → mag t < 2 ^ 63 → eqb (of_z w64 t) 0 ≡ is_zero t
zero_bits (pos n) h = refl
zero_bits (negsuc n) h = ne_eqb (of_z w64 (negsuc n)) 0 (λ e. omega (arith, e))

sent_back : (s : Option ℕ) → sent_of (has_sent s) (sent_value s) ≡ s
sent_back None = refl
sent_back (Some v) = refl

last_back : (l : Option ℤ) → last_of (has_last l) (last_value l) ≡ l
last_back None = refl
last_back (Some t) = refl

-- a writer as numbers loses nothing
pub sink_back : (s : RawEventSink) → sink_of (flat_sink s) ≡ s
sink_back s = λ i. record {
  version = encoding_back s.version i;
  header_written = bit_back s.header_written i;
  n_events = s.n_events;
  last_t = last_back s.last_t i;
  state = record {
    time_high = sent_back s.state.time_high i;
    time_low = sent_back s.state.time_low i;
    y = sent_back s.state.y i;
  };
}

-- and they are a writer's
pub sink_flat : (s : RawEventSink) → is_sink (flat_sink s) ≡ true
sink_flat s =
    rw (
      number_known s.version,
      bit-flag s.header_written,
      last s.last_t,
      sent s.state.time_high,
      sent s.state.time_low,
      sent s.state.y,
    )
  where
    sent : (s : Option ℕ) → is_held (has_sent s) (sent_value s) ≡ true
    sent None = refl
    sent (Some v) = refl

    last : (l : Option ℤ) → is_last_held (has_last l) (last_value l) ≡ true
    last None = refl
    last (Some t) = refl

-- nothing else is read as that writer
pub sink_numbers : (f : PropheseeSink) → is_sink f ≡ true → flat_sink (sink_of f) ≡ f
sink_numbers f h =
    let parts = both (is_known f.encoding && (is_flag f.header_written && is_last_held f.has_last_t f.last_t)) (is_state_held f) h in
    let front = both (is_known f.encoding) _ parts.0 in
    let flags = both (is_flag f.header_written) _ front.1 in
    let state = both (is_held f.has_time_high f.time_high) _ parts.1 in
    let rest = both (is_held f.has_time_low f.time_low) _ state.1 in
    let last = last-held f.has_last_t f.last_t flags.1 in
    let high = held f.has_time_high f.time_high state.0 in
    let low = held f.has_time_low f.time_low rest.0 in
    let row = held f.has_y f.y rest.1 in
    λ i. record {
      n_events = f.n_events;
      last_t = last.1 i;
      time_high = high.1 i;
      time_low = low.1 i;
      y = row.1 i;
      encoding = number_back f.encoding front.0 i;
      header_written = flag_back f.header_written flags.0 i;
      has_last_t = last.0 i;
      has_time_high = high.0 i;
      has_time_low = low.0 i;
      has_y = row.0 i;
    }
  where
    held : (has value : ℕ) → is_held has value ≡ true → (has_sent (sent_of has value) ≡ has) × (sent_value (sent_of has value) ≡ value)
    held has value = go (eqb has 0) (eqb-true has 0)
      where
        go : (b : Bool) → (b ≡ true → has ≡ 0) → cond b (eqb value 0) (eqb has 1) ≡ true
            → (has_sent (cond (not b) (Some value) None) ≡ has) × (sent_value (cond (not b) (Some value) None) ≡ value)
        go true p h = (sym (p refl), sym (eqb-true value 0 h))
        go false p h = (sym (eqb-true has 1 h), refl)

    zero_is : (t : ℤ) → is_zero t ≡ true → pos 0 ≡ t
    zero_is (pos n) h = ap pos (sym (eqb-true n 0 h))
    zero_is (negsuc n) h = let z : ◌≡◌ {A = ℕ} 0 1 = cc in absurd (omega arith)

    last-held : (has : ℕ) (t : ℤ) → is_last_held has t ≡ true → (has_last (last_of has t) ≡ has) × (last_value (last_of has t) ≡ t)
    last-held has t = go (eqb has 0) (eqb-true has 0)
      where
        go : (b : Bool) → (b ≡ true → has ≡ 0) → cond b (is_zero t) (eqb has 1) ≡ true
            → (has_last (cond (not b) (Some t) None) ≡ has) × (last_value (cond (not b) (Some t) None) ≡ t)
        go true p h = (sym (p refl), zero_is t h)
        go false p h = (sym (eqb-true has 1 h), refl)

-- of a known encoding, a fresh writer is the library's
pub writer-fresh : (n header : ℕ) → is_known n ≡ true → writer_of n header ≡ flat_sink (fresh_sink (encoding_of n) (flag header))
writer-fresh n header h = λ i. record {
  n_events = 0;
  last_t = pos 0;
  time_high = 0;
  time_low = 0;
  y = 0;
  encoding = sym (number_back n h) i;
  header_written = bit (not (flag header));
  has_last_t = 0;
  has_time_high = 0;
  has_time_low = 0;
  has_y = 0;
}
