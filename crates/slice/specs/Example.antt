-- Where times step back a slice by time depends on the spacing, as in the Rust: the smallest case.
-- No event steps back, only the decoder's time, from 4196 to 4101.
use Rattle.std.specs.Prelude.{◌≡◌, refl, List, [], ◌∷◌, ℕ, pos}
use Rattle.laws_stream.specs.{Loop.loops_after, Loop.time_after, Mask.bits, Words.stream}
use Rattle.std.specs.Prelude.{Some}
use Rattle.evt_types.specs.{declared.Encoding.TheVariants.Evt3, Event.Event}
use Rattle.evt3_decoder.specs.Evt3.{step3, vector3}
use Rattle.index_build.specs.Index.{record_at, records_of}
use Rattle.slice_rules.specs.Slice.{time_events}
use Rattle.slice.specs.Own.{own_source, own_records}

-- 8001 6064 6005 2001
abbrev recording : List ℕ
recording = stream 2 (32769 ∷ 24676 ∷ 24581 ∷ 8193 ∷ [])

-- 4101 ≤ t < 4102
abbrev sliced : (spacing : ℕ) → List Event
sliced spacing =
    time_events recording (own_source (Some (record { width = 2048; height = 2048 })) Evt3 0 spacing recording) (own_records (Some (record { width = 2048; height = 2048 })) Evt3 0 spacing recording) (pos 4101) (pos 4102)

-- from the first record the second word stops the slice; the second record stands behind that word
pub steps_back : (sliced 8 ≡ []) × (sliced 4 ≡ record { t = 4101; x = 1; y = 0; p = 0 } ∷ [])
unfolding time_events records_of record_at step3 vector3 loops_after time_after bits
steps_back = (refl, refl)
