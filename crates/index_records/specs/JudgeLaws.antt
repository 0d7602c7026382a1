-- What an index in range has: records in range, whose counts and times never fall.
use Rattle.std.specs.Prelude.{◌≡◌, ◌^◌, ◌<◌, ◌≤◌, Bool, true, false, cond, List, [], ◌∷◌, pos}
use Rattle.std.specs.Prelude.{int_le}
use Rattle.std.proofs.Math.Path.{refl}
use Rattle.laws_stream.specs.Machine.{All, all_map}
use Rattle.evt_codec.specs.Codec.{in_range_c}
use Rattle.index_build.specs.declared.{Checkpoint.Checkpoint, RawSliceSource.RawSliceSource}
use Rattle.index_records.specs.Start.{last_passing}
use Rattle.index_records.specs.Judge.{is_other}

-- ---- the records of an index in range

-- what holds of each by itself
pub record Good (s : RawSliceSource) (c : Checkpoint) : Type 0 where
  pub place : c.byte_offset < 2 ^ 64
  pub same : is_other c.codec s.encoding ≡ false
  pub decoder : in_range_c c.codec ≡ true
  pub few : c.event_index ≤ 2 ^ 33
  pub within : c.event_index ≤ s.n_events
  pub since : int_le (pos 0) c.time ≡ true

-- counts and times don't fall from c to d
pub record Before (c d : Checkpoint) : Type 0 where
  pub counts : c.event_index ≤ d.event_index
  pub times : int_le c.time d.time ≡ true

-- ---- the record that a slice starts at

-- what holds of the first record, and of each that passes
pub last_passes : (Q : Checkpoint → Type 0) (p : Checkpoint → Bool) (c : Checkpoint) (cs : List Checkpoint) → Q c → All (λ d. p d ≡ true → Q d) cs
    → Q (last_passing p c cs)
last_passes Q p c [] q h = q
last_passes Q p c (d ∷ ds) q h = last_passes Q p (cond (p d) d c) ds (go (p d) refl) h.1
  where
    go : (b : Bool) → p d ≡ b → Q (cond b d c)
    go true e = h.0 e
    go false e = q

-- it is one of them
pub last-all : (P : Checkpoint → Type 0) (p : Checkpoint → Bool) (c : Checkpoint) (cs : List Checkpoint) → All P (c ∷ cs) → P (last_passing p c cs)
last-all P p c cs h = last_passes P p c cs h.0 (all_map P (λ d. p d ≡ true → P d) (λ d q _. q) cs h.1)
