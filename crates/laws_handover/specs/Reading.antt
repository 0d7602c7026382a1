-- A way of reading that comes to what the body at its start comes to.
use Rattle.std.specs.Prelude.{◌≡◌, false, List, ℕ, ◌^◌, ◌≤◌, length, drop}
use Rattle.std.specs.Prelude.{None}
use Rattle.header.specs.Header.{has_zero}
use Rattle.read_rules.specs.Read.{body_outcome}
use Rattle.index_build.specs.Index.{kept_events, body_at, index_outcome}
use Rattle.laws_handover.specs.Handover.{Way, encoding_by, size_by, start_by, read_by, open_by_lem}

-- ---- a way of reading that comes to what the body at its start comes to

pub record Comes (way : Way) (bytes : List ℕ) : Type 0 where
  pub within : start_by way ≤ length bytes
  pub few : length bytes ≤ 2 ^ 30
  pub no_zero : has_zero (size_by way) ≡ false
  pub reads : (room : ℕ) → read_by way bytes room
      ≡ body_outcome (encoding_by way) (size_by way) None (kept_events (size_by way) (encoding_by way) (drop (start_by way) bytes)) room
  pub opens : (spacing room : ℕ) → open_by_lem way bytes spacing room ≡ index_outcome (body_at bytes (start_by way) (encoding_by way) (size_by way) spacing) room
