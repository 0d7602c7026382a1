-- What one word adds to what a survey has noted.
use Rattle.std.specs.Prelude.{◌+◌, ◌≤◌, ◌<◌, ◌^◌}
use Rattle.std.specs.Int.Count.{ones}
use Rattle.evt_types.specs.{declared.vector.Vector.Vector, Event.Narrow, Event.events_of}
use Rattle.read_window.specs.{declared.extent.Extent.Extent, declared.trim.Trimmed.Trimmed, Trim.masked, Extent.extent_with}
use Rattle.read_select.specs.declared.word.Notes.{Notes}

abbrev pub seen_in : Notes → Extent
seen_in t = record { latest = t.latest; width = t.width; height = t.height }

-- with the events of v that r leaves
abbrev pub seen_with : Notes → Vector → Trimmed → Extent
seen_with t v r = extent_with (seen_in t) (events_of (masked v r.mask))

abbrev pub noted : Notes → Vector → Trimmed → Notes
noted t v r = record {
  number = t.number + ones r.mask + r.extra;
  count = t.count + ones r.mask;
  latest = (seen_with t v r).latest;
  width = (seen_with t v r).width;
  height = (seen_with t v r).height;
}

-- no sum wraps
pub record Notable (t : Notes) (v : Vector) (r : Trimmed) : Type 0 where
  pub narrow : Narrow v
  pub small : r.mask < 2 ^ 32
  pub few : r.extra ≤ 32
  pub number : t.number < 2 ^ 62 + 2 ^ 61
  pub count : t.count ≤ 2 ^ 62
