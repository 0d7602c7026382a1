-- The i-th record of a list, and a blank one past its end.
use Rattle.std.specs.Prelude.{ℕ, List, pos, get_or}
use Rattle.evt_types.specs.declared.Encoding.TheVariants.{Evt2}
use Rattle.evt_codec.specs.Codec.{fresh_c}
use Rattle.index_build.specs.declared.Checkpoint.{Checkpoint}

abbrev pub blank : Checkpoint
blank = record { byte_offset = 0; event_index = 0; time = pos 0; codec = fresh_c Evt2 }

abbrev pub nth : List Checkpoint → ℕ → Checkpoint
nth l i = get_or l i blank
