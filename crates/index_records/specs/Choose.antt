-- Which record a slice starts at.
use Rattle.std.specs.Prelude.{◌≡◌, Bool, List, [], ◌∷◌, int_lt, nat_le}
use Rattle.index_build.specs.declared.Checkpoint.{Checkpoint}
use Rattle.index_records.specs.declared.{Choice.Choice, Choice.TheVariants.ByNumber, Choice.TheVariants.ByTime}
use Rattle.index_records.specs.Start.{Parted, last_passing}

-- a count at most the number, or a time below the time asked for
abbrev pub passes_of : Choice → Checkpoint → Bool
passes_of (ByNumber number) c = nat_le c.event_index number
passes_of (ByTime time) c = int_lt c.time time

-- the last record that passes, or else the first, if none passes behind one that doesn't; without a record nothing is promised
abbrev pub Chose : Choice → List Checkpoint → Checkpoint → Type 0
Chose asked [] r = Unit
Chose asked (c ∷ cs) r = Parted (passes_of asked) (c ∷ cs) → r ≡ last_passing (passes_of asked) c cs
