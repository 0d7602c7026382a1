-- What the numbers of an option mean.
use Rattle.std.specs.Prelude.{cond, ℕ}
use Rattle.std.specs.Prelude.{Option, Some, None}
use Rattle.evt_types.specs.declared.SensorSize.{SensorSize}
use Rattle.read_rules.specs.declared.LoadOptions.{LoadOptions}
use Rattle.c_values.specs.{declared.options.PropheseeOptions.PropheseeOptions, Flags.flag}

abbrev pub size_of : (sized width height : ℕ) → Option SensorSize
size_of sized width height = cond (flag sized) (Some (record { width = width; height = height })) None

abbrev pub limit_of : (limited n : ℕ) → Option ℕ
limit_of limited n = cond (flag limited) (Some n) None

abbrev pub options_of : PropheseeOptions → LoadOptions
options_of o = record { sensor_size = size_of o.sized o.width o.height; max_events = limit_of o.limited o.max_events }
