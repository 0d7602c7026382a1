-- What the listing program prints for the bytes of a recording. A text is its bytes in ASCII, a number its decimal digits (write_text/specs/Text.antt).
use Rattle.std.specs.Prelude.{cond, List, [], ◌∷◌, ◌++◌, ℕ, ◌/◌, ◌*◌, ltb, length}
use Rattle.std.specs.Prelude.{None}
use Rattle.evt_types.specs.declared.{Refusal.Refusal}
use Rattle.evt_types.specs.{Event.Event, Outcome.Outcome, Outcome.on_outcome, Told.told, Num.encoding_number}
use Rattle.read_rules.specs.{declared.LoadOptions.LoadOptions, declared.Reading.Reading, Read.ReadEvents, Read.raw_outcome}
use Rattle.write_text.specs.Text.{ascii, decimal}

-- ---- lines

abbrev pub space : ℕ
space = 32

abbrev pub newline : ℕ
newline = 10

-- a number, and the byte that ends it
unfoldable pub field : ℕ → (end : ℕ) → List ℕ
field n end = decimal n ++ (end ∷ [])

unfoldable pub too_long : List ℕ
too_long = ascii "too long\n"

-- `refused N`, N the table's number
unfoldable pub refused_line : Refusal → List ℕ
refused_line r = ascii "refused " ++ field (told r).number newline

-- `EVT3 64 48 3`: encoding, width, height, count
unfoldable pub read_line : Reading → List ℕ
read_line r = ascii "EVT" ++ field (encoding_number r.encoding) space ++ field r.width space ++ field r.height space ++ field r.count newline

-- `t x y p`
unfoldable pub event_line : Event → List ℕ
event_line e = field e.t space ++ field e.x space ++ field e.y space ++ field e.p newline

unfoldable pub event_lines : List Event → List ℕ
event_lines [] = []
event_lines (e ∷ es) = event_line e ++ event_lines es

-- ---- the listing

abbrev pub most_listed : ℕ
most_listed = 65536

-- no size and no limit
abbrev pub list_options : LoadOptions
list_options = record { sensor_size = None; max_events = None }

-- columns that always suffice: 12 events for each word of 2 bytes
abbrev pub list_room : ℕ
list_room = most_listed / 2 * 12

abbrev pub outcome_text : Outcome ReadEvents → List ℕ
outcome_text = on_outcome refused_line (λ g. read_line g.reading ++ event_lines g.events)

unfoldable pub listing_of : List ℕ → List ℕ
listing_of recording =
    cond (ltb most_listed (length recording)) too_long (outcome_text (raw_outcome recording list_options list_room))
