-- What a pass over some bytes hands over from a decoder of any encoding, and what it tells.
use Rattle.std.specs.Prelude.{List, ℕ, ◌/◌, ◌^◌, ◌≤◌, length}
use Rattle.evt_types.specs.Event.{Event}
use Rattle.laws_stream.specs.{Words.words_of, Select.Reading, Select.End, Select.handed, Select.ended}
use Rattle.evt_codec.specs.{declared.codec.Codec.Codec, Reader.Reader, Reader.View, Reader.view}
pub use Rattle.evt_codec.specs.Codec.{Able}
pub use Rattle.evt_types.specs.Columns.{Fits}
use Rattle.read_window.specs.{declared.Window.Window, Window.selection_of, Window.reading, Extent.extent_of}
use Rattle.read_select.specs.declared.{Filled.Filled, SurveyTotals.SurveyTotals}

-- what the rule of selection reads of an encoding's decoder
abbrev pub reading_by : (R : Reader) → Window → Reading R.State ℕ Event
reading_by R = reading R.machine R.started R.time

-- the events handed over, where the next event has the number k
abbrev pub handed_from : Window → ℕ → View → List ℕ → List Event
handed_from win k v l = handed (reading_by v.reader win) (selection_of win) k v.state (words_of v.reader.size l)

abbrev pub handed_over : Window → ℕ → Codec → List ℕ → List Event
handed_over win k c l = handed_from win k (view c) l

abbrev pub end_of : {S : Type 0} → (S → Codec) → End S → End Codec
end_of codec e = record { number = e.number; state = codec e.state; consumed = e.consumed }

-- where it ends
abbrev pub end_from : Window → ℕ → View → List ℕ → End Codec
end_from win k v l = end_of v.reader.codec (ended (reading_by v.reader win) (selection_of win) k v.state (words_of v.reader.size l))

abbrev pub end_over : Window → ℕ → Codec → List ℕ → End Codec
end_over win k c l = end_from win k (view c) l

abbrev pub survey_of : End Codec → List Event → SurveyTotals
survey_of e es = record {
  number = e.number;
  count = length es;
  latest = (extent_of es).latest;
  width = (extent_of es).width;
  height = (extent_of es).height;
  consumed = e.consumed;
  codec = e.state;
}

abbrev pub filled_of : End Codec → List Event → Filled
filled_of e es = record { number = e.number; count = length es; consumed = e.consumed; codec = e.state }

-- what a pass answers from a state of one encoding's decoder
abbrev pub surveyed_from : Window → ℕ → View → List ℕ → SurveyTotals
surveyed_from win k v l = survey_of (end_from win k v l) (handed_from win k v l)

abbrev pub filled_from : Window → ℕ → View → List ℕ → Filled
filled_from win k v l = filled_of (end_from win k v l) (handed_from win k v l)

-- what `survey` and `fill` answer
abbrev pub surveyed : Window → ℕ → Codec → List ℕ → SurveyTotals
surveyed win k c l = survey_of (end_over win k c l) (handed_over win k c l)

abbrev pub filled : Window → ℕ → Codec → List ℕ → Filled
filled win k c l = filled_of (end_over win k c l) (handed_over win k c l)

-- ---- what a pass asks for: every caller has it, from the range of a decoder (10) and the length of a recording (4)

pub record Ready (c : Codec) (number bytes : ℕ) : Type 0 where
  pub able : Able bytes c
  pub long : bytes ≤ 2 ^ 30
  pub low : number ≤ 2 ^ 62

-- the same of one encoding's decoder, with the column that EVT3's has by its type
pub record ReadyAt (R : Reader) (s : R.State) (number bytes : ℕ) : Type 0 where
  pub bounded : R.Bounded (bytes / R.size) s
  pub long : bytes ≤ 2 ^ 30
  pub low : number ≤ 2 ^ 62
