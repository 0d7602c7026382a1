-- What `{}` prints of a refusal: its text, and in decimal the count that it tells.
use Rattle.std.specs.Prelude.{ℕ, List, ◌++◌, codes, decimal}
use Rattle.evt_types.specs.declared.Refusal.{Refusal}
use Rattle.evt_types.specs.declared.Refusal.TheVariants.{InvalidSensorSize, UnknownEncoding, HeaderNotAscii, TooLong, ColumnsTooShort, TimeOrder}
use Rattle.evt_types.specs.declared.Refusal.TheVariants.{EventOutOfRange, InvalidSpacing, TooFewRecords, StateOutOfRange, OutputTooShort, ColumnLengths}
use Rattle.evt_types.specs.declared.Refusal.TheVariants.{TriggerColumnsTooShort}

abbrev pub refusal_text : Refusal → List ℕ
refusal_text InvalidSensorSize = codes "width or height 0, or no size and no event"
refusal_text UnknownEncoding = codes "no known encoding"
refusal_text HeaderNotAscii = codes "a header byte above 127"
refusal_text TooLong = codes "over 2^30 bytes read, or over 2^28 events in one append"
refusal_text (ColumnsTooShort n) = decimal n ++ codes " events, more than the shortest column holds"
refusal_text TimeOrder = codes "a time below the one before"
refusal_text EventOutOfRange = codes "an event that its encoding cannot say"
refusal_text InvalidSpacing = codes "a spacing that is no multiple of 4 (EVT2.1: of 8) from 4 to 4194304"
refusal_text (TooFewRecords n) = decimal n ++ codes " checkpoints, more than lent records"
refusal_text StateOutOfRange = codes "an index, a writer or a decoder out of range"
refusal_text (OutputTooShort n) = codes "an output shorter than the " ++ (decimal n ++ codes " bytes to write")
refusal_text ColumnLengths = codes "appended columns that differ in length"
refusal_text (TriggerColumnsTooShort n) = decimal n ++ codes " triggers, more than their shortest column holds"
