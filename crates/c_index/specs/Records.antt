-- The records of an index as numbers, ten to a record, and back.
use Rattle.std.specs.Prelude.{◌≡◌, Bool, true, cond, ◌&&◌, List, [], ◌∷◌, map, ℕ, ◌^◌, ◌<◌, ltb, ℤ, pos, negsuc, take, get_or}
use Rattle.std.proofs.Common.{ltb-true}
use Rattle.evt_types.specs.{declared.Encoding.Encoding, Num.natural}
use Rattle.index_build.specs.declared.Checkpoint.{Checkpoint}
use Rattle.c_values.specs.{Codec.numbers_of, Codec.is_codec, Codec.codec_of, Flags.both}
use Rattle.c_index.specs.declared.records.{LentRecords.LentRecords, PropheseeRecord.PropheseeRecord}

-- ---- a record

-- no record that is made has a negative time
abbrev pub flat_record : Checkpoint → PropheseeRecord
flat_record c =
    record { byte_offset = c.byte_offset; event_index = c.event_index; time = natural c.time; decoder = numbers_of c.codec }

-- its ten numbers, in the order of the C struct
abbrev pub entries_of : PropheseeRecord → List ℕ
entries_of r =
    let d = r.decoder in
    r.byte_offset ∷ r.event_index ∷ r.time ∷ d.initialised ∷ d.time_base ∷ d.time ∷ d.high_loops ∷ d.y ∷ d.base_x ∷ d.polarity ∷ []

abbrev pub entries_all : List Checkpoint → List (List ℕ)
entries_all = map (λ c. entries_of (flat_record c))

-- ---- and back

abbrev pub record_in : List ℕ → PropheseeRecord
record_in a = record {
  byte_offset = get_or a 0 0;
  event_index = get_or a 1 0;
  time = get_or a 2 0;
  decoder = record {
    initialised = get_or a 3 0;
    time_base = get_or a 4 0;
    time = get_or a 5 0;
    high_loops = get_or a 6 0;
    y = get_or a 7 0;
    base_x = get_or a 8 0;
    polarity = get_or a 9 0;
  };
}

-- whether some checkpoint of the encoding has these numbers
abbrev pub is_record : Encoding → PropheseeRecord → Bool
is_record e r = ltb r.time (2 ^ 63) && is_codec e r.decoder

-- a record that is none has a negative time, which rule 10 refuses
abbrev pub time_of : Encoding → PropheseeRecord → ℤ
time_of e r = cond (is_record e r) (pos r.time) (negsuc 0)

abbrev pub checkpoint_of : Encoding → PropheseeRecord → Checkpoint
checkpoint_of e r =
    record { byte_offset = r.byte_offset; event_index = r.event_index; time = time_of e r; codec = codec_of e r.decoder }

abbrev pub checkpoint_in : Encoding → List ℕ → Checkpoint
checkpoint_in e a = checkpoint_of e (record_in a)

-- the first n
unfoldable pub checkpoints_in : Encoding → (n : ℕ) → List (List ℕ) → List Checkpoint
checkpoints_in e n l = map (checkpoint_in e) (take n l)

-- all
abbrev pub listed : LentRecords → List Checkpoint
listed r = map (checkpoint_in r.encoding) r.entries.now

-- ---- laws

pub record_early : (e : Encoding) (r : PropheseeRecord) → is_record e r ≡ true → r.time < 2 ^ 63
record_early e r h = ltb-true r.time (2 ^ 63) (both (ltb r.time (2 ^ 63)) _ h).0
