-- What opening returns, in numbers, and promises.
use Rattle.std.specs.Prelude.{◌≡◌, List, ◌++◌, ℕ, length, drop}
use Rattle.std.proofs.Common.{sym}
use Rattle.evt_types.specs.{declared.Encoding.Encoding, declared.Refusal.Refusal, Outcome.Outcome, Told.Told, Told.told}
use Rattle.index_build.specs.declared.{OpenOptions.OpenOptions, WordsOptions.WordsOptions}
use Rattle.index_build.specs.Index.{Body, open_raw_outcome, open_words_outcome, open_verdict, open_records}
use Rattle.c_values.specs.{Encoding.coded_outcome, Options.size_of, Reading.value_of, Reading.count_of, Reading.no_value}
use Rattle.c_index.specs.{declared.opening.PropheseeOpenOptions.PropheseeOpenOptions, declared.opening.PropheseeOpening.PropheseeOpening}
use Rattle.c_index.specs.{Records.entries_all}

abbrev pub open_options_of : PropheseeOpenOptions → OpenOptions
open_options_of o = record { sensor_size = size_of o.sized o.width o.height; spacing = o.spacing }

abbrev pub words_options_of : Encoding → PropheseeOpenOptions → WordsOptions
words_options_of e o = record { encoding = e; sensor_size = size_of o.sized o.width o.height; spacing = o.spacing }

-- an acceptance tells the encoding, the spacing, the body start, the length, the size, how many events there are, and how many records
abbrev pub opened_of : Told → PropheseeOpening
opened_of t = record {
  source = record {
    records = value_of t 7;
    spacing = value_of t 1;
    data_offset = value_of t 2;
    len = value_of t 3;
    width = value_of t 4;
    height = value_of t 5;
    n_events = value_of t 6;
    encoding = value_of t 0;
  };
  told = count_of t;
  refusal = t.number;
}

-- the records made stand in front, and behind them all is as it was; the outcome is that of the library's own contracts
pub record OpensC (outcome : Outcome Body) (r : PropheseeOpening) (records₀ records : List (List ℕ)) : Type 0 where
  pub is_answer : r ≡ opened_of (open_verdict outcome)
  pub is_records : records ≡ entries_all (open_records outcome) ++ drop (length (open_records outcome)) records₀

abbrev pub OpensRawC : List ℕ → PropheseeOpenOptions → PropheseeOpening → (records₀ records : List (List ℕ)) → Type 0
OpensRawC recording o r records₀ = OpensC (open_raw_outcome recording (open_options_of o) (length records₀)) r records₀

-- of words of encoding n, with room for so many records
abbrev pub open_words_outcome_c : List ℕ → (n : ℕ) → PropheseeOpenOptions → (room : ℕ) → Outcome Body
open_words_outcome_c words n o room = coded_outcome n words (λ e. open_words_outcome words (words_options_of e o) room)

abbrev pub OpensWordsC : List ℕ → (encoding : ℕ) → PropheseeOpenOptions → PropheseeOpening → (records₀ records : List (List ℕ)) → Type 0
OpensWordsC words n o r records₀ = OpensC (open_words_outcome_c words n o (length records₀)) r records₀

-- ---- laws

pub refused-opening : (r : Refusal) (n k : ℕ) → n ≡ (told r).number → k ≡ count_of (told r)
    → record {
      source = record { records = 0; spacing = 0; data_offset = 0; len = 0; width = 0; height = 0; n_events = 0; encoding = 0 };
      told = k;
      refusal = n;
    } ≡ opened_of (told r)
refused-opening r n k p q = λ i. record {
  source = record {
    records = sym (no_value r 7) i;
    spacing = sym (no_value r 1) i;
    data_offset = sym (no_value r 2) i;
    len = sym (no_value r 3) i;
    width = sym (no_value r 4) i;
    height = sym (no_value r 5) i;
    n_events = sym (no_value r 6) i;
    encoding = sym (no_value r 0) i;
  };
  told = q i;
  refusal = p i;
}
