-- The numbers that a call of the C interface returns for what the library tells, and what reading promises.
use Rattle.std.specs.Prelude.{◌≡◌, Bool, false, cond, List, ℕ, ◌<◌, eqb, ℤ, get_or}
use Rattle.std.proofs.Common.{sym, ap, arith, ne_eqb}
use Rattle.evt_types.specs.{declared.Refusal.Refusal, Outcome.Outcome, Told.Told, Told.naturals, Told.told, Told.told-numbered}
use Rattle.read_rules.specs.Read.{ReadEvents, Handed, shortest, words_outcome, raw_outcome, read_verdict, handed_events}
use Rattle.c_values.specs.{declared.options.PropheseeOptions.PropheseeOptions, declared.reading.PropheseeHeader.PropheseeHeader}
use Rattle.c_values.specs.{declared.reading.PropheseeReading.PropheseeReading, Encoding.coded_outcome, Options.options_of}

-- value i of an acceptance, and 0 of a refusal
abbrev pub value_of : Told → ℕ → ℕ
value_of t i = cond (eqb t.number 0) (get_or (naturals t.values) i 0) 0

-- the count that a 5, a 9, an 11 or a 13 tells, and else 0
abbrev pub count_of : Told → ℕ
count_of t = cond (eqb t.number 0) 0 (get_or (naturals t.values) 0 0)

-- an acceptance tells body start, encoding, whether a size is known, width and height
abbrev pub parsed_of : Told → PropheseeHeader
parsed_of t = record {
  refusal = t.number;
  encoding = value_of t 1;
  data_offset = value_of t 0;
  width = value_of t 3;
  height = value_of t 4;
  sized = value_of t 2;
}

-- an acceptance tells encoding, width, height and count
abbrev pub reading_of : Told → PropheseeReading
reading_of t = record {
  refusal = t.number;
  encoding = value_of t 0;
  told = count_of t;
  width = value_of t 1;
  height = value_of t 2;
  count = value_of t 3;
}

-- what a reading promises: its outcome is that of the library's own contracts
pub record ReadsC (outcome : Outcome ReadEvents) (r : PropheseeReading)
    (xs₀ ys₀ : List ℕ) (ts₀ : List ℤ) (ps₀ xs ys : List ℕ) (ts : List ℤ) (ps : List ℕ) : Type 0 where
  pub is_answer : r ≡ reading_of (read_verdict outcome)
  pub columns : Handed (handed_events outcome) xs₀ ys₀ ts₀ ps₀ xs ys ts ps

abbrev pub DecodesWordsC : List ℕ → (encoding : ℕ) → PropheseeOptions → PropheseeReading
    → (xs₀ ys₀ : List ℕ) (ts₀ : List ℤ) (ps₀ xs ys : List ℕ) (ts : List ℤ) (ps : List ℕ) → Type 0
DecodesWordsC words n options r xs₀ ys₀ ts₀ ps₀ =
    let o = options_of options in
    let room = shortest xs₀ ys₀ ts₀ ps₀ in
    ReadsC (coded_outcome n words (λ e. words_outcome words e o.sensor_size o.max_events room)) r xs₀ ys₀ ts₀ ps₀

abbrev pub ReadsRawC : List ℕ → PropheseeOptions → PropheseeReading
    → (xs₀ ys₀ : List ℕ) (ts₀ : List ℤ) (ps₀ xs ys : List ℕ) (ts : List ℤ) (ps : List ℕ) → Type 0
ReadsRawC recording options r xs₀ ys₀ ts₀ ps₀ = ReadsC (raw_outcome recording (options_of options) (shortest xs₀ ys₀ ts₀ ps₀)) r xs₀ ys₀ ts₀ ps₀

-- ---- laws: a refusal is no acceptance, and has none of its values

pub refused_not : (r : Refusal) → eqb (told r).number 0 ≡ false
refused_not r = ne_eqb (told r).number 0 (nonzero (told r).number (told-numbered r))
  where
    nonzero : (n : ℕ) → 0 < n → n ≡ 0 → ⊥
    nonzero n h e = omega arith

pub no_value : (r : Refusal) (i : ℕ) → value_of (told r) i ≡ 0
no_value r i = ap (λ (b : Bool). cond b (get_or (naturals (told r).values) i 0) 0) (refused_not r)

pub refused_header : (r : Refusal) (n : ℕ) → n ≡ (told r).number
    → record { refusal = n; encoding = 0; data_offset = 0; width = 0; height = 0; sized = 0 } ≡ parsed_of (told r)
refused_header r n p = λ i. record {
  refusal = p i;
  encoding = sym (no_value r 1) i;
  data_offset = sym (no_value r 0) i;
  width = sym (no_value r 3) i;
  height = sym (no_value r 4) i;
  sized = sym (no_value r 2) i;
}

pub refused-reading : (r : Refusal) (n k : ℕ) → n ≡ (told r).number → k ≡ count_of (told r)
    → record { refusal = n; encoding = 0; told = k; width = 0; height = 0; count = 0 } ≡ reading_of (told r)
refused-reading r n k p q = λ i. record {
  refusal = p i;
  encoding = sym (no_value r 0) i;
  told = q i;
  width = sym (no_value r 1) i;
  height = sym (no_value r 2) i;
  count = sym (no_value r 3) i;
}
