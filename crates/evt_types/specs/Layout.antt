-- The public word layouts of EVT 2.0, EVT 2.1 and EVT 3.0: a type in the top four bits, and fields by bit position.
use Rattle.std.specs.Prelude.{◌≡◌, ℕ, suc, ◌+◌, ◌-◌, ◌*◌, ◌/◌, ◌%◌, ◌^◌, ◌<◌}
use Rattle.std.proofs.Common.{◌∙◌, arith}

-- bits hi down to lo of a word
abbrev pub field : (hi lo : ℕ) → ℕ → ℕ
field hi lo w = w / 2 ^ lo % 2 ^ (suc hi - lo)

-- ---- EVT 2.0, words of 32 bits

-- a word's bytes, and the microseconds of a unit of coarse time
abbrev pub word_size2 : ℕ
word_size2 = 4

abbrev pub grain2 : ℕ
grain2 = 64

abbrev pub type2 : ℕ → ℕ
type2 = field 31 28

-- CD_OFF (0) and CD_ON (1): low bits of the time, column, row
abbrev pub time_low2 : ℕ → ℕ
time_low2 = field 27 22

abbrev pub x2 : ℕ → ℕ
x2 = field 21 11

abbrev pub y2 : ℕ → ℕ
y2 = field 10 0

-- EVT_TIME_HIGH (8): bits 33..6 of the time
abbrev pub time_high2 : ℕ → ℕ
time_high2 = field 27 0

-- EXT_TRIGGER (10): low bits of the time as of an event, channel, value
abbrev pub trigger_id2 : ℕ → ℕ
trigger_id2 = field 12 8

abbrev pub trigger_value2 : ℕ → ℕ
trigger_value2 = field 0 0

-- ---- EVT 2.1, words of 64 bits: the upper half is laid out as a word of EVT 2.0 (`upper_type` and so on), the lower is the mask of an event word

abbrev pub word_size21 : ℕ
word_size21 = 8

abbrev pub type21 : ℕ → ℕ
type21 = field 63 60

-- EVT_NEG (0) and EVT_POS (1): low bits of the time, first column, row, a bit for each of 32 columns
abbrev pub time_low21 : ℕ → ℕ
time_low21 = field 59 54

abbrev pub x21 : ℕ → ℕ
x21 = field 53 43

abbrev pub y21 : ℕ → ℕ
y21 = field 42 32

abbrev pub mask21 : ℕ → ℕ
mask21 = field 31 0

-- EVT_TIME_HIGH (8): bits 33..6 of the time
abbrev pub time_high21 : ℕ → ℕ
time_high21 = field 59 32

-- EXT_TRIGGER (10): low bits of the time as of an event, channel, value
abbrev pub trigger_id21 : ℕ → ℕ
trigger_id21 = field 44 40

abbrev pub trigger_value21 : ℕ → ℕ
trigger_value21 = field 32 32

-- the upper half of a word
abbrev pub upper : ℕ → ℕ
upper w = w / 2 ^ 32

-- ---- EVT 3.0, words of 16 bits

abbrev pub word_size3 : ℕ
word_size3 = 2

abbrev pub grain3 : ℕ
grain3 = 4096

abbrev pub type3 : ℕ → ℕ
type3 = field 15 12

-- EVT_ADDR_Y (0): bit 11 names the camera and is not read
abbrev pub y3 : ℕ → ℕ
y3 = field 10 0

-- EVT_ADDR_X (2) and VECT_BASE_X (3): polarity, column
abbrev pub polarity3 : ℕ → ℕ
polarity3 = field 11 11

abbrev pub x3 : ℕ → ℕ
x3 = field 10 0

-- VECT_12 (4), VECT_8 (5): a bit for each column
abbrev pub mask12 : ℕ → ℕ
mask12 = field 11 0

abbrev pub mask8 : ℕ → ℕ
mask8 = field 7 0

-- EVT_TIME_LOW (6), EVT_TIME_HIGH (8): bits 11..0 and 23..12 of the time
abbrev pub time3 : ℕ → ℕ
time3 = field 11 0

-- EXT_TRIGGER (10): channel, value
abbrev pub trigger_id3 : ℕ → ℕ
trigger_id3 = field 11 8

abbrev pub trigger_value3 : ℕ → ℕ
trigger_value3 = field 0 0

-- the type of a trigger, in all
abbrev pub trigger_type : ℕ
trigger_type = 10

-- ---- words, built of their fields

abbrev pub event_word2 : (p low x y : ℕ) → ℕ
event_word2 p low x y = p * 2 ^ 28 + low * 2 ^ 22 + x * 2 ^ 11 + y

abbrev pub time_word2 : (high : ℕ) → ℕ
time_word2 high = 8 * 2 ^ 28 + high

abbrev pub trigger_word2 : (low id value : ℕ) → ℕ
trigger_word2 low id value = trigger_type * 2 ^ 28 + low * 2 ^ 22 + id * 2 ^ 8 + value

-- of EVT 2.1: a word of EVT 2.0 over a mask, which a time and a trigger haven't
abbrev pub event_word21 : (p low x y mask : ℕ) → ℕ
event_word21 p low x y mask = event_word2 p low x y * 2 ^ 32 + mask

abbrev pub time_word21 : (high : ℕ) → ℕ
time_word21 high = time_word2 high * 2 ^ 32

abbrev pub trigger_word21 : (low id value : ℕ) → ℕ
trigger_word21 low id value = trigger_word2 low id value * 2 ^ 32

-- a word of EVT 3.0 whose twelve low bits are one field
abbrev pub word3 : (type v : ℕ) → ℕ
word3 type v = type * 2 ^ 12 + v

-- EVT_ADDR_X and VECT_BASE_X
abbrev pub column_word3 : (type p x : ℕ) → ℕ
column_word3 type p x = type * 2 ^ 12 + p * 2 ^ 11 + x

abbrev pub trigger_word3 : (id value : ℕ) → ℕ
trigger_word3 id value = trigger_type * 2 ^ 12 + id * 2 ^ 8 + value

-- ---- a word reads back to its fields, fits its width, and has its unused bits 0

module _ (p low x y : ℕ) (p< : p < 2) (low< : low < 64) (x< : x < 2048) (y< : y < 2048) where
  pub event-type2 : type2 (event_word2 p low x y) ≡ p
  event-type2 = omega arith

  pub event_low2 : time_low2 (event_word2 p low x y) ≡ low
  event_low2 = omega arith

  pub event-x2 : x2 (event_word2 p low x y) ≡ x
  event-x2 = omega arith

  pub event-y2 : y2 (event_word2 p low x y) ≡ y
  event-y2 = omega arith

  pub event_fits2 : event_word2 p low x y < 2 ^ 32
  event_fits2 = omega arith

module _ (high : ℕ) (high< : high < 2 ^ 28) where
  pub time_type2 : type2 (time_word2 high) ≡ 8
  time_type2 = omega arith

  pub time_high2_lem : time_high2 (time_word2 high) ≡ high
  time_high2_lem = omega arith

  pub time_fits2 : time_word2 high < 2 ^ 32
  time_fits2 = omega arith

module _ (low id value : ℕ) (low< : low < 64) (id< : id < 32) (value< : value < 2) where
  pub trigger_type2 : type2 (trigger_word2 low id value) ≡ trigger_type
  trigger_type2 = omega arith

  pub trigger_low2 : time_low2 (trigger_word2 low id value) ≡ low
  trigger_low2 = omega arith

  pub trigger_id2_lem : trigger_id2 (trigger_word2 low id value) ≡ id
  trigger_id2_lem = omega arith

  pub trigger_value2_lem : trigger_value2 (trigger_word2 low id value) ≡ value
  trigger_value2_lem = omega arith

  pub trigger_unused2 : (field 21 13 (trigger_word2 low id value) ≡ 0) × (field 7 1 (trigger_word2 low id value) ≡ 0)
  trigger_unused2 = (omega arith, omega arith)

  pub trigger_fits2 : trigger_word2 low id value < 2 ^ 32
  trigger_fits2 = omega arith

module _ (id value : ℕ) (id< : id < 16) (value< : value < 2) where
  pub trigger_type3 : type3 (trigger_word3 id value) ≡ trigger_type
  trigger_type3 = omega arith

  pub trigger_id3_lem : trigger_id3 (trigger_word3 id value) ≡ id
  trigger_id3_lem = omega arith

  pub trigger_value3_lem : trigger_value3 (trigger_word3 id value) ≡ value
  trigger_value3_lem = omega arith

  pub trigger_unused3 : field 7 1 (trigger_word3 id value) ≡ 0
  trigger_unused3 = omega arith

  pub trigger_fits3 : trigger_word3 id value < 2 ^ 16
  trigger_fits3 = omega arith

module _ (type v : ℕ) (type< : type < 16) where
  pub word-type3 : v < 4096 → type3 (word3 type v) ≡ type
  word-type3 v< = omega arith

  pub word-time3 : v < 4096 → time3 (word3 type v) ≡ v
  word-time3 v< = omega arith

  pub word-mask12 : v < 4096 → mask12 (word3 type v) ≡ v
  word-mask12 v< = omega arith

  pub word-mask8 : v < 256 → mask8 (word3 type v) ≡ v
  word-mask8 v< = omega arith

  -- a row leaves bit 11 at 0, a mask of 8 bits the bits 11 to 8
  pub word-y3 : v < 2048 → (y3 (word3 type v) ≡ v) × (field 11 11 (word3 type v) ≡ 0)
  word-y3 v< = (omega arith, omega arith)

  pub word_unused8 : v < 256 → field 11 8 (word3 type v) ≡ 0
  word_unused8 v< = omega arith

  pub word_fits3 : v < 4096 → word3 type v < 2 ^ 16
  word_fits3 v< = omega arith

module _ (type p x : ℕ) (type< : type < 16) (p< : p < 2) (x< : x < 2048) where
  pub column-type3 : type3 (column_word3 type p x) ≡ type
  column-type3 = omega arith

  pub column-polarity3 : polarity3 (column_word3 type p x) ≡ p
  column-polarity3 = omega arith

  pub column-x3 : x3 (column_word3 type p x) ≡ x
  column-x3 = omega arith

  pub column_fits3 : column_word3 type p x < 2 ^ 16
  column_fits3 = omega arith

-- ---- and a word is the word built of its fields, its unused bits 0

pub event_whole2 : (w : ℕ) → w < 2 ^ 32 → event_word2 (type2 w) (time_low2 w) (x2 w) (y2 w) ≡ w
event_whole2 w h =
    let top : type2 w * 2 ^ 6 + time_low2 w ≡ w / 2 ^ 22 = omega arith in
    let upper : (type2 w * 2 ^ 6 + time_low2 w) * 2 ^ 11 + x2 w ≡ w / 2 ^ 11 = omega arith in
    omega arith

pub time_whole2 : (w : ℕ) → w < 2 ^ 32 → type2 w ≡ 8 → time_word2 (time_high2 w) ≡ w
time_whole2 w h e = omega arith

trigger_parts2 : (w : ℕ) → w < 2 ^ 32
    → type2 w * 2 ^ 28 + time_low2 w * 2 ^ 22 + field 21 13 w * 2 ^ 13 + trigger_id2 w * 2 ^ 8 + field 7 1 w * 2 + trigger_value2 w ≡ w
trigger_parts2 w h =
    let top : type2 w * 2 ^ 6 + time_low2 w ≡ w / 2 ^ 22 = omega arith in
    let upper : w / 2 ^ 22 * 2 ^ 9 + field 21 13 w ≡ w / 2 ^ 13 = omega arith in
    let middle : w / 2 ^ 13 * 2 ^ 5 + trigger_id2 w ≡ w / 2 ^ 8 = omega arith in
    let lower : w / 2 ^ 8 * 2 ^ 7 + field 7 1 w ≡ w / 2 = omega arith in
    let last : w / 2 * 2 + trigger_value2 w ≡ w = omega arith in
    omega (arith, top, upper, middle, lower, last)

pub trigger_whole2 : (w : ℕ) → w < 2 ^ 32 → type2 w ≡ trigger_type → field 21 13 w ≡ 0 → field 7 1 w ≡ 0
    → trigger_word2 (time_low2 w) (trigger_id2 w) (trigger_value2 w) ≡ w
trigger_whole2 w h e a b = let p = rw (e, a, b) at (trigger_parts2 w h) in omega (arith, p)

module _ (w : ℕ) (w< : w < 2 ^ 16) where
  pub time_whole3 : word3 (type3 w) (time3 w) ≡ w
  time_whole3 = omega arith

  pub mask12_whole3 : word3 (type3 w) (mask12 w) ≡ w
  mask12_whole3 = omega arith

  pub mask8_whole3 : field 11 8 w ≡ 0 → word3 (type3 w) (mask8 w) ≡ w
  mask8_whole3 unused = omega arith

  pub row_whole3 : field 11 11 w ≡ 0 → word3 (type3 w) (y3 w) ≡ w
  row_whole3 unused = omega arith

  -- EVT_ADDR_X and VECT_BASE_X
  pub column_whole3 : column_word3 (type3 w) (polarity3 w) (x3 w) ≡ w
  column_whole3 = omega arith

  trigger_parts3 : type3 w * 2 ^ 12 + trigger_id3 w * 2 ^ 8 + field 7 1 w * 2 + trigger_value3 w ≡ w
  trigger_parts3 =
      let upper : type3 w * 2 ^ 4 + trigger_id3 w ≡ w / 2 ^ 8 = omega arith in
      let lower : w / 2 ^ 8 * 2 ^ 7 + field 7 1 w ≡ w / 2 = omega arith in
      let last : w / 2 * 2 + trigger_value3 w ≡ w = omega arith in
      omega (arith, upper, lower, last)

  pub trigger_whole3 : type3 w ≡ trigger_type → field 7 1 w ≡ 0 → trigger_word3 (trigger_id3 w) (trigger_value3 w) ≡ w
  trigger_whole3 e unused = let p = rw (e, unused) at trigger_parts3 in omega (arith, p)

-- ---- EVT 2.1: the fields of a word are those of its upper half

module _ (w : ℕ) where
  pub upper_type : type2 (upper w) ≡ type21 w
  upper_type = omega arith

  pub upper_low : time_low2 (upper w) ≡ time_low21 w
  upper_low = omega arith

  pub upper-x : x2 (upper w) ≡ x21 w
  upper-x = omega arith

  pub upper-y : y2 (upper w) ≡ y21 w
  upper-y = omega arith

  pub upper_time : time_high2 (upper w) ≡ time_high21 w
  upper_time = omega arith

  pub upper_id : trigger_id2 (upper w) ≡ trigger_id21 w
  upper_id = omega arith

  pub upper-value : trigger_value2 (upper w) ≡ trigger_value21 w
  upper-value = omega arith

  pub upper_fits : w < 2 ^ 64 → upper w < 2 ^ 32
  upper_fits h = omega arith

  pub halves : upper w * 2 ^ 32 + mask21 w ≡ w
  halves = omega arith

-- a word built of a word of EVT 2.0 and a mask reads back to both, and fits its width
module _ (h mask : ℕ) (mask< : mask < 2 ^ 32) where
  pub built_upper : upper (h * 2 ^ 32 + mask) ≡ h
  built_upper = omega arith

  pub built_mask : mask21 (h * 2 ^ 32 + mask) ≡ mask
  built_mask = omega arith

  pub built_fits : h < 2 ^ 32 → h * 2 ^ 32 + mask < 2 ^ 64
  built_fits h< = omega arith

-- a time and a trigger have no mask
pub bare_mask : (h : ℕ) → mask21 (h * 2 ^ 32) ≡ 0
bare_mask h = omega arith

pub bare_upper : (h : ℕ) → upper (h * 2 ^ 32) ≡ h
bare_upper h = omega arith

-- and a word is the word built of its fields, its unused bits 0
module _ (w : ℕ) (w< : w < 2 ^ 64) where
  pub event_whole21 : event_word21 (type21 w) (time_low21 w) (x21 w) (y21 w) (mask21 w) ≡ w
  event_whole21 =
      let e = event_whole2 (upper w) (upper_fits w w<) in
      omega (arith, e, upper_type w, upper_low w, upper-x w, upper-y w, halves w)

  pub time_whole21 : type21 w ≡ 8 → mask21 w ≡ 0 → time_word21 (time_high21 w) ≡ w
  time_whole21 t m =
      let e = time_whole2 (upper w) (upper_fits w w<) (upper_type w ∙ t) in
      omega (arith, e, upper_time w, halves w)
