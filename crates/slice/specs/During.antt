-- Times that never fall: a slice by time over an index of its own recording is exactly the events with t0 ≤ t < t1.
use Rattle.std.specs.Prelude.{◌≡◌, List, ℕ, ℤ, take, drop}
use Rattle.laws_stream.specs.{Slice.sift, Slice.Rising, Slice.rising_past, Slice.past_then, Words.words_of}
use Rattle.laws_stream.specs.Select as Select
use Rattle.std.specs.Prelude.{Option}
use Rattle.evt_types.specs.declared.SensorSize.{SensorSize}
use Rattle.evt_types.specs.declared.{Encoding.Encoding}
use Rattle.evt_codec.specs.{declared.codec.Codec.Codec, Reader.view, Codec.fresh_c, Sound.sound}
use Rattle.read_columns.specs.Inside.{inside, clock}
use Rattle.read_window.specs.{declared.Window.Window, Window.selection_of}
use Rattle.read_select.specs.{Pass.reading_by, Uses.is_timely, Uses.PastOver}
use Rattle.index_build.specs.declared.{Checkpoint.Checkpoint, Opening.Opening}
use Rattle.slice_rules.specs.Slice.{is_during, time_events}
use Rattle.slice.specs.{Own.own_events, Own.own_window, Opened.OpenedAs, Opened.opened_time}

-- once started, the decoder's time never falls from word to word
abbrev pub TimesRise : Codec → List ℕ → Type 0
TimesRise c l =
    let R = (view c).reader in
    Rising R.machine R.started R.time clock (view c).state (words_of R.size l)

-- so nothing in time follows the word that stops a slice
past_rising : (win : Window) (c : Codec) (l : List ℕ) → TimesRise c l → PastOver win c l
past_rising win c l r =
    let R = (view c).reader in
    let ws = words_of R.size l in
    past_then R.machine (inside win.width win.height) (is_timely win) (Select.is_over (reading_by R win) (selection_of win)) (view c).state ws
    (rising_past R.machine R.started R.time clock (sound c).stamped (sound c).stays win.t0 win.t1 (view c).state ws r)

pub during_all : (l : List ℕ) (start : ℕ) (e : Encoding) (size : Option SensorSize) (spacing : ℕ) (o : Opening) (records : List Checkpoint)
    (w : OpenedAs l start e size spacing o records) → TimesRise (fresh_c e) (drop start l) → (t0 t1 : ℤ)
    → time_events l o.source (take o.records records) t0 t1 ≡ sift (is_during t0 t1) (own_events size e start l)
during_all l start e size spacing o records w r t0 t1 =
    opened_time l start e size spacing o records w t0 t1 (past_rising (own_window size e start l t0 t1) (fresh_c e) (drop start l) r)
