-- Laws of specs/Laws.antt.
use Rattle.evt_codec.specs.{Codec.fresh_c, Codec.word_size, declared.codec.Codec.Codec}
use Rattle.std.specs.Prelude.{Option, Some}
use Rattle.evt_types.specs.declared.SensorSize.{SensorSize}
use Rattle.evt_types.specs.{declared.Encoding.Encoding}
use Rattle.read_rules.specs.Laws.{window_of}
use Rattle.read_select.specs.{Pass.surveyed, declared.SurveyTotals.SurveyTotals}
use Rattle.read_window.specs.declared.Window.{Window}
use Rattle.std.specs.Prelude.{length, ℕ, ◌*◌, ◌<◌, ◌^◌, ◌≡◌, ◌≤◌}
use Rattle.trigger_rules.specs.Laws.{EndsAt, ends_at}
use mathlib.Core.List.{List}

-- ---- where a limit ends the triggers

module _ (size : Option SensorSize) (body : List ℕ) (short : length body ≤ 2 ^ 30) where
  -- by what the code has at hand
  pub ends_by : (e : Encoding) (n : ℕ) → 0 < n → {c : Codec} → c ≡ fresh_c e → {win : Window} → win ≡ window_of size (Some n)
      → {t : SurveyTotals} → t ≡ surveyed win 0 c body → {k : ℕ} → k ≡ word_size c → EndsAt size body short e n (t.consumed * k)
  ends_by e n h is_c is-win is_t is-k = rw (is_t, is-k, is-win, is_c) (ends_at size body short e n h)
