-- Laws of specs/Layout.antt.
use Rattle.evt_types.specs.Layout.{field, halves, mask21, time_low21, trigger_id21, trigger_type, trigger_value21, trigger_whole2, trigger_word21, type21}
use Rattle.evt_types.specs.Layout.{upper, upper-value, upper_fits, upper_id, upper_low, upper_type}
use Rattle.std.proofs.Common.{arith, ◌∙◌}
use Rattle.std.specs.Prelude.{ℕ, ◌<◌, ◌^◌, ◌≡◌}

-- ---- EVT 2.1: the fields of a word are those of its upper half

module _ (w : ℕ) where
  upper_unused : (field 21 13 (upper w) ≡ field 53 45 w) × (field 7 1 (upper w) ≡ field 39 33 w)
  upper_unused = (omega arith, omega arith)

module _ (w : ℕ) (w< : w < 2 ^ 64) where
  pub trigger_whole21 : type21 w ≡ trigger_type → field 53 45 w ≡ 0 → field 39 33 w ≡ 0 → mask21 w ≡ 0
      → trigger_word21 (time_low21 w) (trigger_id21 w) (trigger_value21 w) ≡ w
  trigger_whole21 t a b m =
      let e = trigger_whole2 (upper w) (upper_fits w w<) (upper_type w ∙ t) ((upper_unused w).0 ∙ a) ((upper_unused w).1 ∙ b) in
      omega (arith, e, upper_low w, upper_id w, upper-value w, halves w)
