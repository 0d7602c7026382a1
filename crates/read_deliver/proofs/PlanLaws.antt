-- Laws of specs/Plan.antt.
use Rattle.evt_codec.specs.declared.codec.Codec.{Codec}
use Rattle.read_count.specs.{Count.counted_to_of, declared.CountedTo.CountedTo}
use Rattle.read_deliver.specs.{PassOver.handed-passed, PassOver.passed-within, PassOver.ready_passed, Plan.Numbered, Plan.Planned, Plan.to_the_end}
use Rattle.read_fill.specs.Decode.{Bounded}
use Rattle.read_select.specs.Pass.{Ready}
use Rattle.read_window.specs.declared.Window.{Window}
use Rattle.std.proofs.Common.{arith}
use Rattle.std.specs.Prelude.{List, drop, false, length, ℕ, ◌+◌, ◌-◌, ◌≡◌, ◌≤◌}

-- ---- what is planned

module _ (win : Window) (k : ℕ) (c : Codec) (l : List ℕ) (ready : Ready c k (length l)) where
  module _ (numbered : Numbered win k) (p : CountedTo) (is : p ≡ counted_to_of win.width win.height (win.n0 - k) c l) where
    within-number : p.at ≤ length l
    within-number = rw is (passed-within win.width win.height (win.n0 - k) l c)

    pub planned_number : Bounded (length (drop p.at l)) p.codec
        → Planned win k c l (record { plain = false; from = p.at; to = length l; codec = p.codec; number = k + p.count })
    planned_number b = to_the_end win k c l p.at (k + p.count) p.codec within-number
        (handed-passed win numbered.no_end k (win.n0 - k) (omega arith) l c ready.able p is)
        (ready_passed win.width win.height (win.n0 - k) k c l ready.long (omega (arith, numbered.order, numbered.low)) p is b)
