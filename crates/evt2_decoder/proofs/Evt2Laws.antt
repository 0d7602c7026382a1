-- Laws of specs/Evt2.antt.
use Rattle.evt2_decoder.specs.{Evt2.by_kinds, Evt2.vector2, Evt2.vector_as, declared.Evt2Decoder.Evt2Decoder}
use Rattle.evt_types.specs.Layout.{type2}
use Rattle.std.proofs.Common.{arith}
use Rattle.std.specs.Prelude.{ℕ, ◌<◌, ◌^◌}

-- ---- which rule a word of type k goes by

-- a word has at most one event
pub few2 : (d : Evt2Decoder) (w : ℕ) → (vector2 d w).mask < 2 ^ 1
unfolding vector2
few2 d w = by_kinds (λ k. (vector_as k d w).mask < 2 ^ 1) (type2 w) d.initialised (omega arith) (λ on q. omega arith) (omega arith)
