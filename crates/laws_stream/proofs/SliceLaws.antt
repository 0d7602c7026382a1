-- Laws of specs/Slice.antt.
use Rattle.laws_stream.specs.{Machine.All, Machine.Machine, Machine.emits, Machine.emits-append, Machine.run, Slice.Past, Slice.past-append, Slice.sift}
use Rattle.laws_stream.specs.{Slice.sift-append, Slice.sift_none, Slice.until, Slice.until-sift}
use Rattle.std.proofs.Common.{sym, ◌∙◌}
use Rattle.std.specs.Prelude.{Bool, List, false, ◌++◌, ◌≡◌}

module _ {S W E : Type 0} (M : Machine S W E) (keep : E → Bool) (done : S → Bool) where
  -- THE SLICE: from the state after a, where nothing in a is kept, up to the stop
  pub sliced : (s : S) (a b : List W) → All (λ e. keep e ≡ false) (emits M s a) → Past M keep done s (a ++ b)
      → sift keep (emits M (run M s a) (until M done (run M s a) b)) ≡ sift keep (emits M s (a ++ b))
  sliced s a b h p = until-sift M keep done (run M s a) b (past-append M keep done s a b p) ∙ sym (rw (emits-append M s a b, sift-append keep, sift_none keep (emits M s a) h))
