-- The maximum of a column's entries; and of a column that events were written to.
use Rattle.std.specs.Prelude.{◌≡◌, List, ℕ, suc, ◌+◌, ◌≤◌, ◌<◌, max, length, drop, get_or}
use Rattle.std.proofs.Common.{ap, arith, add-one, drop_of_length-le, drop-cons}
use Rattle.laws_stream.specs.{Mask.top}

pub top-next : (l : List ℕ) (i most next : ℕ) → i < length l → max most (top (drop i l)) ≡ top l → next ≡ max most (get_or l i 0)
    → max next (top (drop (i + 1) l)) ≡ top l
top-next l i most next h e n =
    let a : top (drop i l) ≡ max (get_or l i 0) (top (drop (suc i) l)) = ap top (drop-cons l i 0 h) in
    rw add-one (omega (arith, a, e, n))

pub top-end : (l : List ℕ) (i most : ℕ) → length l ≤ i → max most (top (drop i l)) ≡ top l → most ≡ top l
top-end l i most h e =
    let a : top (drop i l) ≡ 0 = ap top (drop_of_length-le l h) in
    omega (arith, a, e)
