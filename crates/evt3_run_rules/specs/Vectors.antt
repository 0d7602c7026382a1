-- The events of a vector whose mask was made of rising columns.
use Rattle.std.specs.Prelude.{◌≡◌, refl, List, [], ◌∷◌, map, ℕ, suc, ◌+◌, ◌≤◌, min}
use Rattle.std.proofs.Common.{ap, ◌∙◌, arith}
use Rattle.laws_stream.specs.Mask.{Inc, mask, bits}
use Rattle.evt_types.specs.{Event.event_at, Event.events_of, declared.vector.Vector.Vector}
use Rattle.evt3_run_rules.specs.Runs.{spread}
use Rattle.laws_stream.proofs.MaskLaws.{bits-mask}

-- none is saturated
spread_at : (v : Vector) (at to : ℕ) (xs : List ℕ) → to ≤ 65536 → Inc at to xs → map (event_at v) xs ≡ spread v.t v.y v.p xs
spread_at v at to [] h i = refl
spread_at v at to (x ∷ xs) h i =
    let e : min x 65535 ≡ x = omega (arith, i.1) in
    rw (e, spread_at v (suc x) to xs h i.2)

-- of k columns
pub mask-events : (k : ℕ) (v : Vector) (xs : List ℕ) → k ≤ 32 → v.x + k ≤ 65536 → v.mask ≡ mask v.x xs → Inc v.x (v.x + k) xs
    → events_of v ≡ spread v.t v.y v.p xs
mask-events k v xs few h e i =
    ap (λ (m : ℕ). map (event_at v) (bits 32 v.x m)) e
    ∙ ap (map (event_at v)) (bits-mask 32 v.x (v.x + k) v.x xs (omega arith) (omega arith) i)
    ∙ spread_at v v.x (v.x + k) xs h i
