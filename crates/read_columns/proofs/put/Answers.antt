use Rattle.std.proofs.Common.{◌≡◌, [], ◌+◌, ◌-◌, ◌∙◌, ◌∷◌, ◌<◌, ◌^◌, ℕ, min, Bool, arith, w64}
use Rattle.std.specs.Int.Bits.{bit_and}
use Rattle.std.specs.Int.Count.{count_trailing_zeros}
use Rattle.std.proofs.lemmas.Int.{to_z_pos}
use Rattle.std.proofs.lemmas.Nat.{and_le_l}
use Rattle.laws_stream.specs.Slice.{onto}
use Rattle.evt_types.specs.declared.vector.Vector.{Vector}
use Rattle.evt_types.specs.Num.{is_inside}
use Rattle.evt_types.specs.Event.{event_at}
use Rattle.evt_types.specs.Columns.{Going, going_one, going_end}
use Rattle.read_columns.specs.Inside.{inside_of, inside_at, inside_none, inside-next}
use Rattle.read_columns.proofs.put.Goals as goal

-- the event of the lowest bit goes first, where it lies inside
low : (width height : ℕ) (v : Vector) (m x : ℕ) (b : Bool) → 0 < m → m < 2 ^ 32
    → x ≡ min (v.x + count_trailing_zeros 64 m) 65535 → b ≡ is_inside width height x v.y
    → inside_at width height v m ≡ onto b (event_at v (v.x + count_trailing_zeros 64 m)) (inside_at width height v (bit_and m (m - 1)))
low width height v m x b some small is-x is-b = inside-next width height v m some small ∙ rw (is-b, is-x)

kept : (c : goal.Then-inside) →
    let l = c.loop-mask in
    Going (inside_of c.args.width c.args.height c.args.v) c.args.at c.args.xs.now c.args.ys.now c.args.ts.now c.args.ps.now
    (event_at c.args.v (c.args.v.x + count_trailing_zeros 64 l.mask) ∷ inside_at c.args.width c.args.height c.args.v (bit_and l.mask (l.mask - 1)))
    l.n l.xs l.ys l.ts l.ps
kept c =
    let l = c.loop-mask in
    let a = c.args in
    let first = low a.width a.height a.v l.mask c.column-x.result c.inside.result (omega arith) l.invariant.small c.column-x.ensures c.inside.ensures in
    rw (first, c.if-inside.true) at l.invariant.going

pub bounds-xs-n : goal.bounds-xs-n
bounds-xs-n c = omega (arith, kept c)

pub bounds-ys-n : goal.bounds-ys-n
bounds-ys-n c = omega (arith, kept c)

pub bounds-ts-n : goal.bounds-ts-n
bounds-ts-n c = omega (arith, kept c)

pub bounds-ps-n : goal.bounds-ps-n
bounds-ps-n c = omega (arith, kept c)

pub loop-mask-preserved-then-inside : goal.loop-mask-preserved-then-inside
loop-mask-preserved-then-inside c =
    let mask = c.loop-mask.mask in
    record {
      small = omega (arith, and_le_l mask (mask - 1));
      going =
          rw (c.column-x.ensures, to_z_pos w64 c.args.v.t c.requires.time)
          (going_one (event_at c.args.v (c.args.v.x + count_trailing_zeros 64 mask)) (kept c));
    }

pub loop-mask-preserved : goal.loop-mask-preserved
loop-mask-preserved c =
    let l = c.loop-mask in
    let a = c.args in
    let first = low a.width a.height a.v l.mask c.column-x.result c.inside.result (omega arith) l.invariant.small c.column-x.ensures c.inside.ensures in
    record {
      small = omega (arith, and_le_l l.mask (l.mask - 1));
      going = rw (first, c.if-inside.false) at l.invariant.going;
    }

ended : (c : goal.After-loop-mask) →
    let l = c.loop-mask in
    Going (inside_of c.args.width c.args.height c.args.v) c.args.at c.args.xs.now c.args.ys.now c.args.ts.now c.args.ps.now [] l.n l.xs l.ys l.ts l.ps
ended c = rw (c.loop-mask-test.false, inside_none c.args.width c.args.height c.args.v) at c.loop-mask.invariant.going

pub returns-clause-count : goal.returns-clause-count
returns-clause-count c = omega (arith, (ended c).count)

pub returns-clause-wrote : goal.returns-clause-wrote
returns-clause-wrote c = going_end c.requires.room-x c.requires.room-y c.requires.room-t c.requires.room_p (ended c)
