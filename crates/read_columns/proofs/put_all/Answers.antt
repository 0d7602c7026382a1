use Rattle.std.proofs.Common.{[], ◌+◌, ◌-◌, ◌≤◌, length, arith, w64}
use Rattle.std.specs.Int.Count.{count_trailing_zeros}
use Rattle.std.proofs.lemmas.Int.{to_z_pos}
use Rattle.std.proofs.lemmas.Nat.{and_le_l}
use Rattle.evt_types.specs.Event.{event_at, events_of}
use Rattle.evt_types.specs.Columns.{Going, going_one, going_end}
use Rattle.read_columns.specs.Inside.{events_at, events_none, events-next, events-some}
use Rattle.read_columns.proofs.put_all.Goals as goal

some : (c : goal.After-column-x) → 1 ≤ length (events_at c.args.v c.loop-mask.mask)
some c = events-some c.args.v c.loop-mask.mask (omega arith) c.loop-mask.invariant.small

pub bounds-xs-n : goal.bounds-xs-n
bounds-xs-n c = omega (arith, some c)

pub bounds-ys-n : goal.bounds-ys-n
bounds-ys-n c = omega (arith, some c)

pub bounds-ts-n : goal.bounds-ts-n
bounds-ts-n c = omega (arith, some c)

pub bounds-ps-n : goal.bounds-ps-n
bounds-ps-n c = omega (arith, some c)

pub loop-mask-preserved : goal.loop-mask-preserved
loop-mask-preserved c =
    let l = c.loop-mask in
    let kept = rw (events-next c.args.v l.mask (omega arith) l.invariant.small) at l.invariant.going in
    record {
      small = omega (arith, and_le_l l.mask (l.mask - 1));
      going =
          rw (c.column-x.ensures, to_z_pos w64 c.args.v.t c.requires.time)
          (going_one (event_at c.args.v (c.args.v.x + count_trailing_zeros 64 l.mask)) kept);
    }

ended : (c : goal.After-loop-mask) →
    let l = c.loop-mask in
    Going (events_of c.args.v) c.args.at c.args.xs.now c.args.ys.now c.args.ts.now c.args.ps.now [] l.n l.xs l.ys l.ts l.ps
ended c = rw (c.loop-mask-test.false, events_none c.args.v) at c.loop-mask.invariant.going

pub returns-clause-count : goal.returns-clause-count
returns-clause-count c = omega (arith, (ended c).count)

pub returns-clause-wrote : goal.returns-clause-wrote
returns-clause-wrote c = going_end c.requires.room-x c.requires.room-y c.requires.room-t c.requires.room_p (ended c)
