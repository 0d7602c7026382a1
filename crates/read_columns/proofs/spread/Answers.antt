use Rattle.std.proofs.Common.{◌≡◌, ap, sym, [], ◌∙◌, ◌+◌, ◌-◌, ◌<◌, min, arith, length, w64}
use Rattle.std.specs.Int.Bits.{bit_and}
use Rattle.std.specs.Int.Count.{count_trailing_zeros}
use Rattle.std.proofs.lemmas.Int.{to_z_pos}
use Rattle.std.proofs.lemmas.Nat.{and_le_l}
use Rattle.evt_types.specs.Event.{event_at}
use Rattle.evt_types.specs.Columns.{going_start, going_one, going_end}
use Rattle.read_columns.specs.Inside.{inside_of, events_none, events-two, going_last, inside-clipped, kept_small}
use Rattle.read_columns.proofs.spread.Goals as goal

-- no bit of the clipped mask is left
none : (c : goal.Then-mask-eq0) → inside_of c.args.width c.args.height c.args.v ≡ []
none c =
    inside-clipped c.args.width c.args.height c.args.v c.requires.column c.requires.mask
    ∙ rw (← c.column_bound-bound.ensures, ← c.clip-mask.ensures, c.if-mask-eq0.true) (events_none c.args.v)

pub returns-then-mask-eq0-clause-count : goal.returns-then-mask-eq0-clause-count
returns-then-mask-eq0-clause-count c = omega (arith, ap length (none c))

pub returns-then-mask-eq0-clause-wrote : goal.returns-then-mask-eq0-clause-wrote
returns-then-mask-eq0-clause-wrote c =
    let is = none c in
    rw is (going_end (omega (arith, ap length is)) (omega (arith, ap length is)) (omega (arith, ap length is)) (omega (arith, ap length is)) going_start)

pub loop-more-init : goal.loop-more-init
loop-more-init c =
    let a = c.args in
    let clip = c.clip-mask in
    record {
      small = rw clip.ensures (kept_small 32 a.v.x a.v.y a.v.mask c.column_bound-bound.result a.height c.requires.mask);
      some = omega arith;
      rest = c.clear_lowest-rest.ensures;
      more = c.clear_lowest-more.ensures;
      going =
          let all = inside-clipped a.width a.height a.v c.requires.column c.requires.mask in
          rw (clip.ensures, c.column_bound-bound.ensures, ← all) going_start;
    }

pub put_two-n-requires-clause-fit : goal.put_two-n-requires-clause-fit
put_two-n-requires-clause-fit c =
    let k = c.loop-more in
    let some : 0 < k.rest = omega (arith, k.invariant.more, and_le_l k.rest (k.rest - 1)) in
    let two = rw (events-two c.args.v k.mask k.rest k.invariant.rest some k.invariant.small) at k.invariant.going in
    record { fit_x = omega arith; fit_y = omega arith; fit_t = omega arith; fit_p = omega arith }

pub loop-more-preserved : goal.loop-more-preserved
loop-more-preserved c =
    let k = c.loop-more in
    let v = c.args.v in
    let wrote = c.put_two-n.ensures in
    let b : c.column-b.result ≡ min (v.x + count_trailing_zeros 64 k.rest) 65535 = c.column-b.ensures in
    let some : 0 < k.rest = omega (arith, k.invariant.more, and_le_l k.rest (k.rest - 1)) in
    let two = rw (events-two v k.mask k.rest k.invariant.rest some k.invariant.small, ← k.invariant.more) at k.invariant.going in
    record {
      small = omega (arith, k.invariant.small, k.invariant.rest, k.invariant.more, and_le_l k.mask (k.mask - 1), and_le_l k.rest (k.rest - 1));
      some = omega arith;
      rest = c.clear_lowest-rest-in-loop-more.ensures;
      more = c.clear_lowest-more-in-loop-more.ensures;
      going = rw (wrote.0, wrote.1, wrote.2, wrote.3, wrote.4, c.column-a.ensures, b, to_z_pos w64 v.t c.requires.time)
          (going_one (event_at v (v.x + count_trailing_zeros 64 k.rest)) (going_one (event_at v (v.x + count_trailing_zeros 64 k.mask)) two));
    }

pub put_two-requires-clause-fit : goal.put_two-requires-clause-fit
put_two-requires-clause-fit c =
    let k = c.loop-more in
    let none : bit_and k.rest (k.rest - 1) ≡ 0 = sym k.invariant.more ∙ c.loop-more-test.false in
    let g =
    going_last c.args.v k.mask k.rest k.invariant.rest none k.invariant.some k.invariant.small k.invariant.going
    c.last_of-last.result c.last_at-m.result c.last_of-last.ensures c.last_at-m.ensures
    in
    record { fit_x = omega arith; fit_y = omega arith; fit_t = omega arith; fit_p = omega arith }

pub returns-clause-count : goal.returns-clause-count
returns-clause-count c =
    let k = c.loop-more in
    let none : bit_and k.rest (k.rest - 1) ≡ 0 = sym k.invariant.more ∙ c.loop-more-test.false in
    let g =
    going_last c.args.v k.mask k.rest k.invariant.rest none k.invariant.some k.invariant.small k.invariant.going
    c.last_of-last.result c.last_at-m.result c.last_of-last.ensures c.last_at-m.ensures
    in
    c.put_two.ensures.0 ∙ omega (arith, g.count)

pub returns-clause-wrote : goal.returns-clause-wrote
returns-clause-wrote c =
    let k = c.loop-more in
    let none : bit_and k.rest (k.rest - 1) ≡ 0 = sym k.invariant.more ∙ c.loop-more-test.false in
    let g =
    going_last c.args.v k.mask k.rest k.invariant.rest none k.invariant.some k.invariant.small k.invariant.going
    c.last_of-last.result c.last_at-m.result c.last_of-last.ensures c.last_at-m.ensures
    in
    let wrote = c.put_two.ensures in
    let b : c.column-b-2.result ≡ min (c.args.v.x + count_trailing_zeros 64 c.last_of-last.result) 65535 = c.column-b-2.ensures in
    let r = c.requires in
    rw (wrote.1, wrote.2, wrote.3, wrote.4, c.column-a-2.ensures, b, to_z_pos w64 c.args.v.t r.time) (going_end r.room-x r.room-y r.room-t r.room_p g)
