-- Which bytes are decoded for a window, and why nothing is lost: a window of everything has all events inside the sensor; what lies before its first time or
-- number is passed over, and the plain loops decode up to its last time.
use Rattle.std.specs.Prelude.{◌≡◌, refl, Bool, true, false, ◌&&◌, List, ℕ, ◌+◌, ◌-◌, ◌≤◌, ◌<◌, ◌^◌, eqb, leb, ltb, ℤ, length, take, drop}
use Rattle.std.proofs.Common.{sym, ◌∙◌, true≢false, arith, eqb-true, leb-true, ltb-true, length-take, length-drop}
use Rattle.std.proofs.Math.Nat.{add-sub_cancel_left}
use Rattle.laws_stream.specs.{Machine.and_both, Part.between, Part.rest_of}
use Rattle.evt_codec.specs.{declared.codec.Codec.Codec, Codec.in_range_c, Sound.able_fitting}
use Rattle.evt_types.specs.Event.{Event}
use Rattle.read_count.specs.{declared.CountedTo.CountedTo, Count.counted_to_of}
use Rattle.read_fill.specs.{Decode.inside_events, Decode.Bounded, Decode.Fitting, Laws.bounded_less, Laws.inside-bytes}
use Rattle.read_window.specs.declared.Window.{Window}
use Rattle.read_select.specs.{Pass.Able, Pass.Ready, Pass.handed_over, Uses.over-all}
use Rattle.read_seek.specs.{declared.Sought.Sought, Seek.sought_of, Laws.sought_within, Laws.sought_from_lem, Laws.sought_upto, Laws.ready_there}
use Rattle.read_deliver.specs.PassOver.{passed_few}
use Rattle.std.specs.Prelude.{Result}
use Rattle.read_capacity.specs.{Deliver.Delivers}
use Rattle.read_deliver.specs.declared.plan.Plan.{Plan}

-- ---- windows that can be decoded otherwise than word by word

-- every number, and some time
abbrev pub is_timed : Window → Bool
is_timed win = eqb win.n0 0 && (eqb win.n1 18446744073709551615 && ltb win.t0 win.t1)

-- every number, and every time
abbrev pub is_whole : Window → Bool
is_whole win = eqb win.t0 0 && (leb (2 ^ 63) win.t1 && is_timed win)

-- all times, and a first number that lies ahead of the next event's; no index counts more than 2^33
abbrev pub is_numbered : Window → (k : ℕ) → Bool
is_numbered win k = leb (2 ^ 63) win.t1 && (leb win.n0 (2 ^ 33) && ltb k win.n0)

pub record Timed (win : Window) : Type 0 where
  pub first : win.n0 ≡ 0
  pub last : win.n1 ≡ 18446744073709551615
  pub order : win.t0 < win.t1

pub record Whole (win : Window) : Type 0 where
  pub timed : Timed win
  pub no_start : win.t0 ≡ 0
  pub no_end : 2 ^ 63 ≤ win.t1

pub record Numbered (win : Window) (k : ℕ) : Type 0 where
  pub order : k ≤ win.n0
  pub low : win.n0 ≤ 2 ^ 33
  pub no_end : 2 ^ 63 ≤ win.t1

module _ (win : Window) where
  pub timed_of : is_timed win ≡ true → Timed win
  timed_of h =
      let a = and_both (eqb win.n0 0) _ h in
      let b = and_both (eqb win.n1 18446744073709551615) _ a.1 in
      record { first = eqb-true win.n0 0 a.0; last = eqb-true win.n1 18446744073709551615 b.0; order = ltb-true win.t0 win.t1 b.1 }

  pub whole_of : is_whole win ≡ true → Whole win
  whole_of h =
      let a = and_both (eqb win.t0 0) _ h in
      let b = and_both (leb (2 ^ 63) win.t1) _ a.1 in
      record { timed = timed_of b.1; no_start = eqb-true win.t0 0 a.0; no_end = leb-true (2 ^ 63) win.t1 b.0 }

  pub whole_in_range : (c : Codec) (r : Bool) → r ≡ (is_whole win && in_range_c c) → r ≡ true → Whole win
  whole_in_range c r is h = whole_of (and_both (is_whole win) (in_range_c c) (sym is ∙ h)).0

  pub numbered_of : (k : ℕ) → is_numbered win k ≡ true → Numbered win k
  numbered_of k h =
      let a = and_both (leb (2 ^ 63) win.t1) _ h in
      let b = and_both (leb win.n0 (2 ^ 33)) _ a.1 in
      record { order = omega (arith, ltb-true k win.n0 b.1); low = leb-true win.n0 (2 ^ 33) b.0; no_end = leb-true (2 ^ 63) win.t1 a.0 }

-- ---- what a plan is to be

-- the plain loops can take the part, and all its events are what the pass hands over
pub record Plainly (es : List Event) (width height : ℕ) (c : Codec) (l : List ℕ) : Type 0 where
  pub same : es ≡ inside_events width height c l
  pub long : length l ≤ 2 ^ 30
  pub able : Bounded (length l) c

-- a pass under the window can take it, and hands over the same
pub record Under (es : List Event) (win : Window) (k : ℕ) (c : Codec) (l : List ℕ) : Type 0 where
  pub same : es ≡ handed_over win k c l
  pub ready : Ready c k (length l)

pub record Planned (win : Window) (k : ℕ) (c : Codec) (l : List ℕ) (p : Plan) : Type 0 where
  pub order : p.from ≤ p.to
  pub within : p.to ≤ length l
  pub plainly : p.plain ≡ true → Plainly (handed_over win k c l) win.width win.height p.codec (between l p.from p.to)
  pub under : p.plain ≡ false → Under (handed_over win k c l) win p.number p.codec (between l p.from p.to)

-- what is delivered of the part is delivered of the whole
module _ {es : List Event} {c : Codec} {l : List ℕ} {r : Result ℕ ℕ} {xs₀ ys₀ : List ℕ} {ts₀ : List ℤ} {ps₀ xs ys : List ℕ} {ts : List ℤ} {ps : List ℕ} where
  pub delivers_plainly : {width height : ℕ} → Plainly es width height c l → Delivers (inside_events width height c l) r xs₀ ys₀ ts₀ ps₀ xs ys ts ps
      → Delivers es r xs₀ ys₀ ts₀ ps₀ xs ys ts ps
  delivers_plainly p d = rw p.same d

  pub delivers_under : {win : Window} {k : ℕ} → Under es win k c l → Delivers (handed_over win k c l) r xs₀ ys₀ ts₀ ps₀ xs ys ts ps
      → Delivers es r xs₀ ys₀ ts₀ ps₀ xs ys ts ps
  delivers_under u d = rw u.same d

-- ---- what is planned

-- under the window, up to the end
module _ (win : Window) (k : ℕ) (c : Codec) (l : List ℕ) where
  pub to_the_end : (at k' : ℕ) (c' : Codec) → at ≤ length l → handed_over win k c l ≡ handed_over win k' c' (drop at l) → Ready c' k' (length (drop at l))
      → Planned win k c l (record { plain = false; from = at; to = length l; codec = c'; number = k' })
  to_the_end at k' c' h same ready = record {
    order = h;
    within = omega arith;
    plainly = λ z. absurd (true≢false (sym z));
    under = λ z. rw (rest_of l at) (record { same = same; ready = ready });
  }

module _ (win : Window) (k : ℕ) (c : Codec) (l : List ℕ) (ready : Ready c k (length l)) where
  pub planned_all : Planned win k c l (record { plain = false; from = 0; to = length l; codec = c; number = k })
  planned_all = to_the_end win k c l 0 k c (omega arith) refl ready

  -- everything
  pub plainly_whole : Whole win → Fitting c → Plainly (handed_over win k c l) win.width win.height c l
  plainly_whole whole fit = record {
    same =
        over-all win c l ready.able whole.no_start whole.no_end k (omega (arith, whole.timed.first))
        (omega (arith, inside-bytes win.width win.height c l, ready.long, ready.low, whole.timed.last));
    long = ready.long;
    able = able_fitting c (length l) ready.able fit;
  }

  -- by time
  module _ (timed : Timed win) (s : Sought) (is : s ≡ sought_of 0 win.t0 c l) (b : Bounded (length (drop s.at l)) s.codec) where
    pub within_time : s.at ≤ length l
    within_time = rw is (sought_within 0 win.t0 c l)

    ready_time : Ready s.codec k (length (drop s.at l))
    ready_time = ready_there s.codec k s.at l b ready.long ready.low

    from_time : handed_over win k c l ≡ handed_over win k s.codec (drop s.at l)
    from_time =
        rw is (sought_from_lem win k (omega (arith, timed.first)) 0 c l (omega (arith, timed.order)) (omega (arith, ready.long, ready.low, timed.last)))

    pub planned_stray : Planned win k c l (record { plain = false; from = s.at; to = length l; codec = s.codec; number = k })
    planned_stray = to_the_end win k c l s.at k s.codec within_time from_time ready_time

    pub able_time : Able (length (between l s.at (length l))) s.codec × (length (between l s.at (length l)) ≤ 2 ^ 30)
    able_time = rw (rest_of l s.at) (ready_time.able, ready_time.long)

    module _ (e : Sought) (is-span : e ≡ sought_of win.t0 win.t1 s.codec (between l s.at (length l))) where
      ends : e ≡ sought_of win.t0 win.t1 s.codec (drop s.at l)
      ends = rw (rest_of l s.at) at is-span

      pub within-span : s.at + e.at ≤ length l
      within-span =
          let h : e.at ≤ length (drop s.at l) = rw ends (sought_within win.t0 win.t1 s.codec (drop s.at l)) in
          omega (arith, within_time, length-drop s.at l)

      upto_time : e.stray ≡ false
          → handed_over win k s.codec (drop s.at l) ≡ inside_events win.width win.height s.codec (take e.at (drop s.at l))
      upto_time z =
          rw ends (sought_upto win k (omega (arith, timed.first)) s.codec (drop s.at l)
          (omega (arith, ready_time.long, ready.low, timed.last)) ready_time.able (omega (arith, timed.order)) (rw ends at z))

      pub planned_upto : e.stray ≡ false → Planned win k c l (record { plain = true; from = s.at; to = s.at + e.at; codec = s.codec; number = k })
      planned_upto z = record {
        order = omega arith;
        within = within-span;
        plainly = λ y. rw (add-sub_cancel_left s.at e.at) (record {
          same = from_time ∙ upto_time z;
          long = omega (arith, ready.long, length-take e.at (drop s.at l), length-drop s.at l);
          able = bounded_less s.codec (omega (arith, length-take e.at (drop s.at l))) b;
        });
        under = λ y. absurd (true≢false y);
      }

  -- by number
  module _ (numbered : Numbered win k) (p : CountedTo) (is : p ≡ counted_to_of win.width win.height (win.n0 - k) c l) where
    pub few_number : k + p.count ≤ win.n0
    few_number = let h : p.count ≤ win.n0 - k = rw is (passed_few win.width win.height (win.n0 - k) l c) in omega (arith, numbered.order)
