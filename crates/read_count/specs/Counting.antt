-- A loop that counts the events of some bytes and notes their maximum time, for every machine and every word size: what holds at index i, at the start, after
-- an iteration, at the end.
use Rattle.std.specs.Prelude.{◌≡◌, List, ◌++◌, ℕ, suc, ◌+◌, ◌≤◌, ◌<◌, max, length}
use Rattle.std.proofs.Common.{sym, ap, ◌∙◌, arith, length-append}
use Rattle.laws_stream.specs.{Machine.Machine, Words.words_of, Order.greatest, Order.greatest-append, Stream.after}
use Rattle.evt_types.specs.{declared.vector.Vector.Vector, Event.Event}
use Rattle.read_columns.specs.Inside.{inside_of, clock, latest_of, inside-latest}
use Rattle.read_fill.specs.Iteration.{inside_all, Standing, left, Iteration, none_left, at-end, stand_next, splits, stand_start}

module _ {S : Type 0} (n : ℕ) (M : Machine S ℕ Event) (Inv : ℕ → S → Type 0) (width height : ℕ) (s₀ : S) (bytes : List ℕ) where
  pub record Counting (s : S) (count top i : ℕ) : Type 0 where
    pub stand : Standing n M Inv width height s₀ bytes s i
    pub counts : count + length (left n M Inv width height s₀ bytes s i) ≡ length (inside_all n M width height s₀ bytes)
    pub notes : max top (greatest clock (left n M Inv width height s₀ bytes s i)) ≡ greatest clock (inside_all n M width height s₀ bytes)

module _ {S : Type 0} {n : ℕ} {M : Machine S ℕ Event} {Inv : ℕ → S → Type 0} {width height : ℕ} {s₀ : S} {bytes : List ℕ} (pos : 0 < n)
    (keeps : (k : ℕ) (s : S) (w : ℕ) → Inv (suc k) s → Inv k (M.step s w)) where
  pub counting_start : Inv (length (words_of n bytes)) s₀ → Counting n M Inv width height s₀ bytes s₀ 0 0 0
  counting_start b = record { stand = stand_start pos keeps b; counts = omega arith; notes = omega arith }

  module _ {s : S} {count top i : ℕ} (u : Counting n M Inv width height s₀ bytes s count top i) where
    pub counting_end : length bytes < i + n
        → (count ≡ length (inside_all n M width height s₀ bytes)) × (top ≡ greatest clock (inside_all n M width height s₀ bytes)) × (s ≡ after n M s₀ bytes)
    counting_end h =
        let c : count + 0 ≡ length (inside_all n M width height s₀ bytes) = rw (none_left pos keeps u.stand h) at u.counts in
        let t : max top 0 ≡ greatest clock (inside_all n M width height s₀ bytes) = rw (none_left pos keeps u.stand h) at u.notes in
        (omega arith, omega arith, at-end pos keeps u.stand h)

    module _ {s' : S} {v : Vector} (t : Iteration n M bytes s i s' v) where
      abbrev behind : List Event
      behind = left n M Inv width height s₀ bytes s' (i + n)

      -- the count never passes the whole
      pub counting_few : count + length (inside_of width height v) ≤ length (inside_all n M width height s₀ bytes)
      counting_few =
          let c : count + length (inside_of width height v ++ behind) ≡ length (inside_all n M width height s₀ bytes) =
          rw (splits pos keeps u.stand t) at u.counts in
          omega (arith, c, length-append (inside_of width height v) behind)

      pub counting_next : (m : ℕ) → m ≡ length (inside_of width height v) → (top' : ℕ) → top' ≡ max top (latest_of m v.t)
          → Counting n M Inv width height s₀ bytes s' (count + m) top' (i + n)
      counting_next m is_m top' is-top =
          let seen = inside_of width height v in
          let e = splits pos keeps u.stand t in
          let c : count + length (seen ++ behind) ≡ length (inside_all n M width height s₀ bytes) = rw e at u.counts in
          let l : max top (greatest clock (seen ++ behind)) ≡ greatest clock (inside_all n M width height s₀ bytes) = rw e at u.notes in
          let a : greatest clock seen ≡ latest_of m v.t = inside-latest width height v ∙ ap (λ (k : ℕ). latest_of k v.t) (sym is_m) in
          record {
            stand = stand_next pos keeps u.stand t;
            counts = omega (arith, c, is_m, length-append seen behind);
            notes = omega (arith, l, a, is-top, greatest-append clock seen behind);
          }
