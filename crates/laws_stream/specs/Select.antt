-- The one rule of selection: reading with a limit, slices by number and by time, and the index are uses of it.
use Rattle.std.specs.Prelude.{◌≡◌, Bool, ◌&&◌, ◌||◌, ℕ, suc, ◌+◌, ◌-◌, ◌≤◌, ◌<◌, max, ltb, take, drop}
use Rattle.std.proofs.Math.Path.{refl, sym, ap}
use Rattle.std.proofs.Common.{◌∙◌, arith, add-zero, add-suc, suc-add, length-append, le-leb, lt-ltb}
use Rattle.std.proofs.Math.Bool.{true, false}
use mathlib.Core.List.{List, [], ◌∷◌, ◌++◌, append-nil}
use Rattle.std.proofs.Math.Dec.{leb}
use Rattle.std.proofs.Math.ListN.{length}
use Rattle.laws_stream.specs.Machine.{Machine, run, emits, emits-append}
use Rattle.laws_stream.specs.Slice.{onto, onto-append, sift, sift-append, unless, within, reached}
use Rattle.laws_stream.specs.Slice.{not_reached}

-- numbers n0 to before n1, times t0 to before t1
pub record Selection : Type 0 where
  pub n0 : ℕ
  pub n1 : ℕ
  pub t0 : ℕ
  pub t1 : ℕ

-- what is read: events that are not inside are dropped and have no number
pub record Reading (S W E : Type 0) : Type 0 where
  pub machine : Machine S W E
  pub inside : E → Bool
  -- an event's time
  pub clock : E → ℕ
  -- whether a state is started, and its time
  pub live : S → Bool
  pub time : S → ℕ

-- where a pass ends: the next event's number, the state, and how many words were consumed
pub record End (S : Type 0) : Type 0 where
  pub number : ℕ
  pub state : S
  pub consumed : ℕ

-- number k at time t is in the window
abbrev pub spans : Selection → ℕ → ℕ → Bool
spans win k t = leb win.n0 k && (ltb k win.n1 && (leb win.t0 t && ltb t win.t1))

abbrev pub end_at : {S : Type 0} → Bool → ℕ → S → End S → End S
end_at true k s e = record { number = k; state = s; consumed = 0 }
end_at false k s e = e

abbrev pub one_more : {S : Type 0} → End S → End S
one_more e = record { number = e.number; state = e.state; consumed = suc e.consumed }

-- numbers a to before b, of events numbered from k on
abbrev pub by_number_lem : {E : Type 0} → ℕ → ℕ → ℕ → List E → List E
by_number_lem a b k es = take (b - max a k) (drop (a - k) es)

module _ {S W E : Type 0} (R : Reading S W E) where
  -- the numbered events of a word, and of words
  abbrev pub numbered_of_lem : S → W → List E
  numbered_of_lem s w = sift R.inside (R.machine.emit s w)

  abbrev pub numbered : S → List W → List E
  numbered s ws = sift R.inside (emits R.machine s ws)

  pub numbered-append : (s : S) (a b : List W) → numbered s (a ++ b) ≡ numbered s a ++ numbered (run R.machine s a) b
  numbered-append s a b = rw (emits-append R.machine s a b, sift-append)

  pub numbered-cons : (s : S) (w : W) (ws : List W) → numbered s (w ∷ ws) ≡ numbered_of_lem s w ++ numbered (R.machine.step s w) ws
  numbered-cons s w ws = sift-append R.inside (R.machine.emit s w) (emits R.machine (R.machine.step s w) ws)

  pub length-numbered : (s : S) (w : W) (ws : List W) → length (numbered s (w ∷ ws)) ≡ length (numbered_of_lem s w) + length (numbered (R.machine.step s w) ws)
  length-numbered s w ws = ap length (numbered-cons s w ws) ∙ length-append (numbered_of_lem s w) (numbered (R.machine.step s w) ws)

  module _ (win : Selection) where
    abbrev pub in_time : E → Bool
    in_time = within R.clock win.t0 win.t1

    -- the state is started and its time is t1 or more
    abbrev pub is_over : S → Bool
    is_over = reached R.live R.time win.t1

    -- of events numbered from k on, those in the window
    abbrev pub chosen : ℕ → List E → List E
    chosen k [] = []
    chosen k (e ∷ es) = onto (spans win k (R.clock e)) e (chosen (suc k) es)

    -- after a word: the next event's number is n1 or more, or the state is over
    abbrev pub is_stopped : ℕ → S → Bool
    is_stopped k s = leb win.n1 k || is_over s

    -- the events handed over, where the next event has the number k
    unfoldable pub handed : ℕ → S → List W → List E
    handed k s [] = []
    handed k s (w ∷ ws) =
        let j = k + length (numbered_of_lem s w) in
        chosen k (numbered_of_lem s w) ++ unless (is_stopped j (R.machine.step s w)) (handed j (R.machine.step s w) ws)

    unfoldable pub ended : ℕ → S → List W → End S
    ended k s [] = record { number = k; state = s; consumed = 0 }
    ended k s (w ∷ ws) =
        let j = k + length (numbered_of_lem s w) in
        one_more (end_at (is_stopped j (R.machine.step s w)) j (R.machine.step s w) (ended j (R.machine.step s w) ws))

    -- ---- one step

    module _ (k : ℕ) (s : S) where
      module _ (w : W) (ws : List W) where
        -- the pass stops at this word
        pub handed_stop : is_stopped (k + length (numbered_of_lem s w)) (R.machine.step s w) ≡ true → handed k s (w ∷ ws) ≡ chosen k (numbered_of_lem s w)
        unfolding handed
        handed_stop h = rw h (append-nil (chosen k (numbered_of_lem s w)))

        -- or goes on
        pub handed_on : is_stopped (k + length (numbered_of_lem s w)) (R.machine.step s w) ≡ false
            → handed k s (w ∷ ws) ≡ chosen k (numbered_of_lem s w) ++ handed (k + length (numbered_of_lem s w)) (R.machine.step s w) ws
        unfolding handed
        handed_on h = rw h

    -- ---- what is chosen

    pub chosen-append : (k : ℕ) (a b : List E) → chosen k (a ++ b) ≡ chosen k a ++ chosen (k + length a) b
    chosen-append k [] b = rw add-zero
    chosen-append k (e ∷ a) b =
        rw (chosen-append (suc k) a b, suc-add, add-suc) (sym (onto-append (spans win k (R.clock e)) e (chosen (suc k) a) (chosen (suc (k + length a)) b)))

    pub chosen-cons : (k : ℕ) (s : S) (w : W) (ws : List W)
        → chosen k (numbered_of_lem s w) ++ chosen (k + length (numbered_of_lem s w)) (numbered (R.machine.step s w) ws) ≡ chosen k (numbered s (w ∷ ws))
    chosen-cons k s w ws = sym (ap (chosen k) (numbered-cons s w ws) ∙ chosen-append k (numbered_of_lem s w) (numbered (R.machine.step s w) ws))

    pub chosen_few : (k : ℕ) (es : List E) → length (chosen k es) ≤ length es
    chosen_few k [] = omega arith
    chosen_few k (e ∷ es) = go (spans win k (R.clock e)) (chosen_few (suc k) es)
      where
        go : (b : Bool) → length (chosen (suc k) es) ≤ length es → length (onto b e (chosen (suc k) es)) ≤ suc (length es)
        go true h = omega arith
        go false h = omega arith

    -- where all numbers are, a choice by time alone
    pub chosen_time : (k : ℕ) (es : List E) → win.n0 ≤ k → k + length es ≤ win.n1 → chosen k es ≡ sift in_time es
    chosen_time k [] a b = refl
    chosen_time k (e ∷ es) a b = rw (le-leb win.n0 k a, lt-ltb k win.n1 (omega arith), chosen_time (suc k) es (omega arith) (omega arith))

    -- ---- BY NUMBER, and THE LIMIT: a stop by number alone loses nothing

    -- no state on the way reaches t1
    abbrev pub Calm : S → List W → Type 0
    Calm s [] = Unit
    Calm s (w ∷ ws) = (is_over (R.machine.step s w) ≡ false) × Calm (R.machine.step s w) ws

    -- where what bounds the time is used up by steps
    pub calm_bounded : (Inv : ℕ → S → Type 0) → ((n : ℕ) (s : S) (w : W) → Inv (suc n) s → Inv n (R.machine.step s w))
        → ((n : ℕ) (s : S) → Inv n s → R.time s < win.t1) → (s : S) (ws : List W) → Inv (length ws) s → Calm s ws
    calm_bounded Inv keeps below s [] i = tt
    calm_bounded Inv keeps below s (w ∷ ws) i =
        let u = R.machine.step s w in
        let j = keeps (length ws) s w i in
        (not_reached R.live R.time win.t1 u (below (length ws) u j), calm_bounded Inv keeps below u ws j)

    -- ---- the words consumed, whatever stops the pass

    pub handed-after : (k : ℕ) (s : S) (ws : List W) → handed k s ws ≡ chosen k (numbered s (take (ended k s ws).consumed ws))
    unfolding handed ended
    handed-after k s [] = refl
    handed-after k s (w ∷ ws) =
        let j = k + length (numbered_of_lem s w) in
        let u = R.machine.step s w in
        go (is_stopped j u) j u (ended j u ws) (chosen-cons k s w) (handed-after j u ws)
      where
        go : (t : Bool) (j : ℕ) (u : S) (e : End S) → ((vs : List W) → chosen k (numbered_of_lem s w) ++ chosen j (numbered u vs) ≡ chosen k (numbered s (w ∷ vs)))
            → handed j u ws ≡ chosen j (numbered u (take e.consumed ws))
            → chosen k (numbered_of_lem s w) ++ unless t (handed j u ws) ≡ chosen k (numbered s (take (one_more (end_at t j u e)).consumed (w ∷ ws)))
        go true j u e f ih = f []
        go false j u e f ih = ap (λ (l : List E). chosen k (numbered_of_lem s w) ++ l) ih ∙ f (take e.consumed ws)
