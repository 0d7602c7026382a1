-- The loop that counts: what is noted of the events handed over, beside what `Iteration` has.
use Rattle.std.specs.Prelude.{◌≡◌, true, false, List, [], ℕ, ◌+◌, ◌/◌, ◌≤◌, ◌<◌, ◌^◌, length}
use Rattle.std.proofs.Common.{sym, ap, ◌∙◌, arith}
use Rattle.std.specs.Int.Count.{ones}
use Rattle.laws_stream.specs.{Words.words_of, Select.End}
use Rattle.evt_types.specs.{declared.vector.Vector.Vector, Event.Event, Event.events_of}
use Rattle.read_window.specs.declared.{Window.Window, extent.Extent.Extent, trim.Trimmed.Trimmed}
use Rattle.read_window.specs.Trim.{Picked, picked_few, masked, masked-count}
use Rattle.read_window.specs.Extent.{extent_of, extent_with, extent_none, extent_start, extent_append}
use Rattle.read_select.specs.{declared.word.Notes.Notes, Word.Notable, Word.noted, Word.seen_in, Pass.end_of, Pass.survey_of}
use Rattle.evt_codec.specs.{Reader.Reader, Sound.Sound}
use Rattle.read_select.specs.Iteration.{Iteration, At, all, left, last, left_if, last_if, stops, stand_start, stand_end, none_left}
use Rattle.read_select.specs.Iteration.{narrow_here, number-here, given-left, pend_next, done_end, done_count}

module _ (Q : Reader) (win : Window) (number : ℕ) (s₀ : Q.State) (bytes : List ℕ) where
  -- `seen` is noted, and `es` are still to be handed over
  pub record Counting (es : List Event) (e : End Q.State) (s : Q.State) (k n : ℕ) (seen : Extent) (i : ℕ) : Type 0 where
    pub at : At Q win number s₀ bytes es e s k n i
    pub notes : extent_with seen es ≡ extent_of (all Q win number s₀ bytes)

  abbrev pub Counts : (s : Q.State) (t : Notes) (i : ℕ) → Type 0
  Counts s t i = Counting (left Q win number s₀ bytes t.number s i) (last Q win number s₀ bytes t.number s i) s t.number t.count (seen_in t) i

  abbrev pub CountsIf : (s : Q.State) (t : Notes) (i : ℕ) → Type 0
  CountsIf s t i =
      Counting (left_if Q win number s₀ bytes (stops Q win number s₀ bytes t.number s) t.number s i)
      (last_if Q win number s₀ bytes (stops Q win number s₀ bytes t.number s) t.number s i) s t.number t.count (seen_in t) i

  abbrev pub Counted : (s : Q.State) (t : Notes) (i : ℕ) → Type 0
  Counted s t i = Counting [] (record { number = t.number; state = s; consumed = 0 }) s t.number t.count (seen_in t) i

module _ {Q : Reader} (L : Sound Q) {win : Window} {number : ℕ} {s₀ : Q.State} {bytes : List ℕ} where
  pub counts_start : Q.Bounded (length (words_of Q.size bytes)) s₀ → length bytes ≤ 2 ^ 30 → number ≤ 2 ^ 62
      → Counts Q win number s₀ bytes s₀ (record { number = number; count = 0; latest = 0; width = 0; height = 0 }) 0
  counts_start inv long low = record { at = stand_start L inv long low; notes = extent_start (all Q win number s₀ bytes) }

  module _ {s : Q.State} {t : Notes} {i : ℕ} where
    pub counts_on : stops Q win number s₀ bytes t.number s ≡ false → CountsIf Q win number s₀ bytes s t i → Counts Q win number s₀ bytes s t i
    counts_on e p = rw e at p

    pub counts_stop : stops Q win number s₀ bytes t.number s ≡ true → CountsIf Q win number s₀ bytes s t i → Counted Q win number s₀ bytes s t i
    counts_stop e p = rw e at p

    pub counted : Counted Q win number s₀ bytes s t i
        → record { number = t.number; count = t.count; latest = t.latest; width = t.width; height = t.height; consumed = i / Q.size; codec = Q.codec s }
        ≡ survey_of (end_of Q.codec (last Q win number s₀ bytes number s₀ 0)) (all Q win number s₀ bytes)
    counted p =
        let is_seen : seen_in t ≡ extent_of (all Q win number s₀ bytes) = sym (extent_none (seen_in t)) ∙ p.notes in
        ap (λ (m : ℕ).
        record { number = t.number; count = m; latest = t.latest; width = t.width; height = t.height; consumed = i / Q.size; codec = Q.codec s })
        (done_count L p.at)
        ∙ ap (λ (x : Extent). record {
          number = t.number;
          count = length (all Q win number s₀ bytes);
          latest = x.latest;
          width = x.width;
          height = x.height;
          consumed = i / Q.size;
          codec = Q.codec s;
        }) is_seen
        ∙ ap (λ (e : End Q.State). survey_of (end_of Q.codec e) (all Q win number s₀ bytes)) (done_end L p.at)

    module _ (u : Counts Q win number s₀ bytes s t i) where
      pub counts_end : length bytes < i + Q.size → Counted Q win number s₀ bytes s t i
      counts_end h = record { at = stand_end L u.at h; notes = rw (none_left L u.at h) at u.notes }

      -- a word, of whose events r leaves some
      module _ {s' : Q.State} {v : Vector} (o : Iteration Q bytes i s s' v) (r : Trimmed) (q : Picked v win t.number r) where
        pub notable-here : Notable t v r
        notable-here =
            record {
              narrow = narrow_here L u.at o;
              small = q.small;
              few = picked_few (narrow_here L u.at o).mask< q;
              number = number-here L u.at;
              count = omega (arith, u.at.few, u.at.within, u.at.long);
            }

        pub counts_next : CountsIf Q win number s₀ bytes s' (noted t v r) (i + Q.size)
        counts_next =
            let m = masked-count v r.mask q.small in
            record {
              at = pend_next L u.at o r q (ones r.mask) m;
              notes = sym (extent_append (seen_in t) (events_of (masked v r.mask)) _)
                  ∙ ap (extent_with (seen_in t)) (sym (given-left L u.at o r q (ones r.mask) m)) ∙ u.notes;
            }
