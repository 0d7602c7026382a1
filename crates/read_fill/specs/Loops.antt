-- The iterations of the encodings' loops, from what the code has at hand.
use Rattle.std.specs.Prelude.{◌≡◌, List, ℕ, ◌+◌, ◌≤◌, ◌<◌, ◌^◌, length}
use Rattle.std.proofs.Common.{sym, ap, ◌∙◌}
use Rattle.evt_types.specs.{Ahead.ahead, Ahead.ahead-some, declared.vector.Vector.Vector, Event.events_of, Event.Narrow}
use Rattle.evt_codec.specs.{Reader.Reader, Sound.Sound}
use Rattle.read_fill.specs.Iteration.{Iteration}

module _ {R : Reader} (S : Sound R) where
  -- the word that stands at index i, its step and its events
  pub iteration : {bytes : List ℕ} {s s' : R.State} {i w : ℕ} {v : Vector} → i + R.size ≤ length bytes → w ≡ ahead R.size bytes i
      → s' ≡ R.machine.step s w → v ≡ R.vector s w → Iteration R.size R.machine bytes s i s' v
  iteration {bytes} {s} {s'} {i} {w} h is_word is_next is_events = record {
    word = w;
    more = h;
    is_word = is_word ∙ ahead-some R.size bytes i h;
    is_next = is_next;
    is_events = S.emits s w ∙ ap events_of (sym is_events);
  }

  -- its events fit the columns, and are no more than the encoding's words have
  pub word_narrow : {n : ℕ} {s : R.State} {w : ℕ} {v : Vector} → R.Bounded n s → v ≡ R.vector s w → Narrow v
  word_narrow {n} {s} {w} b is = rw is (S.narrow n s w b)

  pub word_few : {s : R.State} {w : ℕ} {v : Vector} → v ≡ R.vector s w → v.mask < 2 ^ R.most
  word_few {s} {w} is = rw is (S.few s w)
