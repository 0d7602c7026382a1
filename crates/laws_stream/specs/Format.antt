-- What an encoding is, what it must show, and what follows for every encoding: the cut and the resumption.
use Rattle.std.specs.Prelude.{◌≡◌, refl, List, [], ◌∷◌, ◌++◌, ℕ, ◌<◌, take, drop}
use Rattle.std.proofs.Common.{◌∙◌, append_assoc}
use Rattle.laws_stream.specs.Machine.{Machine, Note, All, run, emits, run-append, words, notes, words_append, notes-append, Says}
use Rattle.laws_stream.specs.{Machine.says_append, Machine.says_take, Machine.says_ready, Words.Fits}

-- S: the reader's states. Q: the writer's. I: what the writer is given at a time. E: events
pub record Format (S Q I E : Type 0) : Type 1 where
  -- the bytes of a word
  pub size : ℕ
  pub reader : Machine S ℕ E
  pub start : S
  pub writer : Machine Q I (Note ℕ E)
  pub fresh : Q
  pub given : I → List E
  -- what the writer can be given
  pub Valid : I → Type 0
  -- the reader at s can take the events next, from any writer that agrees with it
  pub Ready : S → List E → Type 0
  -- what the writer takes for sent is what the reader holds
  pub Agree : Q → S → Type 0

module _ {S Q I E : Type 0} (F : Format S Q I E) where
  -- the reader understands the words, and is ready for `more` after them
  abbrev pub Good : S → List (Note ℕ E) → List E → Type 0
  Good = Says F.reader (Fits F.size) F.Ready

  pub record Lawful : Type 0 where
    pub sized : 0 < F.size
    pub noted : (v : Q) (i : I) → F.Valid i → notes (F.writer.emit v i) ≡ F.given i
    pub starts : F.Agree F.fresh F.start
    pub group : (v : Q) (s : S) (i : I) (more : List E) → F.Valid i → F.Agree v s → F.Ready s (F.given i ++ more)
        → Good s (F.writer.emit v i) more × F.Agree (F.writer.step v i) (run F.reader s (words (F.writer.emit v i)))

  abbrev pub givens : List I → List E
  givens [] = []
  givens (i ∷ is) = F.given i ++ givens is

module _ {S Q I E : Type 0} (F : Format S Q I E) (L : Lawful F) where
  pub written-notes : (v : Q) (is : List I) → All F.Valid is → notes (emits F.writer v is) ≡ givens F is
  written-notes v [] va = refl
  written-notes v (i ∷ is) va =
      notes-append (F.writer.emit v i) (emits F.writer (F.writer.step v i) is)
      ∙ rw (L.noted v i va.0, written-notes (F.writer.step v i) is va.1)

  -- a writer that agrees with the reader is understood, whatever it is given that the reader is ready for
  pub writes : (v : Q) (s : S) (is : List I) (more : List E) → All F.Valid is → F.Agree v s → F.Ready s (givens F is ++ more)
      → Good F s (emits F.writer v is) more × F.Agree (run F.writer v is) (run F.reader s (words (emits F.writer v is)))
  writes v s [] more va ag rd = (rd, ag)
  writes v s (i ∷ is) more va ag rd =
      let P = F.writer in
      let g = L.group v s i (givens F is ++ more) va.0 ag (rw append_assoc at rd) in
      let rd' = says_ready F.reader (Fits F.size) F.Ready s (P.emit v i) (givens F is ++ more) g.0 in
      let r = writes (P.step v i) (run F.reader s (words (P.emit v i))) is more va.1 g.1 rd' in (
        says_append F.reader (Fits F.size) F.Ready s (P.emit v i) (emits P (P.step v i) is) more
            (rw (written-notes (P.step v i) is va.1) g.0) r.0,
        rw (words_append (P.emit v i) (emits P (P.step v i) is), run-append) r.1,
      )

  -- after k words the reader is ready for the events that were cut off
  pub ready_after : (k : ℕ) (s : S) (ns : List (Note ℕ E)) (more : List E) → Good F s ns more
      → F.Ready (run F.reader s (words (take k ns))) (notes (drop k ns) ++ more)
  ready_after k s ns more p =
      says_ready F.reader (Fits F.size) F.Ready s (take k ns) (notes (drop k ns) ++ more)
      (says_take F.reader (Fits F.size) F.Ready k s ns more p)

  -- a stream that is cut after k words and resumed, by a writer that agrees with the reader there and is given the events that were cut off, is understood too
  pub resumes : (k : ℕ) (s : S) (ns : List (Note ℕ E)) (v : Q) (is : List I) (more : List E) → All F.Valid is → Good F s ns more
      → givens F is ≡ notes (drop k ns) → F.Agree v (run F.reader s (words (take k ns))) → Good F s (take k ns ++ emits F.writer v is) more
  resumes k s ns v is more va p e ag =
      let q = says_take F.reader (Fits F.size) F.Ready k s ns more p in
      let r = (writes v (run F.reader s (words (take k ns))) is more va ag (rw e (ready_after k s ns more p))).0 in
      says_append F.reader (Fits F.size) F.Ready s (take k ns) (emits F.writer v is) more (rw (written-notes v is va, e) q) r

-- a writer that is given more at a time: `f` takes apart what it is given
module _ {S Q A I E : Type 0} (F : Format S Q I E) (f : A → List I) (g : A → List E) (Valid : A → Type 0) where
  abbrev pub Through : Format S Q A E
  Through = record {
    size = F.size;
    reader = F.reader;
    start = F.start;
    writer = record { step = λ v a. run F.writer v (f a); emit = λ v a. emits F.writer v (f a) };
    fresh = F.fresh;
    given = g;
    Valid = Valid;
    Ready = F.Ready;
    Agree = F.Agree;
  }

  pub through : Lawful F → ((a : A) → givens F (f a) ≡ g a) → ((a : A) → Valid a → All F.Valid (f a)) → Lawful Through
  through L h k = record {
    sized = L.sized;
    noted = λ v a va. written-notes F L v (f a) (k a va) ∙ h a;
    starts = L.starts;
    group = λ v s a more va ag rd. writes F L v s (f a) more (k a va) ag (rw (h a) rd);
  }
