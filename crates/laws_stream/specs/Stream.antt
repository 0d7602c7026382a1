-- An encoding as bytes: the cut, the resumption and the checkpoint, for every encoding.
use Rattle.std.specs.Prelude.{◌≡◌, List, ◌++◌, ℕ, ◌*◌, ◌/◌, take}
use Rattle.laws_stream.specs.Machine.{Machine, Note, run, emits, words, words_take, words_append}
use Rattle.laws_stream.specs.Format.{Format, Lawful}
use Rattle.laws_stream.specs.Words.{stream, stream-append, words_of, take-stream-words}

module _ {S E : Type 0} (n : ℕ) (D : Machine S ℕ E) where
  -- the events of the bytes, and the state after them: a broken last word is passed over
  abbrev pub decode : S → List ℕ → List E
  decode s l = emits D s (words_of n l)

  abbrev pub after : S → List ℕ → S
  after s l = run D s (words_of n l)

module _ {S Q I E : Type 0} (F : Format S Q I E) (L : Lawful F) where
  abbrev pub noted_bytes : List (Note ℕ E) → List ℕ
  noted_bytes ns = stream F.size (words ns)

  abbrev pub decode_f : S → List ℕ → List E
  decode_f = decode F.size F.reader

  -- the bytes of a stream that was cut and resumed
  pub bytes_resumed : (c : ℕ) (ns ms : List (Note ℕ E))
      → take (c / F.size * F.size) (noted_bytes ns) ++ noted_bytes ms ≡ noted_bytes (take (c / F.size) ns ++ ms)
  bytes_resumed c ns ms = rw (take-stream-words F.size, ← stream-append, words_append, words_take)
