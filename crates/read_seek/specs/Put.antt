-- Where a seek over EVT3 words ends: the decoder put together of its times, its row and its base column.
use Rattle.std.specs.Prelude.{◌≡◌, refl, true, List, ℕ, ◌*◌, ◌/◌, ◌≤◌, ◌<◌, ◌^◌, length, take, drop}
use Rattle.std.proofs.Common.{sym, ap, ◌∙◌, arith}
use Rattle.evt_types.specs.Layout.{word_size3}
use Rattle.laws_stream.specs.{Machine.run, Words.words_of, Seek.Reach, Seek.reach_state}
use Rattle.evt3_decoder.specs.{declared.Decoder.Decoder, Evt3.reader3, Range.Bounded3}
use Rattle.evt_codec.specs.{declared.codec.Codec.TheVariants.Evt3, Reader.evt3}
use Rattle.read_seek.specs.{declared.evt3.Spanned.Spanned, Seek.reach3, Seek.sought_of, Times.times_of, Times.spanned_of}
use Rattle.read_seek.specs.{Back.put_behind, Back.put_is, Laws.sought_within}
use Rattle.laws_stream.proofs.WordsLaws.{words_taken}

module _ (t₀ t₁ : ℕ) (d : Decoder) (bytes : List ℕ) where
  abbrev end : Reach Decoder
  end = reach3 t₀ t₁ d bytes

  within : end.words * word_size3 ≤ length bytes
  within = sought_within t₀ t₁ (Evt3 d) bytes

  pub passed-within : (r : Spanned) → r ≡ spanned_of end → r.at ≤ length bytes
  passed-within r is = rw is within

  -- the state is what the bytes passed over lead to
  state_is : end.state ≡ run reader3 d (words_of word_size3 (take (end.words * word_size3) bytes))
  state_is = reach_state reader3 (λ d. d.time) evt3.carries t₀ t₁ d (words_of word_size3 bytes)
      ∙ ap (run reader3 d) (sym (words_taken word_size3 (omega arith) end.words bytes within))

  module _ (on : d.initialised ≡ true) (column : d.base_x < 2 ^ 16) (r : Spanned) (is : r ≡ spanned_of end)
      (left : Bounded3 (length (drop r.at bytes) / word_size3) end.state)
      (e : Decoder) (is-put : e ≡ put_behind d (take r.at bytes) r.times) where
    whole : e ≡ end.state
    whole = is-put ∙ ap (λ (r : Spanned). put_behind d (take r.at bytes) r.times) is
        ∙ put_is d (take (end.words * word_size3) bytes) end.state on column state_is (times_of end.state) refl

    pub put_found : (record { at = r.at; stray = r.stray; codec = Evt3 e } ≡ sought_of t₀ t₁ (Evt3 d) bytes)
        × Bounded3 (length (drop r.at bytes) / word_size3) e
    put_found = (λ i. record { at = (is i).at; stray = (is i).stray; codec = Evt3 (whole i) }, rw whole left)
