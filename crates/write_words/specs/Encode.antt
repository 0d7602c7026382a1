-- The words of events in each encoding: what the writer's contracts cite.
use Rattle.std.specs.Prelude.{true, List, ℕ, ◌+◌, ◌-◌, ◌*◌, ◌/◌, ℤ, length}
use Rattle.laws_stream.specs.{Machine.Note, Machine.run, Machine.emits, Machine.words, Order.Rise, Order.last_of, Words.stream}
use Rattle.evt3_decoder.specs.Evt3.{period3}
use Rattle.evt_types.specs.{Event.Event, Num.natural, Layout.word_size2, Layout.word_size21, Layout.word_size3}
use Rattle.evt_types.specs.declared.{Encoding.Encoding, Encoding.TheVariants.Evt2, Encoding.TheVariants.Evt21, Encoding.TheVariants.Evt3}
use Rattle.write_buffer.specs.declared.{EncoderState.EncoderState, Put.Put}
use Rattle.evt2_encoder.specs.{Evt2.writer2, Pass2.Fitting2}
use Rattle.evt21_encoder.specs.Evt21.{runs21, writer21}
use Rattle.evt3_run_rules.specs.Runs.{runs}
use Rattle.evt3_lead_words.specs.Evt3.{loop_of, writer3}

-- the loop of an event's time, and of a time of a column
abbrev pub loop_clock : Event → ℕ
loop_clock e = e.t / period3

abbrev pub loop_time : ℤ → ℕ
loop_time t = natural t / period3

-- the words of events, each with a note of those that it carries
abbrev pub encode_notes : Encoding → EncoderState → List Event → List (Note ℕ Event)
encode_notes Evt2 v es = emits writer2 v es
encode_notes Evt21 v es = emits writer21 v (runs21 es)
encode_notes Evt3 v es = emits writer3 v (runs es)

-- what has been sent after them
abbrev pub encode_state : Encoding → EncoderState → List Event → EncoderState
encode_state Evt2 v es = run writer2 v es
encode_state Evt21 v es = run writer21 v (runs21 es)
encode_state Evt3 v es = run writer3 v (runs es)

-- the bytes of a word
abbrev pub encode_size : Encoding → ℕ
encode_size Evt2 = word_size2
encode_size Evt21 = word_size21
encode_size Evt3 = word_size3

unfoldable pub encode_bytes : Encoding → EncoderState → List Event → List ℕ
encode_bytes e v es = stream (encode_size e) (words (encode_notes e v es))

-- the most bytes of n events, where so many loops are passed: two words of EVT2 or of EVT 2.1 for each event, or four of EVT3, and in EVT3 two for each loop
abbrev pub encode_most : Encoding → (n loops : ℕ) → ℕ
encode_most Evt2 n loops = 8 * n
encode_most Evt21 n loops = 16 * n
encode_most Evt3 n loops = 8 * n + 4 * loops

-- in EVT3: no event is in a loop before that of the one before, the first in none before that of the half that is held
abbrev pub Paced3 : EncoderState → List Event → Type 0
Paced3 v es = Rise loop_clock (λ e. true) (loop_of v.time_high) es

abbrev pub Paced : Encoding → EncoderState → List Event → Type 0
Paced Evt2 v es = Unit
Paced Evt21 v es = Unit
Paced Evt3 v es = Paced3 v es

-- the loops that such events pass
abbrev pub loops_ahead : EncoderState → List Event → ℕ
loops_ahead v es = last_of loop_clock (λ e. true) (loop_of v.time_high) es - loop_of v.time_high

-- by the times alone: of the last of them, or of none
abbrev pub last_loop : (held : ℕ) → List ℤ → ℕ
last_loop = last_of loop_time (λ t. true)

-- after a pass whose words go from `at` on
abbrev pub passed : Encoding → EncoderState → List Event → (at : ℕ) → Put
passed e v es at = record { state = encode_state e v es; at = at + length (encode_bytes e v es) }

-- columns whose events a pass can be given: those of EVT2 and of EVT 2.1 cut none off
abbrev pub Fitting : Encoding → List ℕ → List ℕ → List ℤ → List ℕ → Type 0
Fitting Evt2 xs ys ts ps = Fitting2 xs ys ts ps
Fitting Evt21 xs ys ts ps = Fitting2 xs ys ts ps
Fitting Evt3 xs ys ts ps = Unit
