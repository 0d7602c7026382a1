-- From a place to the next notable word: the triggers from there on are the same.
use Rattle.std.specs.Prelude.{◌≡◌, Bool, List, ◌++◌, ℕ, ◌+◌, ◌*◌, ◌≤◌, ℤ, length, take, drop}
use Rattle.std.proofs.Common.{sym, ap, ◌∙◌, arith, length-drop, length-append, take-append-drop, drop-drop, length-take-le}
use Rattle.laws_stream.specs.{Machine.emits, Words.words_of, Words.length-words}
use Rattle.evt_types.specs.Trigger.{Trigger}
use Rattle.trigger_fill.specs.declared.{form.Form.Form, times.Times.Times}
use Rattle.trigger_fill.specs.{Form.Known, Form.pulses, Form.pulses_from, Form.size-pos, Form.words-within, Form.paced_fewer, Pulse.Place, Pulse.Pulse}
use Rattle.trigger_fill.specs.{Follow.lead, Follow.lead-most, Find.lead_none, Calm.notable, Calm.Side, Calm.settled, Calm.calm_over, Calm.paced_settled}
use Rattle.trigger_fill.specs.Back.{Whole}
use Rattle.laws_stream.proofs.WordsLaws.{words_dropped, words_taken}

pub record Reached (f : Form) (l : List ℕ) (c : Times) (i : ℕ) (c' : Times) (j : ℕ) : Type 0 where
  pub on : i ≤ j
  pub place : Place f l c' j
  pub same : pulses_from f c' j l ≡ pulses_from f c i l

-- n bytes on, over words none of which is notable
module _ {f : Form} (known : Known f) {l : List ℕ} {c : Times} {i : ℕ} (p : Place f l c i) (n : ℕ)
    (late : Bool) (is : n ≡ lead (notable late f) (words_of f.size (drop i l)) * f.size) where
  abbrev rest : List ℕ
  rest = drop i l

  abbrev count : ℕ
  count = lead (notable late f) (words_of f.size rest)

  fits : count * f.size ≤ length rest
  fits = words-within known count rest (omega (arith, lead-most (notable late f) (words_of f.size rest), length-words f.size rest))

  pub reach-within : n ≤ length rest
  reach-within = omega (arith, fits)

  pub reach-whole : Whole f (length (take n rest))
  reach-whole = record { words = count; is = length-take-le n rest reach-within ∙ is }

  pub reach_on : Side late f c → (c' : Times) → c' ≡ settled f c (words_of f.size (take n rest)) → Reached f l c i c' (i + n)
  reach_on side c' is-times =
      let ws = words_of f.size rest in
      let a = words_of f.size (take n rest) in
      let b = words_of f.size (drop (i + n) l) in
      let front : a ≡ take count ws = ap (λ (k : ℕ). words_of f.size (take k rest)) is ∙ words_taken f.size (size-pos known) count rest fits in
      let behind : b ≡ drop count ws =
      ap (words_of f.size) (sym (drop-drop n i l) ∙ ap (λ (k : ℕ). drop k rest) is) ∙ words_dropped f.size (size-pos known) count rest fits in
      let all : a ++ b ≡ ws = rw (front, behind) (take-append-drop count ws) in
      rw is-times (record {
        on = omega arith;
        place = record {
          within = omega (arith, reach-within, length-drop i l, p.within);
          paced = paced_settled known a (paced_fewer (omega (arith, length-append a b, ap length all)) p.paced);
        };
        same = sym (calm_over known late p.paced side a b (rw front (lead_none (notable late f) ws))) ∙ ap (emits (pulses f) c) all;
      })

-- the loop over the words goes on there
module _ {f : Form} {l : List ℕ} {all : List Trigger} {ts₀ : List ℤ} {ids₀ values₀ : List ℕ} {ts : List ℤ} {ids values : List ℕ} {c : Times} {n i : ℕ} where
  pub pulse_reached : Pulse f l all ts₀ ids₀ values₀ ts ids values c n i → {c' : Times} {j : ℕ} → Reached f l c i c' j
      → Pulse f l all ts₀ ids₀ values₀ ts ids values c' n j
  pulse_reached u r = record { place = r.place; pulsing = rw r.same u.pulsing }
