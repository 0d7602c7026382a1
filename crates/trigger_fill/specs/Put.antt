-- A word's triggers, written to the columns.
use Rattle.std.specs.Prelude.{◌≡◌, refl, List, [], ◌∷◌, ◌++◌, map, ℕ, ◌+◌, ◌≤◌, length, set, ℤ}
use Rattle.std.proofs.Common.{◌∙◌, arith, length-append}
use Rattle.std.proofs.lemmas.List.{length-map}
use Rattle.std.proofs.lemmas.List.Edits.{sets}
use Rattle.laws_stream.specs.Columns.{Column, column-run, written_sets}
use Rattle.evt_types.specs.Trigger.{Trigger, col_time, col_id, col_value, shortest3, Pulsing}

pub record Put (gs : List Trigger) (at r : ℕ) (ts₀ : List ℤ) (ids₀ values₀ : List ℕ) (ts : List ℤ) (ids values : List ℕ) : Type 0 where
  pub next : r ≡ at + length gs
  pub is_t : ts ≡ sets ts₀ at (map col_time gs)
  pub is_id : ids ≡ sets ids₀ at (map col_id gs)
  pub is_value : values ≡ sets values₀ at (map col_value gs)

module _ {gs : List Trigger} (at : ℕ) {ts : List ℤ} {ids values : List ℕ} where
  pub put_one : (g : Trigger) → gs ≡ g ∷ [] → Put gs at (at + 1) ts ids values (set ts at (col_time g)) (set ids at (col_id g)) (set values at (col_value g))
  put_one g e = rw e (record { next = omega arith; is_t = refl; is_id = refl; is_value = refl })

  pub put_none : gs ≡ [] → Put gs at at ts ids values ts ids values
  put_none e = rw e (record { next = omega arith; is_t = refl; is_id = refl; is_value = refl })

put_column : {A : Type 0} (f : Trigger → A) {all : List Trigger} {old : List A} (a : List Trigger) {left : List Trigger} {n : ℕ} {now next : List A}
    → n + length a ≤ length now → next ≡ sets now n (map f a) → Column f all 0 old (a ++ left) n now → Column f all 0 old left (n + length a) next
put_column f a {left} {n} {now} room e c = column-run f a room (e ∙ written_sets now n (map f a) (rw length-map room)) c

module _ {all : List Trigger} {ts₀ : List ℤ} {ids₀ values₀ : List ℕ} (gs left : List Trigger) {n : ℕ} {ts : List ℤ} {ids values : List ℕ}
    (p : Pulsing all ts₀ ids₀ values₀ (gs ++ left) n ts ids values) where
  pub put_room : length all ≤ shortest3 ts₀ ids₀ values₀ → n + length gs ≤ shortest3 ts ids values
  put_room room = omega (arith, p.count, length-append gs left, p.in_t.long, p.in_id.long, p.in_value.long)

  pub put_next : length all ≤ shortest3 ts₀ ids₀ values₀ → {r : ℕ} {ts' : List ℤ} {ids' values' : List ℕ} → Put gs n r ts ids values ts' ids' values'
      → Pulsing all ts₀ ids₀ values₀ left r ts' ids' values'
  put_next room u =
      let h = put_room room in
      rw u.next (record {
        count = omega (arith, p.count, length-append gs left);
        in_t = put_column col_time gs (omega arith) u.is_t p.in_t;
        in_id = put_column col_id gs (omega arith) u.is_id p.in_id;
        in_value = put_column col_value gs (omega arith) u.is_value p.in_value;
      })
