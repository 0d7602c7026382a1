-- Laws of the header's lines: the first one, what is kept of one, and the loop over them.
use Rattle.std.proofs.Common.{ℕ, suc, ◌+◌, ◌-◌, ◌<◌, ◌≤◌, ◌≡◌, refl, sym, ◌∙◌, ap, List, [], ◌∷◌, append-nil, Bool, true, false, cond, arith, length, get_or}
use Rattle.std.proofs.Common.{take, drop, length-take, length-drop, length-append, drop-drop, eqb, lt-ltb, le-ltb, ne_eqb}
use Rattle.std.specs.Prelude.{Option, min, ltb}
use Rattle.std.proofs.Common.{ltb-true, ltb-false}
use Rattle.evt_types.specs.declared.SensorSize.{SensorSize}
use Rattle.header_text.specs.Text.{is_blank, is_byte, up_to, from, any, trim_of, same}
use Rattle.header_text.specs.Size.{geometry_of}
use Rattle.header.specs.Lines.{is_end, joined, lines_of, starts_percent, leading, through_end, header_lines, joined_lines, header_bytes, body_start}
use Rattle.header.specs.Lines.{body_of, key_of, value_of}
use Rattle.header.specs.Header.{geometry_name, format_name, evt_name, Said, nothing, read_line, read_all, said_by}
use Rattle.header_text.specs.Cases.{by_bool}
use Rattle.header.specs.Notes.{line_length, scan_of}
use Rattle.header_text.proofs.TextLaws.{at_drop, at-end, up_to-le, lt-up_to, count-take, count-drop}

-- ---- the first line

pub length_line : (s : List ℕ) → line_length s ≡ cond (any (is_byte 10) s) (suc (length (up_to (is_byte 10) s))) (length (up_to (is_byte 10) s))
unfolding line_length any up_to
length_line [] = refl
length_line (b ∷ s) =
    by_bool (eqb b 10) (λ e. rw e) (λ e. rw e (rw (length_line s) (by_bool (any (is_byte 10) s) (λ a. rw a) (λ a. rw a))))

pub line_le : (s : List ℕ) → line_length s ≤ length s
unfolding line_length
line_le [] = omega arith
line_le (b ∷ s) = by_bool (eqb b 10) (λ e. rw e (omega arith)) (λ e. rw e (omega (arith, line_le s)))

pub line_pos : (b : ℕ) (s : List ℕ) → 0 < line_length (b ∷ s)
unfolding line_length
line_pos b s = by_bool (eqb b 10) (λ e. rw e (omega arith)) (λ e. rw e (omega arith))

pub lines_step : (b : ℕ) (s : List ℕ) → lines_of (b ∷ s) ≡ take (line_length (b ∷ s)) (b ∷ s) ∷ lines_of (drop (line_length (b ∷ s)) (b ∷ s))
unfolding lines_of line_length joined
lines_step b [] = by_bool (eqb b 10) (λ e. rw e) (λ e. rw e)
lines_step b (b' ∷ s) = by_bool (eqb b 10) (λ e. rw e) (λ e. rw e (ap (joined b) (lines_step b' s)))

-- the header's lines: the first line, and unless that is an end line those of what follows it
pub header_step : (s : List ℕ) → header_lines (37 ∷ s)
    ≡ take (line_length (37 ∷ s)) (37 ∷ s) ∷ cond (is_end (take (line_length (37 ∷ s)) (37 ∷ s))) [] (header_lines (drop (line_length (37 ∷ s)) (37 ∷ s)))
unfolding header_lines through_end leading line_length starts_percent
header_step s = rw (lines_step 37 s)

pub header_stop : (b : ℕ) (s : List ℕ) → (b ≡ 37 → ⊥) → header_lines (b ∷ s) ≡ []
unfolding header_lines through_end leading line_length starts_percent
header_stop b s h = rw (lines_step b s) (by_bool (eqb b 10) (λ e. rw (e, ne_eqb b 37 h)) (λ e. rw (e, ne_eqb b 37 h)))

pub header_none : header_lines [] ≡ []
unfolding header_lines through_end leading lines_of
header_none = refl

module _ (s : List ℕ) (n : ℕ) (e : n ≡ length (up_to (is_byte 10) s)) where
  pub line_more : n < length s → n + 1 ≡ line_length s
  line_more h =
      let a : any (is_byte 10) s ≡ true = sym (lt-up_to (is_byte 10) s) ∙ lt-ltb (length (up_to (is_byte 10) s)) (length s) (omega arith) in
      let l : line_length s ≡ suc (length (up_to (is_byte 10) s)) = rw a at (length_line s) in
      omega arith

  pub line_last : length s ≤ n → n ≡ line_length s
  line_last h =
      let a : any (is_byte 10) s ≡ false = sym (lt-up_to (is_byte 10) s) ∙ le-ltb (length (up_to (is_byte 10) s)) (length s) (omega arith) in
      let l : line_length s ≡ length (up_to (is_byte 10) s) = rw a at (length_line s) in
      omega arith

  pub line_is : min (n + 1) (length s) ≡ line_length s
  line_is =
      by_bool (ltb n (length s)) (λ t. let h : n < length s = ltb-true _ _ t in omega (arith, line_more h))
      (λ t. let h : length s ≤ n = ltb-false _ _ t in omega (arith, line_last h, up_to-le (is_byte 10) s))

-- ---- what a line says

pub record Parts (l key value : List ℕ) : Type 0 where
  pub key_is : key ≡ key_of l
  pub value_is : value ≡ value_of l

pub parts : (l body value : List ℕ) (n : ℕ) → body ≡ body_of l → n ≡ length (up_to is_blank body)
    → value ≡ trim_of (take (length body - n) (drop n body)) → Parts l (take n body) value
unfolding key_of value_of
parts l body value n b k v =
    record { key_is = count-take is_blank body n k ∙ ap (up_to is_blank) b; value_is = v ∙ ap trim_of (count-drop is_blank body n k ∙ ap (from is_blank) b) }

module _ (said : Said) (l key value : List ℕ) (p : Parts l key value) where
  named_as : (name : List ℕ) (b : Bool) → same name key ≡ b → same name (key_of l) ≡ b
  named_as name b e = sym (ap (same name) p.key_is) ∙ e

  pub line_geometry : (g : Option SensorSize) → same geometry_name key ≡ true → g ≡ geometry_of value said.size
      → ◌≡◌ {A = Said} (record { format = said.format; evt = said.evt; size = g }) (read_line said l)
  unfolding read_line
  line_geometry g e f = rw (named_as geometry_name true e, f, p.value_is)

  module _ (d : same geometry_name key ≡ false) where
    pub line_format : same format_name key ≡ true → ◌≡◌ {A = Said} (record { format = value; evt = said.evt; size = said.size }) (read_line said l)
    unfolding read_line
    line_format e = rw (named_as geometry_name false d, named_as format_name true e, p.value_is)

    module _ (d' : same format_name key ≡ false) where
      pub line_evt : same evt_name key ≡ true → ◌≡◌ {A = Said} (record { format = said.format; evt = value; size = said.size }) (read_line said l)
      unfolding read_line
      line_evt e = rw (named_as geometry_name false d, named_as format_name false d', named_as evt_name true e, p.value_is)

      pub line_other : same evt_name key ≡ false → said ≡ read_line said l
      unfolding read_line
      line_other e = rw (named_as geometry_name false d, named_as format_name false d', named_as evt_name false e)

-- ---- the loop over the lines

-- a line of n bytes at a place where `left` is still to be read
pub record Line (s : List ℕ) (at : ℕ) (left : List ℕ) (n : ℕ) : Type 0 where
  pub within : n ≤ length left
  pub fits : at + n ≤ length s
  pub some : 0 < n

pub line_at : (s : List ℕ) (at : ℕ) → at < length s → (left : List ℕ) → left ≡ drop at s → (n : ℕ) → n ≡ line_length left → Line s at left n
line_at s at h left e n en =
    let w : n ≤ length left = omega (arith, line_le left) in
    let p : 0 < line_length left = rw (e, at_drop s at h) (line_pos _ _) in
    record { within = w; fits = omega (arith, ap length e, length-drop at s); some = omega arith }

-- where the scan ends and what it has seen, from a place where it saw `seen` with `s` left
abbrev pub resume : ℕ → Said → List ℕ → ℕ × Said
resume at seen s = (at + body_start s, read_all seen (header_lines s))

pub scan_start : (s : List ℕ) → resume 0 nothing s ≡ scan_of s
unfolding scan_of said_by
scan_start s = let e : 0 + body_start s ≡ body_start s = omega arith in rw e

start_none : (s : List ℕ) → header_lines s ≡ [] → body_start s ≡ 0
unfolding body_start header_bytes joined_lines
start_none s e = rw e

start_line : (s l t : List ℕ) → header_lines s ≡ l ∷ header_lines t → body_start s ≡ length l + body_start t
unfolding body_start header_bytes joined_lines
start_line s l t e = rw e (length-append l (joined_lines (header_lines t)))

start_last : (s l : List ℕ) → header_lines s ≡ l ∷ [] → body_start s ≡ length l
unfolding body_start header_bytes joined_lines
start_last s l e = rw (e, append-nil l)

scan_over : (at : ℕ) (seen : Said) (s : List ℕ) → header_lines s ≡ [] → ◌≡◌ {A = ℕ × Said} (at, seen) (resume at seen s)
unfolding read_all
scan_over at seen s e = let z : at + 0 ≡ at = omega arith in rw (start_none s e, e, z)

module _ (s : List ℕ) (at : ℕ) (seen : Said) (inv : resume at seen (drop at s) ≡ scan_of s) where
  pub scan_end : length s ≤ at → ◌≡◌ {A = ℕ × Said} (at, seen) (scan_of s)
  scan_end h = scan_over at seen (drop at s) (rw (at-end s at h) header_none) ∙ inv

  module _ (h : at < length s) where
    pub scan_stop : (get_or s at 0 ≡ 37 → ⊥) → ◌≡◌ {A = ℕ × Said} (at, seen) (scan_of s)
    scan_stop k = scan_over at seen (drop at s) (rw (at_drop s at h) (header_stop _ _ k)) ∙ inv

    -- a line that begins with `%`, read
    module _ (left : List ℕ) (e : left ≡ drop at s) (n : ℕ) (en : n ≡ line_length left) (seen' : Said) (k : get_or s at 0 ≡ 37)
        (es : seen' ≡ read_line seen (take n left)) where
      first : header_lines left ≡ take n left ∷ cond (is_end (take n left)) [] (header_lines (drop n left))
      first = let d : left ≡ 37 ∷ drop (at + 1) s = e ∙ rw (at_drop s at h, k) in rw (en, d) (header_step (drop (at + 1) s))

      long : length (take n left) ≡ n
      long = let w : n ≤ length left = (line_at s at h left e n en).within in omega (arith, length-take n left)

      pub scan_next : is_end (take n left) ≡ false → resume (at + n) seen' (drop (at + n) s) ≡ scan_of s
      unfolding read_all
      scan_next more =
          let f : drop n left ≡ drop (at + n) s = rw e (drop-drop n at s) in
          let b : header_lines left ≡ take n left ∷ header_lines (drop (at + n) s) = rw (more, f) at first in
          let l : (at + n) + body_start (drop (at + n) s) ≡ at + body_start left = omega (arith, start_line left (take n left) (drop (at + n) s) b, long) in
          let r : read_all seen' (header_lines (drop (at + n) s)) ≡ read_all seen (header_lines left) = rw (b, es) in
          rw (l, r, e) inv

      -- an end line is the last
      pub scan_last : is_end (take n left) ≡ true → ◌≡◌ {A = ℕ × Said} (at + n, seen') (scan_of s)
      unfolding read_all
      scan_last ends =
          let b : header_lines left ≡ take n left ∷ [] = rw ends at first in
          let l : at + n ≡ at + body_start left = omega (arith, start_last left (take n left) b, long) in
          let r : seen' ≡ read_all seen (header_lines left) = rw (b, es) in
          rw (l, r, e) inv
