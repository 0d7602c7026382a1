-- A header that is written is read back, whatever body follows it: its encoding, its size, and where the body starts.
use Rattle.std.proofs.Common.{◌≡◌, ◌⊎◌, Bool, false, cond, ◌||◌, ℕ, ◌^◌, ◌≤◌, ◌<◌, length, refl, sym, ◌∙◌, arith, ⊎_elim, true, List, [], ◌∷◌, ◌++◌}
use Rattle.std.proofs.Common.{append_assoc, append-nil, eqb, ltb, le-ltb, lt-ltb, eq-eqb, ne_eqb}
use Rattle.std.proofs.Math.Bool.{or-true, and-false}
use borrow.Author.Tests.{lt-leb}
use Rattle.evt_types.specs.declared.{Encoding.Encoding, Encoding.TheVariants.Evt2, Encoding.TheVariants.Evt21, Encoding.TheVariants.Evt3}
use Rattle.std.specs.Prelude.{Option, Some, None, Result, Ok, Err}
use Rattle.evt_types.specs.declared.SensorSize.{SensorSize}
use Rattle.evt_types.specs.declared.Refusal.{Refusal}
use Rattle.header.specs.declared.Header as header
use Rattle.evt_types.specs.declared.{Refusal.TheVariants.InvalidSensorSize}
use Rattle.header_text.specs.Text.{is_blank, is_byte, not_ascii, up_to, from, any, rest_of, trim_start, trim_end, trim_of, lower_of, begins, same}
use Rattle.header_text.specs.Size.{both, size_at, geometry_of}
use Rattle.header_text.proofs.TextLaws.{trim_blank}
use Rattle.header.specs.Lines.{header_lines, joined_lines, body_of, key_of, value_of, is_end}
use Rattle.header.specs.Header.{geometry_name, Said, nothing, read_line, read_all, encoding_of, size_that_holds, has_zero, with_encoding, lines_outcome}
use Rattle.header.specs.Header.{answer_by, header_of}
use Rattle.evt_types.specs.Outcome.{refuse, give}
use Rattle.write_text.specs.Text.{ascii, decimal}
use Rattle.write_header.specs.Header.{format_text, format_line, header_text}
use Rattle.laws_header.specs.Texts.{none_append, parted, header_line}
use Rattle.laws_header.specs.Numbers.{decimal_none, decimal_read, decimal_start, decimal-end, decimal_trimmed}

-- ---- the lines

abbrev pub size_text : (w h : ℕ) → List ℕ
size_text w h = decimal w ++ (ascii "x" ++ decimal h)

abbrev size_line : (w h : ℕ) → List ℕ
size_line w h = ascii "% geometry " ++ (size_text w h ++ ascii "\n")

abbrev generator_line : List ℕ
generator_line = ascii "% generator eventcv\n"

abbrev end_line : List ℕ
end_line = ascii "% end\n"

text_lines : (e : Encoding) (w h : ℕ) (body : List ℕ) → header_text e w h ++ body ≡ format_line e ++ (size_line w h ++ (generator_line ++ (end_line ++ body)))
unfolding header_text
text_lines e w h body = simp append_assoc refl

size_none : (p : ℕ → Bool) → ((b : ℕ) → 48 ≤ b → b ≤ 57 → p b ≡ false) → p 120 ≡ false → (w h : ℕ) → any p (size_text w h) ≡ false
unfolding any
size_none p others x w h = none_append p (decimal w) (ascii "x" ++ decimal h) (decimal_none w p others) (rw x (decimal_none h p others))

-- ---- the line of the size: its key and its value

module _ (w h : ℕ) where
  size-end : (s : List ℕ) → trim_end (s ++ size_text w h) ≡ s ++ size_text w h
  size-end s =
      let e : (s ++ (decimal w ++ ascii "x")) ++ decimal h ≡ s ++ size_text w h = simp append_assoc in
      rw e at (decimal-end h (s ++ (decimal w ++ ascii "x")))

  size_trimmed : trim_of (size_line w h) ≡ ascii "% geometry " ++ size_text w h
  unfolding trim_of trim_start from is_blank
  size_trimmed = trim_blank (ascii "% geometry " ++ size_text w h) 10 refl ∙ size-end (ascii "% geometry ")

  size-body : body_of (size_line w h) ≡ ascii "geometry " ++ size_text w h
  unfolding body_of trim_of trim_start from is_blank
  size-body = rw size_trimmed (size-end (ascii "geometry "))

  size_key : key_of (size_line w h) ≡ geometry_name
  unfolding key_of up_to is_blank
  size_key = rw size-body

  size-value : value_of (size_line w h) ≡ size_text w h
  unfolding value_of trim_of trim_start from is_blank
  size-value = rw (size-body, decimal_start w (ascii "x" ++ decimal h)) (size-end [])

  module _ (w< : w < 2 ^ 64) (h< : h < 2 ^ 64) where
    -- a size that is written is read back
    pub size_known : (old : Option SensorSize) → geometry_of (size_text w h) old ≡ Some (record { width = w; height = h })
    unfolding geometry_of size_at both rest_of
    size_known old =
        let p = parted (is_byte 120) (decimal w) (decimal h) 120 (decimal_none w (is_byte 120) (λ b l u. ne_eqb b 120 (λ e. omega arith))) refl in
        rw (p.found, p.front, p.rest, decimal_trimmed w, decimal_trimmed h, decimal_read w (lt-ltb w _ w<), decimal_read h (lt-ltb h _ h<))

    size_read : (said : Said) → read_line said (size_line w h) ≡ record { format = said.format; evt = said.evt; size = Some (record { width = w; height = h }) }
    unfolding read_line same begins lower_of
    size_read said = rw (size_key, size-value, size_known said.size)

-- ---- the line of the format, encoding by encoding: what is read of it, which encoding that names, and that it is one line, no end line and ASCII

-- a header with the size that holds, or a refusal where that has a zero
abbrev pub answer : ℕ → Option SensorSize → Encoding → Result header.Header Refusal
answer at size e =
    answer_by (cond (has_zero size) (refuse InvalidSensorSize) (give (record { data_offset = at; sensor_size = size; encoding = e })))

record Format (e : Encoding) : Type 0 where
  read : read_line nothing (format_line e) ≡ record { format = format_text e; evt = []; size = None }
  names : (at : ℕ) (size read : Option SensorSize)
      → answer_by (with_encoding at size (encoding_of (record { format = format_text e; evt = []; size = read }))) ≡ answer at size e
  line : any (is_byte 10) (ascii " format " ++ format_text e) ≡ false
  goes_on : is_end (format_line e) ≡ false
  is_ascii : any not_ascii (format_line e) ≡ false

format_line_lem : (e : Encoding) → Format e
unfolding read_line encoding_of with_encoding any is_end same begins lower_of key_of value_of body_of trim_of trim_start trim_end from up_to is_blank
format_line_lem Evt2 = record { read = refl; names = λ at size read. refl; line = refl; goes_on = refl; is_ascii = refl }
format_line_lem Evt21 = record { read = refl; names = λ at size read. refl; line = refl; goes_on = refl; is_ascii = refl }
format_line_lem Evt3 = record { read = refl; names = λ at size read. refl; line = refl; goes_on = refl; is_ascii = refl }

-- ---- the other lines

others_read : (said : Said) → read_line (read_line said generator_line) end_line ≡ said
unfolding read_line same begins lower_of key_of value_of body_of trim_of trim_start trim_end from up_to is_blank
others_read said = refl

-- ---- none of them but the last is an end line

size-goes_on : (w h : ℕ) → is_end (size_line w h) ≡ false
unfolding is_end same begins lower_of
size-goes_on w h = rw (size-body w h) (simp and-false)

-- a line of a key and a value
value_line : (name text t : List ℕ) → any (is_byte 10) (name ++ text) ≡ false → is_end (37 ∷ (name ++ (text ++ ascii "\n"))) ≡ false
    → header_lines (37 ∷ (name ++ ((text ++ ascii "\n") ++ t))) ≡ (37 ∷ (name ++ (text ++ ascii "\n"))) ∷ header_lines t
value_line name text t none on =
    rw (append_assoc text (ascii "\n") t, ← append_assoc name text (10 ∷ t))
    (header_line (name ++ text) t none ∙ rw (append_assoc name text (ascii "\n"), on))

format_first : (e : Encoding) (t : List ℕ) → header_lines (format_line e ++ t) ≡ format_line e ∷ header_lines t
format_first e t = value_line (ascii " format ") (format_text e) t (format_line_lem e).line (format_line_lem e).goes_on

size-first : (w h : ℕ) (t : List ℕ) → header_lines (size_line w h ++ t) ≡ size_line w h ∷ header_lines t
unfolding any
size-first w h t =
    value_line (ascii " geometry ") (size_text w h) t (size_none (is_byte 10) (λ b l u. ne_eqb b 10 (λ e. omega arith)) refl w h) (size-goes_on w h)

end-last : (t : List ℕ) → header_lines (generator_line ++ (end_line ++ t)) ≡ generator_line ∷ end_line ∷ []
unfolding any is_end same begins lower_of body_of trim_of trim_start trim_end from is_blank
end-last t = header_line (ascii " generator eventcv") (end_line ++ t) refl ∙ rw (header_line (ascii " end") t refl)

text_ascii : (e : Encoding) (w h : ℕ) → any not_ascii (header_text e w h) ≡ false
unfolding any header_text
text_ascii e w h = none_append not_ascii (format_line e) _ (format_line_lem e).is_ascii rest
  where
    size : (n : ℕ) → any not_ascii (decimal n) ≡ false
    size n = decimal_none n not_ascii (λ b l u. lt-leb 128 b (omega arith))

    rest : any not_ascii (ascii "% geometry " ++ (decimal w ++ (ascii "x" ++ (decimal h ++ (ascii "\n" ++ (generator_line ++ end_line)))))) ≡ false
    rest = none_append not_ascii (decimal w) _ (size w) (none_append not_ascii (decimal h) _ (size h) refl)

-- ---- the whole header, before any body

module _ (e : Encoding) (w h : ℕ) (body : List ℕ) where
  lines_are : header_lines (header_text e w h ++ body) ≡ format_line e ∷ size_line w h ∷ generator_line ∷ end_line ∷ []
  lines_are = rw (text_lines e w h body, format_first e, size-first w h, end-last body)

  bytes_are : joined_lines (header_lines (header_text e w h ++ body)) ≡ header_text e w h
  unfolding joined_lines
  bytes_are = rw lines_are (sym (text_lines e w h []) ∙ append-nil (header_text e w h))

  module _ (w< : w < 2 ^ 64) (h< : h < 2 ^ 64) where
    said_is : read_all nothing (header_lines (header_text e w h ++ body)) ≡ record { format = format_text e; evt = []; size = Some (record { width = w; height = h }) }
    unfolding read_all
    said_is = rw (lines_are, (format_line_lem e).read, size_read w h w< h<) (others_read _)

    given_read : ltb (2 ^ 30) (length (header_text e w h ++ body)) ≡ false → (given : Option SensorSize)
        → header_of (header_text e w h ++ body) given ≡ answer (length (header_text e w h)) (size_that_holds given (Some (record { width = w; height = h }))) e
    unfolding header_of lines_outcome
    given_read few given = rw (few, bytes_are, text_ascii e w h, said_is) ((format_line_lem e).names _ _ _)

    module _ (fits : length (header_text e w h ++ body) ≤ 2 ^ 30) where
      -- the size that holds is the caller's, or without one the header's
      pub read_back_given : (given : Option SensorSize)
          → header_of (header_text e w h ++ body) given ≡ answer (length (header_text e w h)) (size_that_holds given (Some (record { width = w; height = h }))) e
      read_back_given given = given_read (le-ltb (2 ^ 30) _ fits) given

      -- a written header names its encoding and its size, and the body starts where it ends
      pub read_back : 0 < w → 0 < h
          → header_of (header_text e w h ++ body) None
          ≡ Ok (record { data_offset = length (header_text e w h); sensor_size = Some (record { width = w; height = h }); encoding = e })
      unfolding size_that_holds has_zero
      read_back w> h> =
          let a = ne_eqb w 0 (λ z. omega arith) in
          let b = ne_eqb h 0 (λ z. omega arith) in
          rw (a, b) at (given_read (le-ltb (2 ^ 30) _ fits) None)

      -- one with a zero in its size is refused (1)
      pub read_back_zero : (w ≡ 0) ⊎ (h ≡ 0) → header_of (header_text e w h ++ body) None ≡ Err InvalidSensorSize
      unfolding size_that_holds has_zero
      read_back_zero z =
          let a : eqb w 0 || eqb h 0 ≡ true = ⊎_elim (λ k. rw (eq-eqb w 0 k)) (λ k. rw (eq-eqb h 0 k, or-true)) z in
          rw a at (given_read (le-ltb (2 ^ 30) _ fits) None)
