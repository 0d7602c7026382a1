-- The header that a writer sends before its first words. `ascii` and `decimal` stand in write_text/specs/Text.antt.
use Rattle.std.specs.Prelude.{List, ◌++◌, ℕ, ◌^◌, ◌≤◌, ◌<◌, length}
use Rattle.std.proofs.Common.{arith, length-append}
use Rattle.evt_types.specs.declared.{Encoding.Encoding, Encoding.TheVariants.Evt2, Encoding.TheVariants.Evt21, Encoding.TheVariants.Evt3}
use Rattle.write_text.specs.Text.{ascii, decimal, decimal_few}

-- the value of the `format` line
abbrev pub format_text : Encoding → List ℕ
format_text Evt2 = ascii "EVT2"
format_text Evt21 = ascii "EVT21"
format_text Evt3 = ascii "EVT3"

abbrev pub format_line : Encoding → List ℕ
format_line e = ascii "% format " ++ (format_text e ++ ascii "\n")

unfoldable pub header_text : Encoding → (width height : ℕ) → List ℕ
header_text e width height =
    format_line e ++ (ascii "% geometry " ++ (decimal width ++ (ascii "x" ++ (decimal height ++ ascii "\n% generator eventcv\n% end\n"))))

-- ---- laws

line_few : (e : Encoding) → length (format_line e) ≤ 15
line_few Evt2 = omega arith
line_few Evt21 = omega arith
line_few Evt3 = omega arith

pub header_few : (e : Encoding) (w h : ℕ) → w < 2 ^ 64 → h < 2 ^ 64 → length (header_text e w h) ≤ 96
unfolding header_text
header_few e w h wl hl =
    rw (length-append (format_line e), length-append (ascii "% geometry "), length-append (decimal w), length-append (ascii "x"), length-append (decimal h))
    (omega (arith, line_few e, decimal_few w wl, decimal_few h hl))
