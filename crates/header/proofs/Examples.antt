-- Worked examples of the verdict, computed: the listing's header, bytes 25 80, an empty file, a height of 0, the caller's size over it, and
-- end lines; and of the encodings that values name.
use Rattle.std.proofs.Common.{ℕ, ◌≡◌, refl, List, [], ◌∷◌}
use Rattle.evt_types.specs.declared.Encoding.TheVariants.{Evt2, Evt21, Evt3}
use Rattle.std.specs.Prelude.{Some, None}
use Rattle.evt_types.specs.Told.{accepted, refused}
use Rattle.header_text.specs.Text.{is_blank, up_to, from, any, rest_of, trim_start, trim_end, trim_of, lower_of, begins, same}
use Rattle.header_text.specs.Number.{is_digit, all_digits, digits_value, number_from, digits_of, number_of}
use Rattle.header_text.specs.Size.{both, size_at, geometry_of}
use Rattle.header.specs.Lines.{is_end, joined, lines_of, starts_percent, leading, through_end, header_lines, joined_lines, header_bytes, body_start}
use Rattle.header.specs.Lines.{body_of, key_of, value_of}
use Rattle.header.specs.Header.{evt2, evt21, two_one_lem, three, Said, read_line, read_all, said_by, encoding_of, size_that_holds, has_zero, with_encoding}
use Rattle.header.specs.Header.{lines_outcome, header_verdict}

-- `% format EVT3`, `% geometry 64x48`, and three bytes of the body
abbrev listing : List ℕ
listing =
    37 ∷ 32 ∷ 102 ∷ 111 ∷ 114 ∷ 109 ∷ 97 ∷ 116 ∷ 32 ∷ 69 ∷ 86 ∷ 84 ∷ 51 ∷ 10 ∷ 37 ∷ 32 ∷ 103 ∷ 101 ∷ 111 ∷ 109 ∷ 101 ∷ 116 ∷ 114 ∷ 121 ∷ 32
    ∷ 54 ∷ 52 ∷ 120 ∷ 52 ∷ 56 ∷ 10 ∷ 97 ∷ 98 ∷ 99 ∷ []

-- `%evt 2.0`, `%geometry 0012X 0`
abbrev flat : List ℕ
flat = 37 ∷ 101 ∷ 118 ∷ 116 ∷ 32 ∷ 50 ∷ 46 ∷ 48 ∷ 10 ∷ 37
    ∷ 103 ∷ 101 ∷ 111 ∷ 109 ∷ 101 ∷ 116 ∷ 114 ∷ 121 ∷ 32 ∷ 48 ∷ 48 ∷ 49 ∷ 50 ∷ 88 ∷ 32 ∷ 48 ∷ 10 ∷ []

-- `% evt 3`, `% end`, and a body that begins with bytes 25 80
abbrev opening : List ℕ
opening =
    37 ∷ 32 ∷ 101 ∷ 118 ∷ 116 ∷ 32 ∷ 51 ∷ 10 ∷ 37 ∷ 32 ∷ 101 ∷ 110 ∷ 100 ∷ 10 ∷ 37 ∷ 128 ∷ []

-- `%evt 2`, `%%  END `, and two lines that are body
abbrev further : List ℕ
further =
    37 ∷ 101 ∷ 118 ∷ 116 ∷ 32 ∷ 50 ∷ 10 ∷ 37 ∷ 37 ∷ 32 ∷ 32 ∷ 69 ∷ 78 ∷ 68 ∷ 32 ∷ 13 ∷ 10
    ∷ 37 ∷ 101 ∷ 118 ∷ 116 ∷ 32 ∷ 51 ∷ 10 ∷ 37 ∷ 103 ∷ 101 ∷ 111 ∷ 109 ∷ 101 ∷ 116 ∷ 114 ∷ 121 ∷ 32 ∷ 48 ∷ 120 ∷ 48 ∷ 10 ∷ []

-- `%evt 2`, three lines that are no end lines, `%evt 3`
abbrev no_ends : List ℕ
no_ends =
    37 ∷ 101 ∷ 118 ∷ 116 ∷ 32 ∷ 50 ∷ 10 ∷ 37 ∷ 101 ∷ 110 ∷ 100 ∷ 32 ∷ 120 ∷ 10 ∷ 37 ∷ 101 ∷ 110 ∷ 100 ∷ 105 ∷ 110 ∷ 103 ∷ 10 ∷ 37 ∷ 32 ∷ 37 ∷ 101
    ∷ 110 ∷ 100 ∷ 10 ∷ 37 ∷ 101 ∷ 118 ∷ 116 ∷ 32 ∷ 51 ∷ []

-- `%evt 2`, and `%end` at the end of the file
abbrev end_of_file : List ℕ
end_of_file =
    37 ∷ 101 ∷ 118 ∷ 116 ∷ 32 ∷ 50 ∷ 10 ∷ 37 ∷ 101 ∷ 110 ∷ 100 ∷ []

pub worked :
    header_verdict listing None ∷ header_verdict (37 ∷ 128 ∷ []) None ∷ header_verdict [] None ∷ header_verdict flat None
    ∷ header_verdict flat (Some (record { width = 5; height = 7 })) ∷ header_verdict opening None ∷ header_verdict further None ∷ header_verdict no_ends None
    ∷ header_verdict end_of_file None ∷ []
    ≡ accepted (31 ∷ 3 ∷ 1 ∷ 64 ∷ 48 ∷ []) ∷ refused 3 ∷ refused 2 ∷ refused 1 ∷ accepted (27 ∷ 2 ∷ 1 ∷ 5 ∷ 7 ∷ [])
    ∷ accepted (14 ∷ 3 ∷ 0 ∷ 0 ∷ 0 ∷ []) ∷ accepted (17 ∷ 2 ∷ 0 ∷ 0 ∷ 0 ∷ [])
    ∷ accepted (35 ∷ 3 ∷ 0 ∷ 0 ∷ 0 ∷ []) ∷ accepted (11 ∷ 2 ∷ 0 ∷ 0 ∷ 0 ∷ []) ∷ []
unfolding is_blank up_to from any rest_of trim_start trim_end trim_of lower_of begins same is_digit all_digits digits_value number_from digits_of
    number_of both size_at geometry_of is_end joined lines_of starts_percent leading through_end header_lines joined_lines header_bytes body_start
    body_of key_of value_of read_line read_all said_by encoding_of size_that_holds has_zero with_encoding lines_outcome
worked = refl

-- what the last `format` and `evt` line say
abbrev values : List ℕ → List ℕ → Said
values format evt = record { format = format; evt = evt; size = None }

-- `EVT21`; `2.10`; `evt2` and `2.1`; `evt21` and `3`; `evt2.1`; `21`
pub names :
    encoding_of (values (69 ∷ 86 ∷ 84 ∷ 50 ∷ 49 ∷ []) []) ∷ encoding_of (values [] (50 ∷ 46 ∷ 49 ∷ 48 ∷ [])) ∷ encoding_of (values evt2 two_one_lem)
    ∷ encoding_of (values evt21 three) ∷ encoding_of (values (101 ∷ 118 ∷ 116 ∷ 50 ∷ 46 ∷ 49 ∷ []) []) ∷ encoding_of (values [] (50 ∷ 49 ∷ [])) ∷ []
    ≡ Some Evt21 ∷ Some Evt21 ∷ Some Evt21 ∷ Some Evt3 ∷ Some Evt2 ∷ Some Evt2 ∷ []
unfolding encoding_of begins lower_of
names = refl
