-- The events that are given, and where the event word of each ends in the stream, counted from the body's start.
use Rattle.std.specs.Prelude.{List, [], ◌∷◌, ℕ, leb, ℤ, pos, count_by}
use Rattle.std.specs.Int.Signed.{lt_z}
use Rattle.demo_handover.specs.declared.given.When.{When, TheVariants.Early, TheVariants.Later2, TheVariants.Later3, TheVariants.Long}
use Rattle.evt_types.specs.declared.{Encoding.Encoding, Encoding.TheVariants.Evt2, Encoding.TheVariants.Evt21, Encoding.TheVariants.Evt3}

unfoldable pub given_xs : List ℕ
given_xs = 10 ∷ 10 ∷ 20 ∷ 21 ∷ 23 ∷ 31 ∷ 31 ∷ 3 ∷ 120 ∷ 123 ∷ 131 ∷ 132 ∷ 139 ∷ 139 ∷ 5 ∷ 2047 ∷ []

unfoldable pub given_ys : List ℕ
given_ys = 7 ∷ 7 ∷ 7 ∷ 7 ∷ 7 ∷ 7 ∷ 6 ∷ 6 ∷ 9 ∷ 9 ∷ 9 ∷ 9 ∷ 9 ∷ 9 ∷ 9 ∷ 2047 ∷ []

unfoldable pub given_ts : When → List ℤ
given_ts Early =
    pos 4030 ∷ pos 4030 ∷ pos 4095 ∷ pos 4095 ∷ pos 4095 ∷ pos 4095 ∷ pos 4095
    ∷ pos 4096 ∷ pos 4100 ∷ pos 4100 ∷ pos 4100 ∷ pos 4100 ∷ pos 4100 ∷ pos 4100 ∷ pos 4101 ∷ pos 8200 ∷ []
given_ts Later2 =
    pos 18814 ∷ pos 18814 ∷ pos 18879 ∷ pos 18879 ∷ pos 18879 ∷ pos 18879 ∷ pos 18879
    ∷ pos 18880 ∷ pos 18884 ∷ pos 18884 ∷ pos 18884 ∷ pos 18884 ∷ pos 18884 ∷ pos 18884 ∷ pos 18885 ∷ pos 22984 ∷ []
given_ts Later3 =
    pos 155582 ∷ pos 155582 ∷ pos 155647 ∷ pos 155647 ∷ pos 155647 ∷ pos 155647 ∷ pos 155647
    ∷ pos 155648 ∷ pos 155652 ∷ pos 155652 ∷ pos 155652 ∷ pos 155652 ∷ pos 155652 ∷ pos 155652 ∷ pos 155653 ∷ pos 159752 ∷ []
given_ts Long =
    pos 4030 ∷ pos 4030 ∷ pos 4095 ∷ pos 4095 ∷ pos 4095 ∷ pos 4095 ∷ pos 4095
    ∷ pos 16781312 ∷ pos 16781316 ∷ pos 16781316 ∷ pos 16781316 ∷ pos 16781316 ∷ pos 16781316 ∷ pos 16781316 ∷ pos 50335749 ∷ pos 50339848 ∷ []

unfoldable pub given_ps : List ℕ
given_ps = 1 ∷ 1 ∷ 0 ∷ 0 ∷ 0 ∷ 0 ∷ 0 ∷ 1 ∷ 1 ∷ 1 ∷ 1 ∷ 1 ∷ 1 ∷ 1 ∷ 0 ∷ 1 ∷ []

unfoldable pub word_ends : Encoding → List ℕ
word_ends Evt2 = 8 ∷ 12 ∷ 20 ∷ 24 ∷ 28 ∷ 32 ∷ 36 ∷ 44 ∷ 48 ∷ 52 ∷ 56 ∷ 60 ∷ 64 ∷ 68 ∷ 72 ∷ 80 ∷ []
word_ends Evt21 = 16 ∷ 24 ∷ 40 ∷ 40 ∷ 40 ∷ 40 ∷ 48 ∷ 64 ∷ 72 ∷ 72 ∷ 80 ∷ 80 ∷ 80 ∷ 88 ∷ 96 ∷ 112 ∷ []
word_ends Evt3 = 8 ∷ 10 ∷ 16 ∷ 16 ∷ 16 ∷ 16 ∷ 20 ∷ 24 ∷ 32 ∷ 32 ∷ 32 ∷ 34 ∷ 34 ∷ 36 ∷ 40 ∷ 48 ∷ []

-- the same for any show: in a long one the words of the loops come in between
unfoldable pub ends_of : When → Encoding → List ℕ
ends_of Early e = word_ends e
ends_of Later2 e = word_ends e
ends_of Later3 e = word_ends e
ends_of Long e = 8 ∷ 10 ∷ 16 ∷ 16 ∷ 16 ∷ 16 ∷ 20 ∷ 28 ∷ 36 ∷ 36 ∷ 36 ∷ 38 ∷ 38 ∷ 40 ∷ 54 ∷ 62 ∷ []

-- how many of some ends are at most `cut`, and of some times before t
abbrev pub up_to : (cut : ℕ) → List ℕ → ℕ
up_to cut ends = count_by (λ end. leb end cut) ends

abbrev pub earlier_than : (t : ℤ) → List ℤ → ℕ
earlier_than t ts = count_by (λ u. lt_z u t) ts
