-- Worked values of each encoding, proved of the definitions: a statement over a list, one of EVT2.1, and one of EVT3's loops.
use Rattle.std.specs.Prelude.{◌≡◌, refl, List, [], ◌∷◌, ℕ, take, drop}
use Rattle.laws_stream.specs.{Loop.loops_after, Loop.time_after, Machine.All, Mask.bits, Words.stream}
use Rattle.evt_types.specs.declared.{Encoding.Encoding, Encoding.TheVariants.Evt2, Encoding.TheVariants.Evt21, Encoding.TheVariants.Evt3}
use Rattle.evt_codec.specs.{Codec.fresh_c, Codec.events_from, Codec.codec_after, Codec.time_c, Codec.loops_c, Triggers.triggers_from}
use Rattle.evt_types.specs.{Event.Event, Trigger.Trigger}
use Rattle.evt2_decoder.specs.{Evt2.step2, Evt2.vector2, Triggers.trigger2}
use Rattle.evt3_decoder.specs.{Evt3.step3, Evt3.vector3, Triggers.trigger3}
use Rattle.write_words.specs.Encode.{encode_bytes}
use Rattle.evt2_encoder.specs.Evt2.{encode2}
use Rattle.evt21_encoder.specs.Evt21.{encode21}
use Rattle.evt3_lead_words.specs.Evt3.{encode3, passes3, leads3, body3, mask_count, vectored, nearby, beyond}
use Rattle.write_buffer.specs.Sent.{fresh_state}

abbrev ev : (t x y p : ℕ) → Event
ev t x y p = record { t = t; x = x; y = y; p = p }

pub data Value : Type 0 where
  -- bytes read by a fresh decoder, the events that they give, and the decoder's time and loops after them
  reads : Encoding → (bytes : List ℕ) → List Event → (time loops : ℕ) → Value
  -- bytes, and the triggers that a fresh decoder finds in them
  pulses : Encoding → (bytes : List ℕ) → List Trigger → Value
  -- events written by a fresh writer without a header, and the bytes
  writes : Encoding → List Event → (bytes : List ℕ) → Value
  -- events written likewise, the bytes cut, and the events that a fresh decoder reads from what is left
  cuts : Encoding → List Event → (at : ℕ) → List Event → Value

unfoldable pub Right : Value → Type 0
Right (reads e l es time loops) =
    let c = codec_after (fresh_c e) l in
    (events_from (fresh_c e) l ≡ es) × (time_c c ≡ time) × (loops_c c ≡ loops)
Right (pulses e l gs) = triggers_from (fresh_c e) l ≡ gs
Right (writes e es l) = encode_bytes e fresh_state es ≡ l
Right (cuts e es at left) = events_from (fresh_c e) (take at (encode_bytes e fresh_state es)) ≡ left

-- 80000001 19002807
abbrev one2 : List ℕ
one2 = stream 4 (2147483649 ∷ 419440647 ∷ [])

-- 8001 6001 0007 2805
abbrev one3 : List ℕ
one3 = stream 2 (32769 ∷ 24577 ∷ 7 ∷ 10245 ∷ [])

-- 8001 6001 0007, and 300A 400B, 300A 4C01 or 200A 2014 2016
abbrev near : List ℕ
near = stream 2 (32769 ∷ 24577 ∷ 7 ∷ 12298 ∷ 16395 ∷ [])

abbrev far : List ℕ
far = stream 2 (32769 ∷ 24577 ∷ 7 ∷ 12298 ∷ 19457 ∷ [])

abbrev apart : List ℕ
apart = stream 2 (32769 ∷ 24577 ∷ 7 ∷ 8202 ∷ 8212 ∷ 8214 ∷ [])

-- three events of t = 4097, y = 7, p = 0
abbrev three : (a b c : ℕ) → List Event
three a b c = ev 4097 a 7 0 ∷ ev 4097 b 7 0 ∷ ev 4097 c 7 0 ∷ []

abbrev pub values : List Value
values =
    writes Evt2 (ev 100 5 7 1 ∷ []) one2
    ∷ writes Evt3 (ev 4097 5 7 1 ∷ []) one3
    ∷ writes Evt3 (three 10 11 13) near
    ∷ cuts Evt3 (three 10 11 13) 9 []
    ∷ cuts Evt3 (three 10 11 13) 10 (three 10 11 13)
    ∷ writes Evt3 (three 10 20 21) far
    ∷ writes Evt3 (three 10 20 22) apart
    ∷ reads Evt2 one2 (ev 100 5 7 1 ∷ []) 100 0
    ∷ reads Evt3 one3 (ev 4097 5 7 1 ∷ []) 4097 0
    ∷ reads Evt3 near (three 10 11 13) 4097 0
    ∷ reads Evt3 (take 9 near) [] 4097 0
    ∷ reads Evt3 (take 10 near) (three 10 11 13) 4097 0
    ∷ reads Evt3 far (three 10 20 21) 4097 0
    ∷ reads Evt3 apart (three 10 20 22) 4097 0
    -- 8FFF 800A, 8FFF 800B
    ∷ reads Evt3 (stream 2 (36863 ∷ 32778 ∷ [])) [] 16818176 1
    ∷ reads Evt3 (stream 2 (36863 ∷ 32779 ∷ [])) [] 45056 0
    -- 8FFFFFFF 80FFFFFF, 8FFFFFFF 81000000
    ∷ reads Evt2 (stream 4 (2415919103 ∷ 2164260863 ∷ [])) [] 18253610944 1
    ∷ reads Evt2 (stream 4 (2415919103 ∷ 2164260864 ∷ [])) [] 1073741824 0
    -- 80000001 A9000301, 8001 6001 A301
    ∷ pulses Evt2 (stream 4 (2147483649 ∷ 2835350273 ∷ [])) (record { t = 100; id = 3; value = 1 } ∷ [])
    ∷ pulses Evt3 (stream 2 (32769 ∷ 24577 ∷ 41729 ∷ [])) (record { t = 4097; id = 3; value = 1 } ∷ [])
    ∷ []

pub bench : All Right values
unfolding Right step2 vector2 trigger2 step3 vector3 trigger3
    loops_after time_after bits encode_bytes encode2 encode3 passes3 leads3 body3 mask_count vectored nearby beyond
bench =
    let last : All Right (drop 15 values) = ((refl, refl, refl), ((refl, refl, refl), ((refl, refl, refl), (refl, (refl, tt))))) in
    let late : All Right (drop 12 values) = ((refl, refl, refl), ((refl, refl, refl), ((refl, refl, refl), last))) in
    let more : All Right (drop 7 values) = ((refl, refl, refl), ((refl, refl, refl), ((refl, refl, refl), ((refl, refl, refl), ((refl, refl, refl), late))))) in
    (refl, (refl, (refl, (refl, (refl, (refl, (refl, more)))))))

-- ---- EVT2.1

-- 8000000100000000 1900000700000020
abbrev one21 : List ℕ
one21 = stream 8 (9223372041149743104 ∷ 1801439881012969504 ∷ [])

-- 8000004000000000, and 0040000700002C00, 0040000780000000 0041000700000001 or 0040000700000400 twice
abbrev block : List ℕ
block = stream 8 (9223372311732682752 ∷ 18014428574264320 ∷ [])

abbrev border : List ℕ
border = stream 8 (9223372311732682752 ∷ 18014430721736704 ∷ 18295903550963713 ∷ [])

abbrev again : List ℕ
again = stream 8 (9223372311732682752 ∷ 18014428574254080 ∷ 18014428574254080 ∷ [])

-- two events of t = 4097, y = 7, p = 0
abbrev both : (a b : ℕ) → List Event
both a b = ev 4097 a 7 0 ∷ ev 4097 b 7 0 ∷ []

abbrev pub values21 : List Value
values21 =
    writes Evt21 (ev 100 5 7 1 ∷ []) one21
    ∷ writes Evt21 (three 10 11 13) block
    ∷ cuts Evt21 (three 10 11 13) 15 []
    ∷ cuts Evt21 (three 10 11 13) 16 (three 10 11 13)
    ∷ writes Evt21 (both 31 32) border
    ∷ writes Evt21 (both 10 10) again
    ∷ reads Evt21 one21 (ev 100 5 7 1 ∷ []) 100 0
    ∷ reads Evt21 (take 15 block) [] 4096 0
    ∷ reads Evt21 block (three 10 11 13) 4097 0
    ∷ reads Evt21 border (both 31 32) 4097 0
    ∷ reads Evt21 again (both 10 10) 4097 0
    -- 8000000100000000 1900000000000000
    ∷ reads Evt21 (stream 8 (9223372041149743104 ∷ 1801439850948198400 ∷ [])) [] 100 0
    -- 8FFFFFFF00000000, and 80FFFFFF00000000 or 8100000000000000
    ∷ reads Evt21 (stream 8 (10376293537166655488 ∷ 9295429626597736448 ∷ [])) [] 18253610944 1
    ∷ reads Evt21 (stream 8 (10376293537166655488 ∷ 9295429630892703744 ∷ [])) [] 1073741824 0
    -- 8000000100000000 A900030100000000
    ∷ pulses Evt21 (stream 8 (9223372041149743104 ∷ 12177736695239671808 ∷ [])) (record { t = 100; id = 3; value = 1 } ∷ [])
    ∷ []

pub bench21 : All Right values21
unfolding Right step2 vector2 trigger2 loops_after time_after bits encode_bytes encode21
bench21 =
    let last : All Right (drop 11 values21) = ((refl, refl, refl), ((refl, refl, refl), ((refl, refl, refl), (refl, tt)))) in
    let late : All Right (drop 8 values21) = ((refl, refl, refl), ((refl, refl, refl), ((refl, refl, refl), last))) in
    let more : All Right (drop 6 values21) = ((refl, refl, refl), ((refl, refl, refl), late)) in
    (refl, (refl, (refl, (refl, (refl, (refl, more))))))

-- ---- EVT3's loops

-- 8FFF 8000 0007 2805
abbrev late3 : List ℕ
late3 = stream 2 (36863 ∷ 32768 ∷ 7 ∷ 10245 ∷ [])

abbrev pub values_long : List Value
values_long =
    -- t = 2^24: no type 6
    writes Evt3 (ev 16777216 5 7 1 ∷ []) late3
    -- two loops and a microsecond later: 8FFF 8000 8FFF 8000 6001 0007 2805
    ∷ writes Evt3 (ev 33554433 5 7 1 ∷ []) (stream 2 (36863 ∷ 32768 ∷ 36863 ∷ 32768 ∷ 24577 ∷ 7 ∷ 10245 ∷ []))
    -- FFF is held: 8FFF 6FFF 0007 2805 8000 2805
    ∷ writes Evt3 (ev 16777215 5 7 1 ∷ ev 16777216 5 7 1 ∷ []) (stream 2 (36863 ∷ 28671 ∷ 7 ∷ 10245 ∷ 32768 ∷ 10245 ∷ []))
    ∷ cuts Evt3 (ev 16777215 5 7 1 ∷ ev 16777216 5 7 1 ∷ []) 11 (ev 16777215 5 7 1 ∷ [])
    ∷ reads Evt3 late3 (ev 16777216 5 7 1 ∷ []) 16777216 1
    -- 8FFF 8000 8000
    ∷ reads Evt3 (stream 2 (36863 ∷ 32768 ∷ 32768 ∷ [])) [] 16777216 1
    ∷ []

pub bench_long : All Right values_long
unfolding Right step3 vector3 loops_after time_after bits encode_bytes encode3 passes3 leads3 body3 mask_count vectored
bench_long = (refl, (refl, (refl, (refl, ((refl, refl, refl), ((refl, refl, refl), tt))))))
