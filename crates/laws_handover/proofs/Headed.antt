-- DEMAND 3 BEHIND A WRITTEN HEADER, proved: the claim over any front, at the header that was sent.
use Rattle.evt_codec.specs.Codec.{codec_after, fresh_c}
use Rattle.std.specs.Prelude.{Some}
use Rattle.evt_types.specs.{Event.Event, Outcome.give, declared.Encoding.Encoding}
use Rattle.header.specs.Header.{has_zero, size_that_holds}
use Rattle.laws_handover.proofs.{Called.by_values, Called.ran_as, DemandThree.claim, DemandThree.sent-by, Others.resumables}
use Rattle.laws_handover.specs.{Called.Resumer, Called.read_back, Fronts.sending, Handover.Exact, Handover.ReadBack, Handover.Suits, Handover.accepted_events}
use Rattle.laws_handover.specs.{Handover.as_recording, Handover.bare, Handover.calls_of, Handover.headed, Handover.left, Handover.others, Handover.resuming}
use Rattle.laws_handover.specs.{Handover.stream_of, Handover.stream_words, Handover.whole, Headed.Covers, Headed.DemandThreeHeaded}
use Rattle.laws_handover.specs.{Headed.DemandThreeHeadedByValue, Headed.DemandThreeHeadedRan, Headed.HeaderSent, Headed.SecondListExistsHeaded, Headed.due}
use Rattle.laws_handover.specs.{Headed.front_of, Proof.front-left, Ran.ran_written}
use Rattle.laws_header.specs.ReadBack.{read_back_given}
use Rattle.laws_stream.specs.{Machine.all-append-left, Machine.and_both, Slice.sift-all}
use Rattle.read_after.specs.After.{after_raw_outcome, some_size}
use Rattle.read_columns.specs.Inside.{inside}
use Rattle.std.proofs.Common.{arith, drop_at, length-append, ltb-true, ne_eqb, sym, ◌∙◌}
use Rattle.std.specs.Prelude.{List, [], false, length, refl, true, ℕ, ◌++◌, ◌<◌, ◌^◌, ◌∷◌, ◌≡◌, ◌≤◌}
use Rattle.write_header.specs.Header.{header_text}
use Rattle.write_resume.specs.{Resume.Resumes, Resume.raw_encoding, Resume.resume_outcome, Resume.resume_raw_outcome, declared.Resumed.Resumed}
use Rattle.write_rules.specs.declared.RawEventSink.{RawEventSink}

pub demand_three_headed : DemandThreeHeaded
demand_three_headed e calls w h is cut behind le =
    claim e (headed w h) (stream_of (due e) calls) (stream_words (due e) calls) (accepted_events (due e) calls) (sent-by e true calls (headed w h) is) cut behind

pub header_sent : HeaderSent
header_sent e calls = sending (due e) calls refl

pub second_list_headed : SecondListExistsHeaded
second_list_headed e calls w h is cut behind = resumables e (headed w h) true calls is cut behind

-- ---- a size that covers some events suits them and the first of them

-- it has no zero, since an event lies inside it
no_zero : (w h : ℕ) (es : List Event) → 0 < length es → Covers w h es → has_zero (Some (record { width = w; height = h })) ≡ false
unfolding has_zero
no_zero w h [] some covers = absurd (omega arith)
no_zero w h (a ∷ es) some covers =
    let k = and_both _ _ covers.0 in
    let x = ltb-true a.x w k.0 in
    let y = ltb-true a.y h k.1 in
    rw (ne_eqb w 0 (λ z. omega arith), ne_eqb h 0 (λ z. omega arith))

covers_suits : (w h : ℕ) (es : List Event) → has_zero (Some (record { width = w; height = h })) ≡ false → Covers w h es → Suits (Some (record { width = w; height = h })) es
covers_suits w h es z covers = record { no_zero = z; is_sized = refl; keeps = sift-all (inside w h) es covers }

-- ---- `resume_raw` over a written header and words from which can be resumed

raw_sink : (e : Encoding) (w h : ℕ) (body : List ℕ) (s : RawEventSink) → w < 2 ^ 64 → h < 2 ^ 64 → length (header_text e w h ++ body) ≤ 2 ^ 30
    → resume_outcome (codec_after (fresh_c e) body) ≡ give s
    → (r : Resumed) → Resumes (raw_encoding (header_text e w h ++ body)) (resume_raw_outcome (header_text e w h ++ body)) r → r.sink ≡ s
unfolding after_raw_outcome size_that_holds has_zero
raw_sink e w h body s narrow low few given r by =
    let recording = header_text e w h ++ body in
    let after : after_raw_outcome recording ≡ give (codec_after (fresh_c e) body) =
    rw (read_back_given e w h body narrow low few some_size, drop_at (header_text e w h) body (length (header_text e w h)) refl) in
    rw (after, given) at by.is_sink_lem

-- ---- THE CALLS

pub demand_three_headed_ran : DemandThreeHeadedRan
demand_three_headed_ran e ran chained w h cut b le =
    let f = headed w h in
    let calls = calls_of ran in
    let es = accepted_events (due e) calls in
    let ws = stream_words (due e) calls in
    let claim = demand_three_headed e calls w h b.sent cut b.behind (rw (← ran_written (due e) ran chained) le) in
    let z = no_zero w h es (some es (sending (due e) calls refl).nothing) b.covers in
    let way = as_recording e w h in
    let back : (part : List Event) → Covers w h part → (bytes : List ℕ) → length bytes ≤ 2 ^ 30 → Exact e f bytes part → ReadBack way bytes part =
    λ part covers bytes few exact. read_back way bytes part (exact few b.narrow b.low (covers_suits w h part z covers)) in
    let first : Covers w h (whole e f cut ws) = all-append-left _ (whole e f cut ws) (others e f cut ws) (rw claim.parted b.covers) in
    let resumer : Resumer e f true ran cut =
    λ few r by.
    let written = ran_written (due e) ran chained in
    let bytes = stream_of (due e) calls in
    let stands = (front-left e f bytes _ claim.worded cut b.behind).0 in
    let size : length (header_text e w h ++ left e f cut bytes) ≤ 2 ^ 30 = rw (← stands, ← written) few in
    raw_sink e w h (left e f cut bytes) (resuming e f cut bytes) b.narrow b.low size (claim.resumes (omega (arith, rw length-append at size))) r
    (rw (written, stands) at by) in
    ran_as e f true ran cut chained claim resumer (ReadBack way) (back _ first) (back _ b.covers)
  where
    -- a header was sent, so there is an event
    some : (es : List Event) → (es ≡ [] → (front_of (due e) (calls_of ran) ≡ bare) × (stream_of (due e) (calls_of ran) ≡ [])) → 0 < length es
    some [] none = let no : bare ≡ headed w h = sym (none refl).0 ∙ b.sent in let z : ◌≡◌ {A = ℕ} 0 1 = cc in absurd (omega arith)
    some (a ∷ es) none = omega arith

pub demand_three_headed_by_value : DemandThreeHeadedByValue
demand_three_headed_by_value e ran chained w h cut b le =
    by_values (as_recording e w h) (due e) (headed w h) ran cut (demand_three_headed_ran e ran chained w h cut b le)
