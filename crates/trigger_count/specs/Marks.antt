-- How many triggers some bytes have: as many as words of their type, from a started decoder; from another, as many as such words behind the first time word.
use Rattle.std.specs.Prelude.{◌≡◌, refl, Bool, true, false, cond, List, [], ◌∷◌, ℕ, eqb, length}
use Rattle.std.proofs.Common.{sym, ap, subst, ◌∙◌}
use Rattle.laws_stream.specs.{Slice.sift, Words.words_of, Beside.behind, Beside.Marking, Beside.live_count, Beside.early_count}
use Rattle.evt_types.specs.{Trigger.Trigger, Trigger.trigger_if, Trigger.trigger_early}
use Rattle.evt_types.specs.Layout.{type2, type3, trigger_type, upper, upper_type}
use Rattle.evt2_decoder.specs.{Evt2.step2, Triggers.trigger2, Triggers.trigger_in2}
use Rattle.evt2_decoder.specs.Evt2 as Evt2
use Rattle.evt21_decoder.specs.Evt21.{as2}
use Rattle.evt3_decoder.specs.{Evt3.step3, Triggers.trigger3, Triggers.trigger_in3}
use Rattle.evt3_decoder.specs.Evt3 as Evt3
use Rattle.evt_codec.specs.{Reader.Reader, Reader.evt2, Reader.evt21, Reader.evt3, Reader.view, Sound.sound2, Sound.sound21, Sound.sound3}
use Rattle.evt_codec.specs.declared.{codec.Codec.Codec, codec.Codec.TheVariants.Evt2 as OfEvt2, codec.Codec.TheVariants.Evt21 as OfEvt21}
use Rattle.evt_codec.specs.declared.codec.Codec.TheVariants.{Evt3 as OfEvt3}
use Rattle.evt_codec.specs.{Codec.word_size, Codec.started_c, Triggers.triggers_from}
use Rattle.trigger_count.specs.Types.{is_type}

abbrev pub time_type : ℕ
time_type = 8

-- of words of n bytes
abbrev pub trigger_count : (n : ℕ) → (started : Bool) → List ℕ → ℕ
trigger_count n started l =
    length (sift (is_type n trigger_type) (cond started (words_of n l) (behind (is_type n time_type) (words_of n l))))

-- ---- a decoder's triggers mark the words of their type

one_if_lem : (on : Bool) (k : ℕ) (g : Trigger) → on ≡ true → length (trigger_if on k g) ≡ cond (eqb k trigger_type) 1 0
one_if_lem on k g e = rw e (go (eqb k trigger_type))
  where
    go : (b : Bool) → length (cond b (g ∷ []) []) ≡ cond b 1 0
    go true = refl
    go false = refl

begins_as : {K : Type 0} (on : K → Bool) {first other : K} → on first ≡ true → on other ≡ false → (b : Bool) → on (cond b first other) ≡ b
begins_as on is_first is-other true = is_first
begins_as on is_first is-other false = is-other

abbrev Marked : Reader → Type 0
Marked R = Marking R.machine R.trigger R.started (is_type R.size time_type) (is_type R.size trigger_type)

marking2 : Marked evt2
unfolding trigger2 step2
marking2 = record {
  stays = sound2.stays;
  begins = λ d w off.
      subst (λ (on : Bool). (Evt2.step_as (Evt2.kind_of (type2 w) on) d w).initialised ≡ eqb (type2 w) time_type) (sym off)
      (begins_as (λ k. (Evt2.step_as k d w).initialised) refl off (eqb (type2 w) time_type));
  one = λ d w. one_if_lem d.initialised (type2 w) (trigger_in2 d w);
  none = λ d w. trigger_early d.initialised (type2 w) (trigger_in2 d w);
}

-- as the upper halves do
marking21 : Marked evt21
marking21 = record {
  stays = sound21.stays;
  begins = λ d w off. marking2.begins (as2 d) (upper w) off ∙ ap (λ (k : ℕ). eqb k time_type) (upper_type w);
  one = λ d w on. marking2.one (as2 d) (upper w) on ∙ ap (λ (k : ℕ). cond (eqb k trigger_type) 1 0) (upper_type w);
  none = λ d w. marking2.none (as2 d) (upper w);
}

marking3 : Marked evt3
unfolding trigger3 step3
marking3 = record {
  stays = sound3.stays;
  begins = λ d w off.
      subst (λ (on : Bool). (Evt3.step_as (Evt3.kind_of (type3 w) on) d w).initialised ≡ eqb (type3 w) time_type) (sym off)
      (begins_as (λ k. (Evt3.step_as k d w).initialised) refl off (eqb (type3 w) time_type));
  one = λ d w. one_if_lem d.initialised (type3 w) (trigger_in3 d w);
  none = λ d w. trigger_early d.initialised (type3 w) (trigger_in3 d w);
}

marking : (c : Codec) → Marked (view c).reader
marking (OfEvt2 d) = marking2
marking (OfEvt21 d) = marking21
marking (OfEvt3 d) = marking3

-- ---- so many triggers there are

pub trigger_count_lem : (c : Codec) (l : List ℕ) → trigger_count (word_size c) (started_c c) l ≡ length (triggers_from c l)
trigger_count_lem c l = go (started_c c) refl
  where
    go : (b : Bool) → started_c c ≡ b → trigger_count (word_size c) b l ≡ length (triggers_from c l)
    go true on = sym (live_count (marking c) (view c).state (words_of (word_size c) l) on)
    go false off = sym (early_count (marking c) (view c).state (words_of (word_size c) l) off)
