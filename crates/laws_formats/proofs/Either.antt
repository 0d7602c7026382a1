-- Laws of specs/Either.antt.
use Rattle.evt21_encoder.specs.Evt21.{runs21, runs_are21}
use Rattle.evt3_run_rules.specs.Runs.{Run, given, given_by_lem, runs, runs_are}
use Rattle.evt_types.specs.{Event.Event, declared.Encoding.Encoding, declared.Encoding.TheVariants.Evt2, declared.Encoding.TheVariants.Evt21}
use Rattle.evt_types.specs.{declared.Encoding.TheVariants.Evt3}
use Rattle.laws_formats.proofs.{Lawful2.lawful2, Lawful21.lawful21, Lawful3.lawful3}
use Rattle.laws_formats.specs.{Either.format_of, Lawful2.format2, Lawful21.format21, Lawful3.format3}
use Rattle.laws_stream.specs.{Format.Format, Format.Lawful, Format.givens, Format.through, Machine.all_of}
use Rattle.std.proofs.Common.{ap, ◌∙◌}
use Rattle.std.specs.Prelude.{List, [], refl, ◌++◌, ◌∷◌, ◌≡◌}
use Rattle.write_buffer.specs.declared.EncoderState.{EncoderState}

-- ---- all are lawful

all_given2 : (g : List Event) → givens format2 g ≡ g
all_given2 [] = refl
all_given2 (a ∷ g) = ap {B = List Event} (λ (l : List Event). a ∷ l) (all_given2 g)

all-given : {S : Type 0} (F : Format S EncoderState Run Event) → F.given ≡ given → (rs : List Run) → givens F rs ≡ given_by_lem rs
all-given F same [] = refl
all-given F same (r ∷ rs) = λ i. same i r ++ all-given F same rs i

pub lawful_of : (e : Encoding) → Lawful (format_of e)
lawful_of Evt2 = through format2 (λ g. g) (λ g. g) (λ g. Unit) lawful2 all_given2 (λ g va. all_of _ (λ a. tt) g)
lawful_of Evt21 = through format21 runs21 (λ g. g) (λ g. Unit) lawful21 (λ g. all-given format21 refl (runs21 g) ∙ (runs_are21 g).1) (λ g va. (runs_are21 g).0)
lawful_of Evt3 = through format3 runs (λ g. g) (λ g. Unit) lawful3 (λ g. all-given format3 refl (runs g) ∙ (runs_are g).1) (λ g va. (runs_are g).0)
