-- A proof by the two cases of a test.
use Rattle.std.specs.Prelude.{◌≡◌, refl, Bool, true, false}

pub by_bool : {P : Type 0} (b : Bool) → (b ≡ true → P) → (b ≡ false → P) → P
by_bool true t f = t refl
by_bool false t f = f refl
