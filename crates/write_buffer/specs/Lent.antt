-- What is said of four columns, of those that are lent together.
use Rattle.std.specs.Prelude.{List, ℕ, ℤ}
use Rattle.write_buffer.specs.declared.lent.Columns.{Columns}

abbrev pub of {ℓ} : {A : Type ℓ} → (List ℕ → List ℕ → List ℤ → List ℕ → A) → Columns → A
of f c = f c.xs.now c.ys.now c.ts.now c.ps.now
