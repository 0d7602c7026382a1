-- A table of what a function gives at 0, 1, 2 and so on.
use Rattle.std.specs.Prelude.{◌≡◌, List, [], ◌∷◌, ℕ, zero, suc, ◌+◌, ◌<◌, get_or}
use Rattle.std.proofs.Common.{ap, ◌∙◌, arith}

-- n entries from i on
abbrev pub table_from : (ℕ → ℕ) → (n i : ℕ) → List ℕ
table_from f zero i = []
table_from f (suc n) i = f i ∷ table_from f n (suc i)

from_at : (f : ℕ → ℕ) (n i k : ℕ) → k < n → get_or (table_from f n i) k 0 ≡ f (i + k)
from_at f zero i k h = absurd (omega arith)
from_at f (suc n) i zero h = ap f (omega arith)
from_at f (suc n) i (suc k) h = from_at f n (suc i) k (omega arith) ∙ ap f (omega arith)

abbrev pub table_of : (ℕ → ℕ) → ℕ → List ℕ
table_of f n = table_from f n 0

pub table_at : (f : ℕ → ℕ) (n k : ℕ) → k < n → get_or (table_of f n) k 0 ≡ f k
table_at f n k h = from_at f n 0 k h ∙ ap f (omega arith)
