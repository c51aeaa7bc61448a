-- Bytes that are UTF-8 are read as a text.
use Rattle.std.specs.Prelude.{Result, Ok, Err, MatchResult, IsOk, refl}

pub read_well : {T E : Type 0} (r : Result T E) (P : T → Type 0) (U : Type 0) (Q : E → Type 0) → MatchResult r P (λ e. ¬ U × Q e) → U → IsOk r
read_well (Ok t) P U Q m u = refl
read_well (Err e) P U Q m u = absurd (m.0 u)
