-- When extrema stand for a list of samples.
use Rattle.std.specs.Prelude.{◌≡◌, ℕ, List, map, pos, unwrap_or}
use Rattle.mls_model.specs.Statistics.{least, most}
use Rattle.mls_power.specs.declared.extrema.Extrema.{Extrema}
use Rattle.mls_power.specs.Extremes.{least_in, greatest_in}

-- what the readers give
abbrev pub least_of : Extrema → ℕ
least_of e = least_in e.ends

abbrev pub greatest_of : Extrema → ℕ
greatest_of e = greatest_in e.ends

-- the least sample, and 65,535 for none, and the greatest, and 0 for none
pub record ExtremaStandFor (e : Extrema) (ws : List ℕ) : Type 0 where
  pub least : pos (least_of e) ≡ unwrap_or (least (map pos ws)) (pos 65535)
  pub greatest : pos (greatest_of e) ≡ unwrap_or (most (map pos ws)) (pos 0)
