-- What a design keeps.
use Rattle.std.specs.Prelude.{◌≡◌, ℕ, ◌+◌, ◌*◌, ◌≤◌, List, length, map}
use Rattle.mls_model.specs.Numbers.{below}
use Rattle.mls_model.specs.Studies.{Study, Parameter}
use Rattle.mls_model.specs.Designs.{word}
use Rattle.mls_design.specs.declared.words.Pair.{Pair}
use Rattle.mls_design.specs.Ranges.{nameless}

pub record Kept : Type 0 where
  pub groups : ℕ
  pub ranges : List Parameter
  pub pairs : List Pair

-- the words of a group's parameter, counted group by group and parameter by parameter: A's and then B's
abbrev pub pair_of : ℕ → ℕ → Pair
pair_of seed n = record { a = word seed (2 * n); b = word seed (2 * n + 1) }

-- the design of a study
unfoldable pub design_of : Study → Kept
design_of study = record { groups = study.sizes.groups; ranges = map nameless study.parameters; pairs = map (pair_of study.seed) (below (study.sizes.groups * study.sizes.parameters)) }

-- there is a pair for each group and parameter, and there are no more groups and parameters than a study has
pub record IsKept (k : Kept) : Type 0 where
  pub groups : k.groups ≤ 65535
  pub some_ranges : 1 ≤ length k.ranges
  pub ranges : length k.ranges ≤ 16
  pub pairs : length k.pairs ≡ k.groups * length k.ranges
