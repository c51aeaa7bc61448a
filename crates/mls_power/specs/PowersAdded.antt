-- Four columns to which the powers of the samples of eight rows are added.
use Rattle.std.specs.Prelude.{ℕ, ◌*◌, List}
use Rattle.mls_power.specs.FourColumns.{FourWalked}
use Rattle.mls_power.specs.ColumnSteps.{more_cubes, more_low, more_high}

-- how large a sum of cubes may be for eight rows to be added
abbrev pub most_cubes : ℕ
most_cubes = 281462092005375 * 65527

-- the cubes of the samples at a and at b, and the low and the high halves of the fourth powers of both
abbrev pub ArePowersAdded : ℕ → ℕ → ℕ → List ℕ → List ℕ → List ℕ → ℕ → ℕ → ℕ → Type 0
ArePowersAdded at apart count old new samples stride a b = FourWalked at apart count 8 old new (more_cubes samples stride a) (more_cubes samples stride b) (more_low samples stride a b) (more_high samples stride a b)
