-- Four columns to which the samples and products of eight rows are added.
use Rattle.std.specs.Prelude.{ℕ, List}
use Rattle.mls_power.specs.FourColumns.{FourWalked}
use Rattle.mls_cov.specs.ColumnSteps.{more_samples, more_products}

-- the samples at a and at b, and the squares of both
abbrev pub AreOutputsAdded : ℕ → ℕ → ℕ → List ℕ → List ℕ → List ℕ → ℕ → ℕ → ℕ → Type 0
AreOutputsAdded at apart count old new samples stride a b = FourWalked at apart count 8 old new (more_samples samples stride a) (more_samples samples stride b) (more_products samples stride a a) (more_products samples stride b b)

-- the samples at c, their squares, and their products with those at a and at b
abbrev pub AreProductsAdded : ℕ → ℕ → ℕ → List ℕ → List ℕ → List ℕ → ℕ → ℕ → ℕ → ℕ → Type 0
AreProductsAdded at apart count old new samples stride a b c = FourWalked at apart count 8 old new (more_samples samples stride c) (more_products samples stride c c) (more_products samples stride a c) (more_products samples stride b c)
