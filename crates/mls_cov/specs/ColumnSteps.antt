-- What a row makes of the sum of a column, and of that of the products of two columns.
use Rattle.std.specs.Prelude.{ℕ, ◌+◌, ◌*◌, List}
use Rattle.mls_power.specs.ColumnSteps.{sample_at}

abbrev pub more_samples : List ℕ → ℕ → ℕ → ℕ → ℕ → ℕ → ℕ
more_samples samples stride x k g n = n + sample_at samples stride (x + k) g

abbrev pub more_products : List ℕ → ℕ → ℕ → ℕ → ℕ → ℕ → ℕ → ℕ
more_products samples stride x y k g n = n + sample_at samples stride (x + k) g * sample_at samples stride (y + k) g
