-- A sample is a number of 16 bits. It stands for a value, and is kept as a shifted value.
use Rattle.std.specs.Prelude.{ℕ, ◌+◌, ◌%◌, Bool, true, false, ℤ, pos, ◌-ℤ◌}

-- the shifted value, always from 0 to 65,535: under i16 the value plus 32,768
abbrev pub shifted : Bool → ℕ → ℕ
shifted false sample = sample
shifted true sample = (sample + 32768) % 65536

-- the value of a shifted value
abbrev pub unshifted : Bool → ℕ → ℤ
unshifted false x = pos x
unshifted true x = pos x -ℤ pos 32768

-- the value: the number itself under u16, and under i16 the number whose two's complement it is
abbrev pub value : Bool → ℕ → ℤ
value signed sample = unshifted signed (shifted signed sample)
