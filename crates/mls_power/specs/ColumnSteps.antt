-- What a row makes of a number of a column. The samples of eight rows lie in one list, each row's so many places after those of the row before.
use Rattle.std.specs.Prelude.{ℕ, ◌+◌, ◌*◌, ◌/◌, ◌%◌, ◌^◌, List, slice_index, min, max, cond, nat_lt}

-- the sample of a row at a place
abbrev pub sample_at : List ℕ → ℕ → ℕ → ℕ → ℕ
sample_at samples stride x g = slice_index samples (stride * g + x)

-- the third power of a sample, and the fourth in two halves of 32 bits
abbrev pub cube_of : ℕ → ℕ
cube_of x = x * x * x

abbrev pub fourth_of : ℕ → ℕ
fourth_of x = x * x * (x * x)

abbrev pub low_half : ℕ → ℕ
low_half n = n % 2 ^ 32

abbrev pub high_half : ℕ → ℕ
high_half n = n / 2 ^ 32

-- of the cubes, of the halves of the fourth powers of two samples, of the least and the greatest of two samples, and of those above a threshold
abbrev pub more_cubes : List ℕ → ℕ → ℕ → ℕ → ℕ → ℕ → ℕ
more_cubes samples stride x k g n = n + cube_of (sample_at samples stride (x + k) g)

abbrev pub more_low : List ℕ → ℕ → ℕ → ℕ → ℕ → ℕ → ℕ → ℕ
more_low samples stride x y k g n = n + low_half (fourth_of (sample_at samples stride (x + k) g)) + low_half (fourth_of (sample_at samples stride (y + k) g))

abbrev pub more_high : List ℕ → ℕ → ℕ → ℕ → ℕ → ℕ → ℕ → ℕ
more_high samples stride x y k g n = n + high_half (fourth_of (sample_at samples stride (x + k) g)) + high_half (fourth_of (sample_at samples stride (y + k) g))

abbrev pub more_least : List ℕ → ℕ → ℕ → ℕ → ℕ → ℕ → ℕ → ℕ
more_least samples stride x y k g n = min (min n (sample_at samples stride (x + k) g)) (sample_at samples stride (y + k) g)

abbrev pub more_greatest : List ℕ → ℕ → ℕ → ℕ → ℕ → ℕ → ℕ → ℕ
more_greatest samples stride x y k g n = max (max n (sample_at samples stride (x + k) g)) (sample_at samples stride (y + k) g)

abbrev pub one_above : ℕ → ℕ → ℕ
one_above threshold x = cond (nat_lt threshold x) 1 0

abbrev pub more_above : List ℕ → ℕ → ℕ → ℕ → ℕ → ℕ → ℕ → ℕ → ℕ
more_above samples stride threshold x y k g n = n + one_above threshold (sample_at samples stride (x + k) g) + one_above threshold (sample_at samples stride (y + k) g)
