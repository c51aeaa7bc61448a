-- The number that a text spells as a canonical decimal: 0, or digits that don't begin with 0.
use Rattle.std.specs.Prelude.{ℕ, ◌&&◌, cond, List, Option, Some, None, decimal, nat_lt}
use Rattle.std.specs.Str.Parse.{digits_value}
use Rattle.mls_model.specs.Numbers.{same_bytes}

-- the number below a bound whose decimal the bytes are
unfoldable pub number_below : ℕ → List ℕ → Option ℕ
number_below bound digits = cond (same_bytes (decimal (digits_value 10 digits)) digits && nat_lt (digits_value 10 digits) bound) (Some (digits_value 10 digits)) None
