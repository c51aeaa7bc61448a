-- Numbers at the front of bytes, and the bytes behind them.
use Rattle.std.specs.Prelude.{ℕ, ◌^◌, cond, List, [], ◌∷◌, take, drop, Option, Some, None, ◌==◌}
use Rattle.std.specs.Borrow.{Bor}
use Rattle.std.specs.Char.{is_ascii_digit}
use Rattle.std.specs.List.{prefix_len}
use Rattle.std.specs.Option.{option_and_then}
use Rattle.mls_text.specs.Decimals.{number_below}

-- what was read, with the bytes behind it, wherever they lie in memory
abbrev pub seen : {A : Type 0} → Option (A × Bor (List ℕ)) → Option (A × List ℕ)
seen None = None
seen (Some x) = Some (x.0, x.1.now)

abbrev pub seen_rest : Option (Bor (List ℕ)) → Option (List ℕ)
seen_rest None = None
seen_rest (Some rest) = Some rest.now

-- the bytes behind a byte at the front
abbrev pub behind_byte : ℕ → List ℕ → Option (List ℕ)
behind_byte byte [] = None
behind_byte byte (b ∷ bytes) = cond (b == byte) (Some bytes) None

-- the number that the digits at the front spell, up to 4294967295
unfoldable pub number_in : List ℕ → Option (ℕ × List ℕ)
number_in bytes = option_and_then (λ n. Some (n, drop (prefix_len is_ascii_digit bytes) bytes)) (number_below (2 ^ 32) (take (prefix_len is_ascii_digit bytes) bytes))

-- a number with a byte behind it
unfoldable pub number_before : ℕ → List ℕ → Option (ℕ × List ℕ)
number_before end bytes = option_and_then (λ (x : ℕ × List ℕ). option_and_then (λ (rest : List ℕ). Some (x.0, rest)) (behind_byte end x.1)) (number_in bytes)
