-- Numbers of values above thresholds, in words.
use Rattle.std.specs.Prelude.{List, ℕ}
use Rattle.std.specs.List.{flat_map}
use Rattle.mls_result.specs.Words.{number_words}

abbrev pub numbers_text : List ℕ → List ℕ
numbers_text numbers = flat_map number_words numbers
