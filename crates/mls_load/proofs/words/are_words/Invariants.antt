use Rattle.std.proofs.Common.{◌≡◌, map, drop, string_bytes}
use Rattle.std.specs.List.{list_all}
use Rattle.mls_load.specs.Words.{is_word}
use Rattle.mls_load.proofs.words.are_words.Given as goal

abbrev pub invariant-loop-name : goal.invariant-loop-name
invariant-loop-name l = list_all is_word (map string_bytes (drop l.name-index l.names)) ≡ list_all is_word (map string_bytes l.names)
