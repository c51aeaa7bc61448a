-- At most all elements pass a test.
use Rattle.std.proofs.lemmas.List.Sums.{count_by-le-length}

pub ruleset counts = (count_by-le-length)
