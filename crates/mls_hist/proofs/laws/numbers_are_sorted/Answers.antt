use Rattle.std.proofs.lemmas.List.Sorted.{length_permutation}
use Rattle.mls_hist.proofs.QuartileBins.{sorted_number}
use Rattle.mls_hist.proofs.laws.numbers_are_sorted.Goals as goal

pub returns : goal.returns
returns c xs sorted k same rises some few = sorted_number xs sorted k same (length_permutation xs sorted same) (λ i j low inside. rises i j 0 low inside) some few
