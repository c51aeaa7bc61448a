-- The core that the bytes of the beginning spell.
use Rattle.std.proofs.Common.{List, ℕ, subst}
use Rattle.mls_rank.specs.Cores.{sizes_of, rank_of}
use Rattle.mls_book.specs.Backups.{ResumesFrom}
use Rattle.mls_book.proofs.Recovering.{at_equal, begins_some}
use Rattle.mls_book.proofs.saved_rank.SavedRank.reopen.Goals as goal

pub returns-in-Ok-clause-begins : goal.returns-in-Ok-clause-begins
returns-in-Ok-clause-begins g c =
    let core = c.args.self.now.core in
    begins_some (sizes_of core) (rank_of core) c.args.self.now.opening c.in-Some.bytes c.in-Ok.core c.in-Some.is
    (at_equal (λ s r. ResumesFrom s r c.in-Some.bytes.items c.in-Ok.core) c.shape-shape.result (sizes_of core) c.rank-rank.result (rank_of core) c.shape-shape.ensures c.rank-rank.ensures.value
    (subst (λ (bytes : List ℕ). ResumesFrom c.shape-shape.result c.rank-rank.result bytes c.in-Ok.core) c.as_slice.ensures.value c.in-Ok.ensures.again))
