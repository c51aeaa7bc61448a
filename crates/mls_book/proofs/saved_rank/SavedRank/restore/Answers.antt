-- The core that a get brings back.
use Rattle.std.proofs.Common.{List, ℕ, Option, Err}
use Rattle.std.specs.Prelude.{IfSome}
use Rattle.std.specs.Option.{option_map}
use Rattle.std.specs.Global.{Vec}
use Rattle.mls_rank.specs.declared.rank_core.RankCore.{RankCore}
use Rattle.mls_rank.specs.Cores.{sizes_of, rank_of}
use Rattle.mls_rank.specs.Saving.{SpellsCore, RecoversSaved}
use Rattle.mls_book.specs.Backups.{ResumesFrom}
use Rattle.mls_book.proofs.Telling.{told_given, some_items}
use Rattle.mls_book.proofs.Recovering.{at_equal, none_spelled}
use Rattle.mls_book.proofs.saved_rank.SavedRank.restore.Goals as goal

pub returns-in-Ok-recovered-clause-back : goal.returns-in-Ok-recovered-clause-back
returns-in-Ok-recovered-clause-back g c =
    let core = c.args.self.now.core in
    let saved = c.in-Ok-recovered.saved in
    told_given (λ (kept : Option (List ℕ)). IfSome kept (λ bytes. ResumesFrom (sizes_of c.args.self.now.core) (rank_of c.args.self.now.core) bytes c.in-Ok-recovered.saved))
    (g.K.Keeper.held c.args.self.now.keeper) (option_map (λ (bytes : Vec ℕ). bytes.items) c.in-Ok.given) c.in-Ok.ensures.given
    (some_items (λ bytes. ResumesFrom (sizes_of core) (rank_of core) bytes saved) c.in-Ok.given
    (at_equal (λ s r. IfSome c.in-Ok.given (λ (bytes : Vec ℕ). ResumesFrom s r bytes.items saved)) c.shape-shape.result (sizes_of core) c.rank-rank.result (rank_of core) c.shape-shape.ensures c.rank-rank.ensures.value
    c.in-Ok-recovered.ensures.again))

pub returns-in-Err-Bad-clause-good : goal.returns-in-Err-Bad-clause-good
returns-in-Err-Bad-clause-good g c =
    let core = c.args.self.now.core in
    let fault = c.in-Err-Bad.field-0 in
    told_given (λ (kept : Option (List ℕ)). IfSome kept (λ bytes. (saved : RankCore g.row.F.Denot g.F.RowFold) → SpellsCore (sizes_of c.args.self.now.core) (rank_of c.args.self.now.core) bytes saved → ⊥))
    (g.K.Keeper.held c.args.self.now.keeper) (option_map (λ (bytes : Vec ℕ). bytes.items) c.in-Ok.given) c.in-Ok.ensures.given
    (some_items (λ bytes. (saved : RankCore g.row.F.Denot g.F.RowFold) → SpellsCore (sizes_of core) (rank_of core) bytes saved → ⊥) c.in-Ok.given
    (none_spelled g.row.F.Denot g.F.RowFold (sizes_of core) (rank_of core) c.in-Ok.given fault c.in-Err-Bad.at c.in-Err-Bad.why c.in-Err-Bad.field-0-is
    (at_equal (λ s r. IfSome c.in-Ok.given (λ (bytes : Vec ℕ). RecoversSaved {F = g.row.F.Denot} {T = g.F.RowFold} s r bytes.items (Err fault))) c.shape-shape.result (sizes_of core) c.rank-rank.result (rank_of core) c.shape-shape.ensures c.rank-rank.ensures.value
    c.in-Err-Bad.ensures.again)))
