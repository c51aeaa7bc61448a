-- What a core keeps of its rows is that of its own study and rank.
use Rattle.std.proofs.Common.{◌≡◌}
use Rattle.mls_field.specs.declared.fold.RowFold.{Ghosts}
use Rattle.mls_rank.specs.declared.rank_core.RankCore.{RankCore}
use Rattle.mls_rank.specs.Cores.{sizes_of, rank_of, fold_of}

pub fold_sizes : {F : Type 0} {T : Ghosts F} (core : RankCore F T) → T.shape_of (fold_of core) ≡ sizes_of core
fold_sizes core = core.fold_shape

pub fold_rank : {F : Type 0} {T : Ghosts F} (core : RankCore F T) → T.rank_of (fold_of core) ≡ rank_of core
fold_rank core = core.fold_rank
