use Rattle.std.proofs.Common.{◌≡◌}
use Rattle.std.specs.Prelude.{vec_len}
use Rattle.mls_model.specs.ResultText.{histories_of}
use Rattle.mls_replay.proofs.Running.{RunSoFar}
use Rattle.mls_replay.proofs.folding.run_ranks.Given as goal

abbrev pub invariant-loop-rank : goal.invariant-loop-rank
invariant-loop-rank g l = RunSoFar {T = g.F.RowFold} g.K.Keeper l.study.sizes (histories_of l.tape.lanes l.schedule) l.rank l.fn.keepers.items l.keepers.items l.cores.items × (vec_len l.keepers ≡ 64)
