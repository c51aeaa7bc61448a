use Rattle.std.proofs.Common.{◌≡◌, drop}
use Rattle.std.specs.Prelude.{vec_len}
use Rattle.mls_model.specs.ResultText.{histories_of}
use Rattle.mls_resume.specs.Reads.{lists_of}
use Rattle.mls_resumed.specs.GoingOn.{AllOpen}
use Rattle.mls_resumed.proofs.Running.{RunSoFar}
use Rattle.mls_resumed.proofs.folding.run_ranks.Given as goal

abbrev pub invariant-loop-rank : goal.invariant-loop-rank
invariant-loop-rank g l = record {
  ran : RunSoFar {T = g.F.RowFold} g.K.Keeper l.study.sizes (AllOpen g.F.RowFold l.study.sizes (lists_of l.fn.openings.items)) (histories_of l.tape.lanes l.schedule) l.rank l.fn.keepers.items l.keepers.items l.cores.items;
  places : vec_len l.keepers ≡ 64;
  left : l.openings.items ≡ drop l.rank l.fn.openings.items;
}
