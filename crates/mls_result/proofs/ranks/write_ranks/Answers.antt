use Rattle.std.proofs.Common.{sym}
use Rattle.mls_text.proofs.Writing.{first_failed, failed_writes, writes_after}
use Rattle.mls_result.proofs.RankLines.{all_kept}
use Rattle.mls_result.proofs.ranks.write_ranks.Goals as goal

pub returns-in_err-put_ranks : goal.returns-in_err-put_ranks
returns-in_err-put_ranks g c =
    rw (sym (all_kept c.args.counts.now)) (failed_writes _ _ _ _ _ c.from_residual.ensures.1 (first_failed _ _ _ _ c.in_err-put_ranks.ensures))

pub returns : goal.returns
returns g c =
    rw (sym (all_kept c.args.counts.now)) (writes_after _ _ _ _ _ _ c.in_ok-put_ranks.ensures c.put_lanes.ensures)
