use Rattle.std.proofs.Common.{◌+◌, ◌*◌, arith}
use Rattle.mls_hist.specs.BinsText.{count_words}
use Rattle.mls_text.proofs.Writing.{line_out, line_failed, failed_writes}
use Rattle.mls_bins.proofs.CellLines.{part_more, part_failed, parts_all}
use Rattle.mls_bins.proofs.lines.put_counts.Goals as goal

pub returns-in_err-put : goal.returns-in_err-put
unfolding count_words
returns-in_err-put g c =
    failed_writes _ _ _ _ _ c.from_residual.ensures.1
    (part_failed c.args.counts.now _ (16 * c.loop-part.part) _ _ _ c.loop-part.invariant (line_failed _ _ _ _ c.bins_from.ensures c.in_err-put.ensures))

pub loop-part-preserved : goal.loop-part-preserved
loop-part-preserved g c = part_more c.args.counts.now _ (16 * c.loop-part.part) (16 * (c.loop-part.part + 1)) _ _ _ (omega arith) c.loop-part.invariant (line_out _ _ _ _ c.bins_from.ensures c.in_ok-put.ensures)

pub returns : goal.returns
unfolding count_words
returns g c = parts_all c.args.counts.now _ (16 * c.loop-part.part) _ _ (omega arith) c.loop-part.invariant
