use Rattle.std.proofs.Common.{sym}
use Rattle.mls_ckpt.specs.States.{is_set}
use Rattle.mls_ledger.proofs.TakingMarks.{counted_yes, counted_no}
use Rattle.mls_ledger.proofs.reading.count_row.Goals as goal
use Rattle.mls_ledger.proofs.reading.count_row.Goals.{then-marks, else-marks}

pub loop-group-preserved : goal.loop-group-preserved
loop-group-preserved c =
    elim c.if-marks.branch [
      | then-marks w ↦ counted_yes (is_set c.args.row.now) c.loop-group.group c.loop-group.count _ w.count-is (sym w.if-marks.ensures) c.loop-group.invariant
      | else-marks w ↦ counted_no (is_set c.args.row.now) c.loop-group.group c.loop-group.count _ w.count-is (sym w.if-marks.ensures) c.loop-group.invariant
    ]
