use Rattle.std.proofs.Common.{arith}
use Rattle.mls_ckpt.proofs.WholeStates.{states_are_spelled}
use Rattle.mls_ledger.specs.MarkRows.{rows_of}
use Rattle.mls_assembly.specs.Saved.{keys_saved}
use Rattle.mls_rank.proofs.StateReads.{refused_on, head_refused, counts_refused, marks_refused, part_refused, pending_refused, end_refused, state_read, numbers_are, numbers_size, numbers_few, rows_counted}
use Rattle.mls_rank.proofs.SavedCores.{waiting_read}
use Rattle.mls_rank.proofs.rank_core.RankCore.read.Goals as goal

pub returns-in_err-take_head-clause-fault : goal.returns-in_err-take_head-clause-fault
returns-in_err-take_head-clause-fault g c =
    refused_on c.from_residual.result c.in_err-take_head.field-0.0 _ c.from_residual.ensures.1
    (head_refused g.F.RowFold.part_at c.args.shape.now c.args.rank c.args.bytes.now _ c.in_err-take_head.field-0.0 c.new-from.ensures c.in_err-take_head.ensures)

pub returns-in_err-counts-clause-fault : goal.returns-in_err-counts-clause-fault
returns-in_err-counts-clause-fault g c =
    refused_on c.from_residual-in_err-counts.result c.in_err-counts.field-0.0 _ c.from_residual-in_err-counts.ensures.1
    (counts_refused g.F.RowFold.part_at c.args.shape.now c.args.rank c.args.bytes.now _ _ c.in_ok-take_head.field-0 c.in_err-counts.field-0.0 c.new-from.ensures c.in_ok-take_head.ensures c.in_err-counts.ensures)

pub returns-in_err-marks-clause-fault : goal.returns-in_err-marks-clause-fault
returns-in_err-marks-clause-fault g c =
    refused_on c.from_residual-in_err-marks.result c.in_err-marks.field-0.0 _ c.from_residual-in_err-marks.ensures.1
    (marks_refused g.F.RowFold.part_at c.args.shape.now c.args.rank c.args.bytes.now _ _ _ c.in_ok-take_head.field-0 c.in_ok-counts.counts c.in_err-marks.field-0.0 c.new-from.ensures c.in_ok-take_head.ensures c.in_ok-counts.ensures c.in_err-marks.ensures.exact.0)

pub take-requires-2-clause-planes : goal.take-requires-2-clause-planes
take-requires-2-clause-planes g c = numbers_size c.args.shape.now c.in_ok-marks.marks c.counts.result.now c.in_ok-marks.ensures.planes c.counts.ensures.all

pub take-requires-2-clause-few : goal.take-requires-2-clause-few
take-requires-2-clause-few g c = numbers_few c.args.shape.now c.in_ok-marks.marks c.counts.result.now c.valid-2.ensures.rows c.in_ok-marks.ensures.groups c.counts.ensures.all

pub returns-in_err-fold-clause-fault : goal.returns-in_err-fold-clause-fault
returns-in_err-fold-clause-fault g c =
    refused_on c.from_residual-in_err-fold.result c.in_err-fold.field-0.0 _ c.from_residual-in_err-fold.ensures.1
    (part_refused g.F.RowFold.part_at c.args.shape.now c.args.rank c.args.bytes.now _ _ _ _ c.in_ok-take_head.field-0 c.in_ok-counts.counts (rows_of c.in_ok-marks.marks) c.counts.result.now c.in_err-fold.field-0.0 c.new-from.ensures c.in_ok-take_head.ensures c.in_ok-counts.ensures c.in_ok-marks.ensures.exact
    (numbers_are c.args.shape.now c.in_ok-marks.marks c.counts.result.now c.valid-2.ensures.rows c.in_ok-marks.ensures.groups c.counts.ensures.all) c.in_err-fold.ensures.fault.0)

pub returns-in_err-pending-clause-fault : goal.returns-in_err-pending-clause-fault
returns-in_err-pending-clause-fault g c =
    refused_on c.from_residual-in_err-pending.result c.in_err-pending.field-0.0 _ c.from_residual-in_err-pending.ensures.1
    (pending_refused g.F.RowFold.part_at c.args.shape.now c.args.rank c.args.bytes.now _ _ _ _ _ c.in_ok-take_head.field-0 c.in_ok-counts.counts (rows_of c.in_ok-marks.marks) c.counts.result.now c.in_err-pending.field-0.0 c.new-from.ensures c.in_ok-take_head.ensures c.in_ok-counts.ensures c.in_ok-marks.ensures.exact
    (numbers_are c.args.shape.now c.in_ok-marks.marks c.counts.result.now c.valid-2.ensures.rows c.in_ok-marks.ensures.groups c.counts.ensures.all) c.in_ok-fold.ensures.read c.in_err-pending.ensures.exact.0)

pub returns-in_err-take_end-clause-fault : goal.returns-in_err-take_end-clause-fault
returns-in_err-take_end-clause-fault g c =
    refused_on c.from_residual-in_err-take_end.result c.in_err-take_end.field-0.0 _ c.from_residual-in_err-take_end.ensures.1
    (end_refused g.F.RowFold.part_at c.args.shape.now c.args.rank c.args.bytes.now _ _ _ _ _ _ c.in_ok-take_head.field-0 c.in_ok-counts.counts (rows_of c.in_ok-marks.marks) c.counts.result.now (keys_saved c.in_ok-pending.pending) c.in_err-take_end.field-0.0 c.new-from.ensures c.in_ok-take_head.ensures c.in_ok-counts.ensures c.in_ok-marks.ensures.exact
    (numbers_are c.args.shape.now c.in_ok-marks.marks c.counts.result.now c.valid-2.ensures.rows c.in_ok-marks.ensures.groups c.counts.ensures.all) c.in_ok-fold.ensures.read c.in_ok-pending.ensures.exact c.in_err-take_end.ensures)

pub returns-clause-read : goal.returns-clause-read
returns-clause-read g c =
    state_read g.F.RowFold.part_at c.args.shape.now c.args.rank c.args.bytes.now (g.F.RowFold.part c.in_ok-fold.fold) _ _ _ _ _ _ c.in_ok-take_head.field-0 c.in_ok-counts.counts (rows_of c.in_ok-marks.marks) c.counts.result.now (keys_saved c.in_ok-pending.pending) c.new-from.ensures c.in_ok-take_head.ensures c.in_ok-counts.ensures c.in_ok-marks.ensures.exact
    (numbers_are c.args.shape.now c.in_ok-marks.marks c.counts.result.now c.valid-2.ensures.rows c.in_ok-marks.ensures.groups c.counts.ensures.all) c.in_ok-fold.ensures.read c.in_ok-fold.ensures.part c.in_ok-pending.ensures.exact c.in_ok-take_end.ensures

pub invariant_of-result-clause-rows : goal.invariant_of-result-clause-rows
invariant_of-result-clause-rows g c = rows_counted c.in_ok-marks.marks c.counts.result.now (g.F.RowFold.row_count c.in_ok-fold.fold) c.counts.ensures.all c.in_ok-fold.ensures.counted

pub invariant_of-result-clause-waiting : goal.invariant_of-result-clause-waiting
invariant_of-result-clause-waiting g c =
    waiting_read c.in_ok-marks.marks c.in_ok-pending.pending c.args.shape.now c.args.rank c.in_ok-pending.ensures.sizes c.in_ok-pending.ensures.rank c.valid-2.ensures.rows c.valid-3.ensures.pending
    (states_are_spelled g.F.RowFold.part_at c.part_laws.ensures.takes c.args.shape.now c.args.rank c.args.bytes.now _ c.valid.ensures (λ i. omega (arith, c.type_inv.bytes i)) (
    state_read g.F.RowFold.part_at c.args.shape.now c.args.rank c.args.bytes.now (g.F.RowFold.part c.in_ok-fold.fold) _ _ _ _ _ _ c.in_ok-take_head.field-0 c.in_ok-counts.counts (rows_of c.in_ok-marks.marks) c.counts.result.now (keys_saved c.in_ok-pending.pending) c.new-from.ensures c.in_ok-take_head.ensures c.in_ok-counts.ensures c.in_ok-marks.ensures.exact
    (numbers_are c.args.shape.now c.in_ok-marks.marks c.counts.result.now c.valid-2.ensures.rows c.in_ok-marks.ensures.groups c.counts.ensures.all) c.in_ok-fold.ensures.read c.in_ok-fold.ensures.part c.in_ok-pending.ensures.exact c.in_ok-take_end.ensures)).valid.pending

pub returns-clause-kept : goal.returns-clause-kept
returns-clause-kept g c = record { marks = c.valid-2.ensures.rows; pending = c.valid-3.ensures.pending; rising = c.valid-3.ensures.rising }
