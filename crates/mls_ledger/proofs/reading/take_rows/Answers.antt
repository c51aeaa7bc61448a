use Rattle.std.proofs.Common.{◌∙◌}
use Rattle.mls_ledger.proofs.TakingMarks.{handed_back, rows_begin, row_goes_on, row_refuses, rows_end}
use Rattle.mls_ledger.proofs.reading.take_rows.Goals as goal

pub loop-plane-init : goal.loop-plane-init
loop-plane-init c = rows_begin c.args.shape.now _ c.reserve_exact.new.self.items (c.in_ok-reserve_exact.ensures.items ∙ c.new-bytes.ensures.items)

pub returns-in_err-take_row-clause-read : goal.returns-in_err-take_row-clause-read
returns-in_err-take_row-clause-read c =
    handed_back _ c.from_residual-in_err-take_row.result c.in_err-take_row.field-0.0 _ _ c.from_residual-in_err-take_row.ensures.1
    (row_refuses c.args.shape.now c.loop-plane._plane c.planes-plane-end.result c.loop-plane.bytes.items _ c.in_err-take_row.field-0.0 _ c.planes-plane-end.ensures.value c.loop-plane-test.true c.in_err-take_row.ensures c.loop-plane.invariant)

pub loop-plane-preserved : goal.loop-plane-preserved
loop-plane-preserved c =
    row_goes_on c.args.shape.now c.loop-plane._plane c.planes-plane-end.result c.loop-plane.bytes.items c.take_row.new.bytes.items _ _ _ c.planes-plane-end.ensures.value c.loop-plane-test.true c.in_ok-take_row.ensures c.loop-plane.invariant

pub returns-clause-read : goal.returns-clause-read
returns-clause-read c =
    (rows_end c.args.shape.now c.loop-plane._plane c.planes-plane-end.result c.loop-plane.bytes.items _ _ c.planes-plane-end.ensures.value c.loop-plane.auto._plane-end c.loop-plane-test.false c.loop-plane.invariant).read

pub returns-clause-size : goal.returns-clause-size
returns-clause-size c =
    (rows_end c.args.shape.now c.loop-plane._plane c.planes-plane-end.result c.loop-plane.bytes.items _ _ c.planes-plane-end.ensures.value c.loop-plane.auto._plane-end c.loop-plane-test.false c.loop-plane.invariant).long
