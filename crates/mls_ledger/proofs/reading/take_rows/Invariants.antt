use Rattle.std.proofs.Common.{◌≡◌, ◌-◌, ◌*◌, length}
use Rattle.mls_model.specs.Studies.{planes}
use Rattle.mls_ckpt.specs.Checkpoints.{marks_row_at, marks_at}
use Rattle.mls_ckpt.specs.Places.{cursor_of}
use Rattle.mls_ckpt.specs.Reading.{many}
use Rattle.mls_ckpt.specs.Recovering.{behind_these}
use Rattle.mls_ckpt.specs.States.{row_len, after_one}
use Rattle.mls_ledger.specs.MarkRows.{rows_in}
use Rattle.mls_ledger.proofs.reading.take_rows.Given as goal

abbrev pub invariant-loop-plane : goal.invariant-loop-plane
invariant-loop-plane l =
    (behind_these (rows_in (row_len l.shape.groups) l._plane l.bytes.items) (many (λ i from. marks_row_at l.shape from) after_one (planes l.shape - l._plane) l._plane (cursor_of l.from))
    ≡ marks_at l.shape (cursor_of l.fn.from))
    × (length l.bytes.items ≡ l._plane * row_len l.shape.groups)
