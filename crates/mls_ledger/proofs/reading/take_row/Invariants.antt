use Rattle.std.proofs.Common.{◌≡◌, ◌-◌}
use Rattle.std.specs.Int.{w8}
use Rattle.mls_ckpt.specs.Checkpoints.{marks_row_at}
use Rattle.mls_ckpt.specs.Places.{cursor_of}
use Rattle.mls_ckpt.specs.Reading.{many, number_at}
use Rattle.mls_ckpt.specs.Recovering.{behind_these}
use Rattle.mls_ckpt.specs.States.{most_of_byte, after_one}
use Rattle.mls_ledger.proofs.reading.take_row.Given as goal

abbrev pub invariant-loop-place : goal.invariant-loop-place
invariant-loop-place l =
    behind_these l.bytes.items (many (λ i from. number_at w8 (most_of_byte l.shape.groups i) from) after_one (l.size - l.place) l.place (cursor_of l.from))
    ≡ behind_these l.fn.bytes.items (marks_row_at l.shape (cursor_of l.fn.from))
