use Rattle.std.proofs.Common.{◌≡◌, ◌-◌, ◌*◌, ◌++◌, length, map}
use Rattle.mls_ckpt.specs.States.{row_len, marked}
use Rattle.mls_ledger.specs.MarkRows.{rows_in}
use Rattle.mls_ledger.proofs.reading.counts_of.Given as goal

abbrev pub invariant-loop-plane : goal.invariant-loop-plane
invariant-loop-plane l =
    (l.counts.items ++ map (marked l.groups) (rows_in (row_len l.groups) (l.planes - l._plane) l.rest) ≡ map (marked l.groups) (rows_in (row_len l.groups) l.planes l.bytes))
    × (length l.rest ≡ (l.planes - l._plane) * row_len l.groups)
