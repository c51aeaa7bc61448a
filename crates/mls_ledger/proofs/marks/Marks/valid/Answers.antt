use Rattle.std.proofs.Common.{subst}
use Rattle.mls_ckpt.specs.Reading.{AreBytes}
use Rattle.mls_ledger.specs.MarkSets.{MarkSet}
use Rattle.mls_ledger.specs.MarkRows.{AreRows}
use Rattle.mls_ledger.proofs.Rows.{are_rows}
use Rattle.mls_ledger.proofs.marks.Marks.valid.Goals as goal

pub returns-clause-rows : goal.returns-clause-rows
returns-clause-rows c =
    let m : MarkSet = record { groups = c.self.inside.groups; planes = c.self.inside.planes; bytes = c.self.inside.bytes.items } in
    subst AreRows c.self.view_is (are_rows m c.self.inside.counts.items c.self.invariant (subst AreBytes c.as_slice.ensures.value c.are_bytes.ensures))
