use Rattle.mls_ledger.proofs.TakingMarks.{taken_keeps}
use Rattle.mls_ledger.proofs.marks.Marks.take.Goals as goal

pub invariant_of-result : goal.invariant_of-result
invariant_of-result c =
    taken_keeps c.args.shape.now c.groups-groups.result c.planes-planes.result c.in_ok-bytes.bytes.items c.as_slice.result.now c.in_ok-counts.counts.items _ _
    c.groups-groups.ensures.value c.planes-planes.ensures.value c.in_ok-bytes.ensures.size c.in_ok-bytes.ensures.read c.as_slice.ensures.value c.in_ok-counts.ensures
