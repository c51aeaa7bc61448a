use Rattle.mls_ledger.proofs.AfterCalls.{zeros_keep, zeros_empty, zeros_none}
use Rattle.mls_ledger.proofs.marks.Marks.new.Goals as goal

pub invariant_of-result : goal.invariant_of-result
invariant_of-result c =
    zeros_keep c.groups-groups.result c.planes-planes.result c.in_ok-bytes.bytes.items c.in_ok-counts.counts.items
    (c.in_ok-bytes.ensures.items_if_clones_equal (λ y e. e)) (c.in_ok-counts.ensures.items_if_clones_equal (λ y e. e))

pub returns-clause-empty : goal.returns-clause-empty
returns-clause-empty c =
    zeros_empty c.groups-groups.result c.planes-planes.result _ c.in_ok-bytes.bytes.items (c.in_ok-bytes.ensures.items_if_clones_equal (λ y e. e))

pub returns-clause-none : goal.returns-clause-none
returns-clause-none c =
    zeros_none c.groups-groups.result c.planes-planes.result _ c.in_ok-bytes.bytes.items (c.in_ok-bytes.ensures.items_if_clones_equal (λ y e. e))
