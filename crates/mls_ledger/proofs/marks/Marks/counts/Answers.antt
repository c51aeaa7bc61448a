use Rattle.std.proofs.Common.{◌∙◌}
use Rattle.mls_ledger.specs.MarkSets.{MarkSet}
use Rattle.mls_ledger.proofs.Bits.{counts_are}
use Rattle.mls_ledger.proofs.marks.Marks.counts.Goals as goal

pub returns-clause-all : goal.returns-clause-all
returns-clause-all c =
    let m : MarkSet = record { groups = c.self.inside.groups; planes = c.self.inside.planes; bytes = c.self.inside.bytes.items } in
    c.as_slice.ensures.value ∙ counts_are m c.args.self.now c.self.inside.counts.items c.self.view_is c.self.invariant
