use Rattle.std.proofs.Common.{rules}
use Rattle.mls_ledger.proofs.AfterCalls.{cleared_keep, zeros_empty, zeros_none}
use Rattle.mls_ledger.proofs.marks.Marks.reset.Goals as goal

pub invariant_of-self : goal.invariant_of-self
invariant_of-self c =
    cleared_keep c.self.inside.groups c.self.inside.planes c.self.inside.bytes.len c.self.inside.counts.len c.self.inside.bytes.items c.self.inside.counts.items c.fill.new.self.items c.fill-2.new.self.items c.self.invariant
    (search rules) (search rules) (c.fill.ensures.items (λ y e. e)) (c.fill-2.ensures.items (λ y e. e))

pub returns-clause-empty : goal.returns-clause-empty
returns-clause-empty c =
    zeros_empty c.self.inside.groups c.self.inside.planes c.self.inside.bytes.len c.fill.new.self.items (c.fill.ensures.items (λ y e. e))

pub returns-clause-none : goal.returns-clause-none
returns-clause-none c =
    zeros_none c.self.inside.groups c.self.inside.planes c.self.inside.bytes.len c.fill.new.self.items (c.fill.ensures.items (λ y e. e))
