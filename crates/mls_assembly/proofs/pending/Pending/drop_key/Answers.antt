use Rattle.std.proofs.Common.{ℕ, List, None, ap, ◌∙◌}
use Rattle.mls_model.specs.Studies.{Sizes}
use Rattle.mls_assembly.specs.declared.group_step.GroupStep.{GroupStep}
use Rattle.mls_assembly.specs.KeyShares.{KeyShares}
use Rattle.mls_assembly.specs.Held.{Held, key_at, kept_of}
use Rattle.mls_assembly.proofs.MapKeys.{others_kept, keeps_changed}
use Rattle.mls_assembly.proofs.Offering.{pends_dropped}
use Rattle.mls_assembly.proofs.pending.Pending.drop_key.Goals as goal

abbrev seen : Sizes → ℕ → List (GroupStep × KeyShares) → Held
seen s rank entries = record { sizes = s; rank = rank; entries = entries }

pub invariant_of-self : goal.invariant_of-self
invariant_of-self c =
    keeps_changed c.self.inside.shape c.self.inside.rank c.args.key None c.self.inside.keys.entries c.remove.new.self.entries (c.remove.ensures.updates.0) c.self.invariant (λ o at. absurd cc)

pub returns-clause-others : goal.returns-clause-others
returns-clause-others c = λ key other.
    others_kept c.args.key None c.self.inside.keys.entries c.remove.new.self.entries (c.remove.ensures.updates.0) key other ∙ ap (λ (h : Held). kept_of h key) c.self.view_is

pub returns-clause-pends : goal.returns-clause-pends
returns-clause-pends c = λ pieces done h.
    pends_dropped c.args.self.now.sizes c.args.self.now.rank c.args.self.now (seen c.self.inside.shape c.self.inside.rank c.remove.new.self.entries) (key_at c.args.key) pieces (c.remove.ensures.updates.1)
    (returns-clause-others c) done h
