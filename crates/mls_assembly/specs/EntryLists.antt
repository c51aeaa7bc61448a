-- What holds of all entries.
use Rattle.std.specs.Prelude.{◌≡◌, ◌<◌, List, [], ◌∷◌, ◌⊎◌}
use Rattle.mls_model.specs.Completion.{Key}
use Rattle.mls_assembly.specs.declared.group_step.GroupStep.{GroupStep}
use Rattle.mls_assembly.specs.KeyShares.{KeyShares}

-- each entry is so
abbrev pub AllEntries : (GroupStep → KeyShares → Type 0) → List (GroupStep × KeyShares) → Type 0
AllEntries Is [] = Unit {0}
AllEntries Is (e ∷ es) = Is e.0 e.1 × AllEntries Is es

-- a key is before another, by plane, then group
abbrev pub IsBefore : Key → GroupStep → Type 0
IsBefore least k = (k.step < least.plane) ⊎ ((k.step ≡ least.plane) × (k.group < least.group))

-- and so are all that have pieces
abbrev pub AreBefore : Key → List (GroupStep × KeyShares) → Type 0
AreBefore least es = AllEntries (λ k o. IsBefore least k) es
