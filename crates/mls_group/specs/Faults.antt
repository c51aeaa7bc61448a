-- The faults, and what each says of a count and of a sound link.
use Rattle.std.specs.Prelude.{◌≡◌, ℕ, ◌<◌, Bool, Result, MatchResult, IsTrue, ⊤}
use Rattle.mls_base.specs.Told.{Rose}
use Rattle.mls_group.specs.declared.faults.Stop.{Stop}
use Rattle.mls_group.specs.declared.faults.Stop.TheVariants as stop
use Rattle.mls_group.specs.declared.faults.PairFault.{PairFault}
use Rattle.mls_group.specs.declared.faults.PairFault.TheVariants as pair
use Rattle.mls_group.specs.declared.faults.GroupFault.{GroupFault}
use Rattle.mls_group.specs.declared.faults.GroupFault.TheVariants as group

abbrev pub stopped : Stop → PairFault
stopped stop.Link = pair.LinkFault
stopped stop.Memory = pair.Memory

abbrev pub ended : PairFault → GroupFault
ended pair.LinkFault = group.LinkFault
ended (pair.Refused reason value) = group.Refused reason value
ended pair.Peer = group.Peer
ended pair.Memory = group.Memory

-- a link's count of faults rose where a step was stopped by the link, and else stands
abbrev pub StopCounts : Stop → ℕ → ℕ → Type 0
StopCounts stop.Link before now = Rose before now
StopCounts stop.Memory before now = now ≡ before

abbrev pub CountsStop : {A : Type 0} → Result A Stop → ℕ → ℕ → Type 0
CountsStop result before now = MatchResult result (λ _. now ≡ before) (λ fault. StopCounts fault before now)

-- the same of a pair
abbrev pub PairCounts : PairFault → ℕ → ℕ → Type 0
PairCounts pair.LinkFault before now = Rose before now
PairCounts (pair.Refused reason value) before now = now ≡ before
PairCounts pair.Peer before now = now ≡ before
PairCounts pair.Memory before now = now ≡ before

abbrev pub CountsPair : {A : Type 0} → Result A PairFault → ℕ → ℕ → Type 0
CountsPair result before now = MatchResult result (λ _. now ≡ before) (λ fault. PairCounts fault before now)

-- a link that takes so many bytes for sure doesn't stop a step that writes no more
abbrev pub SureStop : Stop → (sure size : ℕ) → Type 0
SureStop stop.Link sure size = sure < size
SureStop stop.Memory sure size = ⊤

-- a sound link doesn't stop a reading
abbrev pub SoundStop : Stop → Bool → Type 0
SoundStop stop.Link sound = IsTrue sound → ⊥
SoundStop stop.Memory sound = ⊤

-- a sound link that takes so many bytes for sure has no fault
abbrev pub SurePair : PairFault → Bool → (sure size : ℕ) → Type 0
SurePair pair.LinkFault sound sure size = IsTrue sound → sure < size
SurePair (pair.Refused reason value) sound sure size = ⊤
SurePair pair.Peer sound sure size = ⊤
SurePair pair.Memory sound sure size = ⊤
