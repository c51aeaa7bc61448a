-- How reading ends.
use Rattle.std.proofs.Common.{◌≡◌, ℕ, List, [], ◌∷◌, length, Option, Some, None, IfSome, refl, ap}
use Rattle.std.proofs.lemmas.List.{append-nil}
use Rattle.mls_model.specs.declared.lanes.LaneEnd.{LaneEnd}
use Rattle.mls_model.specs.declared.lanes.LaneEnd.TheVariants as ends
use Rattle.mls_model.specs.declared.lanes.FrameFault.{FrameFault}
use Rattle.mls_model.specs.declared.lanes.FrameFault.TheVariants.{BadKind, BadLength}
use Rattle.mls_model.specs.Frames.{Sight, more, bad, sight}
use Rattle.mls_model.specs.Lanes.{end_by, end_at}
use Rattle.mls_wire.specs.Links.{Talk, after_read}
use Rattle.mls_serve.specs.Readings.{IsGood, IsInputEnd, IsBadEnd, EndsReading}

-- what is too little to tell ends well
pub good_more : (taken : ℕ) (rest : List ℕ) → sight rest ≡ more → IsGood (end_at taken rest)
unfolding end_at
good_more taken [] e = tt
good_more taken (b ∷ rest) e = rw e tt

-- what is bad isn't nothing
pub bad_end : (taken : ℕ) (rest : List ℕ) (fault : FrameFault) → sight rest ≡ bad fault → end_at taken rest ≡ end_by taken (bad fault)
unfolding end_at sight
bad_end taken [] fault e = absurd cc
bad_end taken (b ∷ rest) fault e = ap (λ (s : Sight). end_by taken s) e

pub read-nothing : (old : Option Talk) → after_read 0 old ≡ old
read-nothing None = refl
read-nothing (Some old) = ap (λ (xs : List ℕ). Some (record { read = xs; left = old.left; written = old.written })) (append-nil old.read)

is_nothing : (xs : List ℕ) → length xs ≡ 0 → xs ≡ []
is_nothing [] e = refl
is_nothing (x ∷ xs) e = absurd cc

pub nothing_left : (told : Option Talk) → IfSome told (λ talk. length talk.left ≡ 0) → IfSome told (λ talk. talk.left ≡ [])
nothing_left None h = tt
nothing_left (Some talk) h = is_nothing talk.left h

-- the end of the input
pub input_ends : (end : LaneEnd) (taken : ℕ) (rest : List ℕ) (size : ℕ) (told now : Option Talk) (before after : ℕ) → IsGood end → IsInputEnd end taken rest size told now before after → EndsReading end taken rest size told now before after
input_ends ends.Clean taken rest size told now before after good h = h
input_ends (ends.Cut at) taken rest size told now before after good h = h
input_ends (ends.BadKind at) taken rest size told now before after good h = absurd good
input_ends (ends.BadLength at) taken rest size told now before after good h = absurd good
input_ends (ends.Fault at) taken rest size told now before after good h = absurd good
input_ends (ends.Full at) taken rest size told now before after good h = absurd good

-- bytes that are bad
pub bad_ends : (fault : FrameFault) (taken : ℕ) (rest : List ℕ) (size : ℕ) (told now : Option Talk) (before after : ℕ) → IsBadEnd (end_by taken (bad fault)) taken rest told now before after → EndsReading (end_by taken (bad fault)) taken rest size told now before after
bad_ends BadKind taken rest size told now before after h = h
bad_ends BadLength taken rest size told now before after h = h
