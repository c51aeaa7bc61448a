-- What a disk in memory remembers of its areas, and what a crash may make of it.
use Rattle.std.specs.Prelude.{◌≡◌, ◌⊎◌, ℕ, ◌<◌, List, [], ◌∷◌, ◌++◌, length, drop, if◌then◌else◌, ◌==◌, refl}
use mathlib.Core.Logic.{inl, inr}
use Rattle.mls_slot.specs.Disks.{Areas, View, Torn}
use Rattle.mls_slot.specs.declared.memory.Area.{Area}
use Rattle.mls_slot.specs.declared.memory.Past.{Past}

-- new is old after these writes, a place and a number of bytes each, were torn one after another
abbrev pub TornBy : List (ℕ × ℕ) → List ℕ → List ℕ → Type 0
TornBy [] old new = new ≡ old
TornBy (w ∷ ws) old new = (mid : List ℕ) × Torn w.0 w.1 old mid × TornBy ws mid new

-- the first for area 0, the second for area 1
abbrev pub of_area : {A : Type 0} → A → A → ℕ → A
of_area zero one area = if area == 0 then zero else one

-- a crash may leave what a read gives, and what torn writes since the last sync made of what was synced
abbrev pub Leaves : Area → List ℕ → Type 0
Leaves area bytes = (bytes ≡ area.bytes.items) ⊎ TornBy area.ranges.items area.synced.items bytes

-- the same bytes, whatever memory they lie in
pub record SameItems (a b : Area) : Type 0 where
  pub bytes : a.bytes.items ≡ b.bytes.items
  pub synced : a.synced.items ≡ b.synced.items
  pub ranges : a.ranges.items ≡ b.ranges.items

-- one moment more, at which the areas stood so
pub record Remembers (first second : Area) (old new : List Past) : Type 0 where
  pub moment : Past
  pub zero : SameItems moment.zero first
  pub one : SameItems moment.one second
  pub past : new ≡ old ++ moment ∷ []

-- a crash may leave this image of two areas
abbrev pub LeaveBoth : Area → Area → Areas → Type 0
LeaveBoth zero one image = (area : ℕ) → area < 2 → Leaves (of_area zero one area) (image area)

-- at one of these moments a crash might have left this image
abbrev pub HadBeen : List Past → Areas → Type 0
HadBeen [] image = ⊥
HadBeen (p ∷ past) image = LeaveBoth p.zero p.one image ⊎ HadBeen past image

-- what a disk tells that has these areas and had that past
abbrev pub told : Area → Area → List Past → View
told zero one past = record {
  seen = λ area. (of_area zero one area).bytes.items;
  may_leave = λ area bytes. Leaves (of_area zero one area) bytes;
  moment = length past;
  left_since = λ t image. LeaveBoth zero one image ⊎ HadBeen (drop t past) image;
}

none_left : (past : List Past) (image : Areas) → HadBeen (drop (length past) past) image → ⊥
none_left [] image had = had
none_left (p ∷ past) image had = none_left past image had

-- since the last of them there is what is there now
pub only_both : (zero one : Area) (past : List Past) (image : Areas) → LeaveBoth zero one image ⊎ HadBeen (drop (length past) past) image → LeaveBoth zero one image
only_both zero one past image (inl now) = now
only_both zero one past image (inr had) = absurd (none_left past image had)

-- what a read gives is left
pub read_left : (zero one : Area) (area : ℕ) → Leaves (of_area zero one area) (of_area zero one area).bytes.items
read_left zero one area = inl refl
