-- A set of keys as bits: for each plane in rising order the bits of its groups, eight to a byte.
use Rattle.std.specs.Prelude.{◌≡◌, ℕ, ◌+◌, ◌*◌, ◌/◌, ◌%◌, ◌<◌, ◌≤◌, Bool, ◌&&◌, List, length, map, slice_index, count_by, nat_lt, ◌==◌}
use Rattle.std.specs.Int.{bit_at}
use Rattle.mls_model.specs.Numbers.{below}
use Rattle.mls_ckpt.specs.States.{row_len}

-- group g of a plane is bit g % 8 of byte g / 8 of the plane's bytes
pub record MarkSet : Type 0 where
  pub groups : ℕ
  pub planes : ℕ
  pub bytes : List ℕ

-- the bit at a group's place in a plane's bytes, also at a place past the groups
abbrev pub bit_of : MarkSet → ℕ → ℕ → ℕ
bit_of m group plane = bit_at (slice_index m.bytes (plane * row_len m.groups + group / 8)) (group % 8)

-- whether the key of a group and a plane is in the set
unfoldable pub is_marked : MarkSet → ℕ → ℕ → Bool
is_marked m group plane = (nat_lt group m.groups && nat_lt plane m.planes) && (bit_of m group plane == 1)

-- how many keys of a plane are in the set
unfoldable pub marked : MarkSet → ℕ → ℕ
marked m plane = count_by (λ group. is_marked m group plane) (below m.groups)

-- how many keys each plane has, in rising plane
abbrev pub plane_counts : MarkSet → List ℕ
plane_counts m = map (marked m) (below m.planes)

-- the bits that a plane's last byte has past the groups are 0
abbrev pub IsPadded : MarkSet → Type 0
IsPadded m = (group plane : ℕ) → m.groups ≤ group → group / 8 < row_len m.groups → plane < m.planes → bit_of m group plane ≡ 0

-- what is kept of the bits, and beside them a count for each plane
pub record KeepsMarks (m : MarkSet) (counts : List ℕ) : Type 0 where
  pub size : length m.bytes ≡ m.planes * row_len m.groups
  pub padded : IsPadded m
  pub one_each : length counts ≡ m.planes
  pub counted : (plane : ℕ) → plane < m.planes → slice_index counts plane ≡ marked m plane
