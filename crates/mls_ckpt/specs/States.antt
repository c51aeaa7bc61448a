-- What a rank's state is made of, and which states are valid for a study's sizes and a rank.
use Rattle.std.specs.Prelude.{◌≡◌, ℕ, ◌+◌, ◌-◌, ◌*◌, ◌/◌, ◌%◌, ◌^◌, ◌<◌, ◌≤◌, Bool, true, false, ◌&&◌, ◌||◌, cond, List, [], length, map, slice_index, get_or, count_by, nat_lt, nat_le, ◌==◌}
use Rattle.std.specs.Int.{bit_at}
use Rattle.mls_model.specs.declared.outcomes.Counts.{Counts}
use Rattle.mls_model.specs.Numbers.{below}
use Rattle.mls_model.specs.Studies.{Sizes, planes}
use Rattle.mls_model.specs.Blocks.{overlap, overlaps, width}
use Rattle.mls_model.specs.Completion.{Key}
use Rattle.mls_model.specs.Outcomes.{total_count}
use Rattle.mls_ckpt.specs.Reading.{AllFrom}

-- what a client sent of a key: its samples, row by row
pub record PendingShare : Type 0 where
  pub client : ℕ
  pub samples : List ℕ

-- a key that waits for more shares of a life
pub record PendingKey : Type 0 where
  pub group : ℕ
  pub plane : ℕ
  pub life : ℕ
  pub shares : List PendingShare

-- The counts of outcomes; for each plane the bytes whose bits are its marks; the sums as the bytes of their part; the pending keys by rising plane, then group.
pub record State : Type 0 where
  pub counts : Counts
  pub marks : List (List ℕ)
  pub part : List ℕ
  pub pending : List PendingKey

-- the bytes of a plane's marks, and the greatest that a byte can be: no bit stands from the number of groups on
abbrev pub row_len : ℕ → ℕ
row_len groups = (groups + 7) / 8

abbrev pub most_of_byte : ℕ → ℕ → ℕ
most_of_byte groups i = cond (nat_le (8 * (i + 1)) groups) 255 (2 ^ (groups % 8) - 1)

-- group g is bit g % 8 of byte g / 8
abbrev pub is_set : List ℕ → ℕ → Bool
is_set row group = bit_at (slice_index row (group / 8)) (group % 8) == 1

-- whether a key is marked, and how many keys of each plane are
abbrev pub is_marked : List (List ℕ) → Key → Bool
is_marked marks key = is_set (get_or marks key.plane []) key.group

unfoldable pub marked : ℕ → List ℕ → ℕ
marked groups row = count_by (is_set row) (below groups)

abbrev pub marks_of_planes : Sizes → List (List ℕ) → List ℕ
marks_of_planes s marks = map (marked s.groups) marks

-- how many clients overlap a rank's block
unfoldable pub overlapping : Sizes → ℕ → ℕ
overlapping s rank = count_by (overlaps s rank) (below s.clients)

-- what is counted up for each place of a list
abbrev pub after_one : {A : Type 0} → ℕ → A → ℕ
after_one i value = i + 1

-- the marks are bits of groups alone, in so many bytes a plane
pub record IsMarksRow (groups : ℕ) (row : List ℕ) : Type 0 where
  pub size : length row ≡ row_len groups
  pub bits : AllFrom (λ i byte. byte ≤ most_of_byte groups i) after_one 0 row

pub record AreMarks (s : Sizes) (marks : List (List ℕ)) : Type 0 where
  pub size : length marks ≡ planes s
  pub rows : AllFrom (λ i row. IsMarksRow s.groups row) after_one 0 marks

-- the least client that may come next, and the least key
abbrev pub client_after : ℕ → PendingShare → ℕ
client_after least share = share.client + 1

abbrev pub key_after : Key → PendingKey → Key
key_after least key = record { group = key.group + 1; plane = key.plane }

-- whether a key is not before another, by plane, then group
abbrev pub is_from : Key → Key → Bool
is_from least key = nat_lt least.plane key.plane || ((least.plane == key.plane) && nat_le least.group key.group)

abbrev pub key_of : PendingKey → Key
key_of key = record { group = key.group; plane = key.plane }

-- the first key of all
abbrev pub first_key : Key
first_key = record { group = 0; plane = 0 }

-- the number of samples that a client sends of a key
abbrev pub sample_count : Sizes → ℕ → ℕ → ℕ
sample_count s rank client = (s.parameters + 2) * width (overlap s rank client)

-- the share of a client from the least on that overlaps the block, with its samples
pub record IsPendingShare (s : Sizes) (rank least : ℕ) (share : PendingShare) : Type 0 where
  pub rises : least ≤ share.client
  pub client : share.client < s.clients
  pub overlaps : overlaps s rank share.client ≡ true
  pub size : length share.samples ≡ sample_count s rank share.client
  pub samples : AllFrom (λ i x. x ≤ 65535) after_one 0 share.samples

-- a key from the least on that isn't marked, with a share or more and not all of them
pub record IsPendingKey (s : Sizes) (rank : ℕ) (marks : List (List ℕ)) (least : Key) (key : PendingKey) : Type 0 where
  pub group : key.group < s.groups
  pub plane : key.plane < planes s
  pub rises : is_from least (key_of key) ≡ true
  pub unmarked : is_marked marks (key_of key) ≡ false
  pub life : key.life < 2 ^ 32
  pub some : 1 ≤ length key.shares
  pub fewer : length key.shares < overlapping s rank
  pub shares : AllFrom (IsPendingShare s rank) client_after 0 key.shares

pub record ArePending (s : Sizes) (rank : ℕ) (marks : List (List ℕ)) (pending : List PendingKey) : Type 0 where
  pub few : length pending < 2 ^ 32
  pub keys : AllFrom (IsPendingKey s rank marks) key_after first_key pending

-- A valid state of a rank, where the part of the sums by so many marks a plane is valid.
pub record IsState (IsPart : Sizes → ℕ → List ℕ → List ℕ → Type 0) (s : Sizes) (rank : ℕ) (state : State) : Type 0 where
  pub counts : total_count state.counts ≤ 2 ^ 62
  pub marks : AreMarks s state.marks
  pub part : IsPart s rank (marks_of_planes s state.marks) state.part
  pub pending : ArePending s rank state.marks state.pending
