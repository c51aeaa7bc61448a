-- What state a list of bytes spells, or the first place that is wrong. The fields are tried in the order of the bytes; a rule over several fields is tried behind the last of them.
use Rattle.std.specs.Prelude.{ℕ, ◌-◌, ◌^◌, not, ◌&&◌, List, [], ◌∷◌, length, take, slice_index, Ok, nat_le}
use Rattle.std.specs.Int.{Width, w8, w16, w32, w64}
use Rattle.mls_model.specs.declared.outcomes.Counts.{Counts}
use Rattle.mls_model.specs.Studies.{Sizes, planes}
use Rattle.mls_model.specs.Blocks.{overlaps}
use Rattle.mls_model.specs.Completion.{Key}
use Rattle.mls_ckpt.specs.declared.faults.CkptWhy.TheVariants as why
use Rattle.mls_ckpt.specs.Reading.{Cursor, Read, ◌>>=◌, number_at, fixed_at, end_at, test, rule, many}
use Rattle.mls_ckpt.specs.States.{PendingShare, PendingKey, State, row_len, most_of_byte, is_marked, marks_of_planes, overlapping, after_one, client_after, key_after, is_from, first_key, sample_count}
use Rattle.mls_ckpt.specs.Spellings.{magic, is_read, head_numbers}

-- numbers that are these, each of its width
abbrev pub all_fixed : List (Width × ℕ) → Cursor → Read Cursor
all_fixed [] c = Ok c
all_fixed (number ∷ numbers) c = fixed_at why.Shape number.0 number.1 c >>= all_fixed numbers

-- the head of a study and a rank, and its version
unfoldable pub head_at : Sizes → ℕ → Cursor → Read (ℕ × Cursor)
head_at s rank c = do
  begun ← fixed_at why.Magic w32 magic c
  version ← number_at w16 65535 begun
  known ← test (is_read s version.0) begun.at why.Version
  shaped ← all_fixed (head_numbers version.0 s rank) version.1
  Ok (version.0, shaped)

-- eleven counts that add up to at most 2 ^ 62
abbrev pub counts_from : List ℕ → Counts
counts_from all = record {
  accepted = slice_index all 0;
  kept = slice_index all 1;
  replay = slice_index all 2;
  stale = slice_index all 3;
  repeated = slice_index all 4;
  f1 = slice_index all 5;
  f2 = slice_index all 6;
  f3 = slice_index all 7;
  f4 = slice_index all 8;
  f5 = slice_index all 9;
  f6 = slice_index all 10;
}

abbrev pub room_after : ℕ → ℕ → ℕ
room_after room count = room - count

unfoldable pub counts_at : Cursor → Read (Counts × Cursor)
counts_at c = do
  all ← many (number_at w64) room_after 11 (2 ^ 62) c
  Ok (counts_from all.0, all.1)

-- the bytes of marks of a plane, and of all planes
unfoldable pub marks_row_at : Sizes → Cursor → Read (List ℕ × Cursor)
marks_row_at s c = many (λ i from. number_at w8 (most_of_byte s.groups i) from) after_one (row_len s.groups) 0 c

unfoldable pub marks_at : Sizes → Cursor → Read (List (List ℕ) × Cursor)
marks_at s c = many (λ i from. marks_row_at s from) after_one (planes s) 0 c

-- a client's share, from the least client on
unfoldable pub share_at : Sizes → ℕ → ℕ → Cursor → Read (PendingShare × Cursor)
share_at s rank least c = do
  client ← number_at w16 (s.clients - 1) c
  next ← rule (nat_le least client.0 && overlaps s rank client.0) c.at
  samples ← many (λ i from. number_at w16 65535 from) after_one (sample_count s rank client.0) 0 client.1
  Ok (record { client = client.0; samples = samples.0 }, samples.1)

-- a pending key with its shares, from the least key on
unfoldable pub key_at : Sizes → ℕ → List (List ℕ) → Key → Cursor → Read (PendingKey × Cursor)
key_at s rank marks least c = do
  group ← number_at w32 (s.groups - 1) c
  plane ← number_at w32 (planes s - 1) group.1
  waits ← rule (is_from least (record { group = group.0; plane = plane.0 }) && not (is_marked marks (record { group = group.0; plane = plane.0 }))) group.1.at
  life ← number_at w32 4294967295 plane.1
  count ← number_at w16 (overlapping s rank - 1) life.1
  some ← rule (nat_le 1 count.0) life.1.at
  shares ← many (share_at s rank) client_after count.0 0 count.1
  Ok (record { group = group.0; plane = plane.0; life = life.0; shares = shares.0 }, shares.1)

unfoldable pub pending_at : Sizes → ℕ → List (List ℕ) → Cursor → Read (List PendingKey × Cursor)
pending_at s rank marks c = do
  count ← number_at w32 4294967295 c
  many (key_at s rank marks) key_after count.0 first_key count.1

-- The state that the bytes spell. The part of the sums is read by part_at, for the number of marks of each plane.
unfoldable pub checkpoint_of : (Sizes → ℕ → List ℕ → Cursor → Read Cursor) → Sizes → ℕ → List ℕ → Read State
checkpoint_of part_at s rank bytes = do
  head ← head_at s rank (record { at = 0; left = bytes })
  counts ← counts_at head.1
  marks ← marks_at s counts.1
  summed ← part_at s rank (marks_of_planes s marks.0) marks.1
  pending ← pending_at s rank marks.0 summed
  done ← end_at pending.1
  Ok (record { counts = counts.0; marks = marks.0; part = take (length marks.1.left - length summed.left) marks.1.left; pending = pending.0 })
