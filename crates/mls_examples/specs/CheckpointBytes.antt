-- The checkpoint of a rank that accepted one piece, in each version, and lists with one place changed.
use Rattle.std.specs.Prelude.{◌≡◌, ℕ, Ok, List, [], ◌∷◌, map, slice_set, take, drop, true}
use Rattle.std.specs.Int.{bytes_high_first}
use Rattle.mls_model.specs.declared.lanes.LaneKind.TheVariants.{Client}
use Rattle.mls_model.specs.Numbers.{joined}
use Rattle.mls_model.specs.Studies.{Sizes}
use Rattle.mls_model.specs.Frames.{piece}
use Rattle.mls_model.specs.Histories.{LaneEvent}
use Rattle.mls_ckpt.specs.declared.faults.CkptWhy.{CkptWhy}
use Rattle.mls_ckpt.specs.declared.faults.CkptWhy.TheVariants as why
use Rattle.mls_ckpt.specs.Reading.{Read, refused}
use Rattle.mls_ckpt.specs.States.{State}
use Rattle.mls_ckpt.specs.Checkpoints.{checkpoint_of}
use Rattle.mls_ckpt.specs.CellParts.{part_at, sums_part}
use Rattle.mls_ckpt.specs.Histories.{checkpoint, state_after}
use Rattle.mls_examples.specs.Small.{one_cell}
use Rattle.mls_examples.specs.Assembly.{part_piece, two_clients}
use Rattle.mls_examples.specs.Crashes.{the_piece}

-- so many bytes, written as one number
abbrev pub row : ℕ → ℕ → List ℕ
row size number = bytes_high_first size number

abbrev pub version_3 : List ℕ
version_3 =
    joined (row 32 0x4d434b5000030000000001000000010000000100000002000000010000000100
    ∷ row 32 0x0000010000000000000000000000000100000000000000000000000000000000
    ∷ row 32 0x0000000000000000000000000000000000000000000000000000000000000000
    ∷ row 32 0x0000000000000000000000000000000000000000000000000000000000000000
    ∷ row 32 0x010000000000000004000000000000000a000000000000000000000000000000
    ∷ row 32 0x1c00000000000000000000000000000052000100030000000000000001000000
    ∷ row 32 0x0000000003000000000000000100000000000000090000000000000003000000
    ∷ row 25 0x00000000090000000000000003000000000000000900000000
    ∷ [])

abbrev pub version_2 : List ℕ
version_2 =
    joined (row 32 0x4d434b5000020000000001000000010000000200000001000000010000000100
    ∷ row 32 0x0000000000000000000000010000000000000000000000000000000000000000
    ∷ row 32 0x0000000000000000000000000000000000000000000000000000000000000000
    ∷ row 32 0x0000000000000000000000000000000000000000000000000000000001000000
    ∷ row 32 0x0000000004000000000000000a0000000000000000000000000000001c000000
    ∷ row 32 0x0000000000000000000000005200010003000000000000000100000000000000
    ∷ row 32 0x0300000000000000010000000000000009000000000000000300000000000000
    ∷ row 21 0x090000000000000003000000000000000900000000
    ∷ [])

abbrev pub version_1 : List ℕ
version_1 =
    joined (row 32 0x4d434b5000010000000100000001000000020000000100000001000000010000
    ∷ row 32 0x0000000000000000000001000000000000000000000000000000000000000000
    ∷ row 32 0x0000000000000000000000000000000000000000000000000000000000000000
    ∷ row 32 0x0000000000000000000000000000000000000000000000000000000100000000
    ∷ row 32 0x00000004000000000000000a0000000000000000000000000000001c00000000
    ∷ row 32 0x0000000000000000000000520001000300000000000000010000000000000003
    ∷ row 32 0x0000000000000001000000000000000900000000000000030000000000000009
    ∷ row 20 0x0000000000000003000000000000000900000000
    ∷ [])

abbrev pub older_versions : List (List ℕ)
older_versions = version_2 ∷ version_1 ∷ []

abbrev pub all_versions : List (List ℕ)
all_versions = version_3 ∷ older_versions

-- the history of which they are the state
abbrev pub one_piece : List LaneEvent
one_piece = the_piece ∷ []

-- what a rank with the sums of each cell reads and writes
abbrev pub read : Sizes → List ℕ → Read State
read s bytes = checkpoint_of part_at s 0 bytes

abbrev pub saved : Sizes → List LaneEvent → List ℕ
saved s history = checkpoint sums_part s 0 history

-- a place, the byte that is put there, and the place that is refused for it
pub record Change : Type 0 where
  pub place : ℕ
  pub byte : ℕ
  pub at : ℕ

abbrev pub change : ℕ → ℕ → ℕ → Change
change place byte at = record { place = place; byte = byte; at = at }

abbrev pub changed : List ℕ → Change → List ℕ
changed bytes c = slice_set bytes c.place c.byte

-- what each change of the bytes is answered, and the refusals for one reason
abbrev pub answers : Sizes → List ℕ → List Change → List (Read State)
answers s bytes changes = map (λ (c : Change). read s (changed bytes c)) changes

abbrev pub refusals : CkptWhy → List Change → List (Read State)
refusals why changes = map (λ (c : Change). refused c.at why) changes

abbrev pub AreRefused : CkptWhy → Sizes → List ℕ → List Change → Type 0
AreRefused why s bytes changes = answers s bytes changes ≡ refusals why changes

-- the fronts of the bytes up to these places are too short, where they are refused
abbrev pub AreShort : Sizes → List ℕ → List Change → Type 0
AreShort s bytes changes = map (λ (c : Change). read s (take c.place bytes)) changes ≡ refusals why.Short changes

-- what was saved after a history is read as the state after it
abbrev pub IsReadBack : Sizes → List LaneEvent → Type 0
IsReadBack s history = read s (saved s history) ≡ Ok (state_after sums_part s 0 history)

-- the small study
abbrev pub one_study : Sizes
one_study = one_cell 2

-- the state of which the first bytes are
abbrev pub saved_state : State
saved_state = record {
  counts = record { accepted = 1; kept = 0; replay = 0; stale = 0; repeated = 0; f1 = 0; f2 = 0; f3 = 0; f4 = 0; f5 = 0; f6 = 0 };
  marks = (1 ∷ []) ∷ [];
  part = take 116 (drop 129 version_3);
  pending = [];
}

-- the same study with a second field, and with signed samples
abbrev pub two_fields : Sizes
two_fields = record one_study { fields = 2 }

abbrev pub signed : Sizes
signed = record one_study { signed = true }

-- the head, the counts and the marks of 249 bytes: samples, cells, steps, fields, groups, parameters, ranks, clients, rank, number of thresholds; and the same head in versions 2 and 1
abbrev pub other_shapes : List Change
other_shapes = change 6 1 6 ∷ change 10 2 7 ∷ change 14 2 11 ∷ change 18 2 15 ∷ change 22 3 19 ∷ change 26 2 23 ∷ change 30 2 27 ∷ change 34 2 31 ∷ change 38 1 35 ∷ change 39 1 39 ∷ change 5 2 15 ∷ change 5 1 6 ∷ []

-- the fourth byte of MCKP, and version 0
abbrev pub other_magic : List Change
other_magic = change 0 0 0 ∷ change 3 81 0 ∷ []

abbrev pub other_versions : List Change
other_versions = change 5 0 4 ∷ change 5 4 4 ∷ change 4 1 4 ∷ []

-- the accepted count 2 ^ 62 + 1, the kept count 2 ^ 62, and the last count 2 ^ 62; a mark of a third group
abbrev pub other_counts : List Change
other_counts = change 40 64 40 ∷ change 48 64 48 ∷ change 120 64 120 ∷ change 128 4 128 ∷ []

-- P1 16,777,220, P2 16,777,226 and 7, P3 16,777,244, P4 16,777,298
abbrev pub other_powers : List Change
other_powers = change 133 1 129 ∷ change 141 1 137 ∷ change 144 7 137 ∷ change 157 1 145 ∷ change 173 1 161 ∷ []

-- the least above the greatest: least 4, greatest 0
abbrev pub other_extrema : List Change
other_extrema = change 178 4 177 ∷ change 180 0 177 ∷ []

-- ΣA 65,537 and 2, ΣB 65,539 and 4, ΣAA 65,537, 0 and 2, ΣBB 16,777,225 and 8
abbrev pub other_totals : List Change
other_totals = change 186 1 181 ∷ change 188 2 181 ∷ change 194 1 189 ∷ change 196 4 181 ∷ change 202 1 197 ∷ change 204 0 197 ∷ change 204 2 197 ∷ change 209 1 205 ∷ change 212 8 205 ∷ []

-- ΣA 2, so that P1 isn't ΣA + ΣB, and behind it ΣB 65,539
abbrev pub two_wrong_sums : List ℕ
two_wrong_sums = changed (changed version_3 (change 188 2 181)) (change 194 1 189)

-- least 4 above greatest 3, and the bytes end before the greatest
abbrev pub wrong_least_at_the_end : List ℕ
wrong_least_at_the_end = take 179 (changed version_3 (change 178 4 177))

-- ΣC 65,539, ΣCC 16,777,225 and 8, ΣAC 4, ΣBC 8
abbrev pub other_columns : List Change
other_columns = change 218 1 213 ∷ change 225 1 221 ∷ change 228 8 221 ∷ change 236 4 229 ∷ change 244 8 237 ∷ []

-- no accepted group: least and greatest, ΣA and ΣAC
abbrev pub other_sums_of_none : List Change
other_sums_of_none = change 178 0 177 ∷ change 180 1 177 ∷ change 188 1 181 ∷ change 236 1 229 ∷ change 244 1 237 ∷ []

-- the beginning of each of some numbers less a byte or whole: magic, version, samples, rank, a count, marks, P3, ΣBC, number of keys
abbrev pub short_fronts : List Change
short_fronts = change 0 0 0 ∷ change 3 0 0 ∷ change 5 0 4 ∷ change 6 0 6 ∷ change 38 0 35 ∷ change 47 0 40 ∷ change 128 0 128 ∷ change 160 0 145 ∷ change 244 0 237 ∷ change 248 0 245 ∷ []

-- two thresholds, 0 and 2
abbrev pub two_thresholds : Sizes
two_thresholds = record one_study { thresholds = 0 ∷ 2 ∷ [] }

-- the number above 0 is 3 of two samples; the number above 2 is 3, and 1 behind 0
abbrev pub other_above : List Change
other_above = change 188 3 185 ∷ change 192 3 189 ∷ change 188 0 189 ∷ []

-- what a client sends of a group, of one cell
abbrev pub part_event : ℕ → ℕ → LaneEvent
part_event client group = record { kind = Client; frame = piece (record (part_piece client 1 (1 ∷ 3 ∷ 3 ∷ [])) { group = group }) }

-- two clients: a key waits for the second; a key is marked and one waits; two keys wait
abbrev pub two_parts : Sizes
two_parts = two_clients.sizes

abbrev pub one_waits : List LaneEvent
one_waits = part_event 0 0 ∷ []

abbrev pub one_marked_one_waits : List LaneEvent
one_marked_one_waits = part_event 0 0 ∷ part_event 1 0 ∷ part_event 0 1 ∷ []

abbrev pub two_wait : List LaneEvent
two_wait = part_event 0 0 ∷ part_event 0 1 ∷ []

-- group 2, plane 1, no client, both clients, client 2
abbrev pub other_keys : List Change
other_keys = change 368 2 365 ∷ change 372 1 369 ∷ change 378 0 377 ∷ change 378 2 377 ∷ change 380 2 379 ∷ []

-- the waiting key is the marked one
abbrev pub marked_keys : List Change
marked_keys = change 368 0 369 ∷ []

-- the second key is the first, and the first the second
abbrev pub falling_keys : List Change
falling_keys = change 390 0 391 ∷ change 368 1 391 ∷ []

-- four clients and two ranks: clients 2 and 3 have no cell of rank 0
abbrev pub four_parts : Sizes
four_parts = record two_parts { cells = 4; ranks = 2; clients = 4 }

abbrev pub clients_elsewhere : List Change
clients_elsewhere = change 380 2 379 ∷ change 380 3 379 ∷ []

-- three clients, of which two sent their shares: all three of them, and the second client is the first
abbrev pub three_parts : Sizes
three_parts = record two_parts { cells = 3; clients = 3 }

abbrev pub two_of_three : List LaneEvent
two_of_three = part_event 0 0 ∷ part_event 1 0 ∷ []

abbrev pub falling_clients : List Change
falling_clients = change 494 3 493 ∷ change 504 0 503 ∷ change 496 1 503 ∷ []
