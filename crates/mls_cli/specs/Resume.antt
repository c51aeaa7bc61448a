-- What is right of a resume: of the old ranks' files, and of the lists that the ranks go on from.
use Rattle.std.specs.Prelude.{ℕ, zero, suc, ◌+◌, ◌*◌, ◌^◌, ◌==◌, ◌&&◌, Bool, not, cond, List, [], ◌∷◌, ◌++◌, length, map, drop, Option, Some, None, Result, Ok, Err, nat_le, nat_lt}
use Rattle.std.specs.Int.{w16}
use Rattle.std.specs.Option.{option_and_then, option_map, is_some}
use Rattle.mls_base.specs.Told.{Names}
use Rattle.mls_base.specs.Shapes.{with_ranks}
use Rattle.mls_model.specs.Numbers.{below}
use Rattle.mls_model.specs.Studies.{Sizes, Study, planes}
use Rattle.mls_model.specs.Outcomes.{total_count}
use Rattle.mls_model.specs.Lanes.{Lane}
use Rattle.mls_ckpt.specs.Reading.{Read, front}
use Rattle.mls_ckpt.specs.declared.faults.CkptWhy.TheVariants.{Range}
use Rattle.mls_ckpt.specs.CellParts.{part_at}
use Rattle.mls_ckpt.specs.States.{State}
use Rattle.mls_ckpt.specs.Spellings.{counts_list, head_text}
use Rattle.mls_ckpt.specs.Checkpoints.{checkpoint_of}
use Rattle.mls_export.specs.Files.{file_name}
use Rattle.mls_resume.specs.Recut.{has_old, recut_bytes}
use Rattle.mls_result.specs.declared.status.Status.{Status}
use Rattle.mls_result.specs.declared.status.Status.TheVariants as status
use Rattle.mls_result.specs.declared.status.FileRole.TheVariants as role
use Rattle.mls_cli.specs.Inputs.{◌>>=◌, limited, right_study}
use Rattle.mls_cli.specs.Fold.{right_lanes, right_orders}
use Rattle.mls_cli.specs.Tasks.{Resumed}

-- a study can have so many ranks: the limits of its ranks and of its marks
abbrev pub can_have : Sizes → ℕ → Bool
can_have s ranks = nat_le 1 ranks && nat_le ranks 64 && nat_le ranks s.cells && nat_le (s.groups * s.steps * s.fields * ranks) 1073741824

-- the study with the old number of ranks
abbrev pub right_old : Sizes → ℕ → Result Sizes Status
right_old s ranks = cond (can_have s ranks) (Ok (with_ranks s ranks)) (Err (status.OldRanks ranks))

-- the most bytes of a checkpoint's file, and the most events that its rank may have counted
abbrev pub checkpoint_limit : ℕ
checkpoint_limit = 1073741824

abbrev pub counts_limit : ℕ
counts_limit = 2 ^ 61

-- the version of a checkpoint: the number of two bytes behind the first four
abbrev pub version_in : List ℕ → ℕ
version_in bytes = front w16 (drop 4 bytes)

-- which of these counts it is, from 0, with which their sum passes the limit, so much being counted before them
abbrev pub passing_count : ℕ → List ℕ → ℕ
passing_count before [] = 0
passing_count before (n ∷ ns) = cond (nat_lt counts_limit (before + n)) 0 (suc (passing_count (before + n) ns))

-- the first byte of that count
abbrev pub passing_at : Sizes → (rank : ℕ) → List ℕ → State → ℕ
passing_at s rank bytes state = length (head_text (version_in bytes) s rank []) + 8 * passing_count 0 (counts_list state.counts)

-- Bytes that a rank can go on from: a checkpoint of it that counts at most so much. Else the first that is wrong.
abbrev pub opening_answer : Sizes → (rank : ℕ) → List ℕ → Read State → Result (List ℕ) Status
opening_answer s rank bytes (Ok state) = cond (nat_lt counts_limit (total_count state.counts)) (Err (status.CheckpointBad rank (passing_at s rank bytes state) Range)) (Ok bytes)
opening_answer s rank bytes (Err refusal) = Err (status.CheckpointBad rank refusal.at refusal.why)

abbrev pub content_opening : Sizes → (rank : ℕ) → List ℕ → Result (List ℕ) Status
content_opening s rank bytes = opening_answer s rank bytes (checkpoint_of part_at s rank bytes)

-- the bytes of the file of an old rank
unfoldable pub right_file : Sizes → (prefix : List ℕ) → Names → (rank : ℕ) → Result (List ℕ) Status
right_file old prefix held rank = limited role.Checkpoint checkpoint_limit (held (file_name prefix rank)) >>= content_opening old rank

-- those of the first old ranks, the one after the other
abbrev pub right_files : Sizes → (prefix : List ℕ) → Names → (ranks : ℕ) → Result (List (List ℕ)) Status
right_files old prefix held zero = Ok []
right_files old prefix held (suc rank) = right_files old prefix held rank >>= (λ lists. right_file old prefix held rank >>= (λ bytes. Ok (lists ++ bytes ∷ [])))

-- the first of two that is there
abbrev pub first_or : Option ℕ → Option ℕ → Option ℕ
first_or None other = other
first_or (Some n) other = Some n

-- the least number below another of which this is so
abbrev pub first_below : (ℕ → Bool) → ℕ → Option ℕ
first_below is zero = None
first_below is (suc n) = first_or (first_below is n) (cond (is n) (Some n) None)

-- one has a mark that the other lacks
abbrev pub are_two : Bool → Bool → Bool
are_two first other = cond first (not other) other

-- where the marks of an old rank differ from those of rank 0: the first group of a plane, the first plane, the first rank
unfoldable pub differing_group : Sizes → (files : List (List ℕ)) → (other plane : ℕ) → Option ℕ
differing_group old files other plane = first_below (λ group. are_two (has_old old files 0 group plane) (has_old old files other group plane)) old.groups

unfoldable pub differing_plane : Sizes → (files : List (List ℕ)) → (other : ℕ) → Option ℕ
differing_plane old files other = first_below (λ plane. is_some (differing_group old files other plane)) (planes old)

unfoldable pub differing_rank : Sizes → (files : List (List ℕ)) → Option ℕ
differing_rank old files = first_below (λ other. is_some (differing_plane old files other)) old.ranks

-- the refusal of a group, a plane and a rank where they do
abbrev pub refused_at : Sizes → (files : List (List ℕ)) → (other plane group : ℕ) → Status
refused_at old files other plane group = status.MarksDiffer other plane group (has_old old files 0 group plane)

abbrev pub refused_in_plane : Sizes → (files : List (List ℕ)) → (other plane : ℕ) → Option Status
refused_in_plane old files other plane = option_map (refused_at old files other plane) (differing_group old files other plane)

abbrev pub refused_in_rank : Sizes → (files : List (List ℕ)) → (other : ℕ) → Option Status
refused_in_rank old files other = option_and_then (refused_in_plane old files other) (differing_plane old files other)

abbrev pub refused_marks : Sizes → (files : List (List ℕ)) → Option Status
refused_marks old files = option_and_then (refused_in_rank old files) (differing_rank old files)

-- the lists of all ranks, cut anew from those of the old ranks where these have the same marks
abbrev pub recut_or : List (List ℕ) → Option Status → Result (List (List ℕ)) Status
recut_or lists None = Ok lists
recut_or lists (Some refusal) = Err refusal

unfoldable pub right_lists : (s old : Sizes) → (files : List (List ℕ)) → Result (List (List ℕ)) Status
right_lists s old files = cond (s.ranks == old.ranks) (Ok files) (recut_or (map (recut_bytes s old files) (below s.ranks)) (refused_marks old files))

-- what the ranks of a study go on from: the files of so many old ranks, where there are as many ranks now, else what is cut from them
unfoldable pub right_openings : Sizes → (ranks : ℕ) → (prefix : List ℕ) → Names → Result (List (List ℕ)) Status
right_openings s ranks prefix held = do
  old ← right_old s ranks
  files ← right_files old prefix held old.ranks
  right_lists s old files

abbrev pub resumed_over : Study → (openings : List (List ℕ)) → List Lane → (orders : List (List ℕ)) → Resumed
resumed_over study openings lanes orders = record { study = study; openings = openings; lanes = lanes; orders = orders }

-- What a resume of these names is carried out over. The study is tried first, then the old number of ranks, the files in rising rank,
-- the marks, the tape and the schedule.
unfoldable pub right_resume : (study : List ℕ) (ranks : ℕ) (prefix tape : List ℕ) (schedule : Option (List ℕ)) → Names → Result Resumed Status
right_resume study_name ranks prefix tape_name schedule_name held = do
  study ← right_study study_name held
  openings ← right_openings study.sizes ranks prefix held
  lanes ← right_lanes study tape_name held
  orders ← right_orders study.sizes.ranks lanes schedule_name held
  Ok (resumed_over study openings lanes orders)
