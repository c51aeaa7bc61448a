-- How an answer and what stands outside agree with what is right.
use Rattle.std.specs.Prelude.{◌≡◌, ℕ, ◌≤◌, ◌<◌, Bool, List, length, Option, None, Some, Result, Ok, Err, IsOkAnd, IsTrue, ◌⊎◌, ⊤}
use Rattle.mls_base.specs.Told.{Names, MayCease, Rose}
use Rattle.mls_text.specs.Writing.{SinkState, Wrote, FailedAfter}
use Rattle.mls_model.specs.Numbers.{element}
use Rattle.mls_model.specs.Studies.{Sizes, Study}
use Rattle.mls_model.specs.Lanes.{Lane}
use Rattle.mls_model.specs.Standing.{Table}
use Rattle.mls_model.specs.ResultText.{lines_of, histories_of}
use Rattle.mls_design.specs.TrialText.{groups_line, groups_text}
use Rattle.mls_ckpt.specs.Reading.{Cursor, Read}
use Rattle.mls_ckpt.specs.declared.faults.CkptWhy.TheVariants.{Absent}
use Rattle.mls_ckpt.specs.CellParts.{sums_part, part_at as sums_at}
use Rattle.mls_field.specs.contracts.field.FieldRowFold.TheImpl.{ghosts as field_ghosts}
use Rattle.mls_hist.specs.HistPart.{hist_part, part_at as hist_at}
use Rattle.mls_hist.specs.contracts.hist.HistRowFold.TheImpl.{ghosts as hist_ghosts}
use Rattle.mls_book.specs.Keepers.{KeeperState, AreSure, AtRank, HaveRun, EndedAt, HasFailed, HasGivenNone}
use Rattle.mls_replay.specs.Folding.{OfCores}
use Rattle.mls_bins.specs.Folding.{BinsOfCores}
use Rattle.mls_trial.specs.Folding.{TrialOfCores}
use Rattle.mls_export.specs.Files.{AreSaved, SaveFailedBehind}
use Rattle.mls_model.specs.Histories.{LaneEvent}
use Rattle.mls_resumed.specs.GoingOn.{AllOpen, HaveGoneOn, StoppedAt as RankStoppedAt, resumed_text}
use Rattle.mls_export.specs.Exports.{ExportedTo, GetFailed, HasGiven, HasGivenBytes, IsKept, Stopped, StoppedAt}
use Rattle.mls_cli.specs.declared.words.NamePair.{NamePair}
use Rattle.mls_cli.specs.Fold.{Ending, results, histograms, summary, Folded, folded_histories}
use Rattle.mls_cli.specs.Tasks.{Exported, Resumed, resumed_histories, Task, nothing, folding, exporting, resuming, Saving, saves_none, saves_made, saves_states}
use Rattle.mls_cli.specs.Export.{AreTold, AllHold, IsEmptyAt}
use Rattle.mls_cli.specs.Trial.{folded_tape, folded_schedule}
use Rattle.mls_cli.specs.Saving.{SavedPair, SavedTapeAtMost, StoppedSaving}
use Rattle.mls_launch.specs.declared.faults.OutFault.{OutFault}
use Rattle.mls_launch.specs.declared.faults.OutFault.TheVariants as out
use Rattle.mls_result.specs.declared.status.Status.{Status}
use Rattle.mls_result.specs.declared.status.Status.TheVariants as status
use Rattle.mls_export.specs.Files.{FileState}

-- what the keepers leave of a fold or of a resume is known, and what they hold for an export
abbrev pub IsSure : Task → List KeeperState → Type 0
IsSure nothing keepers = ⊤
IsSure (folding f) keepers = AreSure (folded_histories f) keepers
IsSure (exporting e) keepers = AreTold e.ranks keepers
IsSure (resuming r) keepers = AreSure (resumed_histories r) keepers

-- The text is known of the words and the files alone. That of a resume is said over the histories that stood before.
abbrev pub IsTextSure : Task → List KeeperState → Type 0
IsTextSure nothing keepers = ⊤
IsTextSure (folding f) keepers = AreSure (folded_histories f) keepers
IsTextSure (exporting e) keepers = AreTold e.ranks keepers
IsTextSure (resuming r) keepers = ⊥

-- the keepers hold what an export is to save
abbrev pub IsHeld : Task → List KeeperState → Type 0
IsHeld (exporting e) keepers = AllHold e.ranks keepers
IsHeld task keepers = ⊤

-- A save of the tape or of the schedule failed before the fold: nothing was written and no keeper was called. The files were not
-- sound, and the tape may be saved.
pub record SaveFailed (names : NamePair) (tape : List ℕ) (files files' : FileState) (out out' : SinkState) (keepers keepers' : List KeeperState) : Type 0 where
  pub left : StoppedSaving names tape files.held files'.held
  pub rose : Rose files.save_faults files'.save_faults
  pub unsound : IsTrue files.sound → ⊥
  pub unwritten : out' ≡ out
  pub uncalled : keepers' ≡ keepers

-- A save of an export failed at some rank. The files of the ranks below are saved, and the keepers up to that rank gave what they hold.
abbrev pub ExportFailed : Exported → (files files' : FileState) (keepers keepers' : List KeeperState) → Type 0
ExportFailed e files files' keepers keepers' = Stopped e.ranks (λ lists. SaveFailedBehind e.prefix lists files files') HasGivenBytes keepers keepers'

-- a save failed of a command that saves what it folds under names, or of an export; no other command saves
abbrev pub SaveFails : Saving → Task → (files files' : FileState) (out out' : SinkState) (keepers keepers' : List KeeperState) → Type 0
SaveFails (saves_made names) (folding f) files files' out out' keepers keepers' = SaveFailed names (folded_tape f) files files' out out' keepers keepers'
SaveFails saves_states (exporting e) files files' out out' keepers keepers' = ExportFailed e files files' keepers keepers'
SaveFails saved task files files' out out' keepers keepers' = ⊥

-- After Done the sink has gained the text that is right and nothing else, after a failed write a front of it, where it is sure
-- what the keepers leave, or a save before it failed. After every other answer the sink is as before. A fault of a keeper comes
-- only where there is a text, and a bad checkpoint where there is one or it is the refusal that is right. A failed read of sound files
-- is that refusal, and so is each other answer but want of memory.
abbrev pub Answers : (sound : Bool) (unsaved sure : Type 0) → Result (List ℕ) Status → SinkState → SinkState → Status → Type 0
Answers sound unsaved sure right old new status.Done = IsOkAnd right (λ text. sure → Wrote old new text)
Answers sound unsaved sure right old new status.WriteFault = IsOkAnd right (λ text. unsaved ⊎ (sure → FailedAfter old new text))
Answers sound unsaved sure right old new (status.KeeperFault rank) = IsOkAnd right (λ text. ⊤) × (new ≡ old)
Answers sound unsaved sure right old new (status.CheckpointBad rank at why) = (IsOkAnd right (λ text. ⊤) ⊎ (right ≡ Err (status.CheckpointBad rank at why))) × (new ≡ old)
Answers sound unsaved sure right old new status.Memory = new ≡ old
Answers sound unsaved sure right old new status.ReadFault = (IsTrue sound → right ≡ Err status.ReadFault) × (new ≡ old)
Answers sound unsaved sure right old new answer = (right ≡ Err answer) × (new ≡ old)

-- some cores of the study, whose text with these lanes, by the fold's ending, goes out so
abbrev pub OfEnding : Ending → Study → List Lane → (goes : List ℕ → Type 0) → Type 0
OfEnding results study lanes goes = OfCores field_ghosts study (lines_of lanes) goes
OfEnding histograms study lanes goes = BinsOfCores hist_ghosts study (lines_of lanes) goes
OfEnding (summary number) study lanes goes = TrialOfCores field_ghosts study number lanes goes

-- Whatever the keepers tell, what a fold or a resume appended is the text of some cores of the study and of the tape's lanes, and after a
-- failed write a front of such a text, or a save before it failed. An export leaves the sink as it was.
abbrev pub IsOfCores : (unsaved : Type 0) → Task → SinkState → SinkState → Status → Type 0
IsOfCores unsaved nothing old new answer = ⊤
IsOfCores unsaved (folding f) old new status.Done = OfEnding f.ending f.study f.lanes (Wrote old new)
IsOfCores unsaved (folding f) old new status.WriteFault = unsaved ⊎ OfEnding f.ending f.study f.lanes (FailedAfter old new)
IsOfCores unsaved (folding f) old new answer = ⊤
IsOfCores unsaved (exporting e) old new answer = new ≡ old
IsOfCores unsaved (resuming r) old new status.Done = OfEnding results r.study r.lanes (Wrote old new)
IsOfCores unsaved (resuming r) old new status.WriteFault = OfEnding results r.study r.lanes (FailedAfter old new)
IsOfCores unsaved (resuming r) old new answer = ⊤

-- the part of a checkpoint that has what is folded, by the fold's ending: its spelling, and the place behind it
abbrev pub ending_part : Ending → Sizes → ℕ → Table → List ℕ
ending_part results = sums_part
ending_part histograms = hist_part
ending_part (summary number) = sums_part

abbrev pub ending_at : Ending → Sizes → ℕ → List ℕ → Cursor → Read Cursor
ending_at results = sums_at
ending_at histograms = hist_at
ending_at (summary number) = sums_at

-- Where something was folded, each keeper ran over its rank's whole history, or a save before it failed; after a rank's fault the
-- keepers below it did, and those above it are as before. A fault of a keeper comes of a fold alone.
abbrev pub FoldLeaves : (unsaved : Type 0) → Folded → List KeeperState → List KeeperState → Status → Type 0
FoldLeaves unsaved f old new status.Done = HaveRun (ending_part f.ending) f.study.sizes (folded_histories f) f.study.sizes.ranks old new
FoldLeaves unsaved f old new status.WriteFault = unsaved ⊎ HaveRun (ending_part f.ending) f.study.sizes (folded_histories f) f.study.sizes.ranks old new
FoldLeaves unsaved f old new (status.KeeperFault rank) = EndedAt (ending_part f.ending) f.study.sizes (folded_histories f) rank (HasFailed (folded_histories f rank)) old new
FoldLeaves unsaved f old new (status.CheckpointBad rank at why) = EndedAt (ending_part f.ending) f.study.sizes (folded_histories f) rank (HasGivenNone (ending_at f.ending) f.study.sizes rank at why (folded_histories f rank)) old new
FoldLeaves unsaved f old new answer = ⊤

-- no keeper was called; a checkpoint is bad only as the refusal that is right
abbrev pub OtherLeaves : (right : Result (List ℕ) Status) → List KeeperState → List KeeperState → Status → Type 0
OtherLeaves right old new (status.KeeperFault rank) = ⊥
OtherLeaves right old new (status.CheckpointBad rank at why) = (right ≡ Err (status.CheckpointBad rank at why)) × (new ≡ old)
OtherLeaves right old new answer = new ≡ old

-- the histories that the lists of a resume may go on from
abbrev pub opens_of : Resumed → ℕ → List LaneEvent → Type 0
opens_of r = AllOpen field_ghosts r.study.sizes r.openings

-- After a resume each keeper went over the events of its rank in this run, as after a fold. What it holds is the checkpoint of what
-- stood before, a save and these events up to the last save.
abbrev pub ResumeLeaves : Resumed → List KeeperState → List KeeperState → Status → Type 0
ResumeLeaves r old new status.Done = HaveGoneOn sums_part r.study.sizes (opens_of r) (resumed_histories r) r.study.sizes.ranks old new
ResumeLeaves r old new status.WriteFault = HaveGoneOn sums_part r.study.sizes (opens_of r) (resumed_histories r) r.study.sizes.ranks old new
ResumeLeaves r old new (status.KeeperFault rank) = RankStoppedAt sums_part r.study.sizes (opens_of r) (resumed_histories r) rank (HasFailed (resumed_histories r rank)) old new
ResumeLeaves r old new (status.CheckpointBad rank at why) = RankStoppedAt sums_part r.study.sizes (opens_of r) (resumed_histories r) rank (HasGivenNone sums_at r.study.sizes rank at why (resumed_histories r rank)) old new
ResumeLeaves r old new answer = ⊤

abbrev pub KeepersAnswer : (unsaved : Type 0) → (right : Result (List ℕ) Status) → Task → List KeeperState → List KeeperState → Status → Type 0
KeepersAnswer unsaved right nothing old new answer = OtherLeaves right old new answer
KeepersAnswer unsaved right (folding f) old new answer = FoldLeaves unsaved f old new answer
KeepersAnswer unsaved right (exporting e) old new answer = ⊤
KeepersAnswer unsaved right (resuming r) old new answer = ResumeLeaves r old new answer

-- What a resume writes: for all histories that the lists open with, the text over each of them, a save and the events of this run,
-- where it is sure what the keepers leave.
abbrev pub ResumeWrites : Resumed → List KeeperState → (goes : List ℕ → Type 0) → Type 0
ResumeWrites r keepers goes = (before : ℕ → List LaneEvent) → ((rank : ℕ) → rank < r.study.sizes.ranks → opens_of r rank (before rank)) → AreSure (resumed_histories r) keepers → goes (resumed_text r.study r.lanes r.orders before)

abbrev pub ResumeAnswer : Task → SinkState → SinkState → List KeeperState → Status → Type 0
ResumeAnswer (resuming r) old new keepers status.Done = ResumeWrites r keepers (Wrote old new)
ResumeAnswer (resuming r) old new keepers status.WriteFault = ResumeWrites r keepers (FailedAfter old new)
ResumeAnswer task old new keepers answer = ⊤

-- An export that ran out of memory: before it began, or at some rank. The files of the ranks below are saved, and nothing failed.
abbrev pub ExportWants : Exported → (files files' : FileState) (keepers keepers' : List KeeperState) → Type 0
ExportWants e files files' keepers keepers' = ((files'.held ≡ files.held) × (keepers' ≡ keepers)) ⊎ Stopped e.ranks (λ lists. AreSaved e.prefix lists files files') IsKept keepers keepers'

-- What an export leaves of the files and of the keepers. What each rank's keeper gave is saved, each before the next keeper is
-- asked. A rank is refused exactly where its keeper's get failed, or gave nothing.
abbrev pub ExportLeaves : Exported → (files files' : FileState) (keepers keepers' : List KeeperState) → Status → Type 0
ExportLeaves e files files' keepers keepers' status.Done = ExportedTo e.ranks e.prefix files files' keepers keepers'
ExportLeaves e files files' keepers keepers' (status.KeeperFault rank) = StoppedAt rank e.ranks (λ lists. AreSaved e.prefix lists files files') GetFailed keepers keepers'
ExportLeaves e files files' keepers keepers' (status.CheckpointBad rank at why) = (at ≡ 0) × ((why ≡ Absent) × StoppedAt rank e.ranks (λ lists. AreSaved e.prefix lists files files') (HasGiven None) keepers keepers')
ExportLeaves e files files' keepers keepers' status.WriteFault = ExportFailed e files files' keepers keepers'
ExportLeaves e files files' keepers keepers' status.Memory = ExportWants e files files' keepers keepers'
ExportLeaves e files files' keepers keepers' answer = keepers' ≡ keepers

abbrev pub ExportAnswer : Task → (files files' : FileState) (keepers keepers' : List KeeperState) → Status → Type 0
ExportAnswer (exporting e) files files' keepers keepers' answer = ExportLeaves e files files' keepers keepers' answer
ExportAnswer task files files' keepers keepers' answer = ⊤

-- What is held where all is saved that is to be, and what may be where memory ran out. Of an export that is said with its keepers.
abbrev pub AllSaved : Saving → Task → Option Names → Option Names → Type 0
AllSaved saved (exporting e) old new = ⊤
AllSaved (saves_made names) (folding f) old new = SavedPair names (folded_tape f) (folded_schedule f) old new
AllSaved saved task old new = new ≡ old

abbrev pub MaybeSaved : Saving → Task → Option Names → Option Names → Type 0
MaybeSaved saved (exporting e) old new = ⊤
MaybeSaved (saves_made names) (folding f) old new = SavedTapeAtMost names (folded_tape f) old new ⊎ SavedPair names (folded_tape f) (folded_schedule f) old new
MaybeSaved saved task old new = new ≡ old

-- What the files hold. All is saved before a fold begins, and nothing where the command is refused. After a failed read nothing may
-- be told any more.
abbrev pub FilesAnswer : (unsaved : Type 0) → Saving → Task → Option Names → Option Names → Status → Type 0
FilesAnswer unsaved saved task old new status.Done = AllSaved saved task old new
FilesAnswer unsaved saved task old new status.WriteFault = unsaved ⊎ AllSaved saved task old new
FilesAnswer unsaved saved task old new (status.KeeperFault rank) = AllSaved saved task old new
FilesAnswer unsaved saved task old new (status.CheckpointBad rank at why) = AllSaved saved task old new
FilesAnswer unsaved saved task old new status.Memory = MaybeSaved saved task old new
FilesAnswer unsaved saved task old new status.ReadFault = MayCease old new
FilesAnswer unsaved saved task old new answer = new ≡ old

-- The line groups of a trial's summary has the study's number of groups twice.
abbrev pub HasAllGroups : Ending → Study → List Lane → List (List ℕ) → Type 0
HasAllGroups results study lanes orders = ⊤
HasAllGroups histograms study lanes orders = ⊤
HasAllGroups (summary number) study lanes orders = groups_line study.sizes (histories_of lanes orders) ≡ groups_text study.sizes.groups study.sizes.groups

-- it does where the text or a front of it was written
abbrev pub GroupsAnswer : Task → Status → Type 0
GroupsAnswer (folding f) status.Done = HasAllGroups f.ending f.study f.lanes f.orders
GroupsAnswer (folding f) status.WriteFault = HasAllGroups f.ending f.study f.lanes f.orders
GroupsAnswer task answer = ⊤

-- a call of the rank's keeper failed
abbrev pub RoseAt : ℕ → List KeeperState → List KeeperState → Type 0
RoseAt rank old new = AtRank rank old new (λ before after. Rose before.faults after.faults)

-- each keeper is sound; none had a call that failed
abbrev pub AreSound : List KeeperState → Type 0
AreSound keepers = (rank : ℕ) (keeper : KeeperState) → element keepers rank ≡ Some keeper → IsTrue keeper.sound

abbrev pub NoneRose : List KeeperState → List KeeperState → Type 0
NoneRose old new = (rank : ℕ) → RoseAt rank old new → ⊥

-- The lists of a resume open with some histories, and the sink takes for sure as many bytes as the text over them has.
pub record TakesResumed (r : Resumed) (out : SinkState) : Type 0 where
  pub before : ℕ → List LaneEvent
  pub opens : (rank : ℕ) → rank < r.study.sizes.ranks → opens_of r rank (before rank)
  pub fits : length (resumed_text r.study r.lanes r.orders before) ≤ out.sure

-- the sink takes for sure as many bytes as the text has, where there is one
abbrev pub TakesText : Task → Result (List ℕ) Status → SinkState → Type 0
TakesText (resuming r) right out = TakesResumed r out
TakesText task (Ok text) out = length text ≤ out.sure
TakesText task (Err refusal) out = ⊤

-- every answer but these two comes before anything is written
abbrev pub IsQuiet : Status → Type 0
IsQuiet status.Done = ⊥
IsQuiet status.WriteFault = ⊥
IsQuiet answer = ⊤

-- the statuses that are refusals of the words or of what was read
abbrev pub IsRefusal : Status → Type 0
IsRefusal status.Done = ⊥
IsRefusal status.WriteFault = ⊥
IsRefusal (status.KeeperFault rank) = ⊥
IsRefusal (status.CheckpointBad rank at why) = ⊥
IsRefusal status.Memory = ⊥
IsRefusal status.ReadFault = ⊥
IsRefusal answer = ⊤

-- the answer is this one, but that memory may be wanting and a read may fail before
abbrev pub IsAnswered : Status → Status → Type 0
IsAnswered refusal answer = (answer ≡ refusal) ⊎ ((answer ≡ status.Memory) ⊎ (answer ≡ status.ReadFault))

-- A refusal is answered exactly where it is the one that is right.
pub record Exactly (right : Result (List ℕ) Status) (refusal answer : Status) : Type 0 where
  pub only : answer ≡ refusal → right ≡ Err refusal
  pub wherever : right ≡ Err refusal → IsAnswered refusal answer

-- there is a text that is right
abbrev pub IsRight : Result (List ℕ) Status → Type 0
IsRight right = IsOkAnd right (λ text. ⊤)

-- the answer that is asked for: that the text was written, or the refusal
abbrev pub asked_status : Result (List ℕ) Status → Status
asked_status (Ok text) = status.Done
asked_status (Err refusal) = refusal

-- Of an export whose inputs are right: that all is saved where the keepers hold it, else the first rank whose keeper holds nothing.
abbrev pub ExportAsks : Exported → List KeeperState → Status → Type 0
ExportAsks e keepers status.Done = AllHold e.ranks keepers
ExportAsks e keepers (status.CheckpointBad rank at why) = IsEmptyAt e.ranks rank at why keepers
ExportAsks e keepers answer = ⊥

abbrev pub Asks : Task → List KeeperState → Result (List ℕ) Status → Status → Type 0
Asks (exporting e) keepers (Ok text) answer = ExportAsks e keepers answer
Asks task keepers right answer = answer ≡ asked_status right

-- that one, or memory is wanting
abbrev pub IsAsked : Task → List KeeperState → Result (List ℕ) Status → Status → Type 0
IsAsked task keepers right answer = Asks task keepers right answer ⊎ (answer ≡ status.Memory)

-- the text was written, or memory is wanting
abbrev pub IsDoneOrMemory : Status → Type 0
IsDoneOrMemory answer = (answer ≡ status.Done) ⊎ (answer ≡ status.Memory)

-- a count of faults of the outside stood still
abbrev pub DidNotRise : ℕ → ℕ → Type 0
DidNotRise before now = Rose before now → ⊥

-- after these answers no keeper was called
abbrev pub IsUncalled : Status → Type 0
IsUncalled status.Done = ⊥
IsUncalled status.WriteFault = ⊥
IsUncalled (status.KeeperFault rank) = ⊥
IsUncalled (status.CheckpointBad rank at why) = ⊥
IsUncalled status.Memory = ⊥
IsUncalled answer = ⊤

-- why a write failed: one of the sink, or a save of a command that saves; an export writes nothing to the sink
abbrev pub WriteFails : Saving → (files files' : FileState) (out out' : SinkState) → Type 0
WriteFails saves_none files files' out out' = Rose out.faults out'.faults
WriteFails (saves_made names) files files' out out' = Rose out.faults out'.faults ⊎ Rose files.save_faults files'.save_faults
WriteFails saves_states files files' out out' = Rose files.save_faults files'.save_faults

-- the count of failed saves: it stands, but that it may rise where a write failed of a command that saves
abbrev pub MayRise : Saving → (before now : ℕ) → Type 0
MayRise saves_none before now = now ≡ before
MayRise saved before now = before ≤ now

abbrev pub SavesCounted : Saving → (before now : ℕ) → Status → Type 0
SavesCounted saved before now status.WriteFault = MayRise saved before now
SavesCounted saved before now answer = now ≡ before

-- no save failed of a command that saves
abbrev pub NoSaveRose : Saving → (before now : ℕ) → Type 0
NoSaveRose saves_none before now = ⊤
NoSaveRose saved before now = DidNotRise before now

-- How a command answers over files that tell what they hold, against the text or the refusal that is right.
pub record TellsRight (saved : Saving) (right : Result (List ℕ) Status) (task : Task) (files files' : FileState) (out out' : SinkState) (keepers keepers' : List KeeperState) (answer : Status) : Type 0 where
  -- the text or the refusal, against what was written
  pub text : Answers files.sound (SaveFails saved task files files' out out' keepers keepers') (IsTextSure task keepers) right out out' answer
  -- what a resume wrote
  pub resumed : ResumeAnswer task out out' keepers answer
  -- what was written, whatever the keepers tell
  pub form : IsOfCores (SaveFails saved task files files' out out' keepers keepers') task out out' answer
  -- the keepers after it
  pub leaves : KeepersAnswer (SaveFails saved task files files' out out' keepers keepers') right task keepers keepers' answer
  -- the files after it
  pub stored : FilesAnswer (SaveFails saved task files files' out out' keepers keepers') saved task files.held files'.held answer
  -- the files and the keepers after an export
  pub exported : ExportAnswer task files files' keepers keepers' answer
  -- the line groups of a trial
  pub all_groups : GroupsAnswer task answer

-- How a command answers that is to write what the held files ask for, the text or the refusal, by a fold or without one, and to save
-- what it folds under these names.
pub record Carries (saved : Saving) (asked : Names → Result (List ℕ) Status) (task : Names → Task) (files files' : FileState) (out out' : SinkState) (keepers keepers' : List KeeperState) (answer : Status) : Type 0 where
  pub told : (held : Names) → files.held ≡ Some held → TellsRight saved (asked held) (task held) files files' out out' keepers keepers' answer
  pub read_fault : answer ≡ status.ReadFault → Rose files.load_faults files'.load_faults
  pub write_fault : answer ≡ status.WriteFault → WriteFails saved files files' out out'
  pub keeper_fault : (rank : ℕ) → answer ≡ status.KeeperFault rank → RoseAt rank keepers keepers'
  pub quiet : IsQuiet answer → out'.told ≡ out.told
  pub saves : SavesCounted saved files.save_faults files'.save_faults answer

-- what is answered after a text was made in memory and then written
abbrev pub out_status : {A : Type 0} → Result A OutFault → Status
out_status (Ok done) = status.Done
out_status (Err out.WriteFault) = status.WriteFault
out_status (Err out.Memory) = status.Memory
