-- What a command answers, from how its inputs were loaded and its text was written.
use Rattle.std.proofs.Common.{◌≡◌, ℕ, Bool, true, List, Option, Result, Ok, Err, refl, sym, ap, subst, inl, inr}
use Rattle.std.specs.Prelude.{⊤}
use Rattle.mls_base.specs.Told.{Names, Rose}
use Rattle.mls_text.specs.Writing.{SinkState}
use Rattle.mls_launch.specs.Writing.{WritesOut}
use Rattle.mls_launch.specs.declared.faults.OutFault.{OutFault}
use Rattle.mls_launch.specs.declared.faults.OutFault.TheVariants.{WriteFault, Memory}
use Rattle.mls_book.specs.Keepers.{KeeperState}
use Rattle.mls_ckpt.specs.declared.faults.CkptWhy.{CkptWhy}
use Rattle.mls_result.specs.declared.status.Status.{Status}
use Rattle.mls_result.specs.declared.status.Status.TheVariants as status
use Rattle.mls_cli.specs.declared.refusal.Refusal.{Refusal}
use Rattle.mls_cli.specs.declared.refusal.Refusal.TheVariants as refusal
use Rattle.mls_cli.specs.Tasks.{Task, nothing, folding, exporting, resuming, Saving, saves_none, saves_made, saves_states}
use Rattle.mls_cli.specs.Answers.{AllSaved, Answers, Carries, ExportAnswer, FilesAnswer, GroupsAnswer, IsOfCores, IsTextSure, KeepersAnswer, MaybeSaved, ResumeAnswer, SaveFails, SavesCounted, out_status}
use Rattle.mls_export.specs.Files.{FileState}
use Rattle.mls_cli.specs.Refusals.{IsRefused, Counts, Leaves, Loads, status_of}

refused_answers : (sound : Bool) (unsaved sure : Type 0) (r : Refusal) (right : Result (List ℕ) Status) (old : SinkState) → IsRefused sound r right → Answers sound unsaved sure right old old (status_of r)
refused_answers sound unsaved sure refusal.ReadFault right old is = (is, refl)
refused_answers sound unsaved sure refusal.Memory right old is = refl
refused_answers sound unsaved sure (refusal.Study fault) right old is = (is, refl)
refused_answers sound unsaved sure (refusal.Tape at why) right old is = (is, refl)
refused_answers sound unsaved sure (refusal.Schedule line why) right old is = (is, refl)
refused_answers sound unsaved sure (refusal.TooLong file) right old is = (is, refl)
refused_answers sound unsaved sure (refusal.Events line) right old is = (is, refl)
refused_answers sound unsaved sure refusal.TooLarge right old is = (is, refl)
refused_answers sound unsaved sure (refusal.OldRanks ranks) right old is = (is, refl)
refused_answers sound unsaved sure (refusal.CheckpointBad rank at why) right old is = (inr is, refl)
refused_answers sound unsaved sure (refusal.MarksDiffer other plane group first_has) right old is = (is, refl)

-- of a refusal nothing is said of cores, and each keeper is as it was
refused_form : (unsaved : Type 0) (task : Task) (r : Refusal) (out : SinkState) → IsOfCores unsaved task out out (status_of r)
refused_form unsaved nothing r out = tt
refused_form unsaved (folding f) refusal.ReadFault out = tt
refused_form unsaved (folding f) refusal.Memory out = tt
refused_form unsaved (folding f) (refusal.Study fault) out = tt
refused_form unsaved (folding f) (refusal.Tape at why) out = tt
refused_form unsaved (folding f) (refusal.Schedule line why) out = tt
refused_form unsaved (folding f) (refusal.TooLong file) out = tt
refused_form unsaved (folding f) (refusal.Events line) out = tt
refused_form unsaved (folding f) refusal.TooLarge out = tt
refused_form unsaved (folding f) (refusal.OldRanks ranks) out = tt
refused_form unsaved (folding f) (refusal.CheckpointBad rank at why) out = tt
refused_form unsaved (folding f) (refusal.MarksDiffer other plane group first_has) out = tt
refused_form unsaved (exporting e) r out = refl
refused_form unsaved (resuming x) refusal.ReadFault out = tt
refused_form unsaved (resuming x) refusal.Memory out = tt
refused_form unsaved (resuming x) (refusal.Study fault) out = tt
refused_form unsaved (resuming x) (refusal.Tape at why) out = tt
refused_form unsaved (resuming x) (refusal.Schedule line why) out = tt
refused_form unsaved (resuming x) (refusal.TooLong file) out = tt
refused_form unsaved (resuming x) (refusal.Events line) out = tt
refused_form unsaved (resuming x) refusal.TooLarge out = tt
refused_form unsaved (resuming x) (refusal.OldRanks ranks) out = tt
refused_form unsaved (resuming x) (refusal.CheckpointBad rank at why) out = tt
refused_form unsaved (resuming x) (refusal.MarksDiffer other plane group first_has) out = tt

-- A checkpoint is refused only where the inputs are, and then nothing is carried out.
abbrev pub FitsTask : Refusal → Task → Type 0
FitsTask (refusal.CheckpointBad rank at why) nothing = ⊤
FitsTask (refusal.CheckpointBad rank at why) (folding f) = ⊥
FitsTask (refusal.CheckpointBad rank at why) (exporting e) = ⊥
FitsTask (refusal.CheckpointBad rank at why) (resuming x) = ⊥
FitsTask r task = ⊤

pub fits_nothing : (r : Refusal) → FitsTask r nothing
fits_nothing refusal.ReadFault = tt
fits_nothing refusal.Memory = tt
fits_nothing (refusal.Study fault) = tt
fits_nothing (refusal.Tape at why) = tt
fits_nothing (refusal.Schedule line why) = tt
fits_nothing (refusal.TooLong file) = tt
fits_nothing (refusal.Events line) = tt
fits_nothing refusal.TooLarge = tt
fits_nothing (refusal.OldRanks ranks) = tt
fits_nothing (refusal.CheckpointBad rank at why) = tt
fits_nothing (refusal.MarksDiffer other plane group first_has) = tt

refused_leaves : (sound : Bool) (unsaved : Type 0) (right : Result (List ℕ) Status) (task : Task) (r : Refusal) (keepers : List KeeperState) → IsRefused sound r right → FitsTask r task → KeepersAnswer unsaved right task keepers keepers (status_of r)
refused_leaves sound unsaved right nothing refusal.ReadFault keepers is fits = refl
refused_leaves sound unsaved right nothing refusal.Memory keepers is fits = refl
refused_leaves sound unsaved right nothing (refusal.Study fault) keepers is fits = refl
refused_leaves sound unsaved right nothing (refusal.Tape at why) keepers is fits = refl
refused_leaves sound unsaved right nothing (refusal.Schedule line why) keepers is fits = refl
refused_leaves sound unsaved right nothing (refusal.TooLong file) keepers is fits = refl
refused_leaves sound unsaved right nothing (refusal.Events line) keepers is fits = refl
refused_leaves sound unsaved right nothing refusal.TooLarge keepers is fits = refl
refused_leaves sound unsaved right nothing (refusal.OldRanks ranks) keepers is fits = refl
refused_leaves sound unsaved right nothing (refusal.CheckpointBad rank at why) keepers is fits = (is, refl)
refused_leaves sound unsaved right nothing (refusal.MarksDiffer other plane group first_has) keepers is fits = refl
refused_leaves sound unsaved right (folding f) refusal.ReadFault keepers is fits = tt
refused_leaves sound unsaved right (folding f) refusal.Memory keepers is fits = tt
refused_leaves sound unsaved right (folding f) (refusal.Study fault) keepers is fits = tt
refused_leaves sound unsaved right (folding f) (refusal.Tape at why) keepers is fits = tt
refused_leaves sound unsaved right (folding f) (refusal.Schedule line why) keepers is fits = tt
refused_leaves sound unsaved right (folding f) (refusal.TooLong file) keepers is fits = tt
refused_leaves sound unsaved right (folding f) (refusal.Events line) keepers is fits = tt
refused_leaves sound unsaved right (folding f) refusal.TooLarge keepers is fits = tt
refused_leaves sound unsaved right (folding f) (refusal.OldRanks ranks) keepers is fits = tt
refused_leaves sound unsaved right (folding f) (refusal.CheckpointBad rank at why) keepers is fits = absurd fits
refused_leaves sound unsaved right (folding f) (refusal.MarksDiffer other plane group first_has) keepers is fits = tt
refused_leaves sound unsaved right (resuming x) refusal.ReadFault keepers is fits = tt
refused_leaves sound unsaved right (resuming x) refusal.Memory keepers is fits = tt
refused_leaves sound unsaved right (resuming x) (refusal.Study fault) keepers is fits = tt
refused_leaves sound unsaved right (resuming x) (refusal.Tape at why) keepers is fits = tt
refused_leaves sound unsaved right (resuming x) (refusal.Schedule line why) keepers is fits = tt
refused_leaves sound unsaved right (resuming x) (refusal.TooLong file) keepers is fits = tt
refused_leaves sound unsaved right (resuming x) (refusal.Events line) keepers is fits = tt
refused_leaves sound unsaved right (resuming x) refusal.TooLarge keepers is fits = tt
refused_leaves sound unsaved right (resuming x) (refusal.OldRanks ranks) keepers is fits = tt
refused_leaves sound unsaved right (resuming x) (refusal.CheckpointBad rank at why) keepers is fits = absurd fits
refused_leaves sound unsaved right (resuming x) (refusal.MarksDiffer other plane group first_has) keepers is fits = tt
refused_leaves sound unsaved right (exporting e) r keepers is fits = tt

-- nothing is saved
maybe_nothing : (saved : Saving) (task : Task) (old new : Option Names) → new ≡ old → MaybeSaved saved task old new
maybe_nothing saves_none nothing old new same = same
maybe_nothing saves_none (folding f) old new same = same
maybe_nothing saves_none (exporting e) old new same = tt
maybe_nothing saves_none (resuming x) old new same = same
maybe_nothing (saves_made names) nothing old new same = same
maybe_nothing (saves_made names) (folding f) old new same = inl (inl same)
maybe_nothing (saves_made names) (exporting e) old new same = tt
maybe_nothing (saves_made names) (resuming x) old new same = same
maybe_nothing saves_states nothing old new same = same
maybe_nothing saves_states (folding f) old new same = same
maybe_nothing saves_states (exporting e) old new same = tt
maybe_nothing saves_states (resuming x) old new same = same

all_nothing : (saved : Saving) (task : Task) (rank at : ℕ) (why : CkptWhy) (old new : Option Names) → FitsTask (refusal.CheckpointBad rank at why) task → new ≡ old → AllSaved saved task old new
all_nothing saves_none nothing rank at why old new fits same = same
all_nothing (saves_made names) nothing rank at why old new fits same = same
all_nothing saves_states nothing rank at why old new fits same = same
all_nothing saved (folding f) rank at why old new fits same = absurd fits
all_nothing saved (exporting e) rank at why old new fits same = absurd fits
all_nothing saved (resuming x) rank at why old new fits same = absurd fits

-- nothing is exported
refused_export : (task : Task) (r : Refusal) (files files' : FileState) (keepers : List KeeperState) → FitsTask r task → Leaves r files.held files'.held → ExportAnswer task files files' keepers keepers (status_of r)
refused_export nothing r files files' keepers fits same = tt
refused_export (folding f) r files files' keepers fits same = tt
refused_export (resuming x) r files files' keepers fits same = tt
refused_export (exporting e) refusal.ReadFault files files' keepers fits same = refl
refused_export (exporting e) refusal.Memory files files' keepers fits same = inl (same, refl)
refused_export (exporting e) (refusal.Study fault) files files' keepers fits same = refl
refused_export (exporting e) (refusal.Tape at why) files files' keepers fits same = refl
refused_export (exporting e) (refusal.Schedule line why) files files' keepers fits same = refl
refused_export (exporting e) (refusal.TooLong file) files files' keepers fits same = refl
refused_export (exporting e) (refusal.Events line) files files' keepers fits same = refl
refused_export (exporting e) refusal.TooLarge files files' keepers fits same = refl
refused_export (exporting e) (refusal.OldRanks ranks) files files' keepers fits same = refl
refused_export (exporting e) (refusal.CheckpointBad rank at why) files files' keepers fits same = absurd fits
refused_export (exporting e) (refusal.MarksDiffer other plane group first_has) files files' keepers fits same = refl

refused_files : (unsaved : Type 0) (saved : Saving) (task : Task) (r : Refusal) (old new : Option Names) → FitsTask r task → Leaves r old new → FilesAnswer unsaved saved task old new (status_of r)
refused_files unsaved saved task refusal.ReadFault old new fits same = same
refused_files unsaved saved task refusal.Memory old new fits same = maybe_nothing saved task old new same
refused_files unsaved saved task (refusal.Study fault) old new fits same = same
refused_files unsaved saved task (refusal.Tape at why) old new fits same = same
refused_files unsaved saved task (refusal.Schedule line why) old new fits same = same
refused_files unsaved saved task (refusal.TooLong file) old new fits same = same
refused_files unsaved saved task (refusal.Events line) old new fits same = same
refused_files unsaved saved task refusal.TooLarge old new fits same = same
refused_files unsaved saved task (refusal.OldRanks ranks) old new fits same = same
refused_files unsaved saved task (refusal.CheckpointBad rank at why) old new fits same = all_nothing saved task rank at why old new fits same
refused_files unsaved saved task (refusal.MarksDiffer other plane group first_has) old new fits same = same

refused_groups : (task : Task) (r : Refusal) → GroupsAnswer task (status_of r)
refused_groups nothing r = tt
refused_groups (folding f) refusal.ReadFault = tt
refused_groups (folding f) refusal.Memory = tt
refused_groups (folding f) (refusal.Study fault) = tt
refused_groups (folding f) (refusal.Tape at why) = tt
refused_groups (folding f) (refusal.Schedule line why) = tt
refused_groups (folding f) (refusal.TooLong file) = tt
refused_groups (folding f) (refusal.Events line) = tt
refused_groups (folding f) refusal.TooLarge = tt
refused_groups (folding f) (refusal.OldRanks ranks) = tt
refused_groups (folding f) (refusal.CheckpointBad rank at why) = tt
refused_groups (folding f) (refusal.MarksDiffer other plane group first_has) = tt
refused_groups (exporting e) r = tt
refused_groups (resuming x) r = tt

-- nothing is resumed
refused_resume : (task : Task) (r : Refusal) (out : SinkState) (keepers : List KeeperState) → ResumeAnswer task out out keepers (status_of r)
refused_resume nothing r out keepers = tt
refused_resume (folding f) r out keepers = tt
refused_resume (exporting e) r out keepers = tt
refused_resume (resuming x) refusal.ReadFault out keepers = tt
refused_resume (resuming x) refusal.Memory out keepers = tt
refused_resume (resuming x) (refusal.Study fault) out keepers = tt
refused_resume (resuming x) (refusal.Tape at why) out keepers = tt
refused_resume (resuming x) (refusal.Schedule line why) out keepers = tt
refused_resume (resuming x) (refusal.TooLong file) out keepers = tt
refused_resume (resuming x) (refusal.Events line) out keepers = tt
refused_resume (resuming x) refusal.TooLarge out keepers = tt
refused_resume (resuming x) (refusal.OldRanks ranks) out keepers = tt
refused_resume (resuming x) (refusal.CheckpointBad rank at why) out keepers = tt
refused_resume (resuming x) (refusal.MarksDiffer other plane group first_has) out keepers = tt

refused_counts : (saved : Saving) (r : Refusal) (before now : ℕ) → now ≡ before → SavesCounted saved before now (status_of r)
refused_counts saved refusal.ReadFault before now same = same
refused_counts saved refusal.Memory before now same = same
refused_counts saved (refusal.Study fault) before now same = same
refused_counts saved (refusal.Tape at why) before now same = same
refused_counts saved (refusal.Schedule line why) before now same = same
refused_counts saved (refusal.TooLong file) before now same = same
refused_counts saved (refusal.Events line) before now same = same
refused_counts saved refusal.TooLarge before now same = same
refused_counts saved (refusal.OldRanks ranks) before now same = same
refused_counts saved (refusal.CheckpointBad rank at why) before now same = same
refused_counts saved (refusal.MarksDiffer other plane group first_has) before now same = same

no_keeper_fault : (r : Refusal) (rank : ℕ) → status_of r ≡ status.KeeperFault rank → ⊥
no_keeper_fault refusal.ReadFault rank e = cc
no_keeper_fault refusal.Memory rank e = cc
no_keeper_fault (refusal.Study fault) rank e = cc
no_keeper_fault (refusal.Tape at why) rank e = cc
no_keeper_fault (refusal.Schedule line why) rank e = cc
no_keeper_fault (refusal.TooLong file) rank e = cc
no_keeper_fault (refusal.Events line) rank e = cc
no_keeper_fault refusal.TooLarge rank e = cc
no_keeper_fault (refusal.OldRanks ranks) rank e = cc
no_keeper_fault (refusal.CheckpointBad r at why) rank e = cc
no_keeper_fault (refusal.MarksDiffer other plane group first_has) rank e = cc

read_failed : (r : Refusal) (before now : ℕ) → Counts r before now → status_of r ≡ status.ReadFault → Rose before now
read_failed refusal.ReadFault before now h e = h
read_failed refusal.Memory before now h e = absurd (cc)
read_failed (refusal.Study fault) before now h e = absurd (cc)
read_failed (refusal.Tape at why) before now h e = absurd (cc)
read_failed (refusal.Schedule line why) before now h e = absurd (cc)
read_failed (refusal.TooLong file) before now h e = absurd (cc)
read_failed (refusal.Events line) before now h e = absurd (cc)
read_failed refusal.TooLarge before now h e = absurd (cc)
read_failed (refusal.OldRanks ranks) before now h e = absurd (cc)
read_failed (refusal.CheckpointBad rank at why) before now h e = absurd (cc)
read_failed (refusal.MarksDiffer other plane group first_has) before now h e = absurd (cc)

nothing_written : (r : Refusal) → status_of r ≡ status.WriteFault → ⊥
nothing_written refusal.ReadFault e = cc
nothing_written refusal.Memory e = cc
nothing_written (refusal.Study fault) e = cc
nothing_written (refusal.Tape at why) e = cc
nothing_written (refusal.Schedule line why) e = cc
nothing_written (refusal.TooLong file) e = cc
nothing_written (refusal.Events line) e = cc
nothing_written refusal.TooLarge e = cc
nothing_written (refusal.OldRanks ranks) e = cc
nothing_written (refusal.CheckpointBad rank at why) e = cc
nothing_written (refusal.MarksDiffer other plane group first_has) e = cc

-- a refusal is no wrong word
pub no_usage : (r : Refusal) → status_of r ≡ status.Usage → ⊥
no_usage refusal.ReadFault e = cc
no_usage refusal.Memory e = cc
no_usage (refusal.Study fault) e = cc
no_usage (refusal.Tape at why) e = cc
no_usage (refusal.Schedule line why) e = cc
no_usage (refusal.TooLong file) e = cc
no_usage (refusal.Events line) e = cc
no_usage refusal.TooLarge e = cc
no_usage (refusal.OldRanks ranks) e = cc
no_usage (refusal.CheckpointBad rank at why) e = cc
no_usage (refusal.MarksDiffer other plane group first_has) e = cc

-- a command whose inputs are refused
pub carried_refused : {A B : Type 0} (saved : Saving) (view : A → B) (loaded : Names → Result B Status) (asked : Names → Result (List ℕ) Status) (task : Names → Task) (old new : FileState) (out : SinkState) (keepers : List KeeperState) (r : Refusal)
    → ((held : Names) → IsRefused old.sound r (loaded held) → IsRefused old.sound r (asked held)) → ((held : Names) → IsRefused old.sound r (loaded held) → FitsTask r (task held)) → Loads view loaded old new (Err r) → Carries saved asked task old new out out keepers keepers (status_of r)
carried_refused saved view loaded asked task old new out keepers r so fits h = record {
  told = λ held told.
      let unsaved : Type 0 = SaveFails saved (task held) old new out out keepers keepers in
      record {
        text = refused_answers old.sound unsaved (IsTextSure (task held) keepers) r (asked held) out (so held (h.right held told));
        resumed = refused_resume (task held) r out keepers;
        form = refused_form unsaved (task held) r out;
        leaves = refused_leaves old.sound unsaved (asked held) (task held) r keepers (so held (h.right held told)) (fits held (h.right held told));
        stored = refused_files unsaved saved (task held) r old.held new.held (fits held (h.right held told)) h.same;
        exported = refused_export (task held) r old new keepers (fits held (h.right held told)) h.same;
        all_groups = refused_groups (task held) r;
      };
  read_fault = read_failed r old.load_faults new.load_faults h.loads;
  write_fault = λ e. absurd (nothing_written r e);
  keeper_fault = λ rank e. absurd (no_keeper_fault r rank e);
  quiet = λ _. refl;
  saves = refused_counts saved r old.save_faults new.save_faults h.saves;
}

done_right : (sound : Bool) (unsaved sure : Type 0) (right : Result (List ℕ) Status) (text : List ℕ) (old new : SinkState) (s : Status) → right ≡ Ok text → Answers sound unsaved sure (Ok text) old new s → Answers sound unsaved sure right old new s
done_right sound unsaved sure right text old new s is h =
    let P : Result (List ℕ) Status → Type 0 = λ o. Answers sound unsaved sure o old new s in
    subst P (sym is) h

-- a command that folds nothing, whose text was made in memory and written
pub carried_out : {A B : Type 0} (view : A → List ℕ) (asked : Names → Result (List ℕ) Status) (old new : FileState) (out out' : SinkState) (keepers : List KeeperState) (x : A) (answer : Result B OutFault)
    → Loads view asked old new (Ok x) → WritesOut answer (view x) out out' → Carries saves_none asked (λ held. nothing) old new out out' keepers keepers (out_status answer)
carried_out view asked old new out out' keepers x (Ok done) h w = record {
  told = λ held told. record {
    text = done_right old.sound ⊥ (IsTextSure nothing keepers) (asked held) (view x) out out' status.Done (h.right held told) (λ _. w);
    resumed = tt;
    form = tt;
    leaves = refl;
    stored = h.same;
    exported = tt;
    all_groups = tt;
  };
  read_fault = λ e. absurd (cc);
  write_fault = λ e. absurd (cc);
  keeper_fault = λ rank e. absurd (cc);
  quiet = λ q. absurd q;
  saves = h.saves;
}
carried_out view asked old new out out' keepers x (Err WriteFault) h w = record {
  told = λ held told. record {
    text = done_right old.sound ⊥ (IsTextSure nothing keepers) (asked held) (view x) out out' status.WriteFault (h.right held told) (inr (λ _. w));
    resumed = tt;
    form = tt;
    leaves = refl;
    stored = inr h.same;
    exported = tt;
    all_groups = tt;
  };
  read_fault = λ e. absurd (cc);
  write_fault = λ e. w.rose;
  keeper_fault = λ rank e. absurd (cc);
  quiet = λ q. absurd q;
  saves = h.saves;
}
carried_out view asked old new out out' keepers x (Err Memory) h w = record {
  told = λ held told. record {
    text = w;
    resumed = tt;
    form = tt;
    leaves = refl;
    stored = h.same;
    exported = tt;
    all_groups = tt;
  };
  read_fault = λ e. absurd (cc);
  write_fault = λ e. absurd (cc);
  keeper_fault = λ rank e. absurd (cc);
  quiet = λ q. ap (λ (s : SinkState). s.told) w;
  saves = h.saves;
}

-- a command that ran out of memory before it did anything
pub carried_memory : (saved : Saving) (asked : Names → Result (List ℕ) Status) (task : Names → Task) (files : FileState) (out : SinkState) (keepers : List KeeperState) → Carries saved asked task files files out out keepers keepers status.Memory
carried_memory saved asked task files out keepers = record {
  told = λ held told.
      let unsaved : Type 0 = SaveFails saved (task held) files files out out keepers keepers in
      record {
        text = refl;
        resumed = refused_resume (task held) refusal.Memory out keepers;
        form = refused_form unsaved (task held) refusal.Memory out;
        leaves = refused_leaves true unsaved (asked held) (task held) refusal.Memory keepers tt tt;
        stored = maybe_nothing saved (task held) files.held files.held refl;
        exported = refused_export (task held) refusal.Memory files files keepers tt refl;
        all_groups = refused_groups (task held) refusal.Memory;
      };
  read_fault = λ e. absurd (cc);
  write_fault = λ e. absurd (cc);
  keeper_fault = λ rank e. absurd (cc);
  quiet = λ q. refl;
  saves = refl;
}
