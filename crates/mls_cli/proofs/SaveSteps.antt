-- What saving a tape and a schedule leaves, from what each save leaves.
use Rattle.std.proofs.Common.{◌≡◌, ℕ, Bool, false, IsTrue, List, Option, Some, None, Result, Ok, Err, OnOk, IfErr, refl, sym, subst, ◌∙◌, inl, inr}
use Rattle.std.proofs.lemmas.Bool.{true≢false}
use Rattle.mls_base.specs.Told.{Names, Rose, Saved, SaveLeaves, MaySpoil, StoreCounts, CountsStore, SoundStore, StaysSound}
use Rattle.mls_base.specs.declared.faults.StoreFault.{StoreFault}
use Rattle.mls_base.specs.declared.faults.StoreFault.TheVariants as store
use Rattle.mls_text.specs.Writing.{SinkState}
use Rattle.mls_book.specs.Keepers.{KeeperState}
use Rattle.mls_result.specs.declared.status.Status.{Status}
use Rattle.mls_result.specs.declared.status.Status.TheVariants as status
use Rattle.mls_cli.specs.declared.words.NamePair.{NamePair}
use Rattle.mls_cli.specs.Answers.{Carries, HasAllGroups, SaveFailed}
use Rattle.mls_cli.specs.Fold.{Folded, asked_text}
use Rattle.mls_cli.specs.Tasks.{fold_task, saves_made, saving_of}
use Rattle.mls_cli.specs.Trial.{folded_tape, folded_schedule}
use Rattle.mls_export.specs.Files.{FileState}
use Rattle.mls_cli.specs.Refusals.{Loads}
use Rattle.mls_cli.specs.Saving.{SavedPair, SavedTapeAtMost, SavesNamed, SavesPair, StoppedSaving, save_status}
use Rattle.mls_cli.proofs.Folded.{HasSaved, told_inputs}

-- both were saved
saved_both : (names : NamePair) (tape schedule : List ℕ) (old between new : Option Names) → Saved names.tape tape old between → Saved names.schedule schedule between new → SavedPair names tape schedule old new
saved_both names tape schedule None None None first second = tt
saved_both names tape schedule None None (Some n) first second = absurd second
saved_both names tape schedule None (Some b) new first second = absurd first
saved_both names tape schedule (Some o) None new first second = absurd first
saved_both names tape schedule (Some o) (Some b) None first second = absurd second
saved_both names tape schedule (Some o) (Some b) (Some n) first second = record {
  schedule_is = second.own;
  tape_is = λ apart. second.others names.tape apart ∙ first.own;
  others = λ other not_tape not_schedule. second.others other not_schedule ∙ first.others other not_tape;
}

not_sound : (sound : Bool) → sound ≡ false → IsTrue sound → ⊥
not_sound sound is_not is = true≢false (sym is ∙ is_not)

-- what is seen of files of which this is told and counted
abbrev state : (held : Option Names) (sound : Bool) (loads saves : ℕ) → FileState
state held sound loads saves = record { held = held; sound = sound; load_faults = loads; save_faults = saves }

-- the save of the tape was refused
pub tape_unsaved : {A : Type 0} (names : NamePair) (tape_name tape schedule : List ℕ) (old new : Option Names) (old_sound new_sound : Bool) (old_loads new_loads old_saves new_saves : ℕ) (fault : StoreFault)
    → tape_name ≡ names.tape → SaveLeaves fault tape_name old new → SoundStore fault old_sound → StoreCounts fault old_saves new_saves
    → SavesPair {A = A} names tape schedule (Err fault) (state old old_sound old_loads old_saves) (state new new_sound new_loads new_saves)
tape_unsaved names tape_name tape schedule old new old_sound new_sound old_loads new_loads old_saves new_saves store.Failed same leaves sound counts = record {
  leaves = inl (subst (λ (name : List ℕ). MaySpoil name old new) same leaves);
  counts = counts;
  unsound = not_sound old_sound sound;
}
tape_unsaved names tape_name tape schedule old new old_sound new_sound old_loads new_loads old_saves new_saves store.Memory same leaves sound counts = record { leaves = inl leaves; counts = counts; unsound = tt }

-- the tape was saved, and the schedule or not
schedule_behind : {A : Type 0} (names : NamePair) (tape schedule : List ℕ) (old between new : Option Names) (old_sound between_sound new_sound : Bool) (old_loads new_loads old_saves between_saves new_saves : ℕ) (result : Result A StoreFault)
    → Saved names.tape tape old between → StaysSound old_sound between_sound → between_saves ≡ old_saves
    → OnOk result (Saved names.schedule schedule between new) → IfErr result (λ fault. SaveLeaves fault names.schedule between new) → IfErr result (λ fault. SoundStore fault between_sound) → CountsStore result between_saves new_saves
    → SavesPair names tape schedule result (state old old_sound old_loads old_saves) (state new new_sound new_loads new_saves)
schedule_behind names tape schedule old between new old_sound between_sound new_sound old_loads new_loads old_saves between_saves new_saves (Ok done) first stays same second leaves sound counts = record {
  leaves = saved_both names tape schedule old between new first second;
  counts = counts ∙ same;
  unsound = tt;
}
schedule_behind names tape schedule old between new old_sound between_sound new_sound old_loads new_loads old_saves between_saves new_saves (Err store.Failed) first stays same second leaves sound counts = record {
  leaves = inr (record { between = between; saved = first; spoiled = leaves });
  counts = subst (λ (n : ℕ). Rose n new_saves) same counts;
  unsound = λ is. not_sound between_sound sound (stays is);
}
schedule_behind names tape schedule old between new old_sound between_sound new_sound old_loads new_loads old_saves between_saves new_saves (Err store.Memory) first stays same second leaves sound counts = record {
  leaves = inr (subst (λ (h : Option Names). Saved names.tape tape old h) (sym leaves) first);
  counts = counts ∙ same;
  unsound = tt;
}

-- the same of names that these are
pub schedule_after : {A : Type 0} (names : NamePair) (tape_name schedule_name tape schedule : List ℕ) (old between new : Option Names) (old_sound between_sound new_sound : Bool) (old_loads new_loads old_saves between_saves new_saves : ℕ) (result : Result A StoreFault)
    → tape_name ≡ names.tape → schedule_name ≡ names.schedule → Saved tape_name tape old between → StaysSound old_sound between_sound → between_saves ≡ old_saves
    → OnOk result (Saved schedule_name schedule between new) → IfErr result (λ fault. SaveLeaves fault schedule_name between new) → IfErr result (λ fault. SoundStore fault between_sound) → CountsStore result between_saves new_saves
    → SavesPair names tape schedule result (state old old_sound old_loads old_saves) (state new new_sound new_loads new_saves)
schedule_after names tape_name schedule_name tape schedule old between new old_sound between_sound new_sound old_loads new_loads old_saves between_saves new_saves result same_tape same_schedule first stays same second leaves sound counts =
    schedule_behind names tape schedule old between new old_sound between_sound new_sound old_loads new_loads old_saves between_saves new_saves result
    (subst (λ (name : List ℕ). Saved name tape old between) same_tape first) stays same
    (subst (λ (name : List ℕ). OnOk result (Saved name schedule between new)) same_schedule second)
    (subst (λ (name : List ℕ). IfErr result (λ fault. SaveLeaves fault name between new)) same_schedule leaves) sound counts

-- all was saved that is to be
pub saved_named : {A : Type 0} (saved : Option NamePair) (f : Folded) (old new : FileState) (done : A) → SavesNamed saved (folded_tape f) (folded_schedule f) (Ok done) old new → HasSaved saved f old new
saved_named None f old new done h = subst (λ (files : FileState). HasSaved None f old files) (sym h) (record { all_saved = refl; counts = refl })
saved_named (Some names) f old new done h = record { all_saved = h.leaves; counts = h.counts }

-- a command whose text was not folded since a save did not succeed
pub carried_unsaved : {A : Type 0} (B : Type 0) (saved : Option NamePair) (view : A → Folded) (loaded : Names → Result Folded Status) (old between new : FileState) (o : SinkState) (keepers : List KeeperState) (x : A) (fault : StoreFault)
    → Loads view loaded old between (Ok x) → HasAllGroups (view x).ending (view x).study (view x).lanes (view x).orders → SavesNamed {A = B} saved (folded_tape (view x)) (folded_schedule (view x)) (Err fault) between new
    → Carries (saving_of saved) (λ held. asked_text (loaded held)) (λ held. fold_task (loaded held)) old new o o keepers keepers (save_status fault)
carried_unsaved B None view loaded old between new o keepers x fault h groups s = absurd s
carried_unsaved B (Some names) view loaded old between new o keepers x store.Failed h groups s =
    let rose : Rose old.save_faults new.save_faults = subst (λ (n : ℕ). Rose n new.save_faults) h.saves s.counts in
    let failed : SaveFailed names (folded_tape (view x)) old new o o keepers keepers = record {
      left = subst (λ (held : Option Names). StoppedSaving names (folded_tape (view x)) held new.held) h.same s.leaves;
      rose = rose;
      unsound = λ is. s.unsound (h.sound is);
      unwritten = refl;
      uncalled = refl;
    } in
    record {
      told = λ held told. told_inputs (saves_made names) (loaded held) (view x) old new o o keepers keepers status.WriteFault (h.right held told) (record {
        text = inl failed;
        resumed = tt;
        form = inl failed;
        leaves = inl failed;
        stored = inl failed;
        exported = tt;
        all_groups = groups;
      });
      read_fault = λ e. absurd (cc);
      write_fault = λ e. inr rose;
      keeper_fault = λ rank e. absurd (cc);
      quiet = λ q. absurd q;
      saves = rose.later;
    }
carried_unsaved B (Some names) view loaded old between new o keepers x store.Memory h groups s = record {
  told = λ held told. told_inputs (saves_made names) (loaded held) (view x) old new o o keepers keepers status.Memory (h.right held told) (record {
    text = refl;
    resumed = tt;
    form = tt;
    leaves = tt;
    stored = inl (subst (λ (held : Option Names). SavedTapeAtMost names (folded_tape (view x)) held new.held) h.same s.leaves);
    exported = tt;
    all_groups = tt;
  });
  read_fault = λ e. absurd (cc);
  write_fault = λ e. absurd (cc);
  keeper_fault = λ rank e. absurd (cc);
  quiet = λ q. refl;
  saves = s.counts ∙ h.saves;
}

-- a save that did not succeed is no wrong word
pub no_usage_unsaved : (fault : StoreFault) → save_status fault ≡ status.Usage → ⊥
no_usage_unsaved store.Failed e = cc
no_usage_unsaved store.Memory e = cc
