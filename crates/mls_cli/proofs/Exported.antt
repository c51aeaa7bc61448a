-- What an export answers, from how its study was loaded and its states were saved.
use Rattle.std.proofs.Common.{◌≡◌, ℕ, Bool, List, [], Option, Some, None, Result, Ok, Err, refl, sym, ap, subst, ◌∙◌, inl, inr, append-nil, arith}
use Rattle.mls_base.specs.Told.{Names, Rose, StaysSound, appended}
use Rattle.mls_text.specs.Writing.{SinkState, Wrote}
use Rattle.mls_book.specs.Keepers.{KeeperState}
use Rattle.mls_export.specs.declared.faults.ExportFault.{ExportFault}
use Rattle.mls_export.specs.declared.faults.ExportFault.TheVariants as fault
use Rattle.mls_export.specs.Files.{FileState, AreSaved, SaveFailedBehind, SavedFiles}
use Rattle.mls_export.specs.Exports.{Exports, GetFailed, HasGiven, HasGivenBytes, IsKept, Stopped, StoppedAt}
use Rattle.mls_ckpt.specs.declared.faults.CkptWhy.TheVariants.{Absent}
use Rattle.mls_result.specs.declared.status.Status.{Status}
use Rattle.mls_result.specs.declared.status.Status.TheVariants as status
use Rattle.mls_cli.specs.declared.refusal.Refusal.{Refusal}
use Rattle.mls_cli.specs.declared.refusal.Refusal.TheVariants as refusal
use Rattle.mls_cli.specs.Answers.{Carries, RoseAt, TellsRight}
use Rattle.mls_cli.specs.Export.{export_status}
use Rattle.mls_cli.specs.Refusals.{IsRefused, Loads}
use Rattle.mls_cli.proofs.Carrying.{FitsTask}
use Rattle.mls_cli.specs.Tasks.{Exported, exporting, export_task, export_text, saves_states}

-- a refusal of the study is one of the text
pub unexported_text : (sound : Bool) (r : Refusal) (inputs : Result Exported Status) → IsRefused sound r inputs → IsRefused sound r (export_text inputs)
unexported_text sound refusal.ReadFault inputs is = λ s. ap export_text (is s)
unexported_text sound refusal.Memory inputs is = tt
unexported_text sound (refusal.Study fault) inputs is = ap export_text is
unexported_text sound (refusal.Tape at why) inputs is = ap export_text is
unexported_text sound (refusal.Schedule line why) inputs is = ap export_text is
unexported_text sound (refusal.TooLong file) inputs is = ap export_text is
unexported_text sound (refusal.Events line) inputs is = ap export_text is
unexported_text sound refusal.TooLarge inputs is = ap export_text is
unexported_text sound (refusal.OldRanks ranks) inputs is = ap export_text is
unexported_text sound (refusal.CheckpointBad rank at why) inputs is = ap export_text is
unexported_text sound (refusal.MarksDiffer other plane group first_has) inputs is = ap export_text is

pub fits_export : (sound : Bool) (r : Refusal) (inputs : Result Exported Status) → IsRefused sound r inputs → FitsTask r (export_task inputs)
fits_export sound refusal.ReadFault inputs is = tt
fits_export sound refusal.Memory inputs is = tt
fits_export sound (refusal.Study fault) inputs is = tt
fits_export sound (refusal.Tape at why) inputs is = tt
fits_export sound (refusal.Schedule line why) inputs is = tt
fits_export sound (refusal.TooLong file) inputs is = tt
fits_export sound (refusal.Events line) inputs is = tt
fits_export sound refusal.TooLarge inputs is = tt
fits_export sound (refusal.OldRanks ranks) inputs is = tt
fits_export sound (refusal.CheckpointBad rank at why) inputs is = subst (λ (o : Result Exported Status). FitsTask (refusal.CheckpointBad rank at why) (export_task o)) (sym is) tt
fits_export sound (refusal.MarksDiffer other plane group first_has) inputs is = tt

-- what is right of a study that is known
told_export : (inputs : Result Exported Status) (e : Exported) (files files' : FileState) (o o' : SinkState) (keepers keepers' : List KeeperState) (s : Status) → inputs ≡ Ok e
    → TellsRight saves_states (Ok []) (exporting e) files files' o o' keepers keepers' s → TellsRight saves_states (export_text inputs) (export_task inputs) files files' o o' keepers keepers' s
told_export inputs e files files' o o' keepers keepers' s is h = subst (λ r. TellsRight saves_states (export_text r) (export_task r) files files' o o' keepers keepers' s) (sym is) h

-- nothing was written
wrote_nothing : (told : Option (List ℕ)) → told ≡ appended told []
wrote_nothing None = refl
wrote_nothing (Some bytes) = ap Some (sym (append-nil bytes))

nothing_written : (o : SinkState) → Wrote o o []
nothing_written o = record { told = wrote_nothing o.told; faults = refl; sure = omega (arith) }

-- what was saved since the study was loaded
saved_since : (prefix : List ℕ) (lists : List (List ℕ)) (old between new : FileState) → between.held ≡ old.held → StaysSound old.sound between.sound → between.load_faults ≡ old.load_faults → between.save_faults ≡ old.save_faults → AreSaved prefix lists between new → AreSaved prefix lists old new
saved_since prefix lists old between new held sound loads saves are = record {
  saved = subst (λ (h : Option Names). SavedFiles prefix lists h new.held) held are.saved;
  sound = λ s. are.sound (sound s);
  loads = are.loads ∙ loads;
  saves = are.saves ∙ saves;
}

failed_since : (prefix : List ℕ) (lists : List (List ℕ)) (old between new : FileState) → between.held ≡ old.held → StaysSound old.sound between.sound → between.load_faults ≡ old.load_faults → between.save_faults ≡ old.save_faults → SaveFailedBehind prefix lists between new → SaveFailedBehind prefix lists old new
failed_since prefix lists old between new held sound loads saves are = record {
  between = are.between;
  saved = subst (λ (h : Option Names). SavedFiles prefix lists h are.between) held are.saved;
  spoiled = are.spoiled;
  unsound = λ s. are.unsound (sound s);
  loads = are.loads ∙ loads;
  rose = subst (λ (n : ℕ). Rose n new.save_faults) saves are.rose;
}

-- a stop with another saying of the files
stopped_as : (rank ranks : ℕ) (first second : List (List ℕ) → Type 0) (own : KeeperState → KeeperState → Type 0) (keepers keepers' : List KeeperState) → ((lists : List (List ℕ)) → first lists → second lists) → StoppedAt rank ranks first own keepers keepers' → StoppedAt rank ranks second own keepers keepers'
stopped_as rank ranks first second own keepers keepers' so at = record {
  here = at.here;
  lists = at.lists;
  as_far = at.as_far;
  files = so at.lists at.files;
  given = at.given;
  asked = at.asked;
  above = at.above;
}

same_rank : (a b : ℕ) → status.KeeperFault a ≡ status.KeeperFault b → a ≡ b
same_rank a b e = cc

rose_own : (rank r ranks : ℕ) (left : List (List ℕ) → Type 0) (keepers keepers' : List KeeperState) → rank ≡ r → StoppedAt rank ranks left GetFailed keepers keepers' → RoseAt r keepers keepers'
rose_own rank r ranks left keepers keepers' same at = subst (λ k. RoseAt k keepers keepers') same (record { before = at.asked.before; after = at.asked.after; was = at.asked.was; is = at.asked.is; related = at.asked.related.rose })

-- an export after its study was loaded
pub carried_export : {A B : Type 0} (view : A → Exported) (loaded : Names → Result Exported Status) (old between new : FileState) (o : SinkState) (keepers keepers' : List KeeperState) (x : A) (answer : Result B ExportFault)
    → Loads view loaded old between (Ok x) → Exports answer (view x).ranks (view x).prefix between new keepers keepers' → Carries saves_states (λ held. export_text (loaded held)) (λ held. export_task (loaded held)) old new o o keepers keepers' (export_status answer)
carried_export view loaded old between new o keepers keepers' x (Ok done) h says = record {
  told = λ held told. told_export (loaded held) (view x) old new o o keepers keepers' status.Done (h.right held told) (record {
    text = λ _. nothing_written o;
    resumed = tt;
    form = refl;
    leaves = tt;
    stored = tt;
    exported = record { lists = says.lists; one_each = says.one_each; saved = saved_since (view x).prefix says.lists old between new h.same h.sound h.loads h.saves says.saved; given = says.given; above = says.above };
    all_groups = tt;
  });
  read_fault = λ e. absurd (cc);
  write_fault = λ e. absurd (cc);
  keeper_fault = λ rank e. absurd (cc);
  quiet = λ q. absurd q;
  saves = says.saved.saves ∙ h.saves;
}
carried_export view loaded old between new o keepers keepers' x (Err (fault.KeeperFault rank)) h says = record {
  told = λ held told. told_export (loaded held) (view x) old new o o keepers keepers' (status.KeeperFault rank) (h.right held told) (record {
    text = (tt, refl);
    resumed = tt;
    form = refl;
    leaves = tt;
    stored = tt;
    exported = stopped_as rank (view x).ranks (λ lists. AreSaved (view x).prefix lists between new) (λ lists. AreSaved (view x).prefix lists old new) GetFailed keepers keepers' (λ lists are. saved_since (view x).prefix lists old between new h.same h.sound h.loads h.saves are) says;
    all_groups = tt;
  });
  read_fault = λ e. absurd (cc);
  write_fault = λ e. absurd (cc);
  keeper_fault = λ r e. rose_own rank r (view x).ranks (λ lists. AreSaved (view x).prefix lists between new) keepers keepers' (same_rank rank r e) says;
  quiet = λ q. refl;
  saves = says.files.saves ∙ h.saves;
}
carried_export view loaded old between new o keepers keepers' x (Err (fault.Absent rank)) h says = record {
  told = λ held told. told_export (loaded held) (view x) old new o o keepers keepers' (status.CheckpointBad rank 0 Absent) (h.right held told) (record {
    text = (inl tt, refl);
    resumed = tt;
    form = refl;
    leaves = tt;
    stored = tt;
    exported = (refl, (refl, stopped_as rank (view x).ranks (λ lists. AreSaved (view x).prefix lists between new) (λ lists. AreSaved (view x).prefix lists old new) (HasGiven None) keepers keepers' (λ lists are. saved_since (view x).prefix lists old between new h.same h.sound h.loads h.saves are) says));
    all_groups = tt;
  });
  read_fault = λ e. absurd (cc);
  write_fault = λ e. absurd (cc);
  keeper_fault = λ r e. absurd (cc);
  quiet = λ q. refl;
  saves = says.files.saves ∙ h.saves;
}
carried_export view loaded old between new o keepers keepers' x (Err fault.WriteFault) h says =
    let failed : Stopped (view x).ranks (λ lists. SaveFailedBehind (view x).prefix lists old new) HasGivenBytes keepers keepers' = record {
      rank = says.rank;
      at = stopped_as says.rank (view x).ranks (λ lists. SaveFailedBehind (view x).prefix lists between new) (λ lists. SaveFailedBehind (view x).prefix lists old new) HasGivenBytes keepers keepers' (λ lists are. failed_since (view x).prefix lists old between new h.same h.sound h.loads h.saves are) says.at;
    } in
    record {
      told = λ held told. told_export (loaded held) (view x) old new o o keepers keepers' status.WriteFault (h.right held told) (record {
        text = inl failed;
        resumed = tt;
        form = refl;
        leaves = tt;
        stored = inr tt;
        exported = failed;
        all_groups = tt;
      });
      read_fault = λ e. absurd (cc);
      write_fault = λ e. failed.at.files.rose;
      keeper_fault = λ rank e. absurd (cc);
      quiet = λ q. absurd q;
      saves = failed.at.files.rose.later;
    }
carried_export view loaded old between new o keepers keepers' x (Err fault.Memory) h says = record {
  told = λ held told. told_export (loaded held) (view x) old new o o keepers keepers' status.Memory (h.right held told) (record {
    text = refl;
    resumed = tt;
    form = refl;
    leaves = tt;
    stored = tt;
    exported = inr (record {
      rank = says.rank;
      at = stopped_as says.rank (view x).ranks (λ lists. AreSaved (view x).prefix lists between new) (λ lists. AreSaved (view x).prefix lists old new) IsKept keepers keepers' (λ lists are. saved_since (view x).prefix lists old between new h.same h.sound h.loads h.saves are) says.at;
    });
    all_groups = tt;
  });
  read_fault = λ e. absurd (cc);
  write_fault = λ e. absurd (cc);
  keeper_fault = λ rank e. absurd (cc);
  quiet = λ q. refl;
  saves = says.at.files.saves ∙ h.saves;
}

-- it is no wrong word
pub no_usage_exported : {B : Type 0} (answer : Result B ExportFault) → export_status answer ≡ status.Usage → ⊥
no_usage_exported (Ok done) e = cc
no_usage_exported (Err (fault.KeeperFault rank)) e = cc
no_usage_exported (Err (fault.Absent rank)) e = cc
no_usage_exported (Err fault.WriteFault) e = cc
no_usage_exported (Err fault.Memory) e = cc
