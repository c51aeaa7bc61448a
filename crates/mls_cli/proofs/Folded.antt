-- What a fold answers, from how its inputs were loaded and its text was written.
use Rattle.std.proofs.Common.{◌≡◌, List, ℕ, Bool, Option, Some, None, Result, Ok, Err, refl, sym, ap, subst, ◌∙◌, inl, inr, arith}
use Rattle.mls_base.specs.Told.{Names, Rose}
use Rattle.mls_text.specs.Writing.{SinkState, Wrote, FailedAfter}
use Rattle.mls_model.specs.Studies.{Study}
use Rattle.mls_model.specs.Lanes.{Lane}
use Rattle.mls_model.specs.Histories.{LaneEvent}
use Rattle.mls_model.specs.ResultText.{lines_of}
use Rattle.mls_field.specs.contracts.field.FieldRowFold.TheImpl.{ghosts as field_ghosts}
use Rattle.mls_book.specs.Keepers.{KeeperState, AreSure, AtRank, HasFailed}
use Rattle.mls_hist.specs.contracts.hist.HistRowFold.TheImpl.{ghosts as hist_ghosts}
use Rattle.mls_replay.specs.Folding.{Folds, FoldsCores, KeepersAfter}
use Rattle.mls_bins.specs.Folding.{FoldsBins}
use Rattle.mls_trial.specs.Folding.{FoldsTrial}
use Rattle.mls_result.specs.declared.fault.FoldFault.{FoldFault}
use Rattle.mls_result.specs.declared.fault.FoldFault.TheVariants as fold
use Rattle.mls_result.specs.declared.status.Status.{Status}
use Rattle.mls_result.specs.declared.status.Status.TheVariants as status
use Rattle.mls_cli.specs.declared.refusal.Refusal.{Refusal}
use Rattle.mls_cli.specs.declared.refusal.Refusal.TheVariants as refusal
use Rattle.mls_cli.specs.declared.words.NamePair.{NamePair}
use Rattle.mls_cli.specs.Answers.{AllSaved, Carries, HasAllGroups, MaybeSaved, MayRise, OfEnding, RoseAt, TellsRight, WriteFails, ending_at, ending_part}
use Rattle.mls_cli.specs.Fold.{Ending, results, histograms, summary, Folded, asked_text, folded_text, folded_histories, fold_status}
use Rattle.mls_cli.specs.Tasks.{folding, fold_task, Saving, saving_of}
use Rattle.mls_export.specs.Files.{FileState}
use Rattle.mls_cli.specs.Refusals.{IsRefused, Loads}
use Rattle.mls_cli.proofs.Carrying.{FitsTask}

-- a refusal of the inputs is one of the text
pub refused_text : (sound : Bool) (r : Refusal) (inputs : Result Folded Status) → IsRefused sound r inputs → IsRefused sound r (asked_text inputs)
refused_text sound refusal.ReadFault inputs is = λ s. ap asked_text (is s)
refused_text sound refusal.Memory inputs is = tt
refused_text sound (refusal.Study fault) inputs is = ap asked_text is
refused_text sound (refusal.Tape at why) inputs is = ap asked_text is
refused_text sound (refusal.Schedule line why) inputs is = ap asked_text is
refused_text sound (refusal.TooLong file) inputs is = ap asked_text is
refused_text sound (refusal.Events line) inputs is = ap asked_text is
refused_text sound refusal.TooLarge inputs is = ap asked_text is
refused_text sound (refusal.OldRanks ranks) inputs is = ap asked_text is
refused_text sound (refusal.CheckpointBad rank at why) inputs is = ap asked_text is
refused_text sound (refusal.MarksDiffer other plane group first_has) inputs is = ap asked_text is

-- a refusal of the inputs leaves nothing to be carried out
pub fits_fold : (sound : Bool) (r : Refusal) (inputs : Result Folded Status) → IsRefused sound r inputs → FitsTask r (fold_task inputs)
fits_fold sound refusal.ReadFault inputs is = tt
fits_fold sound refusal.Memory inputs is = tt
fits_fold sound (refusal.Study fault) inputs is = tt
fits_fold sound (refusal.Tape at why) inputs is = tt
fits_fold sound (refusal.Schedule line why) inputs is = tt
fits_fold sound (refusal.TooLong file) inputs is = tt
fits_fold sound (refusal.Events line) inputs is = tt
fits_fold sound refusal.TooLarge inputs is = tt
fits_fold sound (refusal.OldRanks ranks) inputs is = tt
fits_fold sound (refusal.CheckpointBad rank at why) inputs is = subst (λ (o : Result Folded Status). FitsTask (refusal.CheckpointBad rank at why) (fold_task o)) (sym is) tt
fits_fold sound (refusal.MarksDiffer other plane group first_has) inputs is = tt

-- what is right of inputs that are known
pub told_inputs : (saved : Saving) (inputs : Result Folded Status) (f : Folded) (files files' : FileState) (o o' : SinkState) (keepers keepers' : List KeeperState) (s : Status) → inputs ≡ Ok f
    → TellsRight saved (Ok (folded_text f)) (folding f) files files' o o' keepers keepers' s → TellsRight saved (asked_text inputs) (fold_task inputs) files files' o o' keepers keepers' s
told_inputs saved inputs f files files' o o' keepers keepers' s is h = subst (λ r. TellsRight saved (asked_text r) (fold_task r) files files' o o' keepers keepers' s) (sym is) h

-- what a fold says of some cores, by its ending
abbrev pub FoldsSome : {B : Type 0} → Ending → Study → List Lane → Result B FoldFault → SinkState → SinkState → Type 0
FoldsSome ending study lanes (Ok done) old new = OfEnding ending study lanes (Wrote old new)
FoldsSome ending study lanes (Err fold.WriteFault) old new = OfEnding ending study lanes (FailedAfter old new)
FoldsSome ending study lanes (Err fault) old new = new ≡ old

pub some_sums : {B : Type 0} (study : Study) (lanes : List Lane) (answer : Result B FoldFault) (old new : SinkState) → FoldsCores field_ghosts answer study (lines_of lanes) old new → FoldsSome results study lanes answer old new
some_sums study lanes (Ok done) old new h = h
some_sums study lanes (Err fold.WriteFault) old new h = h
some_sums study lanes (Err (fold.KeeperFault rank)) old new h = h
some_sums study lanes (Err (fold.CheckpointBad rank at why)) old new h = h
some_sums study lanes (Err fold.Memory) old new h = h

pub some_histograms : {B : Type 0} (study : Study) (lanes : List Lane) (answer : Result B FoldFault) (old new : SinkState) → FoldsBins hist_ghosts answer study (lines_of lanes) old new → FoldsSome histograms study lanes answer old new
some_histograms study lanes (Ok done) old new h = h
some_histograms study lanes (Err fold.WriteFault) old new h = h
some_histograms study lanes (Err (fold.KeeperFault rank)) old new h = h
some_histograms study lanes (Err (fold.CheckpointBad rank at why)) old new h = h
some_histograms study lanes (Err fold.Memory) old new h = h

pub some_trial : {B : Type 0} (number : ℕ) (study : Study) (lanes : List Lane) (answer : Result B FoldFault) (old new : SinkState) → FoldsTrial field_ghosts answer study number lanes old new → FoldsSome (summary number) study lanes answer old new
some_trial number study lanes (Ok done) old new h = h
some_trial number study lanes (Err fold.WriteFault) old new h = h
some_trial number study lanes (Err (fold.KeeperFault rank)) old new h = h
some_trial number study lanes (Err (fold.CheckpointBad rank at why)) old new h = h
some_trial number study lanes (Err fold.Memory) old new h = h

-- a write of the text failed
write_rose : (ending : Ending) (study : Study) (lanes : List Lane) (old new : SinkState) → OfEnding ending study lanes (FailedAfter old new) → Rose old.faults new.faults
write_rose results study lanes old new h = h.goes_out.rose
write_rose histograms study lanes old new h = h.goes_out.rose
write_rose (summary number) study lanes old new h = h.goes_out.rose

-- what a fold says of its text, of its cores and of its keepers, and what is known of its groups
pub record FoldSays {B : Type 0} (f : Folded) (answer : Result B FoldFault) (out out' : SinkState) (keepers keepers' : List KeeperState) : Type 0 where
  pub text : AreSure (folded_histories f) keepers → Folds answer (folded_text f) out out'
  pub cores : FoldsSome f.ending f.study f.lanes answer out out'
  pub after : KeepersAfter answer (ending_part f.ending) (ending_at f.ending) f.study.sizes (folded_histories f) keepers keepers'
  pub all_groups : HasAllGroups f.ending f.study f.lanes f.orders

-- all was saved that is to be before the fold, and no save failed
pub record HasSaved (saved : Option NamePair) (f : Folded) (old new : FileState) : Type 0 where
  pub all_saved : AllSaved (saving_of saved) (folding f) old.held new.held
  pub counts : new.save_faults ≡ old.save_faults

pub none_saved : (f : Folded) (files : FileState) → HasSaved None f files files
none_saved f files = record { all_saved = refl; counts = refl }

-- what was saved after the inputs were loaded
saved_since : (saved : Option NamePair) (f : Folded) (old between new : Option Names) → between ≡ old → AllSaved (saving_of saved) (folding f) between new → AllSaved (saving_of saved) (folding f) old new
saved_since saved f old between new same h = subst (λ (o : Option Names). AllSaved (saving_of saved) (folding f) o new) same h

saved_maybe : (saved : Option NamePair) (f : Folded) (old new : Option Names) → AllSaved (saving_of saved) (folding f) old new → MaybeSaved (saving_of saved) (folding f) old new
saved_maybe None f old new h = h
saved_maybe (Some names) f old new h = inr h

sink_fails : (saved : Option NamePair) (files files' : FileState) (o o' : SinkState) → Rose o.faults o'.faults → WriteFails (saving_of saved) files files' o o'
sink_fails None files files' o o' rose = rose
sink_fails (Some names) files files' o o' rose = inl rose

may_rise : (saved : Option NamePair) (before now : ℕ) → now ≡ before → MayRise (saving_of saved) before now
may_rise None before now same = same
may_rise (Some names) before now same = omega (arith, same)

same_rank : (a b : ℕ) → status.KeeperFault a ≡ status.KeeperFault b → a ≡ b
same_rank a b e = cc

rose_own : (rank r : ℕ) (h : List LaneEvent) (keepers keepers' : List KeeperState) → rank ≡ r → AtRank rank keepers keepers' (HasFailed h) → RoseAt r keepers keepers'
rose_own rank r h keepers keepers' same own = subst (λ k. RoseAt k keepers keepers') same (record { before = own.before; after = own.after; was = own.was; is = own.is; related = own.related.rose })

-- a command whose text was folded, after its inputs were loaded and all was saved that is to be
pub carried_fold : {A B : Type 0} (saved : Option NamePair) (view : A → Folded) (loaded : Names → Result Folded Status) (old between new : FileState) (o o' : SinkState) (keepers keepers' : List KeeperState) (x : A) (answer : Result B FoldFault)
    → Loads view loaded old between (Ok x) → HasSaved saved (view x) between new → FoldSays (view x) answer o o' keepers keepers' → Carries (saving_of saved) (λ held. asked_text (loaded held)) (λ held. fold_task (loaded held)) old new o o' keepers keepers' (fold_status answer)
carried_fold saved view loaded old between new o o' keepers keepers' x (Ok done) h kept says = record {
  told = λ held told. told_inputs (saving_of saved) (loaded held) (view x) old new o o' keepers keepers' status.Done (h.right held told) (record {
    text = says.text;
    resumed = tt;
    form = says.cores;
    leaves = says.after;
    stored = saved_since saved (view x) old.held between.held new.held h.same kept.all_saved;
    exported = tt;
    all_groups = says.all_groups;
  });
  read_fault = λ e. absurd (cc);
  write_fault = λ e. absurd (cc);
  keeper_fault = λ rank e. absurd (cc);
  quiet = λ q. absurd q;
  saves = kept.counts ∙ h.saves;
}
carried_fold saved view loaded old between new o o' keepers keepers' x (Err fold.WriteFault) h kept says = record {
  told = λ held told. told_inputs (saving_of saved) (loaded held) (view x) old new o o' keepers keepers' status.WriteFault (h.right held told) (record {
    text = inr says.text;
    resumed = tt;
    form = inr says.cores;
    leaves = inr says.after;
    stored = inr (saved_since saved (view x) old.held between.held new.held h.same kept.all_saved);
    exported = tt;
    all_groups = says.all_groups;
  });
  read_fault = λ e. absurd (cc);
  write_fault = λ e. sink_fails saved old new o o' (write_rose (view x).ending (view x).study (view x).lanes o o' says.cores);
  keeper_fault = λ rank e. absurd (cc);
  quiet = λ q. absurd q;
  saves = may_rise saved old.save_faults new.save_faults (kept.counts ∙ h.saves);
}
carried_fold saved view loaded old between new o o' keepers keepers' x (Err (fold.KeeperFault rank)) h kept says = record {
  told = λ held told. told_inputs (saving_of saved) (loaded held) (view x) old new o o' keepers keepers' (status.KeeperFault rank) (h.right held told) (record {
    text = (tt, says.cores);
    resumed = tt;
    form = tt;
    leaves = says.after;
    stored = saved_since saved (view x) old.held between.held new.held h.same kept.all_saved;
    exported = tt;
    all_groups = tt;
  });
  read_fault = λ e. absurd (cc);
  write_fault = λ e. absurd (cc);
  keeper_fault = λ r e. rose_own rank r (folded_histories (view x) rank) keepers keepers' (same_rank rank r e) says.after.own;
  quiet = λ q. ap (λ (s : SinkState). s.told) says.cores;
  saves = kept.counts ∙ h.saves;
}
carried_fold saved view loaded old between new o o' keepers keepers' x (Err (fold.CheckpointBad rank at why)) h kept says = record {
  told = λ held told. told_inputs (saving_of saved) (loaded held) (view x) old new o o' keepers keepers' (status.CheckpointBad rank at why) (h.right held told) (record {
    text = (inl tt, says.cores);
    resumed = tt;
    form = tt;
    leaves = says.after;
    stored = saved_since saved (view x) old.held between.held new.held h.same kept.all_saved;
    exported = tt;
    all_groups = tt;
  });
  read_fault = λ e. absurd (cc);
  write_fault = λ e. absurd (cc);
  keeper_fault = λ rank e. absurd (cc);
  quiet = λ q. ap (λ (s : SinkState). s.told) says.cores;
  saves = kept.counts ∙ h.saves;
}
carried_fold saved view loaded old between new o o' keepers keepers' x (Err fold.Memory) h kept says = record {
  told = λ held told. told_inputs (saving_of saved) (loaded held) (view x) old new o o' keepers keepers' status.Memory (h.right held told) (record {
    text = says.cores;
    resumed = tt;
    form = tt;
    leaves = tt;
    stored = saved_maybe saved (view x) old.held new.held (saved_since saved (view x) old.held between.held new.held h.same kept.all_saved);
    exported = tt;
    all_groups = tt;
  });
  read_fault = λ e. absurd (cc);
  write_fault = λ e. absurd (cc);
  keeper_fault = λ rank e. absurd (cc);
  quiet = λ q. ap (λ (s : SinkState). s.told) says.cores;
  saves = kept.counts ∙ h.saves;
}
