-- What a resume answers, from how its inputs were loaded and how it ran.
use Rattle.std.proofs.Common.{◌≡◌, ℕ, ◌<◌, Bool, List, [], Option, Some, Result, Ok, Err, refl, sym, ap, subst, ◌∙◌, inl, inr}
use Rattle.mls_base.specs.Told.{Names, Rose}
use Rattle.mls_text.specs.Writing.{SinkState, Wrote, FailedAfter}
use Rattle.mls_model.specs.Histories.{LaneEvent}
use Rattle.mls_model.specs.ResultText.{lines_of}
use Rattle.mls_ckpt.specs.CellParts.{sums_part, part_at as sums_at}
use Rattle.mls_field.specs.contracts.field.FieldRowFold.TheImpl.{ghosts as field_ghosts}
use Rattle.mls_book.specs.Keepers.{KeeperState, AreSure, AtRank, HasFailed}
use Rattle.mls_replay.specs.Folding.{Folds, FoldsCores}
use Rattle.mls_resumed.specs.GoingOn.{KeepersGoOn, resumed_text}
use Rattle.mls_result.specs.declared.fault.FoldFault.{FoldFault}
use Rattle.mls_result.specs.declared.fault.FoldFault.TheVariants as fold
use Rattle.mls_result.specs.declared.status.Status.{Status}
use Rattle.mls_result.specs.declared.status.Status.TheVariants as status
use Rattle.mls_export.specs.Files.{FileState}
use Rattle.mls_cli.specs.declared.refusal.Refusal.{Refusal}
use Rattle.mls_cli.specs.declared.refusal.Refusal.TheVariants as refusal
use Rattle.mls_cli.specs.Answers.{Carries, RoseAt, TellsRight, opens_of}
use Rattle.mls_cli.specs.Fold.{fold_status}
use Rattle.mls_cli.specs.Refusals.{IsRefused, Loads}
use Rattle.mls_cli.specs.Tasks.{Resumed, resumed_histories, resuming, resume_task, resume_text, saves_none}
use Rattle.mls_cli.proofs.Carrying.{FitsTask}

-- a refusal of the inputs is one of the text, and leaves nothing to be carried out
pub unresumed_text : (sound : Bool) (r : Refusal) (inputs : Result Resumed Status) → IsRefused sound r inputs → IsRefused sound r (resume_text inputs)
unresumed_text sound refusal.ReadFault inputs is = λ s. ap resume_text (is s)
unresumed_text sound refusal.Memory inputs is = tt
unresumed_text sound (refusal.Study fault) inputs is = ap resume_text is
unresumed_text sound (refusal.Tape at why) inputs is = ap resume_text is
unresumed_text sound (refusal.Schedule line why) inputs is = ap resume_text is
unresumed_text sound (refusal.TooLong file) inputs is = ap resume_text is
unresumed_text sound (refusal.Events line) inputs is = ap resume_text is
unresumed_text sound refusal.TooLarge inputs is = ap resume_text is
unresumed_text sound (refusal.OldRanks ranks) inputs is = ap resume_text is
unresumed_text sound (refusal.CheckpointBad rank at why) inputs is = ap resume_text is
unresumed_text sound (refusal.MarksDiffer other plane group first_has) inputs is = ap resume_text is

pub fits_resume : (sound : Bool) (r : Refusal) (inputs : Result Resumed Status) → IsRefused sound r inputs → FitsTask r (resume_task inputs)
fits_resume sound refusal.ReadFault inputs is = tt
fits_resume sound refusal.Memory inputs is = tt
fits_resume sound (refusal.Study fault) inputs is = tt
fits_resume sound (refusal.Tape at why) inputs is = tt
fits_resume sound (refusal.Schedule line why) inputs is = tt
fits_resume sound (refusal.TooLong file) inputs is = tt
fits_resume sound (refusal.Events line) inputs is = tt
fits_resume sound refusal.TooLarge inputs is = tt
fits_resume sound (refusal.OldRanks ranks) inputs is = tt
fits_resume sound (refusal.CheckpointBad rank at why) inputs is = subst (λ (o : Result Resumed Status). FitsTask (refusal.CheckpointBad rank at why) (resume_task o)) (sym is) tt
fits_resume sound (refusal.MarksDiffer other plane group first_has) inputs is = tt

-- what is right of inputs that are known
told_resume : (inputs : Result Resumed Status) (x : Resumed) (files files' : FileState) (o o' : SinkState) (keepers keepers' : List KeeperState) (s : Status) → inputs ≡ Ok x
    → TellsRight saves_none (Ok []) (resuming x) files files' o o' keepers keepers' s → TellsRight saves_none (resume_text inputs) (resume_task inputs) files files' o o' keepers keepers' s
told_resume inputs x files files' o o' keepers keepers' s is h = subst (λ r. TellsRight saves_none (resume_text r) (resume_task r) files files' o o' keepers keepers' s) (sym is) h

-- what a resume says of its text, of its cores and of its keepers
pub record ResumeSays {B : Type 0} (x : Resumed) (answer : Result B FoldFault) (out out' : SinkState) (keepers keepers' : List KeeperState) : Type 0 where
  pub text : (before : ℕ → List LaneEvent) → ((rank : ℕ) → rank < x.study.sizes.ranks → opens_of x rank (before rank)) → AreSure (resumed_histories x) keepers → Folds answer (resumed_text x.study x.lanes x.orders before) out out'
  pub cores : FoldsCores field_ghosts answer x.study (lines_of x.lanes) out out'
  pub after : KeepersGoOn answer sums_part sums_at x.study.sizes (opens_of x) (resumed_histories x) keepers keepers'

same_rank : (a b : ℕ) → status.KeeperFault a ≡ status.KeeperFault b → a ≡ b
same_rank a b e = cc

rose_own : (rank r : ℕ) (h : List LaneEvent) (keepers keepers' : List KeeperState) → rank ≡ r → AtRank rank keepers keepers' (HasFailed h) → RoseAt r keepers keepers'
rose_own rank r h keepers keepers' same own = subst (λ k. RoseAt k keepers keepers') same (record { before = own.before; after = own.after; was = own.was; is = own.is; related = own.related.rose })

-- a resume after its inputs were loaded
pub carried_resume : {A B : Type 0} (view : A → Resumed) (loaded : Names → Result Resumed Status) (old new : FileState) (o o' : SinkState) (keepers keepers' : List KeeperState) (x : A) (answer : Result B FoldFault)
    → Loads view loaded old new (Ok x) → ResumeSays (view x) answer o o' keepers keepers' → Carries saves_none (λ held. resume_text (loaded held)) (λ held. resume_task (loaded held)) old new o o' keepers keepers' (fold_status answer)
carried_resume view loaded old new o o' keepers keepers' x (Ok done) h says = record {
  told = λ held told. told_resume (loaded held) (view x) old new o o' keepers keepers' status.Done (h.right held told) (record {
    text = λ never. absurd never;
    resumed = says.text;
    form = says.cores;
    leaves = says.after;
    stored = h.same;
    exported = tt;
    all_groups = tt;
  });
  read_fault = λ e. absurd (cc);
  write_fault = λ e. absurd (cc);
  keeper_fault = λ rank e. absurd (cc);
  quiet = λ q. absurd q;
  saves = h.saves;
}
carried_resume view loaded old new o o' keepers keepers' x (Err fold.WriteFault) h says = record {
  told = λ held told. told_resume (loaded held) (view x) old new o o' keepers keepers' status.WriteFault (h.right held told) (record {
    text = inr (λ never. absurd never);
    resumed = says.text;
    form = says.cores;
    leaves = says.after;
    stored = inr h.same;
    exported = tt;
    all_groups = tt;
  });
  read_fault = λ e. absurd (cc);
  write_fault = λ e. says.cores.goes_out.rose;
  keeper_fault = λ rank e. absurd (cc);
  quiet = λ q. absurd q;
  saves = h.saves;
}
carried_resume view loaded old new o o' keepers keepers' x (Err (fold.KeeperFault rank)) h says = record {
  told = λ held told. told_resume (loaded held) (view x) old new o o' keepers keepers' (status.KeeperFault rank) (h.right held told) (record {
    text = (tt, says.cores);
    resumed = tt;
    form = tt;
    leaves = says.after;
    stored = h.same;
    exported = tt;
    all_groups = tt;
  });
  read_fault = λ e. absurd (cc);
  write_fault = λ e. absurd (cc);
  keeper_fault = λ r e. rose_own rank r (resumed_histories (view x) rank) keepers keepers' (same_rank rank r e) says.after.own;
  quiet = λ q. ap (λ (s : SinkState). s.told) says.cores;
  saves = h.saves;
}
carried_resume view loaded old new o o' keepers keepers' x (Err (fold.CheckpointBad rank at why)) h says = record {
  told = λ held told. told_resume (loaded held) (view x) old new o o' keepers keepers' (status.CheckpointBad rank at why) (h.right held told) (record {
    text = (inl tt, says.cores);
    resumed = tt;
    form = tt;
    leaves = says.after;
    stored = h.same;
    exported = tt;
    all_groups = tt;
  });
  read_fault = λ e. absurd (cc);
  write_fault = λ e. absurd (cc);
  keeper_fault = λ rank e. absurd (cc);
  quiet = λ q. ap (λ (s : SinkState). s.told) says.cores;
  saves = h.saves;
}
carried_resume view loaded old new o o' keepers keepers' x (Err fold.Memory) h says = record {
  told = λ held told. told_resume (loaded held) (view x) old new o o' keepers keepers' status.Memory (h.right held told) (record {
    text = says.cores;
    resumed = tt;
    form = tt;
    leaves = tt;
    stored = h.same;
    exported = tt;
    all_groups = tt;
  });
  read_fault = λ e. absurd (cc);
  write_fault = λ e. absurd (cc);
  keeper_fault = λ rank e. absurd (cc);
  quiet = λ q. ap (λ (s : SinkState). s.told) says.cores;
  saves = h.saves;
}
