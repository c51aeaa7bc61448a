-- What the command `fold` printed has the step and cell lines of the plain schedule.
use Rattle.std.proofs.Common.{◌≡◌, ℕ, Bool, true, false, List, Option, Some, None, Result, Ok, Err, refl, sym, ap, subst, inr}
use Rattle.std.specs.Option.{option_and_then}
use Rattle.mls_base.specs.Told.{Names}
use Rattle.mls_text.specs.Writing.{SinkState, Wrote}
use Rattle.mls_model.specs.Studies.{Sizes, Study}
use Rattle.mls_model.specs.Lanes.{Lane}
use Rattle.mls_model.specs.Survival.{crash_after_save}
use Rattle.mls_model.specs.Schedules.{is_complete}
use Rattle.mls_model.specs.ResultText.{histories_of, result_text}
use Rattle.mls_orders.specs.OrderFree.{IsOrderFree}
use Rattle.mls_orders.specs.CellLines.{text_with_plain_lines}
use Rattle.mls_book.specs.Keepers.{KeeperState}
use Rattle.mls_result.specs.declared.status.Status.{Status}
use Rattle.mls_result.specs.declared.status.Status.TheVariants as status
use Rattle.mls_cli.specs.declared.words.Words.{Words}
use Rattle.mls_cli.specs.declared.words.Words.TheVariants as words
use Rattle.mls_cli.specs.Words.{words_of}
use Rattle.mls_cli.specs.Fold.{Ending, results, Folded, asked_text, asked_fold, ending_text, fold_over, folded_text, right_fold, right_inputs, right_lanes, right_orders}
use Rattle.mls_cli.specs.Tasks.{Task, folding, fold_task, Saving}
use Rattle.mls_cli.specs.Inputs.{◌>>=◌, right_study}
use Rattle.mls_cli.specs.Ideal.{command_or_usage, command_task, right_command, ideal, task_of, task_or_nothing}
use Rattle.mls_cli.specs.Answers.{Answers, Carries, IsSure, IsTextSure, SaveFails}
use Rattle.mls_export.specs.Files.{FileState}
use Rattle.mls_cli.specs.Orders.{HasPlainLines, command_prints, printed_of}

-- What the words ask for is the text of this fold, which is a result text.
pub record IsOfFold (f : Folded) (right : Result (List ℕ) Status) (task : Task) : Type 0 where
  pub text : right ≡ Ok (folded_text f)
  pub fold : task ≡ folding f
  pub ending : f.ending ≡ results

inputs_are : (inputs : Result Folded Status) (f : Folded) → asked_fold inputs ≡ Some f → inputs ≡ Ok f
inputs_are (Ok g) f is = let same : g ≡ f = cc in ap (λ (x : Folded). Ok x) same
inputs_are (Err refusal) f is = let none : ◌≡◌ {A = Option Folded} None (Some f) = is in absurd cc

-- what is so of each end of the steps behind one is so of its end
behind : {A : Type 0} (P : Folded → Type 0) (r : Result A Status) (next : A → Result Folded Status) → ((a : A) (f : Folded) → next a ≡ Ok f → P f) → (f : Folded) → (r >>= next) ≡ Ok f → P f
behind P (Ok a) next each f is = each a f is
behind P (Err refusal) next each f is = let not : ◌≡◌ {A = Result Folded Status} (Err refusal) (Ok f) = is in absurd cc

ends_so : (e : Ending) (study : Study) (lanes : List Lane) (orders : List (List ℕ)) (f : Folded) → ◌≡◌ {A = Result Folded Status} (Ok (fold_over e study lanes orders)) (Ok f) → f.ending ≡ e
ends_so e study lanes orders f is = let same : fold_over e study lanes orders ≡ f = cc in ap (λ (x : Folded). x.ending) (sym same)

inputs_end : (e : Ending) (study tape : List ℕ) (schedule : Option (List ℕ)) (held : Names) (f : Folded) → right_inputs e study tape schedule held ≡ Ok f → f.ending ≡ e
unfolding right_inputs
inputs_end e study_name tape_name schedule_name held f is =
    let P : Folded → Type 0 = λ x. x.ending ≡ e in
    behind P (right_study study_name held) _ (λ study.
    behind P (right_lanes study tape_name held) _ (λ lanes.
    behind P (right_orders study.sizes.ranks lanes schedule_name held) _ (λ orders g same. ends_so e study lanes orders g same))) f is

of_fold : (study tape : List ℕ) (schedule : Option (List ℕ)) (held : Names) (f : Folded) → asked_fold (right_inputs results study tape schedule held) ≡ Some f
    → IsOfFold f (right_fold results study tape schedule held) (fold_task (right_inputs results study tape schedule held))
of_fold study tape schedule held f is =
    let same : right_inputs results study tape schedule held ≡ Ok f = inputs_are (right_inputs results study tape schedule held) f is in
    record { text = ap asked_text same; fold = ap fold_task same; ending = inputs_end results study tape schedule held f same }

of_command : (command : Words) (held : Names) (f : Folded) → command_prints command held ≡ Some f → IsOfFold f (right_command command held) (command_task command held)
of_command (words.Fold study tape schedule) held f is = of_fold study tape schedule held f is
of_command (words.Watch study events) held f is = absurd cc
of_command (words.Design study) held f is = absurd cc
of_command (words.Trial study number saved) held f is = absurd cc
of_command (words.Bins study tape schedule) held f is = absurd cc
of_command (words.Export study prefix) held f is = absurd cc
of_command (words.Resume study old prefix tape schedule) held f is = absurd cc

of_option : (o : Option Words) (held : Names) (f : Folded) → option_and_then (λ command. command_prints command held) o ≡ Some f
    → IsOfFold f (command_or_usage o >>= (λ command. right_command command held)) (task_or_nothing o held)
of_option None held f is = let none : ◌≡◌ {A = Option Folded} None (Some f) = is in absurd cc
of_option (Some command) held f is = of_command command held f is

of_words : (held : Names) (line : List (List ℕ)) (f : Folded) → printed_of held line ≡ Some f → IsOfFold f (ideal held line) (task_of held line)
unfolding printed_of ideal task_of
of_words held line f is = of_option (words_of line) held f is

-- after Done the result text of a fold was written, where it is sure what the keepers leave
text_written : (sound : Bool) (unsaved : Type 0) (keepers : List KeeperState) (right : Result (List ℕ) Status) (task : Task) (f : Folded) (old new : SinkState) (s : Status)
    → IsOfFold f right task → s ≡ status.Done → Answers sound unsaved (IsTextSure task keepers) right old new s → IsSure (folding f) keepers → Wrote old new (result_text f.study f.lanes f.orders)
text_written sound unsaved keepers right task f old new s is done h sure =
    let says : Answers sound unsaved (IsTextSure task keepers) right old new status.Done = subst (λ (x : Status). Answers sound unsaved (IsTextSure task keepers) right old new x) done h in
    let of_text : Answers sound unsaved (IsTextSure task keepers) (Ok (folded_text f)) old new status.Done = subst (λ (o : Result (List ℕ) Status). Answers sound unsaved (IsTextSure task keepers) o old new status.Done) is.text says in
    let of_fold : Answers sound unsaved (IsTextSure (folding f) keepers) (Ok (folded_text f)) old new status.Done = subst (λ (o : Task). Answers sound unsaved (IsTextSure o keepers) (Ok (folded_text f)) old new status.Done) is.fold of_text in
    subst (λ (e : Ending). Wrote old new (ending_text e f.study f.lanes f.orders)) is.ending (of_fold sure)

if_printed : (folded : Option Folded) (old new : SinkState) → ((f : Folded) → folded ≡ Some f → HasPlainLines (Some f) old new) → HasPlainLines folded old new
if_printed None old new each = tt
if_printed (Some f) old new each = each f refl

-- the two laws: no crash is read back, and the text is the one with the plain schedule's lines
abbrev pub NoneCrash : Type 0
NoneCrash = (s : Sizes) (lanes : List Lane) (orders : List (List ℕ)) (rank : ℕ) → IsOrderFree s lanes → is_complete s.ranks lanes orders ≡ true → crash_after_save (histories_of lanes orders rank) ≡ false

abbrev pub LinesAreSame : Type 0
LinesAreSame = (study : Study) (lanes : List Lane) (orders : List (List ℕ)) → IsOrderFree study.sizes lanes → is_complete study.sizes.ranks lanes orders ≡ true → result_text study lanes orders ≡ text_with_plain_lines study lanes orders

plain_lines : NoneCrash → LinesAreSame → (sound : Bool) (unsaved : Type 0) (keepers : List KeeperState) (held : Names) (line : List (List ℕ)) (old new : SinkState) (s : Status)
    → s ≡ status.Done → Answers sound unsaved (IsTextSure (task_of held line) keepers) (ideal held line) old new s → HasPlainLines (printed_of held line) old new
plain_lines calm same sound unsaved keepers held line old new s done h =
    if_printed (printed_of held line) old new (λ f is free complete.
    let sure : IsSure (folding f) keepers = λ rank keeper there. inr (calm f.study.sizes f.lanes f.orders rank free complete) in
    subst (Wrote old new) (same f.study f.lanes f.orders free complete) (text_written sound unsaved keepers (ideal held line) (task_of held line) f old new s (of_words held line f is) done h sure))

-- the same of the command's answer over files that tell
pub plain_carried : NoneCrash → LinesAreSame → (saved : Saving) (line : List (List ℕ)) (files files' : FileState) (out out' : SinkState) (keepers keepers' : List KeeperState) (s : Status) (held : Names)
    → Carries saved (λ held. ideal held line) (λ held. task_of held line) files files' out out' keepers keepers' s → files.held ≡ Some held → s ≡ status.Done → HasPlainLines (printed_of held line) out out'
plain_carried calm same saved line files files' out out' keepers keepers' s held h told done =
    plain_lines calm same files.sound (SaveFails saved (task_of held line) files files' out out' keepers keepers') keepers held line out out' s done (h.told held told).text
