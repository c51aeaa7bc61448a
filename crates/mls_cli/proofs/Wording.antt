-- What words ask for, from the command that they are.
use Rattle.std.proofs.Common.{◌≡◌, ℕ, List, Option, Some, None, refl, sym, subst}
use Rattle.mls_text.specs.Writing.{SinkState}
use Rattle.mls_book.specs.Keepers.{KeeperState}
use Rattle.mls_result.specs.declared.status.Status.{Status}
use Rattle.mls_result.specs.declared.status.Status.TheVariants as status
use Rattle.mls_cli.specs.declared.words.Words.{Words}
use Rattle.mls_cli.specs.Answers.{Carries}
use Rattle.mls_cli.specs.Words.{words_of}
use Rattle.mls_cli.specs.Inputs.{◌>>=◌}
use Rattle.mls_cli.specs.Ideal.{command_or_usage, right_command, command_task, command_saves, ideal, saves_of, saving_or_none, task_of, task_or_nothing}
use Rattle.mls_export.specs.Files.{FileState}

-- how words answer that are read as this command, or as none
abbrev AnswersAs : Option Words → (old new : FileState) (out out' : SinkState) (keepers keepers' : List KeeperState) → Status → Type 0
AnswersAs o old new out out' keepers keepers' s = Carries (saving_or_none o) (λ held. command_or_usage o >>= (λ c. right_command c held)) (λ held. task_or_nothing o held) old new out out' keepers keepers' s

-- words that are a command answer as it does
pub carried_words : (words : List (List ℕ)) (command : Words) (old new : FileState) (out out' : SinkState) (keepers keepers' : List KeeperState) (s : Status) → words_of words ≡ Some command
    → Carries (command_saves command) (right_command command) (command_task command) old new out out' keepers keepers' s → Carries (saves_of words) (λ held. ideal held words) (λ held. task_of held words) old new out out' keepers keepers' s
unfolding ideal task_of saves_of
carried_words words command old new out out' keepers keepers' s is h = subst (λ o. AnswersAs o old new out out' keepers keepers' s) (sym is) h

usage_answers : (files : FileState) (out : SinkState) (keepers : List KeeperState) → AnswersAs None files files out out keepers keepers status.Usage
usage_answers files out keepers = record {
  told = λ held told. record { text = (refl, refl); resumed = tt; form = tt; leaves = refl; stored = refl; exported = tt; all_groups = tt };
  read_fault = λ e. absurd (cc);
  write_fault = λ e. absurd (cc);
  keeper_fault = λ rank e. absurd (cc);
  quiet = λ q. refl;
  saves = refl;
}

-- words that are no command
pub carried_usage : (words : List (List ℕ)) (files : FileState) (out : SinkState) (keepers : List KeeperState) → words_of words ≡ None → Carries (saves_of words) (λ held. ideal held words) (λ held. task_of held words) files files out out keepers keepers status.Usage
unfolding ideal task_of saves_of
carried_usage words files out keepers is = subst (λ o. AnswersAs o files files out out keepers keepers status.Usage) (sym is) (usage_answers files out keepers)
