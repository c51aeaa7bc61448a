-- What words ask for, from the command that they are.
use Rattle.std.proofs.Common.{◌≡◌, ℕ, List, Some, None, Result, Err, refl, sym, ◌∙◌, ap, subst}
use Rattle.mls_base.specs.Told.{Names}
use Rattle.mls_text.specs.Writing.{SinkState}
use Rattle.mls_book.specs.Keepers.{KeeperState}
use Rattle.mls_result.specs.declared.status.Status.{Status}
use Rattle.mls_result.specs.declared.status.Status.TheVariants as status
use Rattle.mls_load.specs.Inputs.{◌>>=◌}
use Rattle.mls_load.specs.Refusals.{FileState}
use Rattle.mls_live.specs.declared.words.Words.{Words}
use Rattle.mls_served.specs.Doors.{DoorState}
use Rattle.mls_live.specs.Tasks.{CarriesOut, Task, TellsRight}
use Rattle.mls_live.specs.Ideal.{command_or_usage, right_command, ideal}
use Rattle.mls_live.specs.Words.{words_of}
use Rattle.mls_live.proofs.Tasks.{carries_refused}

ideal_is : (held : Names) (words : List (List ℕ)) (command : Words) → words_of words ≡ Some command → ideal held words ≡ right_command command held
unfolding ideal
ideal_is held words command is = ap (λ o. command_or_usage o >>= (λ c. right_command c held)) is

ideal_usage : (held : Names) (words : List (List ℕ)) → words_of words ≡ None → ideal held words ≡ Err status.Usage
unfolding ideal
ideal_usage held words is = ap (λ o. command_or_usage o >>= (λ c. right_command c held)) is

-- words that are a command answer as it does
pub carried_words : (words : List (List ℕ)) (command : Words) (files files' : FileState) (out out' : SinkState) (keepers keepers' : List KeeperState) (door door' : DoorState) (s : Status) → words_of words ≡ Some command → CarriesOut (right_command command) files files' out out' keepers keepers' door door' s → CarriesOut (λ held. ideal held words) files files' out out' keepers keepers' door door' s
carried_words words command files files' out out' keepers keepers' door door' s is h = record {
  right = λ held told. subst (λ (r : Result Task Status). TellsRight r files files' out out' keepers keepers' door door' s) (sym (ideal_is held words command is)) (h.right held told);
  surely = λ held x told e enough. h.surely held x told (sym (ideal_is held words command is) ∙ e) enough;
  read_fault = h.read_fault;
  door_fault = h.door_fault;
  link_fault = h.link_fault;
  write_fault = h.write_fault;
  keeper_fault = h.keeper_fault;
  checkpoint_bad = h.checkpoint_bad;
  quiet = h.quiet;
  saves = h.saves;
}

-- words that are no command
pub carried_usage : (words : List (List ℕ)) (files : FileState) (out : SinkState) (keepers : List KeeperState) (door : DoorState) → words_of words ≡ None → CarriesOut (λ held. ideal held words) files files out out keepers keepers door door status.Usage
carried_usage words files out keepers door is = carries_refused status.Usage (λ held. ideal held words) files out keepers door (λ held. ideal_usage held words is) tt tt (λ e. cc) (refl, refl)
