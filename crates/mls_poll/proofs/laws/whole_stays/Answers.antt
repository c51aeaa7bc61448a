use Rattle.std.proofs.Common.{◌++◌, take, drop, refl, ap, ◌∙◌, append_assoc}
use Rattle.std.proofs.lemmas.List.{take-append-drop}
use Rattle.mls_poll.proofs.laws.whole_stays.Goals as goal

pub returns-clause-read : goal.returns-clause-read
returns-clause-read c = λ n talk. append_assoc talk.read (take n talk.left) (drop n talk.left) ∙ ap (λ xs. talk.read ++ xs) (take-append-drop n talk.left)

pub returns-clause-written : goal.returns-clause-written
returns-clause-written c = λ bytes talk. refl
