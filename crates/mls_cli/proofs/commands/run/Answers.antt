-- What the words ask for is answered.
use Rattle.std.proofs.Common.{◌≡◌, ℕ, List, None, Err, map, string_bytes, subst}
use Rattle.mls_cli.specs.declared.words.WordsFault.{WordsFault}
use Rattle.mls_cli.specs.Words.{words_of, Reads}
use Rattle.mls_cli.proofs.Carrying.{carried_memory}
use Rattle.mls_cli.proofs.Wording.{carried_usage, carried_words}
use Rattle.mls_cli.proofs.commands.run.Goals as goal

pub returns-in-Ok-clause-carried : goal.returns-in-Ok-clause-carried
returns-in-Ok-clause-carried g c = carried_words (map string_bytes c.args.words.now) _ _ _ _ _ _ _ _ c.in-Ok.ensures c.carry_out.ensures.carried

pub returns-in-Err-Usage-clause-carried : goal.returns-in-Err-Usage-clause-carried
returns-in-Err-Usage-clause-carried g c =
    let words : List (List ℕ) = map string_bytes c.args.words.now in
    let none : words_of words ≡ None = subst (λ (f : WordsFault). Reads (Err f) (words_of words)) c.in-Err-Usage.field-0-is c.in-Err-Usage.ensures in
    carried_usage words _ _ _ none

pub returns-in-Err-Memory-clause-carried : goal.returns-in-Err-Memory-clause-carried
returns-in-Err-Memory-clause-carried g c = carried_memory _ _ _ _ _ _
