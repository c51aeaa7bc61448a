-- What the words ask for is answered.
use Rattle.std.proofs.Common.{◌≡◌, ℕ, List, None, Err, map, string_bytes, subst}
use Rattle.mls_load.specs.declared.words.WordsFault.{WordsFault}
use Rattle.mls_live.specs.Ideal.{AcceptsNothing, WritesNothing}
use Rattle.mls_live.specs.Words.{words_of, Reads}
use Rattle.mls_live.proofs.Tasks.{carries_memory}
use Rattle.mls_live.proofs.Wording.{carried_usage, carried_words}
use Rattle.mls_live.proofs.commands.run.Goals as goal

pub returns-in-Ok-clause-carried : goal.returns-in-Ok-clause-carried
returns-in-Ok-clause-carried g c = carried_words (map string_bytes c.args.words.now) _ _ _ _ _ _ _ _ _ _ c.in-Ok.ensures.reads c.carry_out.ensures.carried

pub returns-in-Ok-clause-unwritten : goal.returns-in-Ok-clause-unwritten
returns-in-Ok-clause-unwritten g c = λ nothing. c.carry_out.ensures.unwritten (subst WritesNothing c.in-Ok.ensures.reads nothing)

pub returns-in-Ok-clause-accepts : goal.returns-in-Ok-clause-accepts
returns-in-Ok-clause-accepts g c = λ nothing. c.carry_out.ensures.accepts (subst AcceptsNothing c.in-Ok.ensures.reads nothing)

pub returns-in-Err-Usage-clause-carried : goal.returns-in-Err-Usage-clause-carried
returns-in-Err-Usage-clause-carried g c =
    let words : List (List ℕ) = map string_bytes c.args.words.now in
    let none : words_of words ≡ None = subst (λ (f : WordsFault). Reads (Err f) (words_of words)) c.in-Err-Usage.field-0-is c.in-Err-Usage.ensures.reads in
    carried_usage words _ _ _ _ none

pub returns-in-Err-Memory-clause-carried : goal.returns-in-Err-Memory-clause-carried
returns-in-Err-Memory-clause-carried g c = carries_memory _ _ _ _ _
