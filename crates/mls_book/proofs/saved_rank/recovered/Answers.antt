-- The core that the keeper's bytes spell.
use Rattle.std.proofs.Common.{List, ℕ, subst}
use Rattle.mls_rank.specs.Saving.{RecoversSaved}
use Rattle.mls_book.proofs.Telling.{some_is}
use Rattle.mls_book.proofs.saved_rank.recovered.Goals as goal

pub returns-in-Some-clause-again : goal.returns-in-Some-clause-again
returns-in-Some-clause-again g c =
    some_is (λ bytes. RecoversSaved c.args.shape.now c.args.rank bytes.items c.recover.result) c.args.given c.in-Some.bytes c.in-Some.is
    (subst (λ (bytes : List ℕ). RecoversSaved c.args.shape.now c.args.rank bytes c.recover.result) c.as_slice.ensures.value c.recover.ensures.again)
