-- The old number of ranks, the files and the lists, one after another.
use Rattle.std.proofs.Common.{Ok}
use Rattle.std.proofs.lemmas.Result.{err_from_is_err_and}
use Rattle.mls_resume.specs.Reads.{lists_of}
use Rattle.mls_cli.specs.Resume.{right_openings}
use Rattle.mls_cli.proofs.InputSteps.{loads_nothing, loads_refused, loads_then}
use Rattle.mls_cli.proofs.openings.load_openings.Goals as goal

pub returns-in_err-old-clause-loads : goal.returns-in_err-old-clause-loads
unfolding right_openings
returns-in_err-old-clause-loads g c =
    let p = err_from_is_err_and c.from_residual.result c.from_residual.ensures.1 in
    rw (p.1, p.2) (loads_refused (λ s. s) _ _ _ _ _ _ (loads_nothing (λ s. s) _ _ _ c.in_err-old.ensures.right c.in_err-old.ensures.content))

pub returns-in_err-lists-clause-loads : goal.returns-in_err-lists-clause-loads
unfolding right_openings
returns-in_err-lists-clause-loads g c =
    let p = err_from_is_err_and c.from_residual-in_err-lists.result c.from_residual-in_err-lists.ensures.1 in
    rw (p.1, p.2) (loads_then (λ s. s) _ _ _ _ _ _ c.in_ok-old.old _ (loads_nothing (λ s. s) _ _ (Ok c.in_ok-old.old) c.in_ok-old.ensures.right tt) (loads_refused (λ l. lists_of l.items) _ _ _ _ _ _ c.in_err-lists.ensures.loads))

pub returns-clause-loads : goal.returns-clause-loads
unfolding right_openings
returns-clause-loads g c =
    loads_then (λ s. s) _ _ _ _ _ _ c.in_ok-old.old _ (loads_nothing (λ s. s) _ _ (Ok c.in_ok-old.old) c.in_ok-old.ensures.right tt)
    (loads_then (λ l. lists_of l.items) _ _ _ _ _ _ c.in_ok-lists.lists _ c.in_ok-lists.ensures.loads (loads_nothing (λ l. lists_of l.items) _ _ c.cut.result c.cut.ensures.right c.cut.ensures.content))
