-- The file of an old rank is that of its name, and is checked.
use Rattle.std.proofs.Common.{◌∙◌}
use Rattle.std.proofs.lemmas.Result.{err_from_is_err_and}
use Rattle.mls_cli.specs.Resume.{content_opening, right_file}
use Rattle.mls_cli.proofs.InputSteps.{content_of, loads_refused}
use Rattle.mls_cli.proofs.openings.load_file.Goals as goal

pub returns-in_err-bytes-clause-loads : goal.returns-in_err-bytes-clause-loads
unfolding right_file
returns-in_err-bytes-clause-loads g c =
    let p = err_from_is_err_and c.from_residual.result c.from_residual.ensures.1 in
    let name = c.as_str.ensures.value ∙ c.in-Ok.ensures in
    let own = rw (name) at c.in_err-bytes.ensures.loads in
    rw (p.1, p.2) (loads_refused _ _ _ (λ held. content_opening c.args.old.now c.args.rank) _ _ _ own)

pub returns-clause-loads : goal.returns-clause-loads
unfolding right_file
returns-clause-loads g c =
    let name = c.as_str.ensures.value ∙ c.in-Ok.ensures in
    let h = rw (name) at c.in_ok-bytes.ensures.loads in
    content_of _ (λ b. b.items) _ (content_opening c.args.old.now c.args.rank) _ _ c.checked.result h.right h.same h.sound h.loads h.saves c.checked.ensures.right c.checked.ensures.content
