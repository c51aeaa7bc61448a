-- The study of a name is that of its bytes.
use Rattle.std.proofs.Common.{sym}
use Rattle.std.proofs.lemmas.Result.{err_from_is_err_and}
use Rattle.mls_load.specs.Inputs.{content_study, right_study}
use Rattle.mls_load.proofs.InputSteps.{content_of, loads_refused}
use Rattle.mls_load.proofs.loading.load_study.Goals as goal

pub returns-in_err-bytes : goal.returns-in_err-bytes
unfolding right_study
returns-in_err-bytes g c =
    let p = err_from_is_err_and c.from_residual.result c.from_residual.ensures.1 in
    rw (p.1, p.2) (loads_refused _ _ _ (λ held. content_study) _ _ _ c.in_err-bytes.ensures.loads)

pub returns : goal.returns
unfolding right_study
returns g c =
    let h = c.in_ok-bytes.ensures.loads in
    content_of _ (λ s. s) _ content_study _ _ c.study_in.result h.right h.same h.sound h.loads h.saves (rw (sym c.as_slice.ensures.value) c.study_in.ensures.right) c.study_in.ensures.content
