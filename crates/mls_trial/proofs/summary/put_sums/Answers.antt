use Rattle.std.proofs.Common.{◌∙◌, ap, pos, ℤ, FitsSigned, to_z-of_z, rules}
use Rattle.std.specs.Int.{w128}
use Rattle.mls_text.proofs.Writing.{line_writes}
use Rattle.mls_trial.specs.Words.{sum_words}
use Rattle.mls_trial.specs.Kept.{kept_sum_line}
use Rattle.mls_trial.proofs.summary.put_sums.Goals as goal

pub returns : goal.returns
unfolding kept_sum_line
returns g c =
    let sums = c.all_sums-sums.result in
    let fits : FitsSigned w128 sums.first = search rules in
    line_writes _ _ _ _ _ (c.sum_line.ensures ∙ ap (λ (p : ℤ). sum_words p (pos sums.second)) (to_z-of_z fits) ∙ (λ i. sum_words (c.all_sums-sums.ensures.first i) (c.all_sums-sums.ensures.second i))) c.put.ensures
