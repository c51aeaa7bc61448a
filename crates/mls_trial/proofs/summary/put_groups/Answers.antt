use Rattle.std.proofs.Common.{◌≤◌, length, false, ◌∙◌, arith}
use Rattle.std.proofs.lemmas.Nat.{mul-le}
use Rattle.mls_model.specs.Studies.{planes}
use Rattle.mls_text.proofs.Writing.{line_writes}
use Rattle.mls_trial.specs.Kept.{kept_groups}
use Rattle.mls_trial.proofs.Counts.{some_groups, ends_said}
use Rattle.mls_trial.proofs.summary.put_groups.Goals as goal

pub returns : goal.returns
returns g c =
    let s = c.args.study.now.sizes in
    let cores = c.args.cores.now in
    let numbers = kept_groups s cores in
    let stand = c.accepted_ends-ends.ensures in
    let some_planes : 1 ≤ planes s = mul-le 1 1 s.steps s.fields c.valid.ensures.sizes.some_steps c.valid.ensures.sizes.some_fields in
    let some_cores : 1 ≤ length cores = omega (arith, c.requires.cores.count, c.valid.ensures.sizes.some_ranks) in
    let some = some_groups s cores some_cores some_planes in
    line_writes _ _ _ _ _ (c.groups_line.ensures ∙ ends_said numbers c.least.result c.greatest.result (c.least.ensures.least false numbers stand some) (c.greatest.ensures.greatest false numbers stand some)) c.put.ensures
