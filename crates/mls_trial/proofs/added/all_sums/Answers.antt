use Rattle.std.proofs.Common.{◌≡◌, ◌+◌, ◌<◌, ◌≤◌, ◌*◌, ◌^◌, refl, ◌∙◌, ap, ◌+ℤ◌, to_z-of_z, arith}
use Rattle.std.proofs.lemmas.Nat.{mul-le}
use Rattle.mls_model.specs.Numbers.{below, sum_ints}
use Rattle.mls_model.specs.Studies.{planes}
use Rattle.mls_trial.specs.declared.value_sums.ValueSums.{ValueSums}
use Rattle.mls_trial.specs.Kept.{first_of, second_of, kept_over_plane, kept_over_cells}
use Rattle.mls_trial.proofs.Sums.{one_more}
use Rattle.mls_trial.proofs.Bounds.{cells_fit, planes_fit, planes_fit_more, plane_within}
use Rattle.mls_trial.proofs.added.all_sums.Goals as goal

pub loop-plane-preserved : goal.loop-plane-preserved
loop-plane-preserved c =
    let s = c.args.study.now.sizes in
    let z = c.shape-shape.result in
    let cores = c.args.cores.now in
    let plane = c.loop-plane.plane in
    let old = c.loop-plane.sums in
    let own = c.plane_sums-of_plane.result in
    let valid = c.cells.ensures.valid in
    let few : planes z ≤ 4096 * 4 = mul-le z.steps z.fields 4096 4 valid.steps valid.fields in
    let here : plane < 2 ^ 15 = omega (arith, c.loop-plane-test.true, c.planes-plane-end.ensures.value, few) in
    let cells : c.cells.result < 2 ^ 32 = omega (arith, c.cells.ensures.value, valid.cells) in
    let within = c.loop-plane.invariant.within in
    let added = c.plane_sums-of_plane.ensures.within in
    let narrow = cells_fit c.cells.result own cells added in
    let fits = planes_fit plane old here within in
    let more = planes_fit_more plane c.cells.result old own here cells within added in
    let new : ValueSums = record { first = old.first +ℤ own.first; second = old.second + own.second } in
    let sums = one_more (kept_over_plane s cores (first_of s)) (kept_over_plane s cores (second_of s)) plane old new own.first own.second c.loop-plane.invariant.sums refl refl c.plane_sums-of_plane.ensures.first c.plane_sums-of_plane.ensures.second in
    let bound = plane_within plane c.cells.result old own new cells within added refl refl in
    rw (to_z-of_z narrow) (rw (to_z-of_z fits) (rw (to_z-of_z more) (record { sums = sums; within = bound })))

pub returns-clause-first : goal.returns-clause-first
unfolding kept_over_cells
returns-clause-first c =
    let s = c.args.study.now.sizes in
    let all : c.loop-plane.plane ≡ planes s = omega (arith, c.loop-plane-test.false, c.loop-plane.auto.plane-end, c.planes-plane-end.ensures.value, ap planes c.shape-shape.ensures) in
    c.loop-plane.invariant.sums.first ∙ ap (λ n. sum_ints (kept_over_plane s c.args.cores.now (first_of s)) (below n)) all

pub returns-clause-second : goal.returns-clause-second
unfolding kept_over_cells
returns-clause-second c =
    let s = c.args.study.now.sizes in
    let all : c.loop-plane.plane ≡ planes s = omega (arith, c.loop-plane-test.false, c.loop-plane.auto.plane-end, c.planes-plane-end.ensures.value, ap planes c.shape-shape.ensures) in
    c.loop-plane.invariant.sums.second ∙ ap (λ n. sum_ints (kept_over_plane s c.args.cores.now (second_of s)) (below n)) all
