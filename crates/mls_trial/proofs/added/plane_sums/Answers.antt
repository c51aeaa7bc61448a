use Rattle.std.proofs.Common.{◌≡◌, ◌+◌, ◌<◌, ◌^◌, refl, ◌∙◌, ap, ◌+ℤ◌, FitsSigned, to_z-of_z, rules, arith}
use Rattle.std.specs.Int.{w64}
use Rattle.mls_model.specs.Numbers.{below, sum_ints}
use Rattle.mls_result.specs.Histories.{kept_sums}
use Rattle.mls_trial.specs.declared.value_sums.ValueSums.{ValueSums}
use Rattle.mls_trial.specs.Kept.{first_of, second_of}
use Rattle.mls_trial.proofs.Sums.{one_more}
use Rattle.mls_trial.proofs.Bounds.{wide, cells_fit, cells_fit_more, cell_within}
use Rattle.mls_trial.proofs.added.plane_sums.Goals as goal

pub overflow_add-sums : goal.overflow_add-sums
overflow_add-sums c =
    let p1 = c.cell_powers-powers.result.p1 in
    let old = c.loop-cell.sums in
    let here : c.loop-cell.cell < 2 ^ 32 = omega (arith, c.loop-cell-test.true, c.ranges.cells.fits) in
    let narrow : FitsSigned w64 p1 = search rules in
    let fits = cells_fit c.loop-cell.cell old here c.loop-cell.invariant.within in
    rw (to_z-of_z narrow) (rw (to_z-of_z (wide p1 narrow)) (rw (to_z-of_z fits) (cells_fit_more c.loop-cell.cell old p1 here c.loop-cell.invariant.within narrow)))

pub loop-cell-preserved : goal.loop-cell-preserved
loop-cell-preserved c =
    let s = c.args.study.now.sizes in
    let cores = c.args.cores.now in
    let plane = c.args.plane in
    let cell = c.loop-cell.cell in
    let p1 = c.cell_powers-powers.result.p1 in
    let p2 = c.cell_powers-powers.result.p2 in
    let old = c.loop-cell.sums in
    let here : c.loop-cell.cell < 2 ^ 32 = omega (arith, c.loop-cell-test.true, c.ranges.cells.fits) in
    let narrow : FitsSigned w64 p1 = search rules in
    let few : p2 < 2 ^ 64 = search rules in
    let within = c.loop-cell.invariant.within in
    let fits = cells_fit cell old here within in
    let more = cells_fit_more cell old p1 here within narrow in
    let new : ValueSums = record { first = old.first +ℤ p1; second = old.second + p2 } in
    let sums = one_more (λ x. first_of s (kept_sums s cores plane x)) (λ x. second_of s (kept_sums s cores plane x)) cell old new p1 p2 c.loop-cell.invariant.sums refl refl c.cell_powers-powers.ensures.first c.cell_powers-powers.ensures.second in
    let bound = cell_within cell old new p1 p2 within narrow few refl refl in
    rw (to_z-of_z narrow) (rw (to_z-of_z (wide p1 narrow)) (rw (to_z-of_z fits) (rw (to_z-of_z more) (record { sums = sums; within = bound }))))

pub returns-clause-second : goal.returns-clause-second
returns-clause-second c =
    let s = c.args.study.now.sizes in
    let all : c.loop-cell.cell ≡ s.cells = omega (arith, c.loop-cell-test.false, c.loop-cell.auto.cell-end, c.requires.cells) in
    c.loop-cell.invariant.sums.second ∙ ap (λ n. sum_ints (λ x. second_of s (kept_sums s c.args.cores.now c.args.plane x)) (below n)) all
