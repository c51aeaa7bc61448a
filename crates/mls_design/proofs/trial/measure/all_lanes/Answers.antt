use Rattle.mls_design.specs.Trial.{first_lanes, control_lanes}
use Rattle.std.proofs.Common.{◌++◌}
use Rattle.mls_design.proofs.TrialLanes.{too_large_first, too_large_early, all_some, none_all}
use Rattle.mls_design.proofs.trial.measure.all_lanes.Goals as goal

pub returns-in_err-first-clause-none : goal.returns-in_err-first-clause-none
returns-in_err-first-clause-none c = λ number ok h.
    rw c.from_residual.ensures (too_large_first c.args.study.now number (c.in_err-first.ensures.none number ok h c.empty_size.ensures.value))

pub returns-in_err-earlier-clause-none : goal.returns-in_err-earlier-clause-none
returns-in_err-earlier-clause-none c = λ number ok h.
    let first = c.in_ok-first.ensures.some number ok h c.empty_size.ensures.value in
    rw c.from_residual-in_err-earlier.ensures (too_large_early c.args.study.now number (c.in_err-earlier.ensures.none (first_lanes c.args.study.now number) first))

pub returns-clause-some : goal.returns-clause-some
returns-clause-some c = λ number ok h.
    let study = c.args.study.now in
    let first = c.in_ok-first.ensures.some number ok h c.empty_size.ensures.value in
    let earlier = c.in_ok-earlier.ensures.some (first_lanes study number) first in
    all_some study number c.with_resent_lanes.result (c.with_resent_lanes.ensures.some (first_lanes study number ++ control_lanes study.sizes) earlier) c.with_resent_lanes.ensures.fits

pub returns-clause-none : goal.returns-clause-none
returns-clause-none c = λ number ok h.
    let study = c.args.study.now in
    let first = c.in_ok-first.ensures.some number ok h c.empty_size.ensures.value in
    let earlier = c.in_ok-earlier.ensures.some (first_lanes study number) first in
    none_all study number c.with_resent_lanes.result (c.with_resent_lanes.ensures.none (first_lanes study number ++ control_lanes study.sizes) earlier)
