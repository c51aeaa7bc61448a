use Rattle.std.proofs.Common.{◌≡◌, ◌++◌, take, sym, ◌∙◌, ap, subst}
use Rattle.std.specs.List.{flat_map}
use Rattle.mls_model.specs.Studies.{planes}
use Rattle.mls_power.specs.ExtremaStanding.{ExtremaStandFor}
use Rattle.mls_rank.specs.Cores.{sizes_of}
use Rattle.mls_trial.specs.Kept.{core_groups}
use Rattle.mls_trial.proofs.Counts.{cores_more, all_groups}
use Rattle.mls_trial.proofs.counted.accepted_ends.Goals as goal

pub add_core-requires : goal.add_core-requires
add_core-requires c =
    let here = c.loop-core-test.true in
    let core = c.core-item.result in
    let sizes : sizes_of core ≡ c.args.study.now.sizes = ap sizes_of c.core-item.is ∙ c.requires.cores.sizes c.loop-core.core-index core here in
    c.planes-count.ensures.value ∙ ap planes (c.shape.ensures ∙ sym sizes)

pub loop-core-preserved : goal.loop-core-preserved
loop-core-preserved c =
    let s = c.args.study.now.sizes in
    let cores = c.args.cores.now in
    let i = c.loop-core.core-index in
    let here = c.loop-core-test.true in
    let core = c.core-item.result in
    let sizes : sizes_of core ≡ s = ap sizes_of c.core-item.is ∙ c.requires.cores.sizes i core here in
    let grown = c.add_core.ensures (flat_map (core_groups s) (take i cores)) c.loop-core.invariant in
    let more = ap (λ z. flat_map (core_groups s) (take i cores) ++ core_groups z core) sizes ∙ ap (λ d. flat_map (core_groups s) (take i cores) ++ core_groups s d) c.core-item.is ∙ sym (cores_more s cores i core here) in
    subst (ExtremaStandFor c.add_core.new.ends) more grown

pub returns : goal.returns
returns c = subst (ExtremaStandFor c.loop-core.ends) (all_groups c.args.study.now.sizes c.args.cores.now c.loop-core.core-index c.loop-core-test.false) c.loop-core.invariant
