use Rattle.std.proofs.Common.{arith, ◌≡◌, ◌+◌, ◌*◌, length, ap, ◌∙◌}
use Rattle.mls_model.specs.Studies.{Sizes}
use Rattle.mls_design.specs.Trial.{routes}
use Rattle.mls_design.proofs.TrialReading.{few_routes}
use Rattle.mls_design.proofs.TrialBytes.{whole_tape}
use Rattle.mls_design.proofs.trial.writing.trial_bytes.Goals as goal

pub overflow_cast-all : goal.overflow_cast-all
overflow_cast-all c = omega (arith, ap length c.requires.are_routes, few_routes c.args.study.now.sizes c.valid.ensures.sizes)

pub overflow_mul-all : goal.overflow_mul-all
overflow_mul-all c = omega (arith, ap length c.requires.are_routes, few_routes c.args.study.now.sizes c.valid.ensures.sizes)

pub overflow_add-all : goal.overflow_add-all
overflow_add-all c =
    let ranks = c.ranks.ensures.value ∙ ap (λ (s : Sizes). s.ranks) c.shape-shape.ensures in
    omega (arith, ap length c.requires.are_routes, few_routes c.args.study.now.sizes c.valid.ensures.sizes, ranks, c.valid.ensures.sizes.ranks)

pub returns : goal.returns
returns c =
    let study = c.args.study.now in
    let signed = c.signed.ensures.value ∙ ap (λ (s : Sizes). s.signed) c.shape-shape.ensures in
    let ranks = c.ranks.ensures.value ∙ ap (λ (s : Sizes). s.ranks) c.shape-shape.ensures in
    let count : 2 * length c.args.all.now + c.ranks.result ≡ length (routes study.sizes) + study.sizes.ranks + length (routes study.sizes) = omega (arith, ap length c.requires.are_routes, ranks) in (
      whole_tape study c.args.number (2 * length c.args.all.now + c.ranks.result) c.signed.result c.in_ok-out.out.items c.put_start.new.out.items c.put_first_lanes.new.out.items c.put_control_lanes.new.out.items c.put_resent_lanes.new.out.items
          c.in_ok-out.ensures.items signed count c.in_ok-put_start.ensures c.in_ok-put_first_lanes.ensures.0 c.in_ok-put_control_lanes.ensures c.in_ok-put_resent_lanes.ensures,
      c.in_ok-put_first_lanes.ensures.1,
    )
