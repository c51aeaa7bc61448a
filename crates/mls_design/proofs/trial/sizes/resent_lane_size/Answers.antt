use Rattle.std.proofs.Common.{arith, ◌≡◌, ◌*◌, ap, ◌∙◌}
use Rattle.mls_model.specs.Studies.{Sizes, planes}
use Rattle.mls_design.proofs.TrialLanes.{resent_size, resent_small, marks_small}
use Rattle.mls_design.proofs.trial.sizes.resent_lane_size.Goals as goal

pub overflow_mul-result : goal.overflow_mul-result
overflow_mul-result c =
    let s = c.args.study.now.sizes in
    let groups = c.groups.ensures.value ∙ ap (λ (z : Sizes). z.groups) c.shape-shape.ensures in
    let own = c.planes.ensures.value ∙ ap planes c.shape-shape.ensures in
    let all : c.groups.result * c.planes.result ≡ s.groups * planes s = ap (λ g. g * c.planes.result) groups ∙ ap (λ q. s.groups * q) own in
    omega (arith, resent_small c.piece_bytes.result (c.groups.result * c.planes.result) c.piece_bytes.ensures.few (omega (arith, all, marks_small s c.valid.ensures.sizes)))

pub returns-clause-value : goal.returns-clause-value
returns-clause-value c =
    let s = c.args.study.now.sizes in
    let groups = c.groups.ensures.value ∙ ap (λ (z : Sizes). z.groups) c.shape-shape.ensures in
    let own = c.planes.ensures.value ∙ ap planes c.shape-shape.ensures in
    let all : c.groups.result * c.planes.result ≡ s.groups * planes s = ap (λ g. g * c.planes.result) groups ∙ ap (λ q. s.groups * q) own in
    resent_size c.args.study.now c.args.route c.piece_bytes.result (c.groups.result * c.planes.result) c.piece_bytes.ensures.value all

pub returns-clause-bytes : goal.returns-clause-bytes
returns-clause-bytes c =
    let s = c.args.study.now.sizes in
    let groups = c.groups.ensures.value ∙ ap (λ (z : Sizes). z.groups) c.shape-shape.ensures in
    let own = c.planes.ensures.value ∙ ap planes c.shape-shape.ensures in
    let all : c.groups.result * c.planes.result ≡ s.groups * planes s = ap (λ g. g * c.planes.result) groups ∙ ap (λ q. s.groups * q) own in
    omega (arith, resent_small c.piece_bytes.result (c.groups.result * c.planes.result) c.piece_bytes.ensures.few (omega (arith, all, marks_small s c.valid.ensures.sizes)))
