use Rattle.std.proofs.Common.{arith, ◌+◌, ◌-◌, ◌*◌, ◌∙◌, ap, sym, length}
use Rattle.mls_model.specs.Blocks.{overlap}
use Rattle.mls_model.specs.Studies.{Sizes, plane_of}
use Rattle.mls_design.proofs.Pieces.{piece_is, length-rows, body_small}
use Rattle.mls_design.proofs.piece.make_piece.Goals as goal

pub invariant_of-result : goal.invariant_of-result
invariant_of-result c =
    let study = c.args.study.now in
    let cells = c.overlap-cells.result in
    let count = cells.end - cells.first in
    let parameters = c.parameters.ensures.value ∙ ap (λ (s : Sizes). s.parameters) c.shape-shape.ensures in
    record {
      size = ap length c.in_ok-samples.ensures ∙ length-rows study c.args.group c.args.step c.args.field cells.first count (2 + study.sizes.parameters) ∙ ap (λ n. (2 + n) * count) (sym parameters);
      body = body_small (2 + c.parameters.result) count (omega (arith, parameters, c.valid.ensures.sizes.parameters)) (omega (arith, c.overlap-cells.ensures.within, ap (λ (s : Sizes). s.cells) c.shape-shape.ensures, c.valid.ensures.sizes.cells));
    }

pub returns : goal.returns
returns c =
    let study = c.args.study.now in
    piece_is study c.args.group c.args.life c.args.step c.args.field c.args.rank c.args.client c.plane.result (2 + c.parameters.result) c.overlap-cells.result c.in_ok-samples.samples
    (c.plane.ensures.value ∙ ap (λ (s : Sizes). plane_of s c.args.step c.args.field) c.shape-shape.ensures)
    (ap (λ n. 2 + n) (c.parameters.ensures.value ∙ ap (λ (s : Sizes). s.parameters) c.shape-shape.ensures))
    (c.overlap-cells.ensures.value ∙ ap (λ (s : Sizes). overlap s c.args.rank c.args.client) c.shape-shape.ensures)
    c.in_ok-samples.ensures
