use Rattle.std.proofs.Common.{◌+◌, arith}
use Rattle.mls_field.specs.OutputSteps.{ends_step}
use Rattle.mls_field.specs.Gathered.{row_behind}
use Rattle.mls_field.proofs.Fronts.{first_at, second_at, front_more, none_same}
use Rattle.mls_field.proofs.cells.add_rows_to_ends.Goals as goal

pub loop-g-init : goal.loop-g-init
loop-g-init c = λ cell long same. none_same _ _ _ _ _ same

pub loop-g-preserved : goal.loop-g-preserved
loop-g-preserved c =
    let n = c.args.parameters + 2 in
    let g = c.loop-g.g in
    let row = row_behind n c.args.places c.args.samples.now c.args.start c.args.place in
    λ cell long same. front_more ends_step 2 row g cell c.loop-g.ends c.add_pair_to_ends.new.ends long (c.loop-g.invariant cell long same)
    (c.add_pair_to_ends.ensures (row g) (first_at n c.args.places c.args.samples.now c.args.start c.args.place g (omega arith)) (second_at n c.args.places c.args.samples.now c.args.start c.args.place g (omega arith)))
