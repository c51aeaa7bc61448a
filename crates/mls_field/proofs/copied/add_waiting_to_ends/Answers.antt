use Rattle.std.proofs.Common.{◌≡◌, ◌+◌, ◌*◌, slice_index, ap, ◌∙◌, arith}
use Rattle.mls_field.specs.Copied.{copied}
use Rattle.mls_field.specs.Gathered.{row_behind}
use Rattle.mls_field.specs.OutputSteps.{ends_step}
use Rattle.mls_field.proofs.Fronts.{first_at, second_at, front_more, none_same}
use Rattle.mls_field.proofs.FourCopied.{stepped_ends}
use Rattle.mls_field.proofs.copied.add_waiting_to_ends.Goals as goal

pub loop-g-init : goal.loop-g-init
loop-g-init c = λ k cell k_in long same. none_same _ _ _ _ _ same

pub loop-g-preserved : goal.loop-g-preserved
loop-g-preserved c = λ k cell k_in long same.
    let n = c.args.parameters + 2 in
    let g = c.loop-g.g in
    let places = c.args.places in
    let samples = c.args.samples.now in
    let start = c.args.start in
    let from = c.args.from in
    let row = row_behind n places samples start (from + k) in
    let at = g * (n * places) + start + from in
    front_more ends_step 2 row g cell (copied 2 c.loop-g.ends k) (copied 2 c.take_greatest.new.ends k) long (c.loop-g.invariant k cell k_in long same)
    (stepped_ends k at (at + places) c.args.count c.loop-g.ends c.take_least.new.ends c.take_greatest.new.ends samples (row g) k_in c.requires.count c.take_least.ensures c.take_greatest.ensures
    (first_at n places samples start (from + k) g (omega arith) ∙ ap (slice_index samples) (let e : g * (n * places) + start + (from + k) ≡ at + k = omega arith in e))
    (second_at n places samples start (from + k) g (omega arith) ∙ ap (slice_index samples) (let e : g * (n * places) + start + (from + k) + places ≡ at + places + k = omega arith in e)))
