use Rattle.std.proofs.Common.{◌≡◌, ℕ, ◌+◌, ◌<◌, ◌≤◌, slice_index, ap, ◌∙◌, sym, subst, arith}
use Rattle.mls_power.proofs.Pieces.{piece_more}
use Rattle.mls_power.proofs.columns.count_above.Goals as goal

pub add_counts-requires-clause-room : goal.add_counts-requires-clause-room
add_counts-requires-clause-room c = λ k low.
    let e : c.args.at + (c.loop-from.from + k) ≡ c.args.at + c.loop-from.from + k = omega arith in
    let below : c.loop-from.from + k < c.args.count = omega (arith, low, c.min-size.ensures, c.loop-from.invariant.inside) in
    subst (λ (n : ℕ). n ≤ 131070) (sym (ap (slice_index c.loop-from.numbers) (sym e) ∙ c.loop-from.invariant.walked.behind (c.args.at + (c.loop-from.from + k)) (omega arith))) (c.requires.room (c.loop-from.from + k) below)

pub loop-from-preserved : goal.loop-from-preserved
loop-from-preserved c = record {
  long = omega arith;
  wide = omega arith;
  inside = omega (arith, c.min-size.ensures, c.loop-from.invariant.inside);
  walked = piece_more c.args.at c.loop-from.from c.min-size.result c.count_piece.new.counts c.args.numbers.now c.loop-from.numbers c.add_counts.new.numbers c.args.samples.now c.args.stride c.args.threshold c.args.x c.args.y c.loop-from.invariant.walked c.count_piece.ensures.counts c.add_counts.ensures;
}
