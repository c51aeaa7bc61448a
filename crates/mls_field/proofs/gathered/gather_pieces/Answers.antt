use Rattle.std.proofs.Common.{◌∙◌, arith}
use Rattle.mls_model.specs.Samples.{shifted}
use Rattle.mls_field.proofs.ReadPieces.{all_small, values_more}
use Rattle.mls_field.proofs.gathered.gather_pieces.Goals as goal

pub loop-from-preserved : goal.loop-from-preserved
loop-from-preserved g c =
    let h = c.loop-from.invariant in
    let at = c.args.at in
    let from = c.loop-from.from in
    let count = c.min-count.result in
    let put = c.put_piece.ensures in
    let read = c.read_piece.ensures in
    let old = c.loop-from.samples in
    let new = c.put_piece.new.samples in
    let piece = c.read_piece.new.piece in
    record {
      inside = omega (arith, c.min-count.ensures);
      small = λ all. all_small at from count old new piece put.there put.before put.behind read.small (h.small all);
      values = values_more at from count old new piece (λ i. shifted c.args.signed (g.R.Rows.sample c.args.rows.now c.args.row i)) put.there put.before read.values h.values;
      before = λ j low. put.before j (omega (arith, low)) ∙ h.before j low;
      behind = λ j high. put.behind j (omega (arith, high)) ∙ h.behind j (omega (arith, high));
    }
