use Rattle.std.proofs.Common.{◌∙◌, sym, arith}
use Rattle.std.proofs.lemmas.Grind.{get_or_default_zero}
use Rattle.mls_field.proofs.Kept.{sums_are}
use Rattle.mls_field.proofs.field.Field.rows.Goals as goal

pub returns-clause-sums : goal.returns-clause-sums
returns-clause-sums c = λ t stands place here.
    let f = c.args.self.now in
    sums_are f t c.args.step place stands c.requires (omega (arith, f.kept.block_width, here))

pub returns-clause-table : goal.returns-clause-table
returns-clause-table c = λ t stands place here.
    let f = c.args.self.now in
    stands.counted c.args.step place c.requires (omega (arith, f.kept.block_width, here))
    ∙ sym (c.index.ensures ∙ get_or_default_zero f.counts.items c.args.step c.index.result.now (omega (arith, f.kept.each_plane, c.requires)))
