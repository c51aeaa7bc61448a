use Rattle.std.proofs.Common.{◌∙◌, sym, arith}
use Rattle.std.proofs.lemmas.Grind.{get_or_default_zero}
use Rattle.mls_hist.proofs.hist.Hist.rows.Goals as goal

pub returns-clause-table : goal.returns-clause-table
returns-clause-table c = λ t stands place here.
    let h = c.args.self.now in
    stands.counted c.args.plane place c.requires (omega (arith, h.kept.block_width, here))
    ∙ sym (c.index.ensures ∙ get_or_default_zero h.counts.items c.args.plane c.index.result.now (omega (arith, h.kept.each_plane, c.requires)))
