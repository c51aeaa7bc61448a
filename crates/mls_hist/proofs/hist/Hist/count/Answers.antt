use Rattle.std.proofs.Common.{ℕ, List, get_or, ap, ◌∙◌}
use Rattle.mls_hist.proofs.Entries.{entry_counts}
use Rattle.mls_hist.proofs.Parts.{here}
use Rattle.mls_hist.proofs.hist.Hist.count.Goals as goal

pub returns-clause-kept : goal.returns-clause-kept
returns-clause-kept c = ap (λ (xs : List ℕ). get_or xs c.args.bin 0) c.whole_counts.ensures.kept ∙ entry_counts c.args.self.now c.args.plane c.args.cell c.args.bin c.requires.bin_in

pub returns-clause-samples : goal.returns-clause-samples
returns-clause-samples c = λ t stands.
    ap (λ (xs : List ℕ). get_or xs c.args.bin 0) c.whole_counts.ensures.kept ∙ (entry_counts c.args.self.now c.args.plane c.args.cell c.args.bin c.requires.bin_in ∙ stands.each c.args.plane c.args.cell c.args.bin c.requires.plane_in (here c.args.self.now c.args.cell c.requires.cell_in) c.requires.bin_in)
