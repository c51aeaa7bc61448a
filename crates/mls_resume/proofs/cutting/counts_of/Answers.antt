use Rattle.std.proofs.Common.{◌-◌, ap, sym, ◌∙◌, map}
use Rattle.std.specs.Prelude.{sum}
use Rattle.mls_ckpt.specs.States as states
use Rattle.mls_ledger.specs.MarkRows.{rows_of}
use Rattle.mls_resume.proofs.Counting.{counts_are}
use Rattle.mls_resume.proofs.cutting.counts_of.Goals as goal

pub returns : goal.returns
returns c =
    let m = c.args.marks.now in
    let rows = c.valid-2.ensures.rows.counts in
    let total = c.total-accepted.ensures.value ∙ ap sum c.counts.ensures.all ∙ sym (ap sum rows) ∙ ap (λ g. sum (map (states.marked g) (rows_of m))) c.requires.groups in
    counts_are c.args.shape.now c.args.rank (rows_of m) c.total-accepted.result c.saturating_sub-others.result total (c.saturating_sub-others.ensures ∙ ap (λ k. k - 1) c.overlapping.ensures.value)
