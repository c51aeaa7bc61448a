use Rattle.std.proofs.Common.{ℕ, ◌*◌, List, ap, ◌∙◌, sym}
use Rattle.std.specs.Prelude.{sum}
use Rattle.mls_hist.specs.Quartiles.{bracket_in}
use Rattle.mls_hist.proofs.Entries.{counts_sum, none_of, bracket_of_rows}
use Rattle.mls_hist.proofs.Parts.{here}
use Rattle.mls_hist.proofs.hist.Hist.bracket.Goals as goal

pub bracket_of-requires-clause-samples : goal.bracket_of-requires-clause-samples
bracket_of-requires-clause-samples c =
    let h = c.args.self.now in
    ap sum c.whole_counts.ensures.kept ∙ (counts_sum h c.args.plane c.args.cell c.requires.plane_in (here h c.args.cell c.requires.cell_in) ∙ ap (λ n. 2 * n) (sym c.rows.ensures.value))

pub returns-clause-kept : goal.returns-clause-kept
returns-clause-kept c = c.bracket_of.ensures.value ∙ ap (λ (xs : List ℕ). bracket_in xs c.args.j) c.whole_counts.ensures.kept

pub returns-clause-none : goal.returns-clause-none
returns-clause-none c =
    let h = c.args.self.now in
    none_of h c.args.plane c.args.cell c.args.j c.requires.plane_in (here h c.args.cell c.requires.cell_in) _ (c.bracket_of.ensures.value ∙ ap (λ (xs : List ℕ). bracket_in xs c.args.j) c.whole_counts.ensures.kept)

pub returns-clause-samples : goal.returns-clause-samples
returns-clause-samples c = λ t stands.
    let h = c.args.self.now in
    c.bracket_of.ensures.value ∙ (ap (λ (xs : List ℕ). bracket_in xs c.args.j) c.whole_counts.ensures.kept ∙ bracket_of_rows h t c.args.plane c.args.cell c.args.j stands c.requires.plane_in (here h c.args.cell c.requires.cell_in) c.requires.some c.requires.quartile)
