use Rattle.std.proofs.Common.{◌≡◌, ℕ, ◌+◌, ◌*◌, ◌<◌, length, get_or, ap, ◌∙◌, sym, arith}
use Rattle.std.specs.Prelude.{sum}
use Rattle.mls_field.proofs.Grid.{plane_before}
use Rattle.mls_hist.specs.Bins.{count_in}
use Rattle.mls_hist.specs.Waiting.{column}
use Rattle.mls_hist.specs.Histograms.{cell_start}
use Rattle.mls_hist.specs.Stands.{bin_count}
use Rattle.mls_hist.proofs.Counting.{counts_opened}
use Rattle.mls_hist.proofs.RowsAdded.{count_opened}
use Rattle.mls_hist.proofs.Entries.{list_is, added_small, counts_sum}
use Rattle.mls_hist.proofs.Parts.{here}
use Rattle.mls_hist.proofs.hist.Hist.whole_counts.Goals as goal
use Rattle.mls_hist.proofs.hist.Hist.whole_counts.Goals.{After-copied-counts}

pub copied-counts-requires : goal.copied-counts-requires
copied-counts-requires c =
    let h = c.args.self.now in
    omega (arith, c.first_cell.ensures.fits, ap length c.as_slice.ensures.value, here h c.args.cell c.requires.cell_in)

-- what was copied
was : (c : After-copied-counts) → (bin : ℕ) → bin < 64 → let h = c.args.self.now in get_or c.copied-counts.result (0 + bin) 0 ≡ get_or h.bins.items (cell_start h.places c.args.plane c.args.cell + bin) 0
was c bin low =
    let h = c.args.self.now in
    ap (λ m. get_or c.copied-counts.result m 0) (let e : 0 + bin ≡ bin = omega arith in e) ∙ c.copied-counts.ensures.same bin low ∙ (λ i. get_or (c.as_slice.ensures.value i) ((c.first_cell.ensures.value i + c.args.cell) * 64 + bin) 0)

pub add_samples-requires-clause-samples : goal.add_samples-requires-clause-samples
add_samples-requires-clause-samples c = λ k low.
    let h = c.args.self.now in
    omega (arith, plane_before k 16 h.places (omega (arith, low, c.waiting_rows-waiting.ensures.few)), c.first_sample.ensures.fits, ap length c.as_slice-2.ensures.value, here h c.args.cell c.requires.cell_in)

pub add_samples-requires-clause-room : goal.add_samples-requires-clause-room
add_samples-requires-clause-room c = λ bin low.
    let h = c.args.self.now in
    let is = was (goal.at.add_samples-requires-clause-room c).After-copied-counts bin low in
    let small = added_small h c.args.plane c.args.cell bin c.requires.plane_in (here h c.args.cell c.requires.cell_in) low in
    omega (arith, is, small)

pub returns-clause-kept : goal.returns-clause-kept
returns-clause-kept c =
    let h = c.args.self.now in
    let w = h.places in
    let long : length c.add_samples.new.bins ≡ 64 = c.add_samples.auto.bins ∙ c.copied-counts.ensures.long in
    list_is c.add_samples.new.bins (bin_count h c.args.plane c.args.cell) 64 long (λ bin low.
    let is = was (goal.at.returns-clause-kept c).After-copied-counts bin low in
    ap (λ m. get_or c.add_samples.new.bins m 0) (let e : bin ≡ 0 + bin = omega arith in e) ∙ c.add_samples.ensures.counts bin low ∙
    ((λ i. is i + count_in bin (column w (c.as_slice-2.ensures.value i) (c.first_sample.ensures.value i + c.args.cell) (2 * c.waiting_rows-waiting.ensures.value i))) ∙
    sym (count_opened w h.waiting.items h.bins.items h.samples.items c.args.plane c.args.cell bin))) ∙ sym (counts_opened w h.waiting.items h.bins.items h.samples.items c.args.plane c.args.cell)

pub returns-clause-whole : goal.returns-clause-whole
returns-clause-whole c =
    let h = c.args.self.now in
    ap sum (returns-clause-kept c) ∙ counts_sum h c.args.plane c.args.cell c.requires.plane_in (here h c.args.cell c.requires.cell_in)
