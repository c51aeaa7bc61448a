use Rattle.std.proofs.Common.{◌≡◌, ℕ, ◌+◌, ◌*◌, ◌<◌, ◌≤◌, List, ◌++◌, length, take, drop, get_or, set, ap, ◌∙◌, sym, subst, arith, length-set}
use Rattle.std.proofs.lemmas.List.{get_or_read}
use Rattle.mls_model.specs.Samples.{shifted}
use Rattle.mls_model.specs.Studies.{planes}
use Rattle.mls_model.specs.Standing.{with_block}
use Rattle.mls_field.specs.ShiftedRows.{shifted_row}
use Rattle.mls_field.proofs.InPlace.{spliced, long_as_before}
use Rattle.mls_hist.specs.Histograms.{HoldsTable}
use Rattle.mls_hist.proofs.RowsAdded.{Gathered, Added, Grew, adds, hist_grown, table_grown}
use Rattle.mls_hist.proofs.Gathering.{gathered_from, added_from, waits_less, value_small}
use Rattle.mls_hist.proofs.Entries.{added_small}
use Rattle.mls_hist.proofs.hist.Hist.add_waiting.Given.{Over}
use Rattle.mls_hist.proofs.hist.Hist.add_waiting.Goals as goal
use Rattle.mls_hist.proofs.hist.Hist.add_waiting.Goals.{After-as_slice, After-add_plane}

pub gather-requires : goal.gather-requires
gather-requires g c =
    let h = c.args.self.now in
    record {
      rows = omega (arith, c.requires.rows);
      size = rw (c.requires.cells ∙ sym h.kept.block_width) (omega (arith, c.first_sample-start.ensures.fits, ap length c.as_mut_slice.ensures.value));
    }

-- the samples after the block was put there
samples_are : (g : Over) (c : After-as_slice g) → c.as_slice.result.now ≡ c.gather.new.samples
samples_are g c = let h = c.args.self.now in c.as_slice.ensures.value ∙ spliced h.samples.items c.as_mut_slice.result.now c.gather.new.samples h.samples.len c.as_mut_slice.ensures.len c.gather.auto.samples

pub add_plane-requires-clause-bins : goal.add_plane-requires-clause-bins
add_plane-requires-clause-bins g c = let h = c.args.self.now in omega (arith, c.first_cell-first.ensures.fits, ap length c.as_mut_slice-2.ensures.value)

pub add_plane-requires-clause-samples : goal.add_plane-requires-clause-samples
add_plane-requires-clause-samples g c =
    let h = c.args.self.now in
    let long : length c.as_slice.result.now ≡ length h.samples.items = ap length (samples_are g (goal.at.add_plane-requires-clause-samples g c).After-as_slice) ∙ (c.gather.auto.samples ∙ ap length c.as_mut_slice.ensures.value) in
    omega (arith, long, c.first_sample-start.ensures.fits)

pub add_plane-requires-clause-room : goal.add_plane-requires-clause-room
add_plane-requires-clause-room g c = λ place bin inside low.
    let h = c.args.self.now in
    let small = added_small h c.args.step place bin c.requires.plane_in inside low in
    let there : get_or c.as_mut_slice-2.result.now ((c.first_cell-first.result + place) * 64 + bin) 0 ≡ get_or h.bins.items ((c.args.step * h.places + place) * 64 + bin) 0 = (λ i. get_or (c.as_mut_slice-2.ensures.value i) ((c.first_cell-first.ensures.value i + place) * 64 + bin) 0) in
    omega (arith, there, small)

module _ (g : Over) (c : After-add_plane g) where
  gathered : let h = c.args.self.now in Gathered h.places c.args.step 7 h.samples.items (take h.samples.len (c.gather.new.samples ++ drop (length c.gather.new.samples) h.samples.items)) (λ place. shifted h.shape.signed (g.R.Rows.sample c.args.rows.now 0 place)) (λ place. shifted h.shape.signed (g.R.Rows.sample c.args.rows.now 1 place))
  gathered =
      let h = c.args.self.now in
      gathered_from h.places (g.R.Rows.place_count c.args.rows.now) c.args.step 7 c.first_sample-start.result h.shape.signed c.signed.result (g.R.Rows.sample c.args.rows.now) h.samples.items c.as_mut_slice.result.now c.gather.new.samples _
      c.first_sample-start.ensures.value (c.requires.cells ∙ sym h.kept.block_width) c.signed.ensures.value c.as_mut_slice.ensures.value (spliced h.samples.items c.as_mut_slice.result.now c.gather.new.samples h.samples.len c.as_mut_slice.ensures.len c.gather.auto.samples) c.gather.ensures.a c.gather.ensures.b c.gather.ensures.others

  added : let h = c.args.self.now in Added h.places c.args.step h.bins.items (take h.bins.len (c.add_plane.new.bins ++ drop (length c.add_plane.new.bins) h.bins.items)) (take h.samples.len (c.gather.new.samples ++ drop (length c.gather.new.samples) h.samples.items))
  added =
      let h = c.args.self.now in
      added_from h.places c.args.step c.first_cell-first.result c.first_sample-start.result h.bins.items c.as_mut_slice-2.result.now c.add_plane.new.bins _ c.as_slice.result.now _
      c.first_cell-first.ensures.value c.first_sample-start.ensures.value c.as_mut_slice-2.ensures.value (spliced h.bins.items c.as_mut_slice-2.result.now c.add_plane.new.bins h.bins.len c.as_mut_slice-2.ensures.len c.add_plane.auto.bins) (sym c.as_slice.ensures.value) c.add_plane.ensures.counts c.add_plane.ensures.others

  small : (i : ℕ) → let h = c.args.self.now in get_or (take h.samples.len (c.gather.new.samples ++ drop (length c.gather.new.samples) h.samples.items)) i 0 ≤ 65535
  small i =
      let h = c.args.self.now in
      let same = spliced h.samples.items c.as_mut_slice.result.now c.gather.new.samples h.samples.len c.as_mut_slice.ensures.len c.gather.auto.samples in
      subst (λ (xs : List ℕ). get_or xs i 0 ≤ 65535) (sym same) (c.gather.ensures.small (λ k. subst (λ (ys : List ℕ). get_or ys k 0 ≤ 65535) (sym c.as_mut_slice.ensures.value) (h.kept.small k)) i)

  grown : let h = c.args.self.now in Grew (planes h.shape) h.places c.args.step h.waiting.items h.bins.items h.samples.items (set h.waiting.items c.args.step 0) (take h.bins.len (c.add_plane.new.bins ++ drop (length c.add_plane.new.bins) h.bins.items)) (take h.samples.len (c.gather.new.samples ++ drop (length c.gather.new.samples) h.samples.items)) (λ place. shifted h.shape.signed (g.R.Rows.sample c.args.rows.now 0 place)) (λ place. shifted h.shape.signed (g.R.Rows.sample c.args.rows.now 1 place))
  grown =
      let h = c.args.self.now in
      adds h.shape h.places c.args.step h.waiting.items h.bins.items _ h.samples.items _ _ _ (omega (arith, h.kept.each_waits, c.requires.plane_in)) c.requires.waiting h.kept.few_wait gathered added

pub invariant_of-self-clause-kept : goal.invariant_of-self-clause-kept
invariant_of-self-clause-kept g c =
    let h = c.args.self.now in
    let d = (goal.at.invariant_of-self-clause-kept g c).After-add_plane in
    let count : c.index_mut.result.now ≡ get_or h.counts.items c.args.step 0 = get_or_read h.counts.items c.args.step _ (omega (arith, h.kept.each_plane, c.requires.plane_in)) c.index_mut.ensures.value 0 in
    hist_grown h.shape h.rank h.places c.args.step c.index_mut.result.now h.counts.items h.waiting.items h.bins.items h.samples.items _ _ _ _ _ h.kept (grown g d) c.requires.plane_in count (omega (arith, count, c.requires.room))
    (length-set h.waiting.items c.args.step 0) (waits_less h.waiting.items c.args.step 0 (omega (arith, h.kept.each_waits, c.requires.plane_in)) (omega arith) h.kept.few_wait)
    (long_as_before h.bins.items _ c.add_plane.new.bins h.bins.len c.as_mut_slice-2.ensures.value c.as_mut_slice-2.ensures.len c.add_plane.auto.bins)
    (long_as_before h.samples.items _ c.gather.new.samples h.samples.len c.as_mut_slice.ensures.value c.as_mut_slice.ensures.len c.gather.auto.samples) (small g d)
    (λ place inside. value_small _ _ _ ((gathered g d).first place inside) (small g d)) (λ place inside. value_small _ _ _ ((gathered g d).second place inside) (small g d))

pub returns-clause-stands : goal.returns-clause-stands
returns-clause-stands g c = λ t stands.
    let h = c.args.self.now in
    let d = (goal.at.returns-clause-stands g c).After-add_plane in
    let sample = g.R.Rows.sample c.args.rows.now in
    let fits : c.args.step < length h.counts.items = omega (arith, h.kept.each_plane, c.requires.plane_in) in
    let count : c.index_mut.result.now ≡ get_or h.counts.items c.args.step 0 = get_or_read h.counts.items c.args.step _ fits c.index_mut.ensures.value 0 in
    let new = HoldsTable h.shape h.places (set h.counts.items c.args.step (c.index_mut.result.now + 1)) (set h.waiting.items c.args.step 0) (take h.bins.len (c.add_plane.new.bins ++ drop (length c.add_plane.new.bins) h.bins.items)) (take h.samples.len (c.gather.new.samples ++ drop (length c.gather.new.samples) h.samples.items)) in
    subst (λ (w : ℕ). new (with_block t c.args.step w (shifted_row h.shape.signed (g.R.Rows.row_count c.args.rows.now) sample))) h.kept.block_width
    (table_grown h.shape h.places c.args.step c.index_mut.result.now (g.R.Rows.row_count c.args.rows.now) h.counts.items h.waiting.items h.bins.items h.samples.items _ _ _ h.shape.signed sample t stands (grown g d) fits count (omega (arith, c.requires.rows)))
