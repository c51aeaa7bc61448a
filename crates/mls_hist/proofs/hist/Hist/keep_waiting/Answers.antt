use Rattle.std.proofs.Common.{◌≡◌, ℕ, ◌+◌, ◌*◌, ◌<◌, ◌≤◌, List, ◌++◌, length, take, drop, get_or, set, ap, ◌∙◌, refl, sym, subst, arith, length-set}
use Rattle.std.proofs.lemmas.Grind.{get_or_default_zero}
use Rattle.std.proofs.lemmas.List.{get_or_read}
use Rattle.mls_model.specs.Samples.{shifted}
use Rattle.mls_model.specs.Standing.{with_block}
use Rattle.mls_field.specs.ShiftedRows.{shifted_row}
use Rattle.mls_field.proofs.InPlace.{spliced}
use Rattle.mls_field.proofs.Grid.{plane_before}
use Rattle.mls_hist.specs.Histograms.{HoldsTable}
use Rattle.mls_hist.proofs.RowsAdded.{Gathered, Grew, keeps, hist_grown, table_grown}
use Rattle.mls_hist.proofs.Gathering.{gathered_from, waits_less, value_small}
use Rattle.mls_hist.proofs.hist.Hist.keep_waiting.Given.{Over}
use Rattle.mls_hist.proofs.hist.Hist.keep_waiting.Goals as goal
use Rattle.mls_hist.proofs.hist.Hist.keep_waiting.Goals.{After-index-waiting, After-gather}

waits : (g : Over) (c : After-index-waiting g) → c.index-waiting.result.now ≡ get_or c.args.self.now.waiting.items c.args.step 0
waits g c = let h = c.args.self.now in c.index-waiting.ensures ∙ get_or_default_zero h.waiting.items c.args.step c.index-waiting.result.now (omega (arith, h.kept.each_waits, c.requires.plane_in))

pub gather-requires : goal.gather-requires
gather-requires g c =
    let h = c.args.self.now in
    let few : c.index-waiting.result.now < 7 = omega (arith, waits g (goal.at.gather-requires g c).After-index-waiting, c.requires.waiting) in
    record {
      rows = omega (arith, c.requires.rows);
      size = rw (c.requires.cells ∙ sym h.kept.block_width) (omega (arith, plane_before (2 * c.index-waiting.result.now + 1) 16 h.places (omega (arith, few)), c.first_sample.ensures.fits, ap length c.as_mut_slice.ensures.value));
    }

-- the samples after the call
gathered : (g : Over) (c : After-gather g) → let h = c.args.self.now in Gathered h.places c.args.step c.index-waiting.result.now h.samples.items (take h.samples.len (c.gather.new.samples ++ drop (length c.gather.new.samples) h.samples.items)) (λ place. shifted h.shape.signed (g.R.Rows.sample c.args.rows.now 0 place)) (λ place. shifted h.shape.signed (g.R.Rows.sample c.args.rows.now 1 place))
gathered g c =
    let h = c.args.self.now in
    gathered_from h.places (g.R.Rows.place_count c.args.rows.now) c.args.step c.index-waiting.result.now c.first_sample.result h.shape.signed c.signed.result (g.R.Rows.sample c.args.rows.now) h.samples.items c.as_mut_slice.result.now c.gather.new.samples _
    c.first_sample.ensures.value (c.requires.cells ∙ sym h.kept.block_width) c.signed.ensures.value c.as_mut_slice.ensures.value (spliced h.samples.items c.as_mut_slice.result.now c.gather.new.samples h.samples.len c.as_mut_slice.ensures.len c.gather.auto.samples) c.gather.ensures.a c.gather.ensures.b c.gather.ensures.others

small : (g : Over) (c : After-gather g) → (i : ℕ) → let h = c.args.self.now in get_or (take h.samples.len (c.gather.new.samples ++ drop (length c.gather.new.samples) h.samples.items)) i 0 ≤ 65535
small g c i =
    let h = c.args.self.now in
    let same = spliced h.samples.items c.as_mut_slice.result.now c.gather.new.samples h.samples.len c.as_mut_slice.ensures.len c.gather.auto.samples in
    subst (λ (xs : List ℕ). get_or xs i 0 ≤ 65535) (sym same) (c.gather.ensures.small (λ k. subst (λ (ys : List ℕ). get_or ys k 0 ≤ 65535) (sym c.as_mut_slice.ensures.value) (h.kept.small k)) i)

grown : (g : Over) (c : After-gather g) → c.index-waiting.result.now ≡ get_or c.args.self.now.waiting.items c.args.step 0 → let h = c.args.self.now in let samples = take h.samples.len (c.gather.new.samples ++ drop (length c.gather.new.samples) h.samples.items) in Grew (Rattle.mls_model.specs.Studies.planes h.shape) h.places c.args.step h.waiting.items h.bins.items h.samples.items (set h.waiting.items c.args.step (c.index-waiting.result.now + 1)) h.bins.items samples (λ place. shifted h.shape.signed (g.R.Rows.sample c.args.rows.now 0 place)) (λ place. shifted h.shape.signed (g.R.Rows.sample c.args.rows.now 1 place))
grown g c is =
    let h = c.args.self.now in
    keeps h.shape h.places c.args.step c.index-waiting.result.now h.waiting.items h.bins.items h.samples.items _ _ _ (omega (arith, h.kept.each_waits, c.requires.plane_in)) is (omega (arith, is, c.requires.waiting)) h.kept.few_wait (gathered g c)

pub invariant_of-self-2 : goal.invariant_of-self-2
invariant_of-self-2 g c =
    let h = c.args.self.now in
    let at = goal.at.invariant_of-self-2 g c in
    let d = at.After-gather in
    let is = waits g at.After-index-waiting in
    let same = spliced h.samples.items c.as_mut_slice.result.now c.gather.new.samples h.samples.len c.as_mut_slice.ensures.len c.gather.auto.samples in
    let count : c.index_mut.result.now ≡ get_or h.counts.items c.args.step 0 = get_or_read h.counts.items c.args.step _ (omega (arith, h.kept.each_plane, c.requires.plane_in)) c.index_mut.ensures.value 0 in
    record {
      kept = hist_grown h.shape h.rank h.places c.args.step c.index_mut.result.now h.counts.items h.waiting.items h.bins.items h.samples.items _ _ _ _ _ h.kept (grown g d is) c.requires.plane_in count (omega (arith, count, c.requires.room))
          (length-set h.waiting.items c.args.step (c.index-waiting.result.now + 1)) (waits_less h.waiting.items c.args.step (c.index-waiting.result.now + 1) (omega (arith, h.kept.each_waits, c.requires.plane_in)) (omega (arith, is, c.requires.waiting)) h.kept.few_wait)
          refl (ap length same ∙ (c.gather.auto.samples ∙ ap length c.as_mut_slice.ensures.value)) (small g d)
          (λ place inside. value_small _ _ _ ((gathered g d).first place inside) (small g d)) (λ place inside. value_small _ _ _ ((gathered g d).second place inside) (small g d));
      sized = h.sized;
    }

pub returns-clause-stands : goal.returns-clause-stands
returns-clause-stands g c = λ t stands.
    let h = c.args.self.now in
    let at = goal.at.returns-clause-stands g c in
    let d = at.After-gather in
    let is = waits g at.After-index-waiting in
    let sample = g.R.Rows.sample c.args.rows.now in
    let fits : c.args.step < length h.counts.items = omega (arith, h.kept.each_plane, c.requires.plane_in) in
    let count : c.index_mut.result.now ≡ get_or h.counts.items c.args.step 0 = get_or_read h.counts.items c.args.step _ fits c.index_mut.ensures.value 0 in
    let now = take h.samples.len (c.gather.new.samples ++ drop (length c.gather.new.samples) h.samples.items) in
    let new = HoldsTable h.shape h.places (set h.counts.items c.args.step (c.index_mut.result.now + 1)) (set h.waiting.items c.args.step (c.index-waiting.result.now + 1)) h.bins.items now in
    subst (λ (w : ℕ). new (with_block t c.args.step w (shifted_row h.shape.signed (g.R.Rows.row_count c.args.rows.now) sample))) h.kept.block_width
    (table_grown h.shape h.places c.args.step c.index_mut.result.now (g.R.Rows.row_count c.args.rows.now) h.counts.items h.waiting.items h.bins.items h.samples.items _ _ _ h.shape.signed sample t stands (grown g d is) fits count (omega (arith, c.requires.rows)))
