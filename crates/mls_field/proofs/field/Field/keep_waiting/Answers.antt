use Rattle.std.proofs.Common.{◌≡◌, ℕ, ◌+◌, ◌*◌, ◌<◌, ◌≤◌, List, ◌++◌, length, take, drop, get_or, set, ap, ◌∙◌, sym, subst, arith}
use Rattle.std.proofs.lemmas.Grind.{get_or_default_zero}
use Rattle.std.proofs.lemmas.List.{get_or_read}
use Rattle.mls_model.specs.Standing.{with_block}
use Rattle.mls_field.specs.Fields.{HoldsTable}
use Rattle.mls_field.specs.ShiftedRows.{shifted_row}
use Rattle.mls_field.proofs.InPlace.{spliced}
use Rattle.mls_field.proofs.Grid.{plane_before}
use Rattle.mls_field.proofs.Growing.{IsGathered, gathered_from}
use Rattle.mls_field.proofs.Added.{field_waits, table_waits, waits_after}
use Rattle.mls_field.proofs.field.Field.keep_waiting.Given.{Over}
use Rattle.mls_field.proofs.field.Field.keep_waiting.Goals as goal
use Rattle.mls_field.proofs.field.Field.keep_waiting.Goals.{After-index-waiting, After-gather}

waits : (g : Over) (c : After-index-waiting g) → c.index-waiting.result.now ≡ get_or c.args.self.now.waiting.items c.args.step 0
waits g c = let f = c.args.self.now in c.index-waiting.ensures ∙ get_or_default_zero f.waiting.items c.args.step c.index-waiting.result.now (omega (arith, f.kept.each_waits, c.requires.plane_in))

pub gather-requires : goal.gather-requires
gather-requires g c =
    let f = c.args.self.now in
    let few : c.index-waiting.result.now < 8 = omega (arith, waits g (goal.at.gather-requires g c).After-index-waiting, c.requires.waiting) in
    let fits = plane_before c.index-waiting.result.now 8 ((f.shape.parameters + 2) * f.places) few in
    record {
      size =
          rw (c.parameters.ensures.value, c.requires.rows, c.requires.cells ∙ sym f.kept.block_width) (omega (arith, fits, c.first_sample.ensures.fits, ap length c.as_mut_slice.ensures.value));
    }

-- the samples after the call
gathered : (g : Over) (c : After-gather g) → let f = c.args.self.now in IsGathered (f.shape.parameters + 2) f.places c.args.step c.index-waiting.result.now f.shape.signed (g.R.Rows.sample c.args.rows.now) f.samples.items (take f.samples.len (c.gather.new.samples ++ drop (length c.gather.new.samples) f.samples.items))
gathered g c =
    let f = c.args.self.now in
    gathered_from (f.shape.parameters + 2) (g.R.Rows.row_count c.args.rows.now) (c.parameters.result + 2) f.places (g.R.Rows.place_count c.args.rows.now) c.args.step c.index-waiting.result.now c.first_sample.result f.shape.signed c.signed.result (g.R.Rows.sample c.args.rows.now) f.samples.items c.as_mut_slice.result.now c.gather.new.samples _
    c.first_sample.ensures.value c.requires.rows (ap (λ (p : ℕ). p + 2) c.parameters.ensures.value) (c.requires.cells ∙ sym f.kept.block_width) c.signed.ensures.value c.as_mut_slice.ensures.value (spliced f.samples.items c.as_mut_slice.result.now c.gather.new.samples f.samples.len c.as_mut_slice.ensures.len c.gather.auto.samples) c.gather.ensures.values c.gather.ensures.before c.gather.ensures.behind

pub invariant_of-self-3 : goal.invariant_of-self-3
invariant_of-self-3 g c =
    let f = c.args.self.now in
    let at = goal.at.invariant_of-self-3 g c in
    let is = waits g at.After-index-waiting in
    let same = spliced f.samples.items c.as_mut_slice.result.now c.gather.new.samples f.samples.len c.as_mut_slice.ensures.len c.gather.auto.samples in
    let count : c.index_mut.result.now ≡ get_or f.counts.items c.args.step 0 = get_or_read f.counts.items c.args.step _ (omega (arith, f.kept.each_plane, c.requires.plane_in)) c.index_mut.ensures.value 0 in
    record {
      kept = field_waits f.shape f.rank f.places f.counts.items f.waiting.items f.sums.items f.ends.items f.numbers.items f.samples.items _ c.args.step c.index_mut.result.now c.index-waiting.result.now f.kept c.requires.plane_in count (omega (arith, count, c.requires.room)) is (omega (arith, is, c.requires.waiting))
          (ap length same ∙ (c.gather.auto.samples ∙ ap length c.as_mut_slice.ensures.value)) (λ i. subst (λ (xs : List ℕ). get_or xs i 0 ≤ 65535) (sym same) (c.gather.ensures.small (λ k. subst (λ (ys : List ℕ). get_or ys k 0 ≤ 65535) (sym c.as_mut_slice.ensures.value) (f.kept.small k)) i));
      sized = f.sized;
    }

pub returns-clause-stands : goal.returns-clause-stands
returns-clause-stands g c = λ t stands.
    let f = c.args.self.now in
    let at = goal.at.returns-clause-stands g c in
    let is = waits g at.After-index-waiting in
    let v = c.index-waiting.result.now in
    let sample = g.R.Rows.sample c.args.rows.now in
    let same = spliced f.samples.items c.as_mut_slice.result.now c.gather.new.samples f.samples.len c.as_mut_slice.ensures.len c.gather.auto.samples in
    let fits : c.args.step < length f.counts.items = omega (arith, f.kept.each_plane, c.requires.plane_in) in
    let count : c.index_mut.result.now ≡ get_or f.counts.items c.args.step 0 = get_or_read f.counts.items c.args.step _ fits c.index_mut.ensures.value 0 in
    let now = take f.samples.len (c.gather.new.samples ++ drop (length c.gather.new.samples) f.samples.items) in
    let new = HoldsTable f.shape f.places (set f.counts.items c.args.step (c.index_mut.result.now + 1)) (set f.waiting.items c.args.step (v + 1)) f.sums.items f.ends.items f.numbers.items now in
    subst (λ (w : ℕ). new (with_block t c.args.step w (shifted_row f.shape.signed (g.R.Rows.row_count c.args.rows.now) sample))) f.kept.block_width
    (subst (λ (n : ℕ). new (with_block t c.args.step f.places (shifted_row f.shape.signed n sample))) (sym c.requires.rows)
    (table_waits f.shape f.places f.counts.items f.waiting.items f.sums.items f.ends.items f.numbers.items f.samples.items now t c.args.step c.index_mut.result.now v sample c.parameters.ensures.valid.thresholds_rise stands fits count (omega (arith, is, c.requires.waiting))
    (waits_after f.waiting.items c.args.step v (v + 1) (omega (arith, f.kept.each_waits, c.requires.plane_in)) is f.kept.few_wait) (gathered g at.After-gather) (λ i. subst (λ (xs : List ℕ). get_or xs i 0 ≤ 65535) (sym same) (c.gather.ensures.small (λ k. subst (λ (ys : List ℕ). get_or ys k 0 ≤ 65535) (sym c.as_mut_slice.ensures.value) (f.kept.small k)) i))))
