use Rattle.std.proofs.Common.{◌≡◌, ℕ, ◌+◌, ◌*◌, ◌<◌, ◌≤◌, List, ◌++◌, length, take, drop, get_or, set, ap, ◌∙◌, sym, subst, arith}
use Rattle.std.proofs.lemmas.List.{get_or_read}
use Rattle.mls_model.specs.Studies.{planes}
use Rattle.mls_model.specs.Standing.{with_block}
use Rattle.mls_field.specs.ColumnSums.{sums_size, sums_step, column_at, most_before}
use Rattle.mls_field.specs.OutputSteps.{ends_step, numbers_step}
use Rattle.mls_field.specs.Fields.{HoldsTable}
use Rattle.mls_field.specs.Gathered.{waiting_row, row_behind}
use Rattle.mls_field.specs.ShiftedRows.{shifted_row}
use Rattle.mls_field.specs.Walk.{Walk}
use Rattle.mls_field.proofs.Grid.{plane_before}
use Rattle.mls_field.proofs.InPlace.{spliced, long_as_before}
use Rattle.mls_field.proofs.Growing.{IsGathered, gathered_block, row_fits}
use Rattle.mls_field.proofs.Added.{field_settled, table_settled, waits_after, room_for_sums, room_for_numbers}
use Rattle.mls_field.proofs.field.Field.add_waiting.Given.{Over}
use Rattle.mls_field.proofs.field.Field.add_waiting.Goals as goal
use Rattle.mls_field.proofs.field.Field.add_waiting.Goals.{After-gather, After-as_slice-samples, After-add_to_numbers}

pub gather-requires : goal.gather-requires
gather-requires g c =
    let f = c.args.self.now in
    let fits = row_fits (f.shape.parameters + 2) f.places c.args.step 7 (planes f.shape) c.requires.plane_in (omega arith) in
    record {
      size =
          rw (c.parameters-parameters.ensures.value, c.requires.rows, c.requires.cells ∙ sym f.kept.block_width) (omega (arith, fits, f.kept.room, ap length c.as_mut_slice.ensures.value));
    }

-- the columns of a plane lie within those of all planes
columns_fit : (size places plane count bound : ℕ) → plane < count → bound ≡ count * size * places → (plane * size + size) * places ≤ bound
columns_fit size places plane count bound inside e =
    let a = plane_before plane count size inside in
    let b = Rattle.std.proofs.lemmas.Nat.mul-le (plane * size + size) places (count * size) places a (omega arith) in
    omega (arith, b, e)

pub add_to_sums-requires-clause-words : goal.add_to_sums-requires-clause-words
add_to_sums-requires-clause-words g c =
    let f = c.args.self.now in
    rw c.parameters-parameters.ensures.value (columns_fit (sums_size f.shape.parameters) f.places c.args.step (planes f.shape) _ c.requires.plane_in (ap length c.as_mut_slice-2.ensures.value ∙ f.kept.sums_in.long))

pub add_to_sums-requires-clause-room : goal.add_to_sums-requires-clause-room
add_to_sums-requires-clause-room g c = λ d i d_in _ here.
    let f = c.args.self.now in
    subst (λ (p : ℕ). get_or c.as_mut_slice-2.result.now ((c.args.step * (8 + 4 * p) + d) * f.places + i) 0 ≤ most_before (column_at p d)) (sym c.parameters-parameters.ensures.value)
    (subst (λ (xs : List ℕ). get_or xs ((c.args.step * (8 + 4 * f.shape.parameters) + d) * f.places + i) 0 ≤ most_before (column_at f.shape.parameters d)) (sym c.as_mut_slice-2.ensures.value)
    (room_for_sums f.shape f.rank f.places f.counts.items f.waiting.items f.sums.items f.ends.items f.numbers.items f.samples.items c.args.step f.kept c.requires.plane_in c.requires.room c.requires.waiting d i (omega (arith, d_in, c.parameters-parameters.ensures.value)) here))

-- the samples after the block was put there
samples_are : (g : Over) (c : After-as_slice-samples g) → c.as_slice-samples.result.now ≡ c.gather.new.samples
samples_are g c = let f = c.args.self.now in c.as_slice-samples.ensures.value ∙ spliced f.samples.items c.as_mut_slice.result.now c.gather.new.samples f.samples.len c.as_mut_slice.ensures.len c.gather.auto.samples

samples_fit : (g : Over) (c : After-as_slice-samples g) → let f = c.args.self.now in c.args.step * (8 * ((f.shape.parameters + 2) * f.places)) + (f.shape.parameters + 2) * f.places * 8 ≤ length c.as_slice-samples.result.now
samples_fit g c =
    let f = c.args.self.now in
    let long : length c.as_slice-samples.result.now ≡ planes f.shape * (8 * ((f.shape.parameters + 2) * f.places)) = ap length (samples_are g c) ∙ (c.gather.auto.samples ∙ (ap length c.as_mut_slice.ensures.value ∙ f.kept.room)) in
    omega (arith, long, plane_before c.args.step (planes f.shape) (8 * ((f.shape.parameters + 2) * f.places)) c.requires.plane_in)

pub add_to_sums-requires-clause-samples : goal.add_to_sums-requires-clause-samples
add_to_sums-requires-clause-samples g c = rw c.parameters-parameters.ensures.value (samples_fit g (goal.at.add_to_sums-requires-clause-samples g c).After-as_slice-samples)

pub add_to_ends-requires-clause-ends : goal.add_to_ends-requires-clause-ends
add_to_ends-requires-clause-ends g c =
    let f = c.args.self.now in
    columns_fit 2 f.places c.args.step (planes f.shape) _ c.requires.plane_in (ap length c.as_mut_slice-3.ensures.value ∙ f.kept.extrema_in.long)

pub add_to_ends-requires-clause-samples : goal.add_to_ends-requires-clause-samples
add_to_ends-requires-clause-samples g c = rw c.parameters-parameters.ensures.value (samples_fit g (goal.at.add_to_ends-requires-clause-samples g c).After-as_slice-samples)

pub add_to_numbers-requires-clause-row : goal.add_to_numbers-requires-clause-row
add_to_numbers-requires-clause-row g c = rw c.thresholds.ensures.value (let v = c.thresholds.ensures.valid in let f = c.args.self.now in let few : length f.shape.thresholds ≤ 8 = v.thresholds in omega (arith, Rattle.std.proofs.lemmas.Nat.mul-le c.args.step (length f.shape.thresholds) 4294967295 8 (omega arith) few, few))

pub add_to_numbers-requires-clause-numbers : goal.add_to_numbers-requires-clause-numbers
add_to_numbers-requires-clause-numbers g c =
    let f = c.args.self.now in
    rw c.thresholds.ensures.value (columns_fit (length f.shape.thresholds) f.places c.args.step (planes f.shape) _ c.requires.plane_in (ap length c.as_mut_slice-4.ensures.value ∙ f.kept.numbers_in.long))

pub add_to_numbers-requires-clause-samples : goal.add_to_numbers-requires-clause-samples
add_to_numbers-requires-clause-samples g c = rw c.parameters-parameters.ensures.value (samples_fit g (goal.at.add_to_numbers-requires-clause-samples g c).After-as_slice-samples)

pub add_to_numbers-requires-clause-room : goal.add_to_numbers-requires-clause-room
add_to_numbers-requires-clause-room g c = λ d i d_in here.
    let f = c.args.self.now in
    subst (λ (t : ℕ). get_or c.as_mut_slice-4.result.now ((c.args.step * t + d) * f.places + i) 0 ≤ 131070) (sym c.thresholds.ensures.value)
    (subst (λ (xs : List ℕ). get_or xs ((c.args.step * length f.shape.thresholds + d) * f.places + i) 0 ≤ 131070) (sym c.as_mut_slice-4.ensures.value)
    (room_for_numbers f.shape f.rank f.places f.counts.items f.waiting.items f.sums.items f.ends.items f.numbers.items f.samples.items c.args.step f.kept c.requires.plane_in c.requires.room d i d_in here))

-- the walks, over the lists of the field
module _ (g : Over) (c : After-add_to_numbers g) where
  gathered : let f = c.args.self.now in IsGathered (f.shape.parameters + 2) f.places c.args.step 7 f.shape.signed (g.R.Rows.sample c.args.rows.now) f.samples.items (take f.samples.len (c.gather.new.samples ++ drop (length c.gather.new.samples) f.samples.items))
  gathered =
      let f = c.args.self.now in
      gathered_block (f.shape.parameters + 2) (g.R.Rows.row_count c.args.rows.now) (c.parameters-parameters.result + 2) f.places (g.R.Rows.place_count c.args.rows.now) c.args.step 7 f.shape.signed c.signed.result (g.R.Rows.sample c.args.rows.now) f.samples.items c.as_mut_slice.result.now c.gather.new.samples _
      c.requires.rows (ap (λ (p : ℕ). p + 2) c.parameters-parameters.ensures.value) (c.requires.cells ∙ sym f.kept.block_width) c.signed.ensures.value c.as_mut_slice.ensures.value (spliced f.samples.items c.as_mut_slice.result.now c.gather.new.samples f.samples.len c.as_mut_slice.ensures.len c.gather.auto.samples) c.gather.ensures.values c.gather.ensures.before c.gather.ensures.behind

  sums_walk : let f = c.args.self.now in Walk (c.args.step * sums_size f.shape.parameters) (sums_size f.shape.parameters) f.places 0 f.places f.sums.items (take f.sums.len (c.add_to_sums.new.words ++ drop (length c.add_to_sums.new.words) f.sums.items)) (λ d i e m. sums_step f.shape.parameters d (waiting_row (f.shape.parameters + 2) f.places (take f.samples.len (c.gather.new.samples ++ drop (length c.gather.new.samples) f.samples.items)) c.args.step i e) m)
  sums_walk =
      let f = c.args.self.now in
      let w = f.places in
      let step = c.args.step in
      let Family : ℕ → List ℕ → List ℕ → List ℕ → Type 0 = λ p samples old new. Walk (step * sums_size p) (sums_size p) w 0 w old new (λ d i e m. sums_step p d (waiting_row (p + 2) w samples step i e) m) in
      let new = c.add_to_sums.new.words in
      let spliced' = spliced f.sums.items c.as_mut_slice-2.result.now new f.sums.len c.as_mut_slice-2.ensures.len c.add_to_sums.auto.words in
      subst (λ (xs : List ℕ). Family f.shape.parameters (take f.samples.len (c.gather.new.samples ++ drop (length c.gather.new.samples) f.samples.items)) f.sums.items xs) (sym spliced')
      (subst (λ (xs : List ℕ). Family f.shape.parameters (take f.samples.len (c.gather.new.samples ++ drop (length c.gather.new.samples) f.samples.items)) xs new) c.as_mut_slice-2.ensures.value
      (subst (λ (xs : List ℕ). Family f.shape.parameters xs c.as_mut_slice-2.result.now new) c.as_slice-samples.ensures.value
      (subst (λ (p : ℕ). Family p c.as_slice-samples.result.now c.as_mut_slice-2.result.now new) c.parameters-parameters.ensures.value c.add_to_sums.ensures)))

  ends_walk : let f = c.args.self.now in Walk (c.args.step * 2) 2 f.places 0 f.places f.ends.items (take f.ends.len (c.add_to_ends.new.ends ++ drop (length c.add_to_ends.new.ends) f.ends.items)) (λ d i e m. ends_step d (waiting_row (f.shape.parameters + 2) f.places (take f.samples.len (c.gather.new.samples ++ drop (length c.gather.new.samples) f.samples.items)) c.args.step i e) m)
  ends_walk =
      let f = c.args.self.now in
      let w = f.places in
      let step = c.args.step in
      let Family : ℕ → List ℕ → List ℕ → List ℕ → Type 0 = λ p samples old new. Walk (step * 2) 2 w 0 w old new (λ d i e m. ends_step d (waiting_row (p + 2) w samples step i e) m) in
      let new = c.add_to_ends.new.ends in
      let spliced' = spliced f.ends.items c.as_mut_slice-3.result.now new f.ends.len c.as_mut_slice-3.ensures.len c.add_to_ends.auto.ends in
      subst (λ (xs : List ℕ). Family f.shape.parameters (take f.samples.len (c.gather.new.samples ++ drop (length c.gather.new.samples) f.samples.items)) f.ends.items xs) (sym spliced')
      (subst (λ (xs : List ℕ). Family f.shape.parameters (take f.samples.len (c.gather.new.samples ++ drop (length c.gather.new.samples) f.samples.items)) xs new) c.as_mut_slice-3.ensures.value
      (subst (λ (xs : List ℕ). Family f.shape.parameters xs c.as_mut_slice-3.result.now new) c.as_slice-samples.ensures.value
      (subst (λ (p : ℕ). Family p c.as_slice-samples.result.now c.as_mut_slice-3.result.now new) c.parameters-parameters.ensures.value c.add_to_ends.ensures)))

  numbers_walk : let f = c.args.self.now in Walk (c.args.step * length f.shape.thresholds) (length f.shape.thresholds) f.places 0 f.places f.numbers.items (take f.numbers.len (c.add_to_numbers.new.numbers ++ drop (length c.add_to_numbers.new.numbers) f.numbers.items)) (λ d i e m. numbers_step f.shape.thresholds d (waiting_row (f.shape.parameters + 2) f.places (take f.samples.len (c.gather.new.samples ++ drop (length c.gather.new.samples) f.samples.items)) c.args.step i e) m)
  numbers_walk =
      let f = c.args.self.now in
      let w = f.places in
      let step = c.args.step in
      let ts = f.shape.thresholds in
      let Family : ℕ → ℕ → List ℕ → List ℕ → List ℕ → Type 0 = λ p t samples old new. Walk (step * t) (length ts) w 0 w old new (λ d i e m. numbers_step ts d (row_behind (f.shape.parameters + 2) w samples (step * (8 * ((p + 2) * w))) i e) m) in
      let new = c.add_to_numbers.new.numbers in
      let spliced' = spliced f.numbers.items c.as_mut_slice-4.result.now new f.numbers.len c.as_mut_slice-4.ensures.len c.add_to_numbers.auto.numbers in
      subst (λ (xs : List ℕ). Family f.shape.parameters (length ts) (take f.samples.len (c.gather.new.samples ++ drop (length c.gather.new.samples) f.samples.items)) f.numbers.items xs) (sym spliced')
      (subst (λ (xs : List ℕ). Family f.shape.parameters (length ts) (take f.samples.len (c.gather.new.samples ++ drop (length c.gather.new.samples) f.samples.items)) xs new) c.as_mut_slice-4.ensures.value
      (subst (λ (xs : List ℕ). Family f.shape.parameters (length ts) xs c.as_mut_slice-4.result.now new) c.as_slice-samples.ensures.value
      (subst (λ (t : ℕ). Family f.shape.parameters t c.as_slice-samples.result.now c.as_mut_slice-4.result.now new) c.thresholds.ensures.value
      (subst (λ (p : ℕ). Family p c.thresholds.result c.as_slice-samples.result.now c.as_mut_slice-4.result.now new) c.parameters-parameters.ensures.value c.add_to_numbers.ensures))))

  small_now : (i : ℕ) → get_or (let f = c.args.self.now in (take f.samples.len (c.gather.new.samples ++ drop (length c.gather.new.samples) f.samples.items))) i 0 ≤ 65535
  small_now i =
      let f = c.args.self.now in
      let same = spliced f.samples.items c.as_mut_slice.result.now c.gather.new.samples f.samples.len c.as_mut_slice.ensures.len c.gather.auto.samples in
      subst (λ (xs : List ℕ). get_or xs i 0 ≤ 65535) (sym same) (c.gather.ensures.small (λ k. subst (λ (ys : List ℕ). get_or ys k 0 ≤ 65535) (sym c.as_mut_slice.ensures.value) (f.kept.small k)) i)

pub invariant_of-self-clause-kept : goal.invariant_of-self-clause-kept
invariant_of-self-clause-kept g c =
    let f = c.args.self.now in
    let d = (goal.at.invariant_of-self-clause-kept g c).After-add_to_numbers in
    let count : c.index_mut.result.now ≡ get_or f.counts.items c.args.step 0 = get_or_read f.counts.items c.args.step _ (omega (arith, f.kept.each_plane, c.requires.plane_in)) c.index_mut.ensures.value 0 in
    field_settled f.shape f.rank f.places f.counts.items f.waiting.items f.sums.items f.ends.items f.numbers.items f.samples.items _ _ _ _ c.args.step c.index_mut.result.now c.parameters-parameters.ensures.valid.thresholds_rise f.kept c.requires.plane_in count (omega (arith, count, c.requires.room)) c.requires.waiting
    (long_as_before f.samples.items _ c.gather.new.samples f.samples.len c.as_mut_slice.ensures.value c.as_mut_slice.ensures.len c.gather.auto.samples) (small_now g d)
    (long_as_before f.sums.items _ c.add_to_sums.new.words f.sums.len c.as_mut_slice-2.ensures.value c.as_mut_slice-2.ensures.len c.add_to_sums.auto.words)
    (long_as_before f.ends.items _ c.add_to_ends.new.ends f.ends.len c.as_mut_slice-3.ensures.value c.as_mut_slice-3.ensures.len c.add_to_ends.auto.ends)
    (long_as_before f.numbers.items _ c.add_to_numbers.new.numbers f.numbers.len c.as_mut_slice-4.ensures.value c.as_mut_slice-4.ensures.len c.add_to_numbers.auto.numbers)
    (sums_walk g d) (ends_walk g d) (numbers_walk g d)

pub returns-clause-stands : goal.returns-clause-stands
returns-clause-stands g c = λ t stands.
    let f = c.args.self.now in
    let d = (goal.at.returns-clause-stands g c).After-add_to_numbers in
    let sample = g.R.Rows.sample c.args.rows.now in
    let fits : c.args.step < length f.counts.items = omega (arith, f.kept.each_plane, c.requires.plane_in) in
    let count : c.index_mut.result.now ≡ get_or f.counts.items c.args.step 0 = get_or_read f.counts.items c.args.step _ fits c.index_mut.ensures.value 0 in
    let new = HoldsTable f.shape f.places (set f.counts.items c.args.step (c.index_mut.result.now + 1)) (set f.waiting.items c.args.step 0) (take f.sums.len (c.add_to_sums.new.words ++ drop (length c.add_to_sums.new.words) f.sums.items)) (take f.ends.len (c.add_to_ends.new.ends ++ drop (length c.add_to_ends.new.ends) f.ends.items)) (take f.numbers.len (c.add_to_numbers.new.numbers ++ drop (length c.add_to_numbers.new.numbers) f.numbers.items)) (take f.samples.len (c.gather.new.samples ++ drop (length c.gather.new.samples) f.samples.items)) in
    subst (λ (w : ℕ). new (with_block t c.args.step w (shifted_row f.shape.signed (g.R.Rows.row_count c.args.rows.now) sample))) f.kept.block_width
    (subst (λ (n : ℕ). new (with_block t c.args.step f.places (shifted_row f.shape.signed n sample))) (sym c.requires.rows)
    (table_settled f.shape f.places f.counts.items f.waiting.items f.sums.items f.ends.items f.numbers.items f.samples.items _ _ _ _ t c.args.step c.index_mut.result.now sample c.parameters-parameters.ensures.valid.thresholds_rise stands fits count
    (waits_after f.waiting.items c.args.step 7 0 (omega (arith, f.kept.each_waits, c.requires.plane_in)) (sym c.requires.waiting) f.kept.few_wait) (gathered g d) (small_now g d) (sums_walk g d) (ends_walk g d) (numbers_walk g d)))
