use Rattle.std.proofs.Common.{◌≡◌, ℕ, ◌+◌, ◌*◌, List, subst, arith}
use Rattle.mls_field.specs.ColumnSums.{sums_size}
use Rattle.mls_field.specs.Walk.{Walk}
use Rattle.mls_field.proofs.FourSums.{steps_of, four_more, products_room, powers_room, outputs_more, products_more, powers_more}
use Rattle.mls_field.proofs.Walks.{no_columns}
use Rattle.mls_field.proofs.columns.add_to_columns.Goals as goal

pub add_outputs-requires-clause-room_first : goal.add_outputs-requires-clause-room_first
add_outputs-requires-clause-room_first c = λ k low. products_room c.args.parameters c.args.row 0 c.args.places c.args.from c.args.count c.args.words.now c.args.words.now (steps_of c.args.parameters c.args.places c.args.samples.now c.args.start) c.requires.room (no_columns c.args.row c.args.places c.args.from (c.args.from + c.args.count) c.args.words.now _) c.requires.inside (omega arith) 0 k _ (omega arith) low (omega arith)

pub add_outputs-requires-clause-room_second : goal.add_outputs-requires-clause-room_second
add_outputs-requires-clause-room_second c = λ k low. products_room c.args.parameters c.args.row 0 c.args.places c.args.from c.args.count c.args.words.now c.args.words.now (steps_of c.args.parameters c.args.places c.args.samples.now c.args.start) c.requires.room (no_columns c.args.row c.args.places c.args.from (c.args.from + c.args.count) c.args.words.now _) c.requires.inside (omega arith) 1 k _ (omega arith) low (omega arith)

pub add_outputs-requires-clause-room_third : goal.add_outputs-requires-clause-room_third
add_outputs-requires-clause-room_third c = λ k low. products_room c.args.parameters c.args.row 0 c.args.places c.args.from c.args.count c.args.words.now c.args.words.now (steps_of c.args.parameters c.args.places c.args.samples.now c.args.start) c.requires.room (no_columns c.args.row c.args.places c.args.from (c.args.from + c.args.count) c.args.words.now _) c.requires.inside (omega arith) 2 k _ (omega arith) low (omega arith)

pub add_outputs-requires-clause-room_fourth : goal.add_outputs-requires-clause-room_fourth
add_outputs-requires-clause-room_fourth c = λ k low. products_room c.args.parameters c.args.row 0 c.args.places c.args.from c.args.count c.args.words.now c.args.words.now (steps_of c.args.parameters c.args.places c.args.samples.now c.args.start) c.requires.room (no_columns c.args.row c.args.places c.args.from (c.args.from + c.args.count) c.args.words.now _) c.requires.inside (omega arith) 3 k _ (omega arith) low (omega arith)

before_next : (row q places from end : ℕ) (old mid : List ℕ) (step : ℕ → ℕ → ℕ → ℕ → ℕ) → Walk row (4 + 4 * q) places from end old mid step → Walk row (4 * (1 + q)) places from end old mid step
before_next row q places from end old mid step walk = subst (λ (columns : ℕ). Walk row columns places from end old mid step) (let e : 4 + 4 * q ≡ 4 * (1 + q) = omega arith in e) walk

pub loop-k-init : goal.loop-k-init
loop-k-init c =
    let step : ℕ → ℕ → ℕ → ℕ → ℕ = steps_of c.args.parameters c.args.places c.args.samples.now c.args.start in
    four_more c.args.row 0 c.args.places c.args.from c.args.count c.args.words.now c.args.words.now c.add_outputs.new.words step c.requires.inside (no_columns c.args.row c.args.places c.args.from (c.args.from + c.args.count) c.args.words.now step)
    (outputs_more c.args.parameters c.args.row c.args.places c.args.from c.args.count c.args.words.now c.add_outputs.new.words c.args.samples.now c.args.start _ _ _ (omega arith) (omega arith) (omega arith) c.add_outputs.ensures)

pub add_products-requires-clause-room_first : goal.add_products-requires-clause-room_first
add_products-requires-clause-room_first c = λ k low. products_room c.args.parameters c.args.row (1 + c.loop-k.k) c.args.places c.args.from c.args.count c.args.words.now c.loop-k.words (steps_of c.args.parameters c.args.places c.args.samples.now c.args.start) c.requires.room (before_next c.args.row c.loop-k.k c.args.places c.args.from (c.args.from + c.args.count) c.args.words.now c.loop-k.words _ c.loop-k.invariant) c.requires.inside (omega arith) 0 k _ (omega arith) low (omega arith)

pub add_products-requires-clause-room_second : goal.add_products-requires-clause-room_second
add_products-requires-clause-room_second c = λ k low. products_room c.args.parameters c.args.row (1 + c.loop-k.k) c.args.places c.args.from c.args.count c.args.words.now c.loop-k.words (steps_of c.args.parameters c.args.places c.args.samples.now c.args.start) c.requires.room (before_next c.args.row c.loop-k.k c.args.places c.args.from (c.args.from + c.args.count) c.args.words.now c.loop-k.words _ c.loop-k.invariant) c.requires.inside (omega arith) 1 k _ (omega arith) low (omega arith)

pub add_products-requires-clause-room_third : goal.add_products-requires-clause-room_third
add_products-requires-clause-room_third c = λ k low. products_room c.args.parameters c.args.row (1 + c.loop-k.k) c.args.places c.args.from c.args.count c.args.words.now c.loop-k.words (steps_of c.args.parameters c.args.places c.args.samples.now c.args.start) c.requires.room (before_next c.args.row c.loop-k.k c.args.places c.args.from (c.args.from + c.args.count) c.args.words.now c.loop-k.words _ c.loop-k.invariant) c.requires.inside (omega arith) 2 k _ (omega arith) low (omega arith)

pub add_products-requires-clause-room_fourth : goal.add_products-requires-clause-room_fourth
add_products-requires-clause-room_fourth c = λ k low. products_room c.args.parameters c.args.row (1 + c.loop-k.k) c.args.places c.args.from c.args.count c.args.words.now c.loop-k.words (steps_of c.args.parameters c.args.places c.args.samples.now c.args.start) c.requires.room (before_next c.args.row c.loop-k.k c.args.places c.args.from (c.args.from + c.args.count) c.args.words.now c.loop-k.words _ c.loop-k.invariant) c.requires.inside (omega arith) 3 k _ (omega arith) low (omega arith)

pub loop-k-preserved : goal.loop-k-preserved
loop-k-preserved c =
    let p = c.args.parameters in
    let q = c.loop-k.k in
    let step : ℕ → ℕ → ℕ → ℕ → ℕ = steps_of p c.args.places c.args.samples.now c.args.start in
    let more : 4 + 4 * q + 4 ≡ 4 + 4 * (q + 1) = omega arith in
    subst (λ (columns : ℕ). Walk c.args.row columns c.args.places c.args.from (c.args.from + c.args.count) c.args.words.now c.add_products.new.words step) more
    (four_more c.args.row (4 + 4 * q) c.args.places c.args.from c.args.count c.args.words.now c.loop-k.words c.add_products.new.words step c.requires.inside c.loop-k.invariant
    (products_more p c.args.row c.args.places c.args.from c.args.count c.loop-k.words c.add_products.new.words c.args.samples.now c.args.start _ _ _ _ q (omega arith) (omega arith) (omega arith) (omega arith) (omega arith) c.add_products.ensures))

whole : (p row q places from end : ℕ) (old mid : List ℕ) (step : ℕ → ℕ → ℕ → ℕ → ℕ) → q ≡ p → Walk row (4 + 4 * q) places from end old mid step → Walk row (4 + 4 * p) places from end old mid step
whole p row q places from end old mid step all walk = subst (λ (n : ℕ). Walk row (4 + 4 * n) places from end old mid step) all walk

pub add_powers-requires-clause-room_first : goal.add_powers-requires-clause-room_first
add_powers-requires-clause-room_first c = λ k low. powers_room c.args.parameters c.args.row c.args.places c.args.from c.args.count c.args.words.now c.loop-k.words (steps_of c.args.parameters c.args.places c.args.samples.now c.args.start) c.requires.room (whole c.args.parameters c.args.row c.loop-k.k c.args.places c.args.from (c.args.from + c.args.count) c.args.words.now c.loop-k.words _ (omega arith) c.loop-k.invariant) c.requires.inside 0 k _ (omega arith) low (omega arith)

pub add_powers-requires-clause-room_second : goal.add_powers-requires-clause-room_second
add_powers-requires-clause-room_second c = λ k low. powers_room c.args.parameters c.args.row c.args.places c.args.from c.args.count c.args.words.now c.loop-k.words (steps_of c.args.parameters c.args.places c.args.samples.now c.args.start) c.requires.room (whole c.args.parameters c.args.row c.loop-k.k c.args.places c.args.from (c.args.from + c.args.count) c.args.words.now c.loop-k.words _ (omega arith) c.loop-k.invariant) c.requires.inside 1 k _ (omega arith) low (omega arith)

pub add_powers-requires-clause-room_third : goal.add_powers-requires-clause-room_third
add_powers-requires-clause-room_third c = λ k low. omega (arith, powers_room c.args.parameters c.args.row c.args.places c.args.from c.args.count c.args.words.now c.loop-k.words (steps_of c.args.parameters c.args.places c.args.samples.now c.args.start) c.requires.room (whole c.args.parameters c.args.row c.loop-k.k c.args.places c.args.from (c.args.from + c.args.count) c.args.words.now c.loop-k.words _ (omega arith) c.loop-k.invariant) c.requires.inside 2 k ((c.args.row + 4 + 4 * c.args.parameters) * c.args.places + c.args.from + 2 * c.args.places + k) (omega arith) low (omega arith))

pub add_powers-requires-clause-room_fourth : goal.add_powers-requires-clause-room_fourth
add_powers-requires-clause-room_fourth c = λ k low. omega (arith, powers_room c.args.parameters c.args.row c.args.places c.args.from c.args.count c.args.words.now c.loop-k.words (steps_of c.args.parameters c.args.places c.args.samples.now c.args.start) c.requires.room (whole c.args.parameters c.args.row c.loop-k.k c.args.places c.args.from (c.args.from + c.args.count) c.args.words.now c.loop-k.words _ (omega arith) c.loop-k.invariant) c.requires.inside 3 k ((c.args.row + 4 + 4 * c.args.parameters) * c.args.places + c.args.from + 3 * c.args.places + k) (omega arith) low (omega arith))

pub returns : goal.returns
returns c =
    let p = c.args.parameters in
    let step : ℕ → ℕ → ℕ → ℕ → ℕ = steps_of p c.args.places c.args.samples.now c.args.start in
    let before = whole p c.args.row c.loop-k.k c.args.places c.args.from (c.args.from + c.args.count) c.args.words.now c.loop-k.words step (omega arith) c.loop-k.invariant in
    let all : 4 + 4 * p + 4 ≡ sums_size p = omega arith in
    subst (λ (columns : ℕ). Walk c.args.row columns c.args.places c.args.from (c.args.from + c.args.count) c.args.words.now c.add_powers.new.words step) all
    (four_more c.args.row (4 + 4 * p) c.args.places c.args.from c.args.count c.args.words.now c.loop-k.words c.add_powers.new.words step c.requires.inside before
    (powers_more p c.args.row c.args.places c.args.from c.args.count c.loop-k.words c.add_powers.new.words c.args.samples.now c.args.start _ _ _ (omega arith) (omega arith) (omega arith) c.add_powers.ensures))
