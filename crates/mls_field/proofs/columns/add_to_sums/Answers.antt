use Rattle.std.proofs.Common.{◌≡◌, ℕ, ◌+◌, ◌<◌, ◌≤◌, sym, subst, arith}
use Rattle.mls_field.specs.ColumnSums.{sums_size, sums_step, column_at, most_before}
use Rattle.mls_field.specs.Gathered.{row_behind}
use Rattle.mls_field.specs.Walk.{Walk}
use Rattle.mls_field.proofs.Walks.{places_more, no_places, place_waits}
use Rattle.mls_field.proofs.columns.add_to_sums.Goals as goal

pub loop-from-init : goal.loop-from-init
loop-from-init c = record {
  long = omega arith;
  inside = omega arith;
  walk = no_places c.args.row (sums_size c.args.parameters) c.args.places c.args.words.now (λ d i g n. sums_step c.args.parameters d (row_behind (c.args.parameters + 2) c.args.places c.args.samples.now c.args.start i g) n);
}

pub add_to_columns-requires-clause-room : goal.add_to_columns-requires-clause-room
add_to_columns-requires-clause-room c = λ d i d_in from_in high.
    let below : i < c.args.places = omega (arith, high, c.min-count.ensures, c.loop-from.invariant.inside) in
    subst (λ (x : ℕ). x ≤ most_before (column_at c.args.parameters d)) (sym (place_waits _ _ _ _ _ _ _ c.loop-from.invariant.inside c.loop-from.invariant.walk d i from_in below)) (c.requires.room d i d_in (omega arith) below)

pub loop-from-preserved : goal.loop-from-preserved
loop-from-preserved c =
    let inside : c.loop-from.from + c.min-count.result ≤ c.args.places = omega (arith, c.min-count.ensures, c.loop-from.invariant.inside) in
    record {
      long = omega arith;
      inside = inside;
      walk = places_more c.args.row (sums_size c.args.parameters) c.args.places c.loop-from.from (c.loop-from.from + c.min-count.result) c.args.words.now c.loop-from.words c.add_to_columns.new.words (λ d i g n. sums_step c.args.parameters d (row_behind (c.args.parameters + 2) c.args.places c.args.samples.now c.args.start i g) n) (omega arith) inside c.loop-from.invariant.walk c.add_to_columns.ensures;
    }

pub returns : goal.returns
returns c =
    let all : c.loop-from.from ≡ c.args.places = omega (arith, c.loop-from.invariant.inside) in
    subst (λ (end : ℕ). Walk c.args.row (sums_size c.args.parameters) c.args.places 0 end c.args.words.now c.loop-from.words (λ d i g n. sums_step c.args.parameters d (row_behind (c.args.parameters + 2) c.args.places c.args.samples.now c.args.start i g) n)) all c.loop-from.invariant.walk
