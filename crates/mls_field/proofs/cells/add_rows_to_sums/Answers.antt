use Rattle.std.proofs.Common.{◌≡◌, ℕ, ◌+◌, ◌*◌, ◌≤◌, subst, arith}
use Rattle.std.proofs.lemmas.Grind.{common_steps}
use Rattle.mls_field.specs.Cells.{with_rows}
use Rattle.mls_field.specs.ColumnSums.{sums_size, sums_step, column_at}
use Rattle.mls_field.specs.Gathered.{row_behind}
use Rattle.mls_field.specs.Kinds.{SumsWithin}
use Rattle.mls_field.specs.OneCell.{IsRowAt, SameFront}
use Rattle.mls_field.proofs.Grid.{plane_before}
use Rattle.mls_field.proofs.Rooms.{sum_small, before_one}
use Rattle.mls_field.proofs.OneRow.{sums_within}
use Rattle.mls_field.proofs.Fronts.{row_at, front_more, small_row, none_same}
use Rattle.mls_field.proofs.cells.add_rows_to_sums.Goals as goal

pub loop-g-init : goal.loop-g-init
loop-g-init c = record {
  range = λ count h. subst (λ (n : ℕ). SumsWithin c.args.parameters n c.args.sums.now) (let e : count ≡ count + 0 = omega arith in e) h;
  whole = λ cell long same. none_same _ _ _ _ _ same;
}

pub add_row-requires-clause-samples : goal.add_row-requires-clause-samples
add_row-requires-clause-samples c = λ r h.
    let a = plane_before r (c.args.parameters + 2) c.args.places h in
    let b = plane_before c.loop-g.g 8 ((c.args.parameters + 2) * c.args.places) (omega arith) in
    omega (arith, a, b, c.requires.samples, c.requires.place)

pub add_row-requires-clause-room : goal.add_row-requires-clause-room
add_row-requires-clause-room c = λ d d_in.
    let m = c.requires.room.count + c.loop-g.g in
    let few : m ≤ 65534 = omega (arith, c.requires.room.few) in
    let p = c.args.parameters in
    let h = c.loop-g.invariant.range c.requires.room.count c.requires.room.range in
    omega (arith, sum_small m p c.loop-g.sums h (omega (arith, few)) d d_in, before_one m (column_at p d) few)

pub loop-g-preserved : goal.loop-g-preserved
loop-g-preserved c =
    let p = c.args.parameters in
    let g = c.loop-g.g in
    let row = row_behind (p + 2) c.args.places c.args.samples.now c.args.start c.args.place in
    let there : IsRowAt (p + 2) c.args.places (g * ((p + 2) * c.args.places) + c.args.start + c.args.place) c.args.samples.now (row g) = row_at (p + 2) c.args.places c.args.samples.now c.args.start c.args.place g in
    let stepped = c.add_row.ensures (row g) there in
    record {
      range = λ count h. subst (λ (n : ℕ). SumsWithin p n c.add_row.new.sums) (let e : count + g + 1 ≡ count + (g + 1) = omega arith in e)
          (sums_within (count + g) p c.loop-g.sums c.add_row.new.sums (row g) (record { each = stepped.each }) (small_row (p + 2) c.args.places c.args.samples.now c.args.start c.args.place g (λ i. omega (arith, c.type_inv.samples i))) (c.loop-g.invariant.range count h));
      whole = λ cell long same. front_more (sums_step p) (sums_size p) row g cell c.loop-g.sums c.add_row.new.sums long (c.loop-g.invariant.whole cell long same) stepped;
    }

pub returns : goal.returns
returns c =
    let all : c.loop-g.g ≡ c.args.waiting = omega arith in
    let p = c.args.parameters in
    record {
      range = λ count h. subst (λ (g : ℕ). SumsWithin p (count + g) c.loop-g.sums) all (c.loop-g.invariant.range count h);
      whole = λ cell long same. subst (λ (g : ℕ). SameFront (sums_size p) c.loop-g.sums (with_rows (sums_step p) (row_behind (p + 2) c.args.places c.args.samples.now c.args.start c.args.place) g cell)) all (c.loop-g.invariant.whole cell long same);
    }

pub overflow_mul-g : goal.overflow_mul-g
overflow_mul-g c = let b = plane_before c.loop-g.g 8 ((c.args.parameters + 2) * c.args.places) (omega arith) in grind (arith, common_steps, b)

pub overflow_add-g : goal.overflow_add-g
overflow_add-g c = let b = plane_before c.loop-g.g 8 ((c.args.parameters + 2) * c.args.places) (omega arith) in grind (arith, common_steps, b)

pub overflow_add-g-in-loop-g : goal.overflow_add-g-in-loop-g
overflow_add-g-in-loop-g c =
    let b = plane_before c.loop-g.g 8 ((c.args.parameters + 2) * c.args.places) (omega arith) in
    let a = plane_before 0 (c.args.parameters + 2) c.args.places (omega arith) in
    grind (arith, common_steps, a, b)
