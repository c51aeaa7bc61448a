use Rattle.std.proofs.Common.{◌≡◌, ℕ, ◌+◌, ◌*◌, ◌≤◌, subst, arith}
use Rattle.mls_field.specs.Cells.{with_rows}
use Rattle.mls_field.specs.ColumnSums.{sums_size, sums_step, column_at}
use Rattle.mls_field.specs.Copied.{copied}
use Rattle.mls_field.specs.Gathered.{row_behind}
use Rattle.mls_field.specs.Kinds.{SumsWithin}
use Rattle.mls_field.specs.OneCell.{IsRowAt, SameFront}
use Rattle.mls_field.proofs.Grid.{plane_before}
use Rattle.mls_field.proofs.Rooms.{sum_small, before_one}
use Rattle.mls_field.proofs.OneRow.{sums_within}
use Rattle.mls_field.proofs.Fronts.{row_at, front_more, small_row, none_same}
use Rattle.mls_field.proofs.FourCopied.{entry}
use Rattle.mls_field.proofs.copied.add_waiting_to_sums.Goals as goal

pub loop-g-init : goal.loop-g-init
loop-g-init c = record {
  range = λ k count k_in h. subst (λ (n : ℕ). SumsWithin c.args.parameters n (copied (sums_size c.args.parameters) c.args.sums.now k)) (let e : count ≡ count + 0 = omega arith in e) h;
  whole = λ k cell k_in long same. none_same _ _ _ _ _ same;
}

pub add_row-requires-clause-samples : goal.add_row-requires-clause-samples
add_row-requires-clause-samples c = λ r h.
    let a = plane_before r (c.args.parameters + 2) c.args.places h in
    let b = plane_before c.loop-g.g 8 ((c.args.parameters + 2) * c.args.places) (omega arith) in
    omega (arith, a, b, c.requires.samples, c.requires.inside)

pub add_row-requires-clause-room : goal.add_row-requires-clause-room
add_row-requires-clause-room c = λ d k d_in k_in.
    let room = c.requires.room k k_in in
    let m = room.count + c.loop-g.g in
    let few : m ≤ 65534 = omega (arith, room.few) in
    let p = c.args.parameters in
    let h = c.loop-g.invariant.range k room.count k_in room.range in
    omega (arith, entry (sums_size p) k c.loop-g.sums d d_in, sum_small m p (copied (sums_size p) c.loop-g.sums k) h (omega (arith, few)) d d_in, before_one m (column_at p d) few)

pub loop-g-preserved : goal.loop-g-preserved
loop-g-preserved c =
    let p = c.args.parameters in
    let g = c.loop-g.g in
    let size = sums_size p in
    let places = c.args.places in
    let samples = c.args.samples.now in
    let start = c.args.start in
    let from = c.args.from in
    let row : ℕ → ℕ → _ = λ k. row_behind (p + 2) places samples start (from + k) in
    let there : (k : ℕ) → IsRowAt (p + 2) places (g * ((p + 2) * places) + start + from + k) samples (row k g) = λ k. subst (λ (n : ℕ). IsRowAt (p + 2) places n samples (row k g)) (let e : g * ((p + 2) * places) + start + (from + k) ≡ g * ((p + 2) * places) + start + from + k = omega arith in e) (row_at (p + 2) places samples start (from + k) g) in
    record {
      range = λ k count k_in h. subst (λ (n : ℕ). SumsWithin p n (copied size c.add_row.new.sums k)) (let e : count + g + 1 ≡ count + (g + 1) = omega arith in e)
          (sums_within (count + g) p (copied size c.loop-g.sums k) (copied size c.add_row.new.sums k) (row k g) (record { each = (c.add_row.ensures k (row k g) k_in (there k)).each }) (small_row (p + 2) places samples start (from + k) g (λ i. omega (arith, c.type_inv.samples i))) (c.loop-g.invariant.range k count k_in h));
      whole = λ k cell k_in long same. front_more (sums_step p) size (row k) g cell (copied size c.loop-g.sums k) (copied size c.add_row.new.sums k) long (c.loop-g.invariant.whole k cell k_in long same) (c.add_row.ensures k (row k g) k_in (there k));
    }

pub returns : goal.returns
returns c =
    let all : c.loop-g.g ≡ c.args.waiting = omega arith in
    let p = c.args.parameters in
    let size = sums_size p in
    λ k k_in cell long same. subst (λ (g : ℕ). SameFront size (copied size c.loop-g.sums k) (with_rows (sums_step p) (row_behind (p + 2) c.args.places c.args.samples.now c.args.start (c.args.from + k)) g cell)) all (c.loop-g.invariant.whole k cell k_in long same)
