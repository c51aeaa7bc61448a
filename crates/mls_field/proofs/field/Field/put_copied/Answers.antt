use Rattle.std.proofs.Common.{◌≡◌, ℕ, ◌+◌, List, map, length, take, sym, subst, arith}
use Rattle.mls_model.specs.Numbers.{below}
use Rattle.mls_ckpt.specs.Reading.{texts}
use Rattle.mls_ckpt.specs.CellParts.{cell_text}
use Rattle.mls_field.specs.ColumnSums.{sums_size}
use Rattle.mls_field.specs.Copied.{copied}
use Rattle.mls_field.specs.Kept.{sums_at}
use Rattle.mls_field.specs.Kinds.{SumsWithin}
use Rattle.mls_field.specs.PutBytes.{Grown}
use Rattle.mls_field.specs.Stands.{row_count}
use Rattle.mls_field.proofs.CopiedCells.{cell_grown}
use Rattle.mls_field.proofs.Texts.{below_put}
use Rattle.mls_field.proofs.Whole.{sums_whole}
use Rattle.mls_field.proofs.field.Field.put_copied.Goals as goal

pub loop-place-init : goal.loop-place-init
loop-place-init c = λ start grown. subst (λ (n : ℕ). Grown start c.args.out.now (texts cell_text (map (sums_at c.args.self.now c.args.step) (below n)))) (let e : c.args.from ≡ c.args.from + 0 = omega arith in e) grown

pub put_cell-size-requires-clause-range : goal.put_cell-size-requires-clause-range
put_cell-size-requires-clause-range c =
    let f = c.args.self.now in
    let place = c.loop-place.place in
    record {
      count = row_count f c.args.step;
      few = omega (arith, f.kept.few c.args.step);
      range = subst (λ (xs : List ℕ). SumsWithin f.shape.parameters (row_count f c.args.step) xs) (sym (c.requires.sums place (omega arith))) (sums_whole f c.args.step (c.args.from + place) c.requires.step_in (omega (arith, f.kept.block_width, c.requires.inside)));
    }

pub loop-place-preserved : goal.loop-place-preserved
loop-place-preserved c = λ start grown.
    let f = c.args.self.now in
    let step = c.args.step in
    let place = c.loop-place.place in
    let at = c.args.from + place in
    let old = c.loop-place.out in
    let new = c.extend_from_slice.new.self in
    subst (λ (n : ℕ). Grown start new (texts cell_text (map (sums_at f step) (below n)))) (let e : at + 1 ≡ c.args.from + (place + 1) = omega arith in e)
    (below_put cell_text (sums_at f step) at start old new (c.loop-place.invariant start grown)
    (cell_grown f step at old new (take c.put_cell-size.result c.put_cell-size.new.bytes) (copied (sums_size f.shape.parameters) c.args.sums.now place) (copied 2 c.args.ends.now place) (copied (length f.shape.thresholds) c.args.numbers.now place)
    (c.requires.sums place (omega arith)) (c.requires.ends place (omega arith)) (c.requires.numbers place (omega arith)) c.put_cell-size.ensures.text c.in_ok-extend_from_slice.ensures.ok))

pub returns : goal.returns
returns c = λ start grown.
    let all : c.loop-place.place ≡ c.args.count = omega arith in
    subst (λ (n : ℕ). Grown start c.loop-place.out (texts cell_text (map (sums_at c.args.self.now c.args.step) (below (c.args.from + n))))) all (c.loop-place.invariant start grown)
