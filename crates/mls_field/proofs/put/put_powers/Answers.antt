use Rattle.std.proofs.Common.{◌≡◌, ℕ, ◌+◌, ◌*◌, ◌^◌, ◌≤◌, ◌++◌, List, take, slice_index, ap, ◌∙◌, sym, arith}
use Rattle.std.proofs.lemmas.Grind.{common_steps}
use Rattle.std.specs.Int.{w64, w128}
use Rattle.mls_ckpt.specs.Reading.{text}
use Rattle.mls_field.specs.ColumnSums.{sums_size}
use Rattle.mls_field.specs.Copied.{copied}
use Rattle.mls_field.proofs.FourCopied.{entry}
use Rattle.mls_field.proofs.PutAt.{grown_to, four_put}
use Rattle.mls_field.proofs.put.put_powers.Goals as goal

-- a number of a column is that of its cell
in_cell : (size place : ℕ) (sums : List ℕ) (d j : ℕ) → d + 1 ≤ size → j ≡ d * 64 + place → slice_index sums j ≡ slice_index (copied size sums place) d
in_cell size place sums d j h e = ap (slice_index sums) e ∙ sym (entry size place sums d (omega (arith, h)))

pub overflow_add-sums : goal.overflow_add-sums
overflow_add-sums c =
    let size = sums_size c.args.parameters in
    let place = c.args.place in
    let sums = c.args.sums.now in
    let h = c.requires.range in
    let a = in_cell size place sums 0 place (omega arith) (omega arith) in
    let b = entry size place sums 1 (omega arith) in
    let bound : slice_index sums place + slice_index sums (64 + place) ≤ 131070 * 65535 = omega (arith, a, b, h.few, h.range.products.a.first, h.range.products.b.first) in
    grind (arith, common_steps, bound)

pub overflow_add-sums-2 : goal.overflow_add-sums-2
overflow_add-sums-2 c =
    let size = sums_size c.args.parameters in
    let place = c.args.place in
    let sums = c.args.sums.now in
    let h = c.requires.range in
    let a = entry size place sums 2 (omega arith) in
    let b = entry size place sums 3 (omega arith) in
    let bound : slice_index sums (128 + place) + slice_index sums (192 + place) ≤ 131070 * 65535 * 65535 = omega (arith, a, b, h.few, h.range.products.a.first, h.range.products.b.first, h.range.products.a.second, h.range.products.b.second) in
    grind (arith, common_steps, bound)

pub returns : goal.returns
returns c = λ rest.
    let p = c.args.parameters in
    let size = sums_size p in
    let place = c.args.place in
    let sums = c.args.sums.now in
    let at = c.args.at in
    let cell = copied size sums place in
    let s0 = in_cell size place sums 0 place (omega arith) (omega arith) in
    let s1 = in_cell size place sums 1 (64 + place) (omega arith) (omega arith) in
    let s2 = in_cell size place sums 2 (128 + place) (omega arith) (omega arith) in
    let s3 = in_cell size place sums 3 (192 + place) (omega arith) (omega arith) in
    let at_powers = 4 + 4 * p in
    let s4 = in_cell size place sums at_powers (at_powers * 64 + place) (omega arith) (omega arith) in
    let s5 = in_cell size place sums (at_powers + 1) ((at_powers + 1) * 64 + place) (omega arith) (omega arith) in
    let s6 = in_cell size place sums (at_powers + 2) ((at_powers + 2) * 64 + place) (omega arith) (omega arith) in
    let s7 = in_cell size place sums (at_powers + 3) ((at_powers + 3) * 64 + place) (omega arith) (omega arith) in
    let b0 = c.args.bytes.now in
    let b1 = c.put_u64.new.bytes in
    let b2 = c.put_u64-2.new.bytes in
    let b3 = c.put_u128.new.bytes in
    let b4 = c.put_u128-2.new.bytes in
    let p1 = slice_index sums place + slice_index sums (64 + place) in
    let p2 = slice_index sums (128 + place) + slice_index sums (192 + place) in
    let p3 = slice_index sums (at_powers * 64 + place) + slice_index sums ((at_powers + 1) * 64 + place) in
    let p4 = slice_index sums ((at_powers + 2) * 64 + place) + 2 ^ 32 * slice_index sums ((at_powers + 3) * 64 + place) in
    four_put (take at b0) (take (at + 8) b1) (take (at + 16) b2) (take (at + 32) b3) (take (at + 48) b4) (text w64 p1) (text w64 p2) (text w128 p3) (text w128 p4)
    c.put_u64.ensures
    (grown_to (take (at + 8) b1) b2 (text w64 p2) (at + 8 + 8) (at + 16) (omega arith) c.put_u64-2.ensures)
    (grown_to (take (at + 16) b2) b3 (text w128 p3) (at + 16 + 16) (at + 32) (omega arith) c.put_u128.ensures)
    (grown_to (take (at + 32) b3) b4 (text w128 p4) (at + 32 + 16) (at + 48) (omega arith) c.put_u128-2.ensures) rest ∙
    (λ i. take at b0 ++ text w64 (s0 i + s1 i) (text w64 (s2 i + s3 i) (text w128 (s4 i + s5 i) (text w128 (s6 i + 2 ^ 32 * s7 i) rest))))
