use Rattle.std.proofs.Common.{◌+◌, ◌*◌, ◌<◌, length, get_or, refl, arith}
use Rattle.mls_field.proofs.Grid.{plane_before}
use Rattle.mls_field.proofs.StoredPlaces.{stored_more}
use Rattle.mls_field.proofs.stored.put_numbers.Goals as goal

pub loop-c-preserved : goal.loop-c-preserved
loop-c-preserved c =
    let k = c.loop-c.c in
    let row = c.args.row in
    let a = plane_before (row + k) (row + c.args.size) c.args.places (omega arith) in
    let fits : (row + k) * c.args.places + c.args.place < length c.loop-c.numbers = omega (arith, a, c.requires.columns, c.requires.place) in
    stored_more row k c.args.places c.args.place (get_or c.args.cell.now k 0) c.args.numbers.now c.loop-c.numbers c.args.cell.now fits c.requires.place refl c.loop-c.invariant
