use Rattle.std.proofs.Common.{◌+◌, ◌<◌, arith}
use Rattle.mls_assembly.proofs.Lending.{cell_in_mesh, sample_in}
use Rattle.mls_assembly.proofs.pending_rows.PendingRowsRows.at.Goals as goal

pub overflow_add-cell : goal.overflow_add-cell
overflow_add-cell c =
    let r = c.args.self.now in
    let within : r.span.first + c.args.cell < r.shape.cells = cell_in_mesh r.shape r.rank c.args.cell r.span c.valid.ensures r.rank_in r.span_is c.requires.cell_in in
    omega (arith, within, c.valid.ensures.cells)

pub client_of-requires : goal.client_of-requires
client_of-requires c =
    let r = c.args.self.now in
    cell_in_mesh r.shape r.rank c.args.cell r.span c.valid.ensures r.rank_in r.span_is c.requires.cell_in

pub at-requires-clause-within : goal.at-requires-clause-within
at-requires-clause-within c =
    let r = c.args.self.now in
    (sample_in r.shape r.rank c.args.row c.args.cell c.client_of.result r.span r.pieces.now c.in-Some.piece.now c.valid.ensures r.rank_in r.span_is c.requires.cell_in c.requires.row_in r.kept c.client_of.ensures.value c.in-Some.ensures).within

pub at-requires-clause-from : goal.at-requires-clause-from
at-requires-clause-from c =
    let r = c.args.self.now in
    (sample_in r.shape r.rank c.args.row c.args.cell c.client_of.result r.span r.pieces.now c.in-Some.piece.now c.valid.ensures r.rank_in r.span_is c.requires.cell_in c.requires.row_in r.kept c.client_of.ensures.value c.in-Some.ensures).from
