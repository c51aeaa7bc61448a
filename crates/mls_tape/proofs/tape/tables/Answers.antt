use Rattle.std.proofs.Common.{◌≡◌, List, Ok, subst, arith}
use Rattle.std.proofs.lemmas.Result.{err_from_is_err_and}
use Rattle.mls_model.specs.Lanes.{with_events}
use Rattle.mls_tape.specs.declared.lane_stretch.LaneStretch.{LaneStretch}
use Rattle.mls_tape.specs.Reading.{Fails, all_lane_bytes}
use Rattle.mls_tape.specs.Scans.{lanes_made, entries_of, all_starts}
use Rattle.mls_tape.proofs.Tables.{tables_fit, table_fails, count_fails}
use Rattle.mls_tape.proofs.tape.tables.Goals as goal

pub returns-in_err-parts : goal.returns-in_err-parts
returns-in_err-parts c =
    let p = err_from_is_err_and c.from_residual.result c.from_residual.ensures.1 in
    rw (p.1, p.2) (table_fails c.args.ranks c.args.signed c.args.bytes.now c.in_err-parts.field-0.0 c.in_err-parts.ensures)

pub returns-in_err-entries : goal.returns-in_err-entries
returns-in_err-entries c =
    let p = err_from_is_err_and c.from_residual-in_err-entries.result c.from_residual-in_err-entries.ensures.1 in
    let failed = subst (λ (ps : List LaneStretch). Fails c.in_err-entries.field-0.0 (with_events 0 (all_lane_bytes ps))) c.as_slice.ensures.value c.in_err-entries.ensures in
    rw (p.1, p.2) (count_fails c.args.ranks c.args.signed c.args.bytes.now (all_lane_bytes c.in_ok-parts.parts.items) c.in_err-entries.field-0.0 c.in_ok-parts.ensures failed)

pub returns : goal.returns
returns c =
    let counts = subst (λ (ps : List LaneStretch). (with_events 0 (all_lane_bytes ps) ≡ Ok (lanes_made (all_lane_bytes ps))) × (c.in_ok-entries.entries.items ≡ entries_of 0 (lanes_made (all_lane_bytes ps)))) c.as_slice.ensures.value c.in_ok-entries.ensures in
    let starts = subst (λ (ps : List LaneStretch). c.in_ok-starts.starts.items ≡ all_starts (all_lane_bytes ps)) c.as_slice-2.ensures.value c.in_ok-starts.ensures in
    tables_fit c.args.ranks c.args.signed c.args.bytes.now (all_lane_bytes c.in_ok-parts.parts.items) c.in_ok-entries.entries.items c.in_ok-starts.starts.items (λ i. omega (arith, c.type_inv.bytes i)) c.in_ok-parts.ensures counts.0 counts.1 starts
