use Rattle.std.proofs.Common.{◌≡◌, length, List, ap, arith}
use Rattle.mls_model.specs.Lanes.{Lane}
use Rattle.mls_tape.specs.declared.scanning.Entry.{Entry}
use Rattle.mls_tape.specs.Scans.{lanes_in}
use Rattle.mls_tape.specs.Tapes.{TapeView}
use Rattle.mls_tape.proofs.Entries.{entries-length}
use Rattle.mls_tape.proofs.tape.Tape.lane_count.Goals as goal

pub overflow_cast-result : goal.overflow_cast-result
overflow_cast-result c =
    let t = c.self.inside in
    omega (arith, c.len.ensures, t.lanes.ok.0, ap (λ (es : List Entry). length es) c.self.invariant.0.table, entries-length 0 (lanes_in t.ranks t.signed t.bytes.items), c.self.invariant.0.few)

pub returns : goal.returns
returns c =
    let t = c.self.inside in
    let lanes : lanes_in t.ranks t.signed t.bytes.items ≡ c.args.self.now.lanes = ap (λ (v : TapeView). v.lanes) c.self.view_is in
    omega (arith, c.len.ensures, t.lanes.ok.0, ap (λ (es : List Entry). length es) c.self.invariant.0.table, entries-length 0 (lanes_in t.ranks t.signed t.bytes.items), ap (λ (ls : List Lane). length ls) lanes)
