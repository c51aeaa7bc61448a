use Rattle.std.proofs.Common.{◌≡◌, List, length, get_or, ap, ◌∙◌, arith}
use Rattle.mls_model.specs.Lanes.{Lane}
use Rattle.mls_tape.specs.declared.scanning.Entry.{Entry}
use Rattle.mls_tape.specs.Scans.{lanes_in, entries_of}
use Rattle.mls_tape.specs.Tapes.{TapeView}
use Rattle.mls_tape.proofs.Entries.{entries-length, entry_found, is_entry}
use Rattle.mls_tape.proofs.tape.Tape.entry.Goals as goal

pub index-requires : goal.index-requires
index-requires c =
    let t = c.self.inside in
    let lanes : lanes_in t.ranks t.signed t.bytes.items ≡ c.args.self.now.lanes = ap (λ (v : TapeView). v.lanes) c.self.view_is in
    omega (arith, c.requires, t.lanes.ok.0, ap (λ (es : List Entry). length es) c.self.invariant.0.table, entries-length 0 (lanes_in t.ranks t.signed t.bytes.items), ap (λ (ls : List Lane). length ls) lanes)

pub returns : goal.returns
returns c = λ l there.
    let t = c.self.inside in
    let lanes : lanes_in t.ranks t.signed t.bytes.items ≡ c.args.self.now.lanes = ap (λ (v : TapeView). v.lanes) c.self.view_is in
    let table : t.lanes.items ≡ entries_of 0 c.args.self.now.lanes = c.self.invariant.0.table ∙ ap (λ (ls : List Lane). entries_of 0 ls) lanes in
    let found = entry_found 0 c.args.self.now.lanes c.args.lane l c.index.result.now there in
    is_entry found.0 c.index.result.now l (c.index.ensures ∙ ap (λ (es : List Entry). get_or es c.args.lane c.index.result.now) table ∙ found.1)
