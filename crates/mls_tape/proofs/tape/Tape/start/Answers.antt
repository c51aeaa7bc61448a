use Rattle.std.proofs.Common.{◌≡◌, ℕ, ◌+◌, ◌≤◌, List, length, drop, get_or, ap, subst, ◌∙◌, arith}
use Rattle.std.proofs.lemmas.List.{get_or_read}
use Rattle.mls_model.specs.Frames.{spelling, sight, whole}
use Rattle.mls_model.specs.Lanes.{Lane}
use Rattle.mls_tape.specs.declared.scanning.Entry.{Entry}
use Rattle.mls_tape.specs.Scans.{lanes_in, entries_of, AreAllStarts}
use Rattle.mls_tape.specs.Tapes.{TapeView}
use Rattle.mls_tape.proofs.Entries.{entries-length, in_lanes, starts_at, StartsAt, event_there, in_bytes}
use Rattle.mls_tape.proofs.tape.Tape.start.Goals as goal
use Rattle.mls_tape.proofs.tape.Tape.start.Goals.{After-index}

pub index-requires : goal.index-requires
index-requires c =
    let t = c.self.inside in
    let lanes : lanes_in t.ranks t.signed t.bytes.items ≡ c.args.self.now.lanes = ap (λ (v : TapeView). v.lanes) c.self.view_is in
    omega (arith, in_lanes c.args.self.now.lanes c.args.lane c.args.number c.requires, t.lanes.ok.0, ap (λ (es : List Entry). length es) c.self.invariant.0.table, entries-length 0 (lanes_in t.ranks t.signed t.bytes.items), ap (λ (ls : List Lane). length ls) lanes)

found : (c : After-index) → StartsAt c.args.self.now.lanes c.self.inside.starts.items c.self.inside.bytes.items c.args.lane c.args.number c.index.result.now
found c =
    let t = c.self.inside in
    let lanes : lanes_in t.ranks t.signed t.bytes.items ≡ c.args.self.now.lanes = ap (λ (v : TapeView). v.lanes) c.self.view_is in
    let table : t.lanes.items ≡ entries_of 0 c.args.self.now.lanes = c.self.invariant.0.table ∙ ap (λ (ls : List Lane). entries_of 0 ls) lanes in
    let begins = subst (λ (ls : List Lane). AreAllStarts t.starts.items t.bytes.items 0 ls) lanes c.self.invariant.0.begins in
    starts_at c.args.self.now.lanes t.starts.items t.bytes.items c.args.lane c.args.number c.index.result.now begins c.requires (c.index.ensures ∙ ap (λ (es : List Entry). get_or es c.args.lane c.index.result.now) table)

pub index-requires-2 : goal.index-requires-2
index-requires-2 c = omega (arith, (found (goal.at.index-requires-2 c).After-index).within, c.self.inside.starts.ok.0)

pub returns-clause-within : goal.returns-clause-within
returns-clause-within c =
    let t = c.self.inside in
    let s = found (goal.at.returns-clause-within c).After-index in
    let bytes : t.bytes.items ≡ c.args.self.now.bytes = ap (λ (v : TapeView). v.bytes) c.self.view_is in
    let read = get_or_read t.starts.items (c.index.result.now.first + c.args.number) c.index-2.result.now s.within c.index-2.ensures 0 in
    let e = event_there c.args.self.now.lanes c.args.lane c.args.number c.requires in
    let here = s.seen e.lane e.frame e.on e.at in
    rw read (subst (λ (bs : List ℕ). get_or t.starts.items (c.index.result.now.first + c.args.number) 0 ≤ length bs) bytes (in_bytes (get_or t.starts.items (c.index.result.now.first + c.args.number) 0) t.bytes.items e.frame (length (spelling e.frame)) here))

pub returns-clause-whole : goal.returns-clause-whole
returns-clause-whole c = λ l f on at.
    let t = c.self.inside in
    let s = found (goal.at.returns-clause-whole c).After-index in
    let bytes : t.bytes.items ≡ c.args.self.now.bytes = ap (λ (v : TapeView). v.bytes) c.self.view_is in
    let read = get_or_read t.starts.items (c.index.result.now.first + c.args.number) c.index-2.result.now s.within c.index-2.ensures 0 in
    rw read (subst (λ (bs : List ℕ). sight (drop (get_or t.starts.items (c.index.result.now.first + c.args.number) 0) bs) ≡ whole f (length (spelling f))) bytes (s.seen l f on at))
