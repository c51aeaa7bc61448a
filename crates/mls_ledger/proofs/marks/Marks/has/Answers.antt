use Rattle.mls_ledger.specs.MarkSets.{MarkSet}
use Rattle.mls_ledger.proofs.AfterCalls.{seen_mark, none_past_groups, none_past_planes}
use Rattle.mls_ledger.proofs.marks.Marks.has.Goals as goal
use Rattle.mls_ledger.proofs.marks.Marks.has.Goals.{then-group-self-via-then-group-self, then-group-self-via-else-group-self+then-step-self}

pub returns-then-group-self : goal.returns-then-group-self
returns-then-group-self c =
    let m : MarkSet = record { groups = c.self.inside.groups; planes = c.self.inside.planes; bytes = c.self.inside.bytes.items } in
    elim c.then-group-self.branch [
      | then-group-self-via-then-group-self w ↦ none_past_groups m c.args.self.now c.args.group c.args.step c.self.view_is w.if-group-self.true
      | then-group-self-via-else-group-self+then-step-self w ↦ none_past_planes m c.args.self.now c.args.group c.args.step c.self.view_is w.if-step-self.true
    ]

pub returns : goal.returns
returns c =
    let m : MarkSet = record { groups = c.self.inside.groups; planes = c.self.inside.planes; bytes = c.self.inside.bytes.items } in
    seen_mark m c.args.self.now c.args.group c.args.step c.place.result c.index-byte.result.now c.self.view_is c.if-group-self.false c.if-step-self.false c.place.ensures.value c.index-byte.ensures c.place.ensures.within
