use Rattle.std.proofs.Common.{◌≡◌, ◌<◌, ap, arith}
use Rattle.std.proofs.lemmas.Grind.{common_steps}
use Rattle.mls_ledger.specs.MarkSets.{MarkSet}
use Rattle.mls_ledger.proofs.AfterCalls.{IsReady, set_keeps, set_marks, set_counts, set_room, set_fits}
use Rattle.mls_ledger.proofs.marks.Marks.set.Goals as goal

pub overflow_add-index_mut : goal.overflow_add-index_mut
overflow_add-index_mut c =
    let m : MarkSet = record { groups = c.self.inside.groups; planes = c.self.inside.planes; bytes = c.self.inside.bytes.items } in
    let r : IsReady m c.args.self.now c.self.inside.counts.items c.args.group c.args.step c.place-place.result c.index_mut.result.now c.index_mut-2.result.now
    = record { seen = c.self.view_is; kept = c.self.invariant; group_in = c.requires.group_in; plane_in = c.requires.plane_in; absent = c.requires.absent; at = c.place-place.ensures.value; byte_is = c.index_mut.ensures.value; count_is = c.index_mut-2.ensures.value } in
    let same : c.self.inside.groups ≡ c.args.self.now.groups = ap (λ (w : MarkSet). w.groups) c.self.view_is in
    let less : c.index_mut-2.result.now < c.args.self.now.groups = set_fits m c.args.self.now c.self.inside.counts.items c.args.group c.args.step c.place-place.result c.index_mut.result.now c.index_mut-2.result.now r in
    grind (arith, common_steps)

pub invariant_of-self : goal.invariant_of-self
invariant_of-self c =
    let m : MarkSet = record { groups = c.self.inside.groups; planes = c.self.inside.planes; bytes = c.self.inside.bytes.items } in
    set_keeps m c.args.self.now c.self.inside.counts.items c.args.group c.args.step c.place-place.result c.index_mut.result.now c.index_mut-2.result.now
    (record { seen = c.self.view_is; kept = c.self.invariant; group_in = c.requires.group_in; plane_in = c.requires.plane_in; absent = c.requires.absent; at = c.place-place.ensures.value; byte_is = c.index_mut.ensures.value; count_is = c.index_mut-2.ensures.value })

pub returns-clause-marked : goal.returns-clause-marked
returns-clause-marked c =
    let m : MarkSet = record { groups = c.self.inside.groups; planes = c.self.inside.planes; bytes = c.self.inside.bytes.items } in
    set_marks m c.args.self.now c.self.inside.counts.items c.args.group c.args.step c.place-place.result c.index_mut.result.now c.index_mut-2.result.now
    (record { seen = c.self.view_is; kept = c.self.invariant; group_in = c.requires.group_in; plane_in = c.requires.plane_in; absent = c.requires.absent; at = c.place-place.ensures.value; byte_is = c.index_mut.ensures.value; count_is = c.index_mut-2.ensures.value })

pub returns-clause-counted : goal.returns-clause-counted
returns-clause-counted c =
    let m : MarkSet = record { groups = c.self.inside.groups; planes = c.self.inside.planes; bytes = c.self.inside.bytes.items } in
    set_counts m c.args.self.now c.self.inside.counts.items c.args.group c.args.step c.place-place.result c.index_mut.result.now c.index_mut-2.result.now
    (record { seen = c.self.view_is; kept = c.self.invariant; group_in = c.requires.group_in; plane_in = c.requires.plane_in; absent = c.requires.absent; at = c.place-place.ensures.value; byte_is = c.index_mut.ensures.value; count_is = c.index_mut-2.ensures.value })

pub returns-clause-room : goal.returns-clause-room
returns-clause-room c =
    let m : MarkSet = record { groups = c.self.inside.groups; planes = c.self.inside.planes; bytes = c.self.inside.bytes.items } in
    set_room m c.args.self.now c.self.inside.counts.items c.args.group c.args.step c.place-place.result c.index_mut.result.now c.index_mut-2.result.now
    (record { seen = c.self.view_is; kept = c.self.invariant; group_in = c.requires.group_in; plane_in = c.requires.plane_in; absent = c.requires.absent; at = c.place-place.ensures.value; byte_is = c.index_mut.ensures.value; count_is = c.index_mut-2.ensures.value })
