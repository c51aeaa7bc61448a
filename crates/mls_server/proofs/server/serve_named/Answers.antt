use Rattle.std.proofs.Common.{◌≡◌, ◌+◌, ◌≤◌, List, length, drop, sym, ap, subst, ◌∙◌, arith}
use Rattle.std.proofs.lemmas.List.{length-drop}
use Rattle.mls_model.specs.Studies.{Sizes}
use Rattle.mls_book.specs.Keepers.{keepers_seen}
use Rattle.mls_desk.specs.Ends.{EndsBooks}
use Rattle.mls_server.specs.Ends.{AreSince, HasFailed}
use Rattle.mls_server.proofs.Ending.{door_failed, all_accepted, all_same, desk_since, seen_length, fault_says}
use Rattle.mls_server.proofs.server.serve_named.Goals as goal

pub returns-in-Err-clause-since : goal.returns-in-Err-clause-since
returns-in-Err-clause-since g c =
    let s = c.args.study.now.sizes in
    let keepers = c.args.keepers.items in
    let seen = seen_length g.K.Keeper keepers in
    let all = c.requires.keepers in
    let own = c.args.keepers.ok.0 in
    let few = c.valid.ensures.sizes.ranks in
    let enough : s.ranks ≤ length (keepers_seen g.K.Keeper keepers) = omega (arith, seen, all, own, few) in
    subst (λ (back : List g.row.K.Denot). AreSince s.ranks (keepers_seen g.K.Keeper keepers) (keepers_seen g.K.Keeper back)) (sym c.unstarted.ensures.items) (all_same s.ranks (keepers_seen g.K.Keeper keepers) enough)

pub returns-in-Err-begin_desk-clause-since : goal.returns-in-Err-begin_desk-clause-since
returns-in-Err-begin_desk-clause-since g c =
    let s = c.args.study.now.sizes in
    let keepers = c.args.keepers.items in
    let seen = seen_length g.K.Keeper keepers in
    let all = c.requires.keepers in
    let own = c.args.keepers.ok.0 in
    let few = c.valid.ensures.sizes.ranks in
    let enough : s.ranks ≤ length (keepers_seen g.K.Keeper keepers) = omega (arith, seen, all, own, few) in
    subst (λ (back : List g.row.K.Denot). AreSince s.ranks (keepers_seen g.K.Keeper keepers) (keepers_seen g.K.Keeper back)) (sym (c.unstarted-in-Err-begin_desk.ensures.items ∙ c.in-Err-begin_desk.ensures.unstarted)) (all_same s.ranks (keepers_seen g.K.Keeper keepers) enough)

pub end_desk-cores-requires-clause-keepers : goal.end_desk-cores-requires-clause-keepers
end_desk-cores-requires-clause-keepers g c =
    let ranks : c.in-Ok-begin_desk.begun.desk.sizes.ranks ≡ c.shape-shape.result.ranks = ap (λ (z : Sizes). z.ranks) c.in-Ok-begin_desk.ensures.sizes in
    let count = c.serve_all-door.ensures.count in
    let books = c.serve_all-door.new.books.ok.0 in
    let left : length c.in-Ok-begin_desk.begun.spare.items ≡ length (drop c.shape-shape.result.ranks c.args.keepers.items) = ap (λ (ks : List g.row.K.Denot). length ks) c.in-Ok-begin_desk.ensures.left in
    let dropped = length-drop c.shape-shape.result.ranks c.args.keepers.items in
    let spare = c.in-Ok-begin_desk.begun.spare.ok.0 in
    let room = c.in-Ok-begin_desk.ensures.room in
    let all = c.requires.keepers in
    let own = c.args.keepers.ok.0 in
    let shape : c.shape-shape.result.ranks ≡ c.args.study.now.sizes.ranks = ap (λ (z : Sizes). z.ranks) c.shape-shape.ensures in
    let few = c.valid.ensures.sizes.ranks in
    omega (arith, ranks, count, books, left, dropped, spare, room, all, own, shape, few)

pub returns-clause-cores : goal.returns-clause-cores
returns-clause-cores g c =
    let s = c.args.study.now.sizes in
    let keepers = c.args.keepers.items in
    let shape : c.shape-shape.result.ranks ≡ s.ranks = ap (λ (z : Sizes). z.ranks) c.shape-shape.ensures in
    let ranks : c.in-Ok-begin_desk.begun.desk.sizes.ranks ≡ c.shape-shape.result.ranks = ap (λ (z : Sizes). z.ranks) c.in-Ok-begin_desk.ensures.sizes in
    let all = c.requires.keepers in
    let own = c.args.keepers.ok.0 in
    let few = c.valid.ensures.sizes.ranks in
    let enough : s.ranks ≤ length keepers = omega (arith, all, own, few) in
    let taken = c.serve_all-door.ensures.count in
    let count : length c.serve_all-door.new.books.items ≡ s.ranks = omega (arith, shape, ranks, taken) in
    let ended : EndsBooks g.K.Keeper s c.serve_all-door.new.books.items c.end_desk-cores.result.cores.items keepers c.end_desk-cores.result.keepers.items =
    c.end_desk-cores.ensures (s.ranks + c.args.connections) s keepers c.requires.desk enough count (c.in-Ok-begin_desk.ensures.left ∙ ap (λ n. drop n keepers) shape) in
    λ none. ended.ends.are_cores

pub returns-clause-last : goal.returns-clause-last
returns-clause-last g c =
    let s = c.args.study.now.sizes in
    let keepers = c.args.keepers.items in
    let shape : c.shape-shape.result.ranks ≡ s.ranks = ap (λ (z : Sizes). z.ranks) c.shape-shape.ensures in
    let ranks : c.in-Ok-begin_desk.begun.desk.sizes.ranks ≡ c.shape-shape.result.ranks = ap (λ (z : Sizes). z.ranks) c.in-Ok-begin_desk.ensures.sizes in
    let all = c.requires.keepers in
    let own = c.args.keepers.ok.0 in
    let few = c.valid.ensures.sizes.ranks in
    let enough : s.ranks ≤ length keepers = omega (arith, all, own, few) in
    let taken = c.serve_all-door.ensures.count in
    let count : length c.serve_all-door.new.books.items ≡ s.ranks = omega (arith, shape, ranks, taken) in
    let ended : EndsBooks g.K.Keeper s c.serve_all-door.new.books.items c.end_desk-cores.result.cores.items keepers c.end_desk-cores.result.keepers.items =
    c.end_desk-cores.ensures (s.ranks + c.args.connections) s keepers c.requires.desk enough count (c.in-Ok-begin_desk.ensures.left ∙ ap (λ n. drop n keepers) shape) in
    λ none. ended.last (c.serve_all-door.ensures.saved none)

pub returns-clause-accepts : goal.returns-clause-accepts
returns-clause-accepts g c = λ none.
    ap g.D.Door.accepts c.into_door.ensures
    ∙ all_accepted g.N.Server.enough g.D.Door.accepts g.D.Door.faults g.D.Door.awaited c.args.door c.args.connections c.serve_all-door.result.0 c.requires.door c.valid-2.ensures (c.serve_all-door.ensures.whole none)

pub returns-clause-places : goal.returns-clause-places
returns-clause-places g c =
    let s = c.args.study.now.sizes in
    let keepers = c.args.keepers.items in
    let shape : c.shape-shape.result.ranks ≡ s.ranks = ap (λ (z : Sizes). z.ranks) c.shape-shape.ensures in
    let ranks : c.in-Ok-begin_desk.begun.desk.sizes.ranks ≡ c.shape-shape.result.ranks = ap (λ (z : Sizes). z.ranks) c.in-Ok-begin_desk.ensures.sizes in
    let all = c.requires.keepers in
    let own = c.args.keepers.ok.0 in
    let few = c.valid.ensures.sizes.ranks in
    let enough : s.ranks ≤ length keepers = omega (arith, all, own, few) in
    let taken = c.serve_all-door.ensures.count in
    let count : length c.serve_all-door.new.books.items ≡ s.ranks = omega (arith, shape, ranks, taken) in
    let ended : EndsBooks g.K.Keeper s c.serve_all-door.new.books.items c.end_desk-cores.result.cores.items keepers c.end_desk-cores.result.keepers.items =
    c.end_desk-cores.ensures (s.ranks + c.args.connections) s keepers c.requires.desk enough count (c.in-Ok-begin_desk.ensures.left ∙ ap (λ n. drop n keepers) shape) in
    let same = ended.ends.count in
    let first = seen_length g.K.Keeper keepers in
    let last = seen_length g.K.Keeper c.end_desk-cores.result.keepers.items in
    let back = c.end_desk-cores.result.keepers.ok.0 in
    omega (arith, same, first, last, back, all, own)

pub returns-clause-since : goal.returns-clause-since
returns-clause-since g c =
    let s = c.args.study.now.sizes in
    let keepers = c.args.keepers.items in
    let shape : c.shape-shape.result.ranks ≡ s.ranks = ap (λ (z : Sizes). z.ranks) c.shape-shape.ensures in
    let ranks : c.in-Ok-begin_desk.begun.desk.sizes.ranks ≡ c.shape-shape.result.ranks = ap (λ (z : Sizes). z.ranks) c.in-Ok-begin_desk.ensures.sizes in
    let all = c.requires.keepers in
    let own = c.args.keepers.ok.0 in
    let few = c.valid.ensures.sizes.ranks in
    let enough : s.ranks ≤ length keepers = omega (arith, all, own, few) in
    let taken = c.serve_all-door.ensures.count in
    let count : length c.serve_all-door.new.books.items ≡ s.ranks = omega (arith, shape, ranks, taken) in
    let ended : EndsBooks g.K.Keeper s c.serve_all-door.new.books.items c.end_desk-cores.result.cores.items keepers c.end_desk-cores.result.keepers.items =
    c.end_desk-cores.ensures (s.ranks + c.args.connections) s keepers c.requires.desk enough count (c.in-Ok-begin_desk.ensures.left ∙ ap (λ n. drop n keepers) shape) in
    desk_since s c.end_desk-cores.result.cores.items (keepers_seen g.K.Keeper keepers) (keepers_seen g.K.Keeper c.end_desk-cores.result.keepers.items) ended.ends

pub returns-clause-fault : goal.returns-clause-fault
returns-clause-fault g c =
    let s = c.args.study.now.sizes in
    let keepers = c.args.keepers.items in
    let shape : c.shape-shape.result.ranks ≡ s.ranks = ap (λ (z : Sizes). z.ranks) c.shape-shape.ensures in
    let ranks : c.in-Ok-begin_desk.begun.desk.sizes.ranks ≡ c.shape-shape.result.ranks = ap (λ (z : Sizes). z.ranks) c.in-Ok-begin_desk.ensures.sizes in
    let all = c.requires.keepers in
    let own = c.args.keepers.ok.0 in
    let few = c.valid.ensures.sizes.ranks in
    let enough : s.ranks ≤ length keepers = omega (arith, all, own, few) in
    let taken = c.serve_all-door.ensures.count in
    let count : length c.serve_all-door.new.books.items ≡ s.ranks = omega (arith, shape, ranks, taken) in
    let ended : EndsBooks g.K.Keeper s c.serve_all-door.new.books.items c.end_desk-cores.result.cores.items keepers c.end_desk-cores.result.keepers.items =
    c.end_desk-cores.ensures (s.ranks + c.args.connections) s keepers c.requires.desk enough count (c.in-Ok-begin_desk.ensures.left ∙ ap (λ n. drop n keepers) shape) in
    let door = c.serve_all-door.result.0 in
    fault_says {U = g.K.Keeper} g.D.Door.accepts g.D.Door.faults g.D.Door.awaited c.args.connections c.args.door c.into_door.result s c.serve_all-door.new.books.items c.end_desk-cores.result.cores.items keepers c.end_desk-cores.result.keepers.items
    door.failed c.serve_all-door.result.1 c.serve_all-door.ensures.shown ended
    (λ failed. subst (λ (d : g.row.D.Denot). HasFailed g.D.Door.accepts g.D.Door.faults g.D.Door.awaited c.args.connections c.args.door d) (sym c.into_door.ensures)
    (door_failed g.N.Server.enough g.D.Door.accepts g.D.Door.faults g.D.Door.awaited c.args.door c.args.connections door c.requires.door c.valid-2.ensures c.requires.sure failed))
