use Rattle.std.proofs.Common.{◌≡◌, ℕ, ◌<◌, ◌≤◌, List, length, drop, IfSome, ap, subst, ◌∙◌, arith}
use Rattle.std.specs.List.{AllByRecursion}
use Rattle.std.proofs.lemmas.List.{length-map}
use Rattle.mls_model.specs.Lanes.{Lane}
use Rattle.mls_model.specs.Studies.{Sizes}
use Rattle.mls_book.specs.Keepers.{keeper_seen, keepers_seen}
use Rattle.mls_pool.specs.Pools.{TapeBook, AreClean, IsReported}
use Rattle.mls_pool.proofs.Pooling.{books_of}
use Rattle.mls_pool.proofs.pool.run_named.Goals as goal

pub returns-clause-pool : goal.returns-clause-pool
returns-clause-pool g c =
    let s = c.args.study.now.sizes in
    let tape = c.args.tape.now.lanes in
    let books = c.unseat.new.books.items in
    let keepers = c.args.keepers.items in
    let ranks : c.shape-shape.result.ranks ≡ s.ranks = ap (λ (z : Sizes). z.ranks) c.shape-shape.ensures in
    let unseated = c.unseat.ensures.count in
    let cells = c.as_slice-2.ensures.len in
    let seated = c.seat.ensures in
    let empty = c.in-Ok-room_for_cells.ensures.len in
    let fresh = c.in-Ok-begin.ensures.count in
    let count : length books ≡ s.ranks = omega (arith, unseated, cells, seated, empty, fresh, ranks) in
    let seen : length (keepers_seen g.K.Keeper keepers) ≡ length keepers = length-map keepers (keeper_seen g.K.Keeper) in
    let all = c.requires.keepers in
    let own = c.args.keepers.ok.0 in
    let few = c.valid.ensures.sizes.ranks in
    let enough : s.ranks ≤ length (keepers_seen g.K.Keeper keepers) = omega (arith, seen, all, own, few) in
    let same : c.as_slice-4.result.now ≡ books = c.as_slice-4.ensures.value in
    record {
      within = subst (λ (n : ℕ). AllByRecursion (λ (lane : Lane). lane.rank < n) tape) c.requires.ranks c.valid-2.ensures.ranks;
      are = books_of {U = g.K.Keeper} {N = g.N.Run} tape s (keepers_seen g.K.Keeper keepers) books c.requires.names c.unseat.ensures.seated count enough;
      left = c.in-Ok-begin.ensures.left ∙ ap (λ (n : ℕ). drop n keepers) ranks;
      reported = subst (λ (bs : List (TapeBook g.row.K.Denot)). IfSome c.reported-fault.result (IsReported bs)) same c.reported-fault.ensures.reported;
      clean = λ e. subst (λ (bs : List (TapeBook g.row.K.Denot)). AreClean bs) same (c.reported-fault.ensures.clean e);
    }
