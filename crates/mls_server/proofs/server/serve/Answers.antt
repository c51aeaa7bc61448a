use Rattle.std.proofs.Common.{refl}
use Rattle.mls_server.proofs.Ending.{sure_is, is_sure_where}
use Rattle.mls_server.proofs.server.serve.Goals as goal

pub serve_named-requires-clause-door : goal.serve_named-requires-clause-door
serve_named-requires-clause-door g c =
    let accepts = g.D.Door.accepts c.args.door in
    let awaited = g.D.Door.awaited c.args.door in
    λ _ _. record {
      count = refl;
      accepted = refl;
      faulted = refl;
      lanes = refl;
      awaits = λ sure. (sure_is accepts awaited c.args.lanes sure).awaits;
      countable = λ sure. (sure_is accepts awaited c.args.lanes sure).countable;
    }

pub serve_named-requires-clause-sure : goal.serve_named-requires-clause-sure
serve_named-requires-clause-sure g c = λ _ _. is_sure_where (g.D.Door.accepts c.args.door) (g.D.Door.awaited c.args.door) c.args.lanes
