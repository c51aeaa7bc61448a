use Rattle.std.proofs.Common.{ap, sym, arith}
use Rattle.mls_assembly.specs.Held.{Held, key_at}
use Rattle.mls_assembly.proofs.pending.Pending.has_piece.Goals as goal

pub piece-requires : goal.piece-requires
piece-requires c =
    let kept = c.self.invariant.each (key_at c.args.key) c.in-Some.pieces.now (sym c.in-Some.ensures.value) in
    omega (arith, kept.shares.slots, ap (λ (h : Held). h.sizes.clients) c.self.view_is, c.requires)
