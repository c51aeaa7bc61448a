use Rattle.std.proofs.Common.{ap, sym, ◌∙◌}
use Rattle.mls_assembly.specs.Held.{Held, key_at, share_at}
use Rattle.mls_assembly.proofs.Wholes.{one_missing}
use Rattle.mls_assembly.proofs.pending.Pending.is_whole.Goals as goal

pub returns-then-not-has_piece : goal.returns-then-not-has_piece
returns-then-not-has_piece c =
    one_missing c.args.self.now.sizes c.self.inside.shape c.args.self.now.rank c.self.inside.rank (share_at c.args.self.now (key_at c.args.key)) c.loop-client.client c.overlap-overlap.result
    (ap (λ (h : Held). h.sizes) c.self.view_is) (ap (λ (h : Held). h.rank) c.self.view_is) c.clients-client-end.result c.clients-client-end.ensures.value c.loop-client-test.true c.overlap-overlap.ensures.value c.if-overlap.true
    (sym c.has_piece.ensures ∙ c.if-not-has_piece.true)
