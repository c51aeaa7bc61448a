use Rattle.std.proofs.Common.{◌∙◌}
use Rattle.mls_assembly.proofs.TakingKeys.{begins, piece_goes_on}
use Rattle.mls_assembly.proofs.key_pieces.KeyPieces.take.Goals as goal

pub loop-piece-init : goal.loop-piece-init
loop-piece-init c =
    (begins c.args.shape.now c.args.rank c.args.count c.in_ok-taken.taken _ (c.in_ok-taken.ensures.slots ∙ c.clients.ensures.value) c.in_ok-taken.ensures.none, c.in_ok-taken.ensures.life)

pub loop-piece-preserved : goal.loop-piece-preserved
loop-piece-preserved c = (
  piece_goes_on c.args.shape.now c.args.rank c.args.count c.loop-piece._piece c.loop-piece.least c.loop-piece.taken c.put.new.self (c.in_ok-client.client, c.in_ok-client.piece) _ _ _ c.loop-piece-test.true c.put.ensures.list c.in_ok-client.ensures.read c.in_ok-client.ensures.valid c.loop-piece.invariant.0,
  c.put.ensures.life ∙ c.loop-piece.invariant.1,
)
