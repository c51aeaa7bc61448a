use Rattle.mls_assembly.proofs.TakingKeys.{share_valid}
use Rattle.mls_assembly.proofs.recovering.take_share.Goals as goal

pub returns-clause-valid : goal.returns-clause-valid
returns-clause-valid c =
    share_valid c.args.shape.now c.args.rank c.args.least c.in_ok-client.field-0 c.clients.result c.parameters.result c.overlap-overlap.result c.in_ok-samples.samples.items c.from_samples.result _ _
    c.clients.ensures.value c.valid.ensures.some_clients c.in_ok-client.ensures.few c.if-client-least.false c.overlap-overlap.ensures.value c.if-overlap.false c.parameters.ensures.value c.in_ok-samples.ensures c.from_samples.ensures
