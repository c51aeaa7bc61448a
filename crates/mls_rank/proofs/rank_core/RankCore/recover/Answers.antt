use Rattle.std.proofs.Common.{arith}
use Rattle.mls_rank.proofs.SavedCores.{recovers_saved, few_counted}
use Rattle.mls_rank.proofs.rank_core.RankCore.recover.Goals as goal

pub returns-clause-few : goal.returns-clause-few
returns-clause-few g c = few_counted c.args.shape.now c.args.rank c.args.bytes.now c.read.result c.valid.ensures (λ i. omega (arith, c.type_inv.bytes i)) c.part_laws.ensures.takes c.read.ensures.read

pub returns-clause-again : goal.returns-clause-again
returns-clause-again g c =
    recovers_saved c.args.shape.now c.args.rank c.args.bytes.now c.read.result c.valid.ensures c.requires c.part_laws.ensures.read_again c.part_laws.ensures.agree
    c.read.ensures.sizes c.read.ensures.rank c.read.ensures.kept c.read.ensures.read c.read.ensures.fault
