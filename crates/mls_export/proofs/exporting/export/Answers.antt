-- Rank after rank.
use Rattle.std.proofs.Common.{◌∙◌, arith}
use Rattle.mls_book.specs.Keepers.{keeper_seen}
use Rattle.mls_export.proofs.Steps.{exported_more, exported_none, exported_till, others_seen}
use Rattle.mls_export.proofs.exporting.export.Goals as goal

pub loop-rank-init : goal.loop-rank-init
loop-rank-init g c = (exported_none _ _ _, c.requires.keepers)

pub returns-in-Err-clause-exports : goal.returns-in-Err-clause-exports
returns-in-Err-clause-exports g c =
    exported_till (Unit {0}) (Unit {0}) _ _ _ _ _ _ _ _ _ c.in-Err.fault (omega (arith, c.loop-rank-test.true, c.ranks-rank-end.ensures.value)) c.loop-rank.invariant.0 c.in-Err.ensures.own (others_seen (keeper_seen g.K.Keeper) _ _ _ c.in-Err.ensures.others)

pub loop-rank-preserved : goal.loop-rank-preserved
loop-rank-preserved g c = (
  exported_more _ _ _ _ _ _ _ _ (omega (arith, c.loop-rank-test.true, c.ranks-rank-end.ensures.value, c.valid.ensures.ranks)) c.loop-rank.invariant.0 c.in-Ok.ensures.own (others_seen (keeper_seen g.K.Keeper) _ _ _ c.in-Ok.ensures.others),
  c.in-Ok.ensures.places ∙ c.loop-rank.invariant.1,
)
