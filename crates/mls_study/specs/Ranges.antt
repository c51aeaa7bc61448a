-- The ranges that the parts of a study file are in once they are read.
use Rattle.std.specs.Prelude.{◌<◌, ◌^◌, IfSome, IsTrue}
use Rattle.mls_base.specs.Ranges as base
use Rattle.mls_study.specs.declared.keys.Counts.{Counts}
use Rattle.mls_study.specs.declared.keys.Launch.{Launch}
use Rattle.mls_study.specs.Choices.{Choices}
use Rattle.mls_study.specs.StudyFile.{are_field_names, are_statistics}

abbrev pub AreCounts : Counts → Type 0
AreCounts c = base.AreCounts c.cells c.steps c.groups c.ranks c.clients

pub record AreChoices (c : Choices) : Type 0 where
  pub seed : c.seed < 2 ^ 63
  pub named : IfSome c.field_names (λ names. IsTrue (are_field_names names))
  pub statistics : IsTrue (are_statistics c.statistics)
  pub thresholds : base.AreThresholds c.thresholds

abbrev pub AreLaunch : Launch → Type 0
AreLaunch l = base.AreLaunched l.slots l.silence l.lives
