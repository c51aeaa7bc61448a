use Rattle.std.proofs.Common.{position, ◌∙◌, ap, bytes_eq}
use Rattle.mls_model.specs.Studies.{Study, Parameter}
use Rattle.mls_study.proofs.Placing.{none_passes}
use Rattle.mls_study.proofs.study.Study.place.Goals as goal

found : goal.returns-clause-place
found c =
    c.copied.ensures ∙ c.get.ensures.value ∙ c.self.invariant.places c.args.name.now
    ∙ ap (λ (s : Study). position (λ (p : Parameter). bytes_eq c.args.name.now p.name) s.parameters) c.self.view_is

pub returns-clause-place : goal.returns-clause-place
returns-clause-place c = found c

pub returns-clause-absent : goal.returns-clause-absent
returns-clause-absent c = none_passes (λ (p : Parameter). bytes_eq c.args.name.now p.name) c.args.self.now.parameters c.copied.result (found c)
