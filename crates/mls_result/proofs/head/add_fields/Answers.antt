use Rattle.std.proofs.Common.{◌≡◌, ◌++◌, sym, ◌∙◌, ap}
use Rattle.std.proofs.lemmas.List.{append-nil}
use Rattle.mls_model.specs.Studies.{Sizes}
use Rattle.mls_model.specs.ResultText.{fields_words}
use Rattle.mls_result.specs.Words.{fields_said}
use Rattle.mls_result.proofs.Named.{said-some, said-none}
use Rattle.mls_result.proofs.head.add_fields.Goals as goal

pub returns-then-named-clause-text : goal.returns-then-named-clause-text
returns-then-named-clause-text c =
    let study = c.args.study.now in
    let number = c.fields.ensures.value ∙ ap (λ (s : Sizes). s.fields) c.shape.ensures in
    let same : fields_words study ≡ fields_said c.fields.result = said-some study.field_names study.sizes.fields (sym c.named.ensures ∙ c.if-named.true) ∙ ap fields_said (sym number) in
    c.add_fields_said.ensures.text ∙ ap (λ t. c.args.line.now ++ t) (sym same)

pub returns-else-named-clause-text : goal.returns-else-named-clause-text
returns-else-named-clause-text c =
    let study = c.args.study.now in
    sym (ap (λ t. c.args.line.now ++ t) (said-none study.field_names study.sizes.fields (sym c.named.ensures ∙ c.if-named.false)) ∙ append-nil c.args.line.now)
