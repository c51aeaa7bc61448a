use Rattle.std.proofs.Common.{◌++◌, sym, ◌∙◌, ap, append_assoc}
use Rattle.std.specs.Prelude.{codes}
use Rattle.mls_model.specs.ResultText.{fields_words}
use Rattle.mls_result.specs.Words.{study_start}
use Rattle.mls_result.proofs.Splits.{study_line-split}
use Rattle.mls_result.proofs.head.study_line.Goals as goal

pub returns : goal.returns
returns c =
    let study = c.args.study.now in
    let start = c.study_start-line.ensures.text ∙ ap study_start c.shape.ensures in
    c.text.ensures.bytes
    ∙ ap (λ l. l ++ codes "\n") (c.add_fields.ensures.text ∙ ap (λ l. l ++ fields_words study) start)
    ∙ append_assoc (study_start study.sizes) (fields_words study) (codes "\n")
    ∙ sym (study_line-split study)
