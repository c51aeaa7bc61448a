use Rattle.std.proofs.Common.{◌≡◌, ◌≤◌, ℕ, List, length, sym, subst, ap, ◌∙◌, arith}
use Rattle.std.proofs.lemmas.List.{length-map}
use Rattle.mls_model.specs.Studies.{Sizes, AreSizes, Study, IsStudy}
use Rattle.mls_study.specs.Choices.{Choices, chosen}
use Rattle.mls_study.specs.Parameters.{seen, all_seen}
use Rattle.mls_study.specs.StudyFile.{sizes_with}
use Rattle.mls_study.specs.declared.parameter.Parameter.{Parameter as Kept}
use Rattle.mls_study.proofs.Wholes.{sizes_are, study_is, too_many_marks}
use Rattle.mls_study.proofs.read.study.Goals as goal

pub returns-then-counts-planes-gt-MOST_MARKS : goal.returns-then-counts-planes-gt-MOST_MARKS
returns-then-counts-planes-gt-MOST_MARKS c =
    too_many_marks c.args.counts (chosen c.args.choices) c.args.launch (all_seen c.args.parameters.items) c.field_number.result c.field_number.ensures.value (omega arith) (omega arith)

pub invariant_of-result : goal.invariant_of-result
invariant_of-result c =
    let o : Choices = chosen c.args.choices in
    let ps : List Kept = c.args.parameters.items in
    let len : c.len.result ≡ length (all_seen ps) = omega (arith, c.len.ensures, c.args.parameters.ok.0, length-map ps seen) in
    let some : 1 ≤ length (all_seen ps) = omega (arith, length-map ps seen, c.requires.some) in
    let few : length (all_seen ps) ≤ 16 = omega (arith, length-map ps seen, c.requires.few) in
    let sizes : AreSizes (sizes_with c.args.counts o c.args.launch (length (all_seen ps))) =
    sizes_are c.args.counts o c.args.launch (length (all_seen ps)) c.field_number.result c.requires.counts c.requires.choices c.requires.launch some few c.field_number.ensures.value c.field_number.ensures.some c.field_number.ensures.few c.if-counts-planes.false c.if-counts-planes-gt-MOST_MARKS.false in
    let shape : c.shape-shape.result ≡ sizes_with c.args.counts o c.args.launch (length (all_seen ps)) = c.shape-shape.ensures ∙ ap (λ (n : ℕ). sizes_with c.args.counts o c.args.launch n) len in
    let with_sizes : Sizes → Study = λ s. record { sizes = s; seed = o.seed; field_names = o.field_names; statistics = o.statistics; parameters = all_seen ps } in
    record {
      study = subst (λ (s : Sizes). IsStudy (with_sizes s)) (sym shape) (study_is c.args.counts o c.args.launch ps sizes c.requires.choices c.requires.distinct);
      places = c.requires.placed;
    }
