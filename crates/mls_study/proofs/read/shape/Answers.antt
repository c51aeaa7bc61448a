use Rattle.std.proofs.Common.{◌≡◌, length, ap, ◌∙◌}
use Rattle.mls_base.specs.Shapes.{padded}
use Rattle.mls_study.specs.Choices.{Choices, chosen}
use Rattle.mls_study.specs.StudyFile.{sizes_with}
use Rattle.mls_study.proofs.Wholes.{numbers_with, numbers_are, same_sizes, taken}
use Rattle.mls_study.proofs.read.shape.Goals as goal

pub unwrap-requires : goal.unwrap-requires
unwrap-requires c =
    let o : Choices = chosen c.args.choices.now in
    let len : length c.deref-thresholds.result.now ≡ length o.thresholds = ap length c.deref-thresholds.ensures.value in
    let kept : c.eight.result ≡ padded o.thresholds = c.eight.ensures ∙ ap padded c.deref-thresholds.ensures.value in
    let same = same_sizes c.args.counts o c.args.launch c.args.parameters (length c.deref-thresholds.result.now) c.eight.result c.field_number.result (taken o.thresholds (length c.deref-thresholds.result.now) c.eight.result c.requires.choices.thresholds.few len kept) c.field_number.ensures.value in
    c.of.ensures.valid.1 (numbers_are (numbers_with c.args.counts o c.args.launch c.args.parameters (length c.deref-thresholds.result.now) c.eight.result c.field_number.result) o.thresholds (sizes_with c.args.counts o c.args.launch c.args.parameters) c.requires.choices.thresholds.few len kept same c.requires.sizes)

pub returns : goal.returns
returns c =
    let o : Choices = chosen c.args.choices.now in
    let len : length c.deref-thresholds.result.now ≡ length o.thresholds = ap length c.deref-thresholds.ensures.value in
    let kept : c.eight.result ≡ padded o.thresholds = c.eight.ensures ∙ ap padded c.deref-thresholds.ensures.value in
    let same = same_sizes c.args.counts o c.args.launch c.args.parameters (length c.deref-thresholds.result.now) c.eight.result c.field_number.result (taken o.thresholds (length c.deref-thresholds.result.now) c.eight.result c.requires.choices.thresholds.few len kept) c.field_number.ensures.value in
    rw c.unwrap.ensures at c.of.ensures.value ∙ same
