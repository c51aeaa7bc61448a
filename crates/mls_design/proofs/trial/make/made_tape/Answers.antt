use Rattle.std.proofs.Common.{arith, ap, length, ◌∙◌}
use Rattle.mls_model.specs.Studies.{Sizes}
use Rattle.mls_model.specs.Lanes.{tape_of}
use Rattle.mls_design.specs.Trial.{trial_lanes}
use Rattle.mls_design.proofs.TrialReading.{trial_is_read, tape_short, bad_clash, same_read}
use Rattle.mls_design.proofs.trial.make.made_tape.Goals as goal

pub read-requires : goal.read-requires
read-requires c = omega (arith, c.args.bytes.ok, ap length c.requires.are_bytes, tape_short c.args.study.now c.args.number c.requires.small)

pub unreachable-requires : goal.unreachable-requires
unreachable-requires c =
    let ranks = c.ranks.ensures.value ∙ ap (λ (s : Sizes). s.ranks) c.shape-shape.ensures in
    let signed = c.signed.ensures.value ∙ ap (λ (s : Sizes). s.signed) c.shape-shape.ensures in
    let read = ap (λ r. tape_of r c.signed.result c.args.bytes.items) ranks ∙ ap (λ b. tape_of c.args.study.now.sizes.ranks b c.args.bytes.items) signed ∙ ap (tape_of c.args.study.now.sizes.ranks c.args.study.now.sizes.signed) c.requires.are_bytes ∙ trial_is_read c.args.study.now c.args.number c.valid.ensures c.requires.small in
    bad_clash c.in-Err-Bad.field-0 _ _ _ _ c.in-Err-Bad.field-0-is c.in-Err-Bad.ensures.exact read

pub returns-in-Ok : goal.returns-in-Ok
returns-in-Ok c =
    let ranks = c.ranks.ensures.value ∙ ap (λ (s : Sizes). s.ranks) c.shape-shape.ensures in
    let signed = c.signed.ensures.value ∙ ap (λ (s : Sizes). s.signed) c.shape-shape.ensures in
    let read = ap (λ r. tape_of r c.signed.result c.args.bytes.items) ranks ∙ ap (λ b. tape_of c.args.study.now.sizes.ranks b c.args.bytes.items) signed ∙ ap (tape_of c.args.study.now.sizes.ranks c.args.study.now.sizes.signed) c.requires.are_bytes ∙ trial_is_read c.args.study.now c.args.number c.valid.ensures c.requires.small in (
      c.in-Ok.ensures.kept.0 ∙ c.requires.are_bytes,
      same_read c.in-Ok.tape.lanes (trial_lanes c.args.study.now c.args.number) _ c.in-Ok.ensures.exact read,
      c.in-Ok.ensures.kept.1 ∙ ranks,
      c.in-Ok.ensures.kept.2 ∙ signed,
    )
