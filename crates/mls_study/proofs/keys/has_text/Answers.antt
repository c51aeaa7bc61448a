use Rattle.std.proofs.Common.{◌≡◌, true, false, sym, ◌∙◌, ap, arith, bytes_eq, string_bytes}
use Rattle.mls_study.proofs.Texts.{has_text_step}
use Rattle.mls_study.proofs.keys.has_text.Goals as goal

pub returns-then-eq : goal.returns-then-eq
returns-then-eq c =
    let compared : true ≡ bytes_eq (string_bytes c.other-item.result) c.args.text.now = sym c.if-eq.true ∙ c.eq.ensures ∙ ap (λ b. bytes_eq b c.args.text.now) c.as_str.ensures.value in
    sym (has_text_step c.args.text.now c.args.texts.now c.loop-other.other-index c.other-item.result true (omega arith) c.other-item.is compared) ∙ c.loop-other.invariant

pub loop-other-preserved : goal.loop-other-preserved
loop-other-preserved c =
    let compared : false ≡ bytes_eq (string_bytes c.other-item.result) c.args.text.now = sym c.if-eq.false ∙ c.eq.ensures ∙ ap (λ b. bytes_eq b c.args.text.now) c.as_str.ensures.value in
    sym (has_text_step c.args.text.now c.args.texts.now c.loop-other.other-index c.other-item.result false (omega arith) c.other-item.is compared) ∙ c.loop-other.invariant
