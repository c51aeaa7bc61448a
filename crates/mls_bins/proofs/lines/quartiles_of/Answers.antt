use Rattle.std.proofs.Common.{ℕ, ap, sym, ◌∙◌, ◌++◌, Option}
use Rattle.mls_hist.specs.BinsText.{bracket_words}
use Rattle.mls_bins.proofs.CellLines.{five_parts, end_is}
use Rattle.mls_bins.proofs.lines.quartiles_of.Goals as goal

pub returns : goal.returns
returns c = five_parts _ _ _ _ _ _ _ _ _ _
    c.quartiles_start-line.ensures.text
    (c.add_bracket.ensures.text ∙ ap (λ (o : Option ℕ). c.quartiles_start-line.result ++ bracket_words c.args.signed o) c.bracket_of.ensures.value)
    (c.add_bracket-2.ensures.text ∙ ap (λ (o : Option ℕ). c.add_bracket.new.line ++ bracket_words c.args.signed o) c.bracket_of-2.ensures.value)
    (c.add_bracket-3.ensures.text ∙ ap (λ (o : Option ℕ). c.add_bracket-2.new.line ++ bracket_words c.args.signed o) c.bracket_of-3.ensures.value)
    (c.text.ensures.bytes ∙ ap (λ t. c.add_bracket-3.new.line ++ t) (sym end_is))
