use Rattle.std.proofs.Common.{◌≡◌, ℕ, ◌++◌, Option, sym, ◌∙◌, ap, arith, to_z, of_z}
use Rattle.std.specs.Int.{w32}
use Rattle.std.proofs.lemmas.Int.{ints}
use Rattle.std.proofs.lemmas.List.{append-nil}
use Rattle.mls_model.specs.Samples.{unshifted}
use Rattle.mls_hist.specs.Bins.{least_in, greatest_in}
use Rattle.mls_hist.specs.BinsText.{bracket_words}
use Rattle.mls_bins.specs.Words.{ends_said}
use Rattle.mls_bins.proofs.CellLines.{bracket_ends, bracket_none}
use Rattle.mls_bins.proofs.lines.add_bracket.Goals as goal

pub returns-in-Some-clause-text : goal.returns-in-Some-clause-text
returns-in-Some-clause-text c =
    let signed = c.args.signed in
    let bin = c.in-Some.bin in
    let low : c.unshifted.result ≡ unshifted signed (least_in bin) = c.unshifted.ensures ∙ ap (unshifted signed) (omega arith) in
    let high : c.unshifted-in-Some.result ≡ unshifted signed (greatest_in bin) = c.unshifted-in-Some.ensures ∙ ap (unshifted signed) (omega arith) in
    let low_back : to_z w32 (of_z w32 c.unshifted.result) ≡ c.unshifted.result = omega (arith, ints) in
    let high_back : to_z w32 (of_z w32 c.unshifted-in-Some.result) ≡ c.unshifted-in-Some.result = omega (arith, ints) in
    c.add_ends.ensures.text
    ∙ (λ i. c.args.line.now ++ ends_said ((low_back ∙ low) i) ((high_back ∙ high) i))
    ∙ ap (λ t. c.args.line.now ++ t) (sym (bracket_ends signed bin) ∙ ap (λ (o : Option ℕ). bracket_words signed o) (sym c.in-Some.is))

pub returns-in_default-clause-text : goal.returns-in_default-clause-text
returns-in_default-clause-text c =
    let signed = c.args.signed in
    sym (ap (λ (o : Option ℕ). c.args.line.now ++ bracket_words signed o) c.in_default.is ∙ ap (λ t. c.args.line.now ++ t) (bracket_none signed) ∙ append-nil c.args.line.now)
