-- The extrema line of values, of which there are some.
use Rattle.std.proofs.Common.{◌≡◌, List, [], ◌∷◌, ◌<◌, Bool, length, Option, Some, refl, ◌∙◌, ap, subst, arith}
use Rattle.std.specs.Prelude.{ℤ, pos, unwrap_or}
use Rattle.mls_model.specs.Statistics.{least, most}
use Rattle.std.proofs.lemmas.Bool.{eq-eqb, ne_eqb, cond-true, cond-false}
use Rattle.mls_model.specs.Samples.{unshifted}
use Rattle.mls_model.specs.CellSums.{CellSums}
use Rattle.mls_model.specs.SumsText.{sums_extrema}
use Rattle.mls_model.specs.ResultText.{extrema_line}
use Rattle.mls_result.specs.Words.{extrema_words}

extrema_line-some : (ws : List ℤ) → 0 < length ws → extrema_line ws ≡ extrema_words (unwrap_or (least ws) (pos 0)) (unwrap_or (most ws) (pos 0))
unfolding extrema_line extrema_words
extrema_line-some [] some = absurd (omega arith)
extrema_line-some (w ∷ ws) some = refl

pub ends_are : (values ws : List ℤ) (a b : ℤ) → values ≡ ws → 0 < length values → least ws ≡ Some a → most ws ≡ Some b → extrema_line values ≡ extrema_words a b
ends_are values ws a b same some low high =
    ap extrema_line same
    ∙ extrema_line-some ws (subst (λ (vs : List ℤ). 0 < length vs) same some)
    ∙ ap (λ (o : Option ℤ). extrema_words (unwrap_or o (pos 0)) (unwrap_or (most ws) (pos 0))) low
    ∙ ap (λ (o : Option ℤ). extrema_words a (unwrap_or o (pos 0))) high

-- the line of sums
pub ends_of_none : (signed : Bool) (c : CellSums) → c.rows ≡ 0 → sums_extrema signed c ≡ extrema_line []
unfolding sums_extrema
ends_of_none signed c none = cond-true _ _ _ (eq-eqb c.rows 0 none)

pub ends_of_some : (signed : Bool) (c : CellSums) → 0 < c.rows → sums_extrema signed c ≡ extrema_words (unshifted signed c.least) (unshifted signed c.greatest)
unfolding sums_extrema extrema_words
ends_of_some signed c some = cond-false _ _ _ (ne_eqb c.rows 0 (λ none. absurd (omega (arith, none, some))))
