-- The power lines of values, of which there are some.
use Rattle.std.proofs.Common.{◌≡◌, List, ℕ, [], ◌∷◌, ◌++◌, ◌*◌, ◌<◌, Bool, length, refl, sym, ◌∙◌, arith}
use Rattle.std.specs.Prelude.{ℤ, pos}
use Rattle.std.proofs.lemmas.Bool.{eq-eqb, ne_eqb, cond-true, cond-false}
use Rattle.mls_power.specs.declared.power.Powers.{Powers}
use Rattle.mls_field.specs.Kept.{HasValuePowers}
use Rattle.mls_model.specs.CellSums.{CellSums}
use Rattle.mls_model.specs.SumsText.{height, variance_top_of, third_top_of, sums_powers}
use Rattle.mls_model.specs.Statistics.{outputs, total, squares, cubes, fourths, variance_top, third_top}
use Rattle.mls_model.specs.ResultText.{power_line, variance_line, third_line}
use Rattle.mls_result.specs.Words.{power_words, variance_words, third_words}

pub length-outputs : (rows : List (List ℤ)) → length (outputs rows) ≡ 2 * length rows
length-outputs [] = refl
length-outputs (row ∷ rows) = omega (arith, length-outputs rows)

pub power_line-some : (ws : List ℤ) → 0 < length ws → power_line ws ≡ power_words (total ws) (squares ws) (cubes ws) (fourths ws)
unfolding power_line power_words
power_line-some [] some = absurd (omega arith)
power_line-some (w ∷ ws) some = refl

pub variance_line-some : (ws : List ℤ) → 0 < length ws → variance_line ws ≡ variance_words (variance_top ws) (length ws)
unfolding variance_line variance_words
variance_line-some [] some = absurd (omega arith)
variance_line-some (w ∷ ws) some = refl

pub third_line-some : (ws : List ℤ) → 0 < length ws → third_line ws ≡ third_words (third_top ws) (length ws)
unfolding third_line third_words
third_line-some [] some = absurd (omega arith)
third_line-some (w ∷ ws) some = refl

-- the three lines of sums, from what was read of them
pub lines_of_none : (signed : Bool) (c : CellSums) → c.rows ≡ 0 → sums_powers signed c ≡ power_line [] ++ (variance_line [] ++ third_line [])
unfolding sums_powers
lines_of_none signed c none = cond-true _ _ _ (eq-eqb c.rows 0 none)

pub lines_of_some : (signed : Bool) (c : CellSums) (count : ℕ) (p : Powers) (variance third : ℤ) → c.rows ≡ count → 0 < count → HasValuePowers (height signed) c p → variance ≡ variance_top_of c → third ≡ third_top_of c → sums_powers signed c ≡ power_words p.p1 (pos p.p2) p.p3 p.p4 ++ (variance_words variance (2 * count) ++ third_words third (2 * count))
unfolding sums_powers power_words variance_words third_words
lines_of_some signed c count p variance third counted some powers is_variance is_third =
    cond-false _ _ _ (ne_eqb c.rows 0 (λ none. absurd (omega (arith, none, counted, some))))
    ∙ (λ i. power_words (sym powers.first i) (sym powers.second i) (sym powers.third i) (sym powers.fourth i) ++ (variance_words (sym is_variance i) (2 * counted i) ++ third_words (sym is_third i) (2 * counted i)))
