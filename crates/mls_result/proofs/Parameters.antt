-- The Sobol lines of sums.
use Rattle.std.proofs.Common.{◌≡◌, List, ℕ, zero, suc, [], ◌∷◌, ◌+◌, ◌-◌, ◌*◌, ◌<◌, length, get_or, Some, sym, ◌∙◌, ap, arith}
use Rattle.std.specs.Prelude.{pos, ◌-ℤ◌}
use Rattle.std.specs.List.{enumerate_from}
use Rattle.std.specs.Option.{option_map}
use Rattle.std.proofs.lemmas.List.FromFn.{get_or-enumerate_from}
use Rattle.mls_model.specs.Numbers.{element}
use Rattle.mls_model.specs.Studies.{Parameter}
use Rattle.mls_model.specs.Indices.{rho6}
use Rattle.mls_model.specs.CellSums.{CellSums}
use Rattle.mls_model.specs.SumsText.{cov_a, cov_b, var_a, var_b, var_c, sums_sobol}
use Rattle.mls_model.specs.ResultText.{sobol_words as said_words}
use Rattle.mls_cov.specs.declared.martinez.Martinez.{Martinez}
use Rattle.mls_cov.specs.declared.martinez.IndexParts.{IndexParts}
use Rattle.mls_cov.specs.Standing.{count_of, sums_in, ArePartsOf}
use Rattle.mls_field.specs.Kept.{HasProducts}
use Rattle.mls_result.specs.Words.{parameter_words, first_of, total_of}
use Rattle.mls_result.proofs.Splits.{sobol_words-split}

abbrev pub parameter_line : CellSums → ℕ × Parameter → List ℕ
parameter_line c p = sums_sobol c p.0 p.1

-- any parameter, for a list that has one
abbrev pub some_parameter : Parameter
some_parameter = record { name = []; low = pos 0; high = pos 0 }

abbrev pub some_pair : ℕ × Parameter
some_pair = (0, some_parameter)

-- the line of the parameter at a place
line_at : (c : CellSums) (k : ℕ) (ps : List Parameter) → k < length ps → parameter_line c (get_or (enumerate_from 0 ps) k some_pair) ≡ sums_sobol c k (get_or ps k some_parameter)
line_at c k ps here = ap (parameter_line c) (get_or-enumerate_from 0 ps k some_pair here) ∙ ap (λ m. sums_sobol c m (get_or ps k some_parameter)) (omega arith)

name_at : (k : ℕ) (ps : List Parameter) (name : List ℕ) → k < length ps → option_map (λ (p : Parameter). p.name) (element ps k) ≡ Some name → (get_or ps k some_parameter).name ≡ name
name_at k [] name here is = absurd (omega arith)
name_at zero (p ∷ ps) name here is = cc
name_at (suc k) (p ∷ ps) name here is = name_at k ps name (omega arith) is

-- covariances and variances of parameter k are those of the sums
pub record AreOf (k : ℕ) (c : CellSums) (parts : IndexParts) : Type 0 where
  pub cov_b : parts.cov_b ≡ cov_b c k
  pub cov_a : parts.cov_a ≡ cov_a c k
  pub var_a : parts.var_a ≡ var_a c
  pub var_b : parts.var_b ≡ var_b c
  pub var_c : parts.var_c ≡ var_c c k

pub parts_are : (k p : ℕ) (c : CellSums) (m : Martinez) (parts : IndexParts) → k < p → HasProducts p c m → ArePartsOf (count_of m) k (sums_in m) parts → AreOf k c parts
parts_are k p c m parts in_p has are =
    let a = has.sums 0 (omega (arith, in_p)) in
    let b = has.sums 1 (omega (arith, in_p)) in
    let aa = has.sums 2 (omega (arith, in_p)) in
    let bb = has.sums 3 (omega (arith, in_p)) in
    let own = has.sums (4 + 4 * k) (omega (arith, in_p)) in
    let squares = has.sums (4 + 4 * k + 1) (omega (arith, in_p)) in
    let with_a = has.sums (4 + 4 * k + 2) (omega (arith, in_p)) in
    let with_b = has.sums (4 + 4 * k + 3) (omega (arith, in_p)) in
    let n = has.count in
    record {
      cov_b = are.cov_b ∙ (λ i. pos (n i * with_b i) -ℤ pos (b i * own i));
      cov_a = are.cov_a ∙ (λ i. pos (n i * with_a i) -ℤ pos (a i * own i));
      var_a = are.var_a ∙ (λ i. n i * aa i - a i * a i);
      var_b = are.var_b ∙ (λ i. n i * bb i - b i * b i);
      var_c = are.var_c ∙ (λ i. n i * squares i - own i * own i);
    }

words_are : (k : ℕ) (p : Parameter) (c : CellSums) (name : List ℕ) (parts : IndexParts) → p.name ≡ name → AreOf k c parts → sums_sobol c k p ≡ parameter_words name parts
unfolding sums_sobol
words_are k p c name parts named are =
    (λ i. said_words (named i) (rho6 (sym are.cov_b i) (sym are.var_b i) (sym are.var_c i)) (option_map (λ r. pos 1000000 -ℤ r) (rho6 (sym are.cov_a i) (sym are.var_a i) (sym are.var_c i))) (sym are.cov_b i) (sym are.cov_a i) (sym are.var_a i) (sym are.var_b i) (sym are.var_c i))
    ∙ sobol_words-split name (first_of parts) (total_of parts) parts.cov_b parts.cov_a parts.var_a parts.var_b parts.var_c

pub parameter_at : (c : CellSums) (k : ℕ) (ps : List Parameter) (name : List ℕ) (parts : IndexParts) → k < length ps → option_map (λ (p : Parameter). p.name) (element ps k) ≡ Some name → AreOf k c parts → parameter_words name parts ≡ parameter_line c (get_or (enumerate_from 0 ps) k some_pair)
parameter_at c k ps name parts here named are =
    sym (line_at c k ps here ∙ words_are k (get_or ps k some_parameter) c name parts (name_at k ps name here named) are)
