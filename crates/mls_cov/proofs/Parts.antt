-- What is read from sums that stand for rows.
use Rattle.std.proofs.Common.{◌≡◌, ℕ, ◌+◌, ◌*◌, ◌<◌, ◌≤◌, List, [], ◌∷◌, length, map, slice_index, Bool, ℤ, ap, ◌∙◌, refl, sym, arith}
use Rattle.std.specs.List.{AllByRecursion}
use Rattle.std.specs.Int.RustNames.{unsigned_abs}
use Rattle.mls_model.specs.Samples.{unshifted}
use Rattle.mls_model.specs.Statistics.{column, covariance_top, spread_top}
use Rattle.mls_cov.specs.Sums.{sample, sum_of, products_of, HoldsSums}
use Rattle.mls_cov.specs.Rules.{AreSums, AreProducts, KeepsRules, spread_top_in, covariance_top_in}
use Rattle.mls_cov.proofs.Covariances.{form}
use Rattle.mls_cov.proofs.RowColumns.{one_pass_values}
use Rattle.mls_cov.proofs.Schwarz.{abs_form, abs_variance, bounded_all, sums_of_samples, at_most}

places_in : (j p : ℕ) (rows : List (List ℕ)) → j < p + 2 → AllByRecursion (λ row. length row ≡ p + 2) rows → AllByRecursion (λ row. j < length row) rows
places_in j p [] h all = tt
places_in j p (row ∷ rows) h all = (omega (arith, all.0), places_in j p rows h all.1)

pub read_covariance : (signed : Bool) (p n x y xy i j : ℕ) (rows : List (List ℕ)) → AllByRecursion (λ row. length row ≡ p + 2) rows → i < p + 2 → j < p + 2 → n ≡ length rows → x ≡ sum_of i rows → y ≡ sum_of j rows → xy ≡ products_of i j rows → form n x y xy ≡ covariance_top (column i (map (map (unshifted signed)) rows)) (column j (map (map (unshifted signed)) rows))
read_covariance signed p n x y xy i j rows all i_in j_in count first second products =
    rw (count, first, second, products) (sym (one_pass_values signed rows i j (places_in i p rows i_in all) (places_in j p rows j_in all)))

pub read_variance : (signed : Bool) (p n x xx i : ℕ) (rows : List (List ℕ)) → AllByRecursion (λ row. length row ≡ p + 2) rows → i < p + 2 → n ≡ length rows → x ≡ sum_of i rows → xx ≡ products_of i i rows → x * x ≤ n * xx → spread_top_in n x xx ≡ spread_top (column i (map (map (unshifted signed)) rows))
read_variance signed p n x xx i rows all i_in count first squares spread =
    sym (abs_variance n x xx spread) ∙ ap unsigned_abs (read_covariance signed p n x x xx i i rows all i_in i_in count first first squares)

-- a covariance that is read, without its sign
pub abs_read : (c : ℤ) (n x y xy : ℕ) → c ≡ form n x y xy → unsigned_abs c ≡ covariance_top_in n x y xy
abs_read c n x y xy e = ap unsigned_abs e ∙ abs_form n x y xy

pub read_within : (c : ℤ) (v w n x xx y yy xy : ℕ) → c ≡ form n x y xy → v ≡ spread_top_in n x xx → w ≡ spread_top_in n y yy → AreProducts n x xx y yy xy → unsigned_abs c * unsigned_abs c ≤ v * w
read_within c v w n x xx y yy xy e f g h = rw (abs_read c n x y xy e, f, g) h.within

-- ---- the sums of no rows
no_sums : (x xx : ℕ) → x ≡ 0 → xx ≡ 0 → AreSums 0 x xx
no_sums x xx e f = record { first = omega arith; second = omega arith; spread = rw (e, f) (omega arith) }

no_products : (x xx y yy xy : ℕ) → x ≡ 0 → xx ≡ 0 → y ≡ 0 → yy ≡ 0 → xy ≡ 0 → AreProducts 0 x xx y yy xy
no_products x xx y yy xy a b c d e = record { none = λ z. e; within = rw (a, b, c, d, e) (omega arith) }

module _ (p : ℕ) (sums : List ℕ) (h : (i : ℕ) → i < 4 + 4 * p → slice_index sums i ≡ 0) where
  pub no_rules : KeepsRules 0 p sums
  no_rules = record {
    a = no_sums _ _ (h 0 (omega arith)) (h 2 (omega arith));
    b = no_sums _ _ (h 1 (omega arith)) (h 3 (omega arith));
    columns = λ k in_p. (
        let c = h (4 + 4 * k) (omega arith) in
        let cc = h (4 + 4 * k + 1) (omega arith) in
        record {
          sums_in = no_sums _ _ c cc;
          with_a = no_products _ _ _ _ _ (h 0 (omega arith)) (h 2 (omega arith)) c cc (h (4 + 4 * k + 2) (omega arith));
          with_b = no_products _ _ _ _ _ (h 1 (omega arith)) (h 3 (omega arith)) c cc (h (4 + 4 * k + 3) (omega arith));
        }
        );
  }

  pub no_rows : HoldsSums p sums []
  no_rows = record {
    rows_in = tt;
    a = h 0 (omega arith);
    b = h 1 (omega arith);
    aa = h 2 (omega arith);
    bb = h 3 (omega arith);
    columns = λ k in_p. record {
      first = h (4 + 4 * k) (omega arith);
      second = h (4 + 4 * k + 1) (omega arith);
      with_a = h (4 + 4 * k + 2) (omega arith);
      with_b = h (4 + 4 * k + 3) (omega arith);
    };
  }

-- ---- the sums of rows of samples of 16 bits
sums_rule : (j n x xx : ℕ) (rows : List (List ℕ)) → AllByRecursion (λ row. sample j row ≤ 65535) rows → n ≡ length rows → x ≡ sum_of j rows → xx ≡ products_of j j rows → AreSums n x xx
sums_rule j n x xx rows all e f g = rw (e, f, g) (sums_of_samples rows (sample j) all)

products_rule : (i j n x xx y yy xy : ℕ) (rows : List (List ℕ)) → n ≡ length rows → x ≡ sum_of i rows → xx ≡ products_of i i rows → y ≡ sum_of j rows → yy ≡ products_of j j rows → xy ≡ products_of i j rows → AreProducts n x xx y yy xy
products_rule i j n x xx y yy xy rows e a b c d f =
    let all = bounded_all rows (sample i) (sample j) in
    record {
      none = λ z. f ∙ (all.none (sym e ∙ z)).2;
      within = rw (e, a, b, c, d, f) all.within;
    }

all_samples : (j : ℕ) (rows : List (List ℕ)) → AllByRecursion (λ row. AllByRecursion (λ x. x < 65536) row) rows → AllByRecursion (λ row. sample j row ≤ 65535) rows
all_samples j [] h = tt
all_samples j (row ∷ rows) h = (at_most row j h.0, all_samples j rows h.1)

pub rows_rule : (p : ℕ) (sums : List ℕ) (rows : List (List ℕ)) → HoldsSums p sums rows → AllByRecursion (λ row. AllByRecursion (λ x. x < 65536) row) rows → KeepsRules (length rows) p sums
rows_rule p sums rows h all = record {
  a = sums_rule 0 _ _ _ rows (all_samples 0 rows all) refl h.a h.aa;
  b = sums_rule 1 _ _ _ rows (all_samples 1 rows all) refl h.b h.bb;
  columns = λ k in_p. (
      let c = h.columns k in_p in
      record {
        sums_in = sums_rule (2 + k) _ _ _ rows (all_samples (2 + k) rows all) refl c.first c.second;
        with_a = products_rule 0 (2 + k) _ _ _ _ _ _ rows refl h.a h.aa c.first c.second c.with_a;
        with_b = products_rule 1 (2 + k) _ _ _ _ _ _ rows refl h.b h.bb c.first c.second c.with_b;
      }
      );
}
