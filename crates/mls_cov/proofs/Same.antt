-- Sums that are the same in the front of two lists.
use Rattle.std.proofs.Common.{◌≡◌, ℕ, ◌+◌, ◌*◌, ◌<◌, List, slice_index, ◌∙◌, arith}
use Rattle.mls_cov.specs.Sums.{HoldsSums}
use Rattle.mls_cov.specs.Rules.{KeepsRules}

module _ (p : ℕ) (old new : List ℕ) (same : (i : ℕ) → i < 4 + 4 * p → slice_index new i ≡ slice_index old i) where
  pub rules_same : (n : ℕ) → KeepsRules n p old → KeepsRules n p new
  rules_same n h = record {
    a = rw (same 0 (omega arith), same 2 (omega arith)) h.a;
    b = rw (same 1 (omega arith), same 3 (omega arith)) h.b;
    columns = λ k in_p. (
        let c = h.columns k in_p in
        let e0 = same 0 (omega arith) in
        let e1 = same 1 (omega arith) in
        let e2 = same 2 (omega arith) in
        let e3 = same 3 (omega arith) in
        let e4 = same (4 + 4 * k) (omega arith) in
        let e5 = same (4 + 4 * k + 1) (omega arith) in
        record {
          sums_in = rw (e4, e5) c.sums_in;
          with_a = rw (e0, e2, e4, e5, same (4 + 4 * k + 2) (omega arith)) c.with_a;
          with_b = rw (e1, e3, e4, e5, same (4 + 4 * k + 3) (omega arith)) c.with_b;
        }
        );
  }

  pub holds_same : (rows : List (List ℕ)) → HoldsSums p old rows → HoldsSums p new rows
  holds_same rows h = record {
    rows_in = h.rows_in;
    a = same 0 (omega arith) ∙ h.a;
    b = same 1 (omega arith) ∙ h.b;
    aa = same 2 (omega arith) ∙ h.aa;
    bb = same 3 (omega arith) ∙ h.bb;
    columns = λ k in_p. (
        let c = h.columns k in_p in
        record {
          first = same (4 + 4 * k) (omega arith) ∙ c.first;
          second = same (4 + 4 * k + 1) (omega arith) ∙ c.second;
          with_a = same (4 + 4 * k + 2) (omega arith) ∙ c.with_a;
          with_b = same (4 + 4 * k + 3) (omega arith) ∙ c.with_b;
        }
        );
  }
