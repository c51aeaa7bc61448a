-- The sums of a list of rows with one more row.
use Rattle.std.proofs.Common.{◌≡◌, ℕ, ◌+◌, ◌*◌, ◌<◌, List, [], ◌∷◌, ◌++◌, length, sym, arith}
use Rattle.std.specs.List.{AllByRecursion}
use Rattle.std.proofs.lemmas.List.Sums.{sum_by_push}
use Rattle.mls_cov.specs.Sums.{sample, sum_of, products_of, HoldsSums}
use Rattle.mls_cov.proofs.Bounds.{AddsRow}

pub all_push : (P : List ℕ → Type 0) (rows : List (List ℕ)) (row : List ℕ) → AllByRecursion P rows → P row → AllByRecursion P (rows ++ row ∷ [])
all_push P [] row all last = (last, all)
all_push P (r ∷ rows) row all last = (all.0, all_push P rows row all.1 last)

sum_more : (j : ℕ) (rows : List (List ℕ)) (row : List ℕ) (old new x : ℕ) → sample j row ≡ x → new ≡ old + x → old ≡ sum_of j rows → new ≡ sum_of j (rows ++ row ∷ [])
sum_more j rows row old new x there grew holds = rw (grew, holds, sym there, sum_by_push (sample j) rows row)

products_more : (i j : ℕ) (rows : List (List ℕ)) (row : List ℕ) (old new x y : ℕ) → sample i row ≡ x → sample j row ≡ y → new ≡ old + x * y → old ≡ products_of i j rows → new ≡ products_of i j (rows ++ row ∷ [])
products_more i j rows row old new x y there there' grew holds = rw (grew, holds, sym there, sym there', sum_by_push (λ r. sample i r * sample j r) rows row)

pub holds_more : (p : ℕ) (old new : List ℕ) (taken : ℕ → ℕ) (row : List ℕ) (rows : List (List ℕ)) → AddsRow p old new taken → length row ≡ p + 2 → ((j : ℕ) → j < p + 2 → sample j row ≡ taken j) → HoldsSums p old rows → HoldsSums p new (rows ++ row ∷ [])
holds_more p old new taken row rows adds long same h =
    let g = adds.outputs in
    let a = same 0 (omega arith) in
    let b = same 1 (omega arith) in
    record {
      rows_in = all_push (λ r. length r ≡ p + 2) rows row h.rows_in long;
      a = sum_more 0 rows row _ _ _ a g.first h.a;
      b = sum_more 1 rows row _ _ _ b g.second h.b;
      aa = products_more 0 0 rows row _ _ _ _ a a g.third h.aa;
      bb = products_more 1 1 rows row _ _ _ _ b b g.fourth h.bb;
      columns = λ k in_p. (
          let column = h.columns k in_p in
          let grown = adds.columns k in_p in
          let c = same (2 + k) (omega arith) in
          record {
            first = sum_more (2 + k) rows row _ _ _ c grown.first column.first;
            second = products_more (2 + k) (2 + k) rows row _ _ _ _ c c grown.second column.second;
            with_a = products_more 0 (2 + k) rows row _ _ _ _ a c grown.third column.with_a;
            with_b = products_more 1 (2 + k) rows row _ _ _ _ b c grown.fourth column.with_b;
          }
          );
    }
