-- Values that are read one after another.
use Rattle.std.proofs.Common.{◌≡◌, ℕ, suc, ◌+◌, ◌-◌, ◌<◌, ◌≤◌, List, [], ◌∷◌, ◌++◌, append-nil, append_assoc, Ok, Err, ap, ◌∙◌, refl, sym, arith}
use Rattle.mls_ckpt.specs.Reading.{Cursor, Read, Refusal, ◌>>=◌, many}
use Rattle.mls_field.specs.Answered.{before}

module _ {A X : Type 0} (step : X → Cursor → Read (A × Cursor)) (next : X → A → X) where
  before_more : (xs : List A) (a : A) (r : Read (List A × Cursor)) → before xs (r >>= λ rest. Ok (a ∷ rest.0, rest.1)) ≡ before (xs ++ a ∷ []) r
  before_more xs a (Ok r) = λ i. Ok (sym (append_assoc xs (a ∷ []) r.0) i, r.1)
  before_more xs a (Err refusal) = refl

  -- the next value was read
  pub goes_on : (n k : ℕ) (x : X) (xs : List A) (a : A) (c c' : Cursor) (whole : Read (List A × Cursor)) → k < n → step x c ≡ Ok (a, c') → before xs (many step next (n - k) x c) ≡ whole → before (xs ++ a ∷ []) (many step next (n - (k + 1)) (next x a) c') ≡ whole
  goes_on n k x xs a c c' whole less read e =
      let m = n - (k + 1) in
      let one : n - k ≡ suc m = omega (arith, less) in
      let whole' : before xs (many step next (suc m) x c) ≡ whole = ap (λ j. before xs (many step next j x c)) (sym one) ∙ e in
      sym (before_more xs a (many step next m (next x a) c')) ∙
      (ap (λ (r : Read (A × Cursor)). before xs (r >>= λ first. many step next m (next x first.0) first.1 >>= λ rest. Ok (first.0 ∷ rest.0, rest.1))) (sym read) ∙ whole')

  -- it was refused
  pub is_refused : (n k : ℕ) (x : X) (xs : List A) (c : Cursor) (refusal : Refusal) (whole : Read (List A × Cursor)) → k < n → step x c ≡ Err refusal → before xs (many step next (n - k) x c) ≡ whole → whole ≡ Err refusal
  is_refused n k x xs c refusal whole less read e =
      let m = n - (k + 1) in
      let one : n - k ≡ suc m = omega (arith, less) in
      sym e ∙ (ap (λ j. before xs (many step next j x c)) one ∙
      ap (λ (r : Read (A × Cursor)). before xs (r >>= λ first. many step next m (next x first.0) first.1 >>= λ rest. Ok (first.0 ∷ rest.0, rest.1))) read)

  -- all were read
  pub all_read : (n k : ℕ) (x : X) (xs : List A) (c : Cursor) (whole : Read (List A × Cursor)) → n ≤ k → before xs (many step next (n - k) x c) ≡ whole → whole ≡ Ok (xs, c)
  all_read n k x xs c whole all e =
      let none : n - k ≡ 0 = omega (arith, all) in
      sym e ∙ (ap (λ j. before xs (many step next j x c)) none ∙ λ i. Ok (append-nil xs i, c))

  -- nothing was read yet
  pub none_read : (n : ℕ) (x : X) (c : Cursor) (r : Read (List A × Cursor)) → r ≡ many step next n x c → before [] (many step next (n - 0) x c) ≡ r
  none_read n x c r e = ap (λ j. before [] (many step next j x c)) (let z : n - 0 ≡ n = omega arith in z) ∙ (same (many step next n x c) ∙ sym e)
    where
      same : (r : Read (List A × Cursor)) → before [] r ≡ r
      same (Ok r) = refl
      same (Err refusal) = refl
