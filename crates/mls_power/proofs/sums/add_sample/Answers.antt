use Rattle.std.proofs.Common.{◌≡◌, ℕ, ◌+◌, ◌*◌, ◌^◌, ◌≤◌, List, [], ◌∷◌, ◌++◌, length, get_or, set, refl, sym, subst, arith}
use Rattle.std.proofs.lemmas.Nat.{mul-le}
use Rattle.std.proofs.lemmas.List.Sums.{sum_by_push}
use Rattle.mls_power.specs.PowerSums.{first_in, second_in, third_in, fourth_in, HoldsSums, AreInRange}
use Rattle.mls_power.proofs.Spread.{spread_more}
use Rattle.mls_power.proofs.sums.add_sample.Goals as goal

-- the words after the six writes
after : (xs : List ℕ) (a b c d e f : ℕ) → length xs ≡ 6 → set (set (set (set (set (set xs 0 (get_or xs 0 0 + a)) 1 (get_or (set xs 0 (get_or xs 0 0 + a)) 1 0 + b)) 2 c) 3 d) 4 e) 5 f ≡ (get_or xs 0 0 + a) ∷ (get_or xs 1 0 + b) ∷ c ∷ d ∷ e ∷ f ∷ []
after [] a b c d e f size = absurd (omega arith)
after (_ ∷ []) a b c d e f size = absurd (omega arith)
after (_ ∷ _ ∷ []) a b c d e f size = absurd (omega arith)
after (_ ∷ _ ∷ _ ∷ []) a b c d e f size = absurd (omega arith)
after (_ ∷ _ ∷ _ ∷ _ ∷ []) a b c d e f size = absurd (omega arith)
after (_ ∷ _ ∷ _ ∷ _ ∷ _ ∷ []) a b c d e f size = absurd (omega arith)
after (_ ∷ _ ∷ _ ∷ _ ∷ _ ∷ _ ∷ []) a b c d e f size = refl
after (_ ∷ _ ∷ _ ∷ _ ∷ _ ∷ _ ∷ _ ∷ xs) a b c d e f size = absurd (omega arith)

in_range : (words : List ℕ) (x c d e f : ℕ) → x ≤ 65535 → c + 2 ^ 64 * d ≡ third_in words + x * x * x → e + 2 ^ 64 * f ≡ fourth_in words + x * x * (x * x) → (n : ℕ) → AreInRange n words → AreInRange (n + 1) ((first_in words + x) ∷ (second_in words + x * x) ∷ c ∷ d ∷ e ∷ f ∷ [])
in_range words x c d e f small third fourth n old = record {
  first = omega (arith, old.first);
  second = (let h : x * x ≤ 65535 * x = mul-le x x 65535 x small (omega arith) in omega (arith, old.second));
  third = (let h : x * (x * x) ≤ 65535 * (x * x) = mul-le x (x * x) 65535 (x * x) small (omega arith) in omega (arith, old.third));
  fourth = (let h : x * (x * x * x) ≤ 65535 * (x * x * x) = mul-le x (x * x * x) 65535 (x * x * x) small (omega arith) in omega (arith, old.fourth));
  spread = spread_more n (first_in words) (second_in words) x old.spread;
}

holds : (words : List ℕ) (x c d e f : ℕ) → c + 2 ^ 64 * d ≡ third_in words + x * x * x → e + 2 ^ 64 * f ≡ fourth_in words + x * x * (x * x) → (ws : List ℕ) → HoldsSums words ws → HoldsSums ((first_in words + x) ∷ (second_in words + x * x) ∷ c ∷ d ∷ e ∷ f ∷ []) (ws ++ x ∷ [])
holds words x c d e f third fourth ws old = record {
  first = omega (arith, old.first, sum_by_push (λ w. w) ws x);
  second = omega (arith, old.second, sum_by_push (λ w. w * w) ws x);
  third = omega (arith, old.third, sum_by_push (λ w. w * w * w) ws x);
  fourth = omega (arith, old.fourth, sum_by_push (λ w. w * w * (w * w)) ws x);
}

pub returns-clause-range : goal.returns-clause-range
returns-clause-range c =
    let x = c.args.x in
    let words = c.args.words.now in
    let low = c.wide_sum-third_low.result in
    let high = c.wide_sum-fourth_low.result in
    λ n old. subst (λ (ws : List ℕ). AreInRange (n + 1) ws)
    (sym (after words x (x * x) low.0 low.1 high.0 high.1 c.requires.size))
    (in_range words x low.0 low.1 high.0 high.1 (omega arith) c.wide_sum-third_low.ensures c.wide_sum-fourth_low.ensures n old)

pub returns-clause-adds : goal.returns-clause-adds
returns-clause-adds c =
    let x = c.args.x in
    let words = c.args.words.now in
    let low = c.wide_sum-third_low.result in
    let high = c.wide_sum-fourth_low.result in
    λ ws old. subst (λ (now : List ℕ). HoldsSums now (ws ++ x ∷ []))
    (sym (after words x (x * x) low.0 low.1 high.0 high.1 c.requires.size))
    (holds words x low.0 low.1 high.0 high.1 c.wide_sum-third_low.ensures c.wide_sum-fourth_low.ensures ws old)
