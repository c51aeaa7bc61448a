use Rattle.std.proofs.Common.{◌≡◌, ℕ, List, [], ◌∷◌, ◌++◌, length, get_or, set, max, pos, ap, ◌∙◌, refl, sym, subst, arith}
use Rattle.mls_power.specs.Extremes.{HoldsExtrema}
use Rattle.mls_power.proofs.Least.{least_push, most_push}
use Rattle.mls_power.proofs.ends.add_to_extrema.Goals as goal

-- the two numbers after the writes
after : (xs : List ℕ) (a b : ℕ) → length xs ≡ 2 → set (set xs 0 a) 1 b ≡ a ∷ b ∷ []
after [] a b size = absurd (omega arith)
after (_ ∷ []) a b size = absurd (omega arith)
after (_ ∷ _ ∷ []) a b size = refl
after (_ ∷ _ ∷ _ ∷ xs) a b size = absurd (omega arith)

second : (xs : List ℕ) (a : ℕ) → get_or (set xs 0 a) 1 0 ≡ get_or xs 1 0
second [] a = refl
second (_ ∷ xs) a = refl

pub returns-clause-adds : goal.returns-clause-adds
returns-clause-adds c =
    let x = c.args.x in
    let ends = c.args.ends.now in
    let least = c.min.result in
    let greatest = c.max.result in
    λ ws old. subst (λ (now : List ℕ). HoldsExtrema now (ws ++ x ∷ [])) (sym (after ends least greatest c.requires)) (record {
      least = ap pos c.min.ensures ∙ least_push (get_or ends 0 0) ws x (omega arith) old.least;
      greatest = ap pos (c.max.ensures ∙ ap (λ (k : ℕ). max k x) (second ends least)) ∙ most_push (get_or ends 1 0) ws x old.greatest;
    })
