-- What one more row makes of a number.
use Rattle.std.proofs.Common.{◌≡◌, ℕ, suc, ◌+◌, add-one, ap, ◌∙◌, refl}
use Rattle.mls_power.specs.Columns.{after}

pub after_none : (step : ℕ → ℕ → ℕ) (start : ℕ) → after step 0 start ≡ start
unfolding after
after_none step start = refl

after_suc : (step : ℕ → ℕ → ℕ) (g start : ℕ) → after step (suc g) start ≡ step g (after step g start)
unfolding after
after_suc step g start = refl

pub after_more : (step : ℕ → ℕ → ℕ) (g start : ℕ) → after step (g + 1) start ≡ step g (after step g start)
after_more step g start = ap (λ (n : ℕ). after step n start) (add-one g) ∙ after_suc step g start
