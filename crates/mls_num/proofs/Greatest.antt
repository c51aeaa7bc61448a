-- The greatest number below a power of two that passes a test.
use Rattle.std.proofs.Common.{◌≡◌, ℕ, zero, suc, ◌+◌, ◌^◌, Bool, true, false, sym, ap, ◌∙◌, arith, inl, inr, add_assoc, add-zero}
use Rattle.std.proofs.lemmas.Bool.{cases_Bool}
use Rattle.mls_model.specs.Numbers.{greatest}

double : (k : ℕ) → 2 ^ suc k ≡ 2 ^ k + 2 ^ k
double k = omega arith

pub greatest_passes : (k : ℕ) (test : ℕ → Bool) → test 0 ≡ true → test (greatest k test) ≡ true
greatest_passes zero test h = h
greatest_passes (suc k) test h =
    elim (cases_Bool (test (2 ^ k))) [
      | inl t ↦ rw t (greatest_passes k (λ q. test (2 ^ k + q)) (rw add-zero t))
      | inr f ↦ rw f (greatest_passes k test h)
    ]

pub greatest_fails : (k : ℕ) (test : ℕ → Bool) → test (2 ^ k) ≡ false → test (greatest k test + 1) ≡ false
greatest_fails zero test h = h
greatest_fails (suc k) test h =
    elim (cases_Bool (test (2 ^ k))) [
      | inl t ↦ rw t (rw add_assoc (greatest_fails k (λ q. test (2 ^ k + q)) (ap test (sym (double k)) ∙ h)))
      | inr f ↦ rw f (greatest_fails k test f)
    ]
