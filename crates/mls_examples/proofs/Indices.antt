-- The indices by tests at powers of two alone, one for each binary digit. The definition itself computes both sides of each choice.
use Rattle.std.specs.Prelude.{◌≡◌, ℕ, zero, suc, ◌+◌, ◌*◌, ◌^◌, cond, Bool, true, false, nat_le}
use Rattle.std.proofs.Common.{refl, ap}
use Rattle.mls_model.specs.Numbers.{greatest}
use Rattle.mls_model.specs.Indices.{millionths}

abbrev pub sought : ℕ → (ℕ → Bool) → ℕ
sought zero test = 0
sought (suc k) test = elim (test (2 ^ k)) [ true ↦ 2 ^ k + sought k (λ q. test (2 ^ k + q)) | false ↦ sought k test ]

chosen : (b : Bool) {m n x y : ℕ} → m ≡ x → n ≡ y → cond b m n ≡ elim b [ true ↦ x | false ↦ y ]
chosen true e f = e
chosen false e f = f

pub greatest_by_tests : (k : ℕ) (test : ℕ → Bool) → greatest k test ≡ sought k test
greatest_by_tests zero test = refl
greatest_by_tests (suc k) test = chosen (test (2 ^ k)) (ap (λ n. 2 ^ k + n) (greatest_by_tests k (λ q. test (2 ^ k + q)))) (greatest_by_tests k test)

abbrev pub millionths_sought : ℕ → ℕ → ℕ → ℕ
millionths_sought c v w = sought 20 (λ q. nat_le (q * q * (v * w)) (1000000000000 * (c * c)))

pub millionths_by_tests : millionths ≡ millionths_sought
unfolding millionths
millionths_by_tests = λ i c v w. greatest_by_tests 20 (λ q. nat_le (q * q * (v * w)) (1000000000000 * (c * c))) i
