-- Calls of which none that is to fail is still to come.
use Rattle.std.proofs.Common.{◌≡◌, ℕ, ◌≤◌, ◌<◌, true, false, eqb, ltb, List, [], ◌∷◌, refl, sym, ◌∙◌, arith}
use mathlib.Core.Logic.{inl, inr}
use Rattle.std.proofs.lemmas.Bool.{and_parts, cases_Bool, ltb-true, lt-ltb, eqb-true, false≢true}
use Rattle.std.proofs.lemmas.Bool.Decides.{nat_tests}
use Rattle.mls_base.specs.Calls.{is_failing, none_from, are_none}

-- where none from this number on is to fail, this one isn't
pub not_failing : (fails : List ℕ) (number : ℕ) → none_from fails number ≡ true → is_failing fails number ≡ false
not_failing [] number none = refl
not_failing (n ∷ fails) number none =
    let (first, rest) = and_parts (ltb n number) (none_from fails number) none in
    elim (cases_Bool (eqb n number)) [
      | inl same ↦
          let less : n < number = ltb-true n number first in
          let is : n ≡ number = eqb-true n number same in
          absurd (omega arith)
      | inr apart ↦ rw apart (not_failing fails number rest)
    ]

-- where this one is to fail, one from this number on is
pub one_from : (fails : List ℕ) (number : ℕ) → is_failing fails number ≡ true → none_from fails number ≡ false
one_from fails number fails_now =
    elim (cases_Bool (none_from fails number)) [
      | inl none ↦ absurd (false≢true (sym (not_failing fails number none) ∙ fails_now))
      | inr some ↦ some
    ]

-- and none from a later number on is
pub none_later : (fails : List ℕ) (number later : ℕ) → number ≤ later → none_from fails number ≡ true → none_from fails later ≡ true
none_later [] number later le none = refl
none_later (n ∷ fails) number later le none =
    let (first, rest) = and_parts (ltb n number) (none_from fails number) none in
    let less : n < number = ltb-true n number first in
    rw (lt-ltb n later (omega arith)) (none_later fails number later le rest)

zero_apart : (n : ℕ) → ltb n 0 ≡ false
zero_apart n = grind (arith, nat_tests)

-- none from 0 on is to fail where none is
pub none_at_all : (fails : List ℕ) → none_from fails 0 ≡ are_none fails
none_at_all [] = refl
none_at_all (n ∷ fails) = rw (zero_apart n) refl
