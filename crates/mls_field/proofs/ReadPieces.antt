-- Numbers that are written from a place on, after those before them.
use Rattle.std.proofs.Common.{◌≡◌, ℕ, ◌+◌, ◌-◌, ◌<◌, ◌≤◌, List, slice_index, inl, inr, ap, ◌∙◌, sym, subst, arith}
use Rattle.std.proofs.lemmas.Bool.{cases_lt}

-- each number is small where those before, those written and those behind are
pub all_small : (at from count : ℕ) (old new piece : List ℕ) → ((k : ℕ) → k < count → slice_index new (at + from + k) ≡ slice_index piece k) → ((j : ℕ) → j < at + from → slice_index new j ≡ slice_index old j) → ((j : ℕ) → at + from + count ≤ j → slice_index new j ≡ slice_index old j) → ((k : ℕ) → k < count → slice_index piece k ≤ 65535) → ((i : ℕ) → slice_index old i ≤ 65535) → (i : ℕ) → slice_index new i ≤ 65535
all_small at from count old new piece there before behind small all i = elim (cases_lt i (at + from)) [
  | inl low ↦ subst (λ (n : ℕ). n ≤ 65535) (sym (before i low)) (all i)
  | inr high ↦ elim (cases_lt i (at + from + count)) [
    | inl inside ↦ (
        let k = i - (at + from) in
        let k_in : k < count = omega (arith, high, inside) in
        let e : at + from + k ≡ i = omega (arith, high) in
        subst (λ (j : ℕ). slice_index new j ≤ 65535) e (subst (λ (n : ℕ). n ≤ 65535) (sym (there k k_in)) (small k k_in))
        )
    | inr beyond ↦ subst (λ (n : ℕ). n ≤ 65535) (sym (behind i beyond)) (all i)
  ]
]

-- the numbers that were there have their values, and those that are written have theirs
pub values_more : (at from count : ℕ) (old new piece : List ℕ) (f : ℕ → ℕ) → ((k : ℕ) → k < count → slice_index new (at + from + k) ≡ slice_index piece k) → ((j : ℕ) → j < at + from → slice_index new j ≡ slice_index old j) → ((k : ℕ) → k < count → slice_index piece k ≡ f (from + k)) → ((i : ℕ) → i < from → slice_index old (at + i) ≡ f i) → (i : ℕ) → i < from + count → slice_index new (at + i) ≡ f i
values_more at from count old new piece f there before values so_far i low = elim (cases_lt i from) [
  | inl less ↦ before (at + i) (omega (arith, less)) ∙ so_far i less
  | inr not ↦ (
      let k = i - from in
      let k_in : k < count = omega (arith, low, not) in
      let e : from + k ≡ i = omega (arith, not) in
      let f_at : at + from + k ≡ at + i = omega (arith, not) in
      sym (ap (slice_index new) f_at) ∙ (there k k_in ∙ (values k k_in ∙ ap f e))
      )
]
