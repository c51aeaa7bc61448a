-- A column that is counted piece after piece.
use Rattle.std.proofs.Common.{◌≡◌, ℕ, zero, suc, ◌+◌, ◌-◌, ◌<◌, List, slice_index, inl, inr, ap, ◌∙◌, sym, subst, arith}
use Rattle.std.proofs.lemmas.Bool.{cases_lt}
use Rattle.mls_power.specs.Columns.{after, Walked}
use Rattle.mls_power.specs.ColumnSteps.{more_above}
use Rattle.mls_power.specs.CountsAdded.{AreCountsAdded}

-- rows that only add may be added to nothing first
sum_after : (f h : ℕ → ℕ) (groups start : ℕ) → start + after (λ g n. n + f g + h g) groups 0 ≡ after (λ g n. n + f g + h g) groups start
unfolding after
sum_after f h zero start = omega arith
sum_after f h (suc g) start = omega (arith, sum_after f h g start)

pub counted_first : (samples : List ℕ) (stride threshold x y k start : ℕ) → start + after (more_above samples stride threshold x y k) 8 0 ≡ after (more_above samples stride threshold x y k) 8 start
counted_first samples stride threshold x y k start = sum_after _ _ 8 start

piece_there : (at from size : ℕ) (counts old mid new samples : List ℕ) (stride threshold x y : ℕ) → Walked at from 8 old mid (more_above samples stride threshold x y) → ((k : ℕ) → k < size → slice_index counts k ≡ after (more_above samples stride threshold x y (from + k)) 8 0) → AreCountsAdded (at + from) size counts mid new → (k : ℕ) → k < size → slice_index new (at + (from + k)) ≡ after (more_above samples stride threshold x y (from + k)) 8 (slice_index old (at + (from + k)))
piece_there at from size counts old mid new samples stride threshold x y walked counted added k low =
    let step : ℕ → ℕ → ℕ = more_above samples stride threshold x y (from + k) in
    let e : at + (from + k) ≡ at + from + k = omega arith in
    let waits : slice_index mid (at + from + k) ≡ slice_index old (at + (from + k)) = ap (slice_index mid) (sym e) ∙ walked.behind (at + (from + k)) (omega arith) in
    ap (slice_index new) e ∙ (added.there k low ∙ (ap (λ (n : ℕ). n + slice_index counts k) waits ∙ (ap (λ (n : ℕ). slice_index old (at + (from + k)) + n) (counted k low) ∙ counted_first samples stride threshold x y (from + k) (slice_index old (at + (from + k))))))

-- one piece more
pub piece_more : (at from size : ℕ) (counts old mid new samples : List ℕ) (stride threshold x y : ℕ) → Walked at from 8 old mid (more_above samples stride threshold x y) → ((k : ℕ) → k < size → slice_index counts k ≡ after (more_above samples stride threshold x y (from + k)) 8 0) → AreCountsAdded (at + from) size counts mid new → Walked at (from + size) 8 old new (more_above samples stride threshold x y)
piece_more at from size counts old mid new samples stride threshold x y walked counted added = record {
  there = λ k high. elim (cases_lt k from) [
    | inl low ↦ added.before (at + k) (omega arith) ∙ walked.there k low
    | inr not ↦ (
        let e : from + (k - from) ≡ k = omega (arith, not) in
        let below : k - from < size = omega (arith, not, high) in
        subst (λ (i : ℕ). slice_index new (at + i) ≡ after (more_above samples stride threshold x y i) 8 (slice_index old (at + i))) e
        (piece_there at from size counts old mid new samples stride threshold x y walked counted added (k - from) below)
        )
  ];
  before = λ i low. added.before i (omega (arith, low)) ∙ walked.before i low;
  behind = λ i high. added.behind i (omega (arith, high)) ∙ walked.behind i (omega (arith, high));
}
