-- Sums over the numbers below one, one more at a time.
use Rattle.std.proofs.Common.{◌≡◌, ℕ, zero, suc, ◌+◌, ◌<◌, List, [], ◌∷◌, ◌++◌, length, get_or, ℤ, pos, Option, Some, None, refl, sym, ◌∙◌, ap, add-one, arith}
use Rattle.std.specs.Prelude.{◌+ℤ◌, ◌-◌}
use Rattle.std.proofs.lemmas.Int.{ints}
use Rattle.mls_model.specs.Numbers.{below, element, sum_ints}
use Rattle.mls_model.specs.Studies.{Sizes}
use Rattle.mls_model.specs.Blocks.{block, rank_of}
use Rattle.mls_field.specs.declared.field.Field.{Field}
use Rattle.mls_field.specs.declared.fold.RowFold.{Ghosts}
use Rattle.mls_field.specs.Kept.{sums_at}
use Rattle.mls_rank.specs.declared.rank_core.RankCore.{RankCore}
use Rattle.mls_rank.specs.Cores.{fold_of}
use Rattle.mls_result.specs.Histories.{AreCores, no_sums, core_sums, kept_sums}
use Rattle.mls_trial.specs.declared.value_sums.ValueSums.{ValueSums}
use Rattle.mls_trial.specs.Added.{AreSums}

sum_push : (f : ℕ → ℤ) (xs : List ℕ) (x : ℕ) → sum_ints f (xs ++ x ∷ []) ≡ sum_ints f xs +ℤ f x
sum_push f [] x = omega (arith, ints)
sum_push f (y ∷ xs) x = omega (arith, ints, sum_push f xs x)

sum_more : (f : ℕ → ℤ) (n : ℕ) → sum_ints f (below (n + 1)) ≡ sum_ints f (below n) +ℤ f n
sum_more f n = ap (λ m. sum_ints f (below m)) (add-one n) ∙ sum_push f (below n) n

pub sum_same : (f g : ℕ → ℤ) (n : ℕ) → ((i : ℕ) → i < n → f i ≡ g i) → sum_ints f (below n) ≡ sum_ints g (below n)
sum_same f g zero same = refl
sum_same f g (suc n) same =
    sum_push f (below n) n
    ∙ (λ i. sum_same f g n (λ j here. same j (omega (arith, here))) i +ℤ same n (omega arith) i)
    ∙ sym (sum_push g (below n) n)

pub no_sums_yet : (f g : ℕ → ℤ) (sums : ValueSums) → sums.first ≡ pos 0 → sums.second ≡ 0 → AreSums f g 0 sums
no_sums_yet f g sums first second = record { first = first; second = ap pos second }

both_added : (a b : ℕ) → pos (a + b) ≡ pos a +ℤ pos b
both_added a b = omega (arith, ints)

pub one_more : (f g : ℕ → ℤ) (n : ℕ) (old new : ValueSums) (a : ℤ) (b : ℕ) → AreSums f g n old → new.first ≡ old.first +ℤ a → new.second ≡ old.second + b → a ≡ f n → pos b ≡ g n → AreSums f g (n + 1) new
one_more f g n old new a b so first second is_a is_b = record {
  first = first ∙ (λ i. so.first i +ℤ is_a i) ∙ sym (sum_more f n);
  second = ap pos second ∙ both_added old.second b ∙ (λ i. so.second i +ℤ is_b i) ∙ sym (sum_more g n);
}

-- ---- a cell
element_at : {A : Type 0} (xs : List A) (i : ℕ) (d : A) → i < length xs → element xs i ≡ Some (get_or xs i d)
element_at [] i d here = absurd (omega (arith, here))
element_at (x ∷ xs) zero d here = refl
element_at (x ∷ xs) (suc i) d here = element_at xs i d (omega (arith, here))

-- the sums of a cell are those that its rank's core keeps
pub kept_at : {T : Ghosts Field} (s : Sizes) (cores : List (RankCore Field T)) (rank plane x : ℕ) (core : RankCore Field T) → AreCores s cores → rank_of s x ≡ Some rank → rank < length cores → core ≡ get_or cores rank core → sums_at (fold_of core) plane (x - (block s rank).first) ≡ kept_sums s cores plane x
kept_at {T} s cores rank plane x core are found here is =
    let own = get_or cores rank core in
    ap (λ c. sums_at (fold_of c) plane (x - (block s rank).first)) is
    ∙ (λ i. sums_at (fold_of own) plane (x - (block (sym (are.sizes rank core here) i) (sym (are.ranks rank core here) i)).first))
    ∙ sym (
    ap (λ (o : Option ℕ). elim o [ None ↦ no_sums | Some r ↦ elim (element cores r) [ None ↦ no_sums | Some c ↦ core_sums c plane x ] ]) found
    ∙ ap (λ (o : Option (RankCore Field T)). elim o [ None ↦ no_sums | Some c ↦ core_sums c plane x ]) (element_at cores rank core here)
    )
