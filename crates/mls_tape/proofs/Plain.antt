-- The plain schedule, lane by lane and rank by rank.
use Rattle.std.proofs.Common.{◌≡◌, ℕ, zero, suc, ◌+◌, cond, eqb, List, [], ◌∷◌, ◌++◌, length, drop, replicate, Option, Some, refl, sym, ap, ◌∙◌, append_assoc, eq-eqb, arith}
use Rattle.std.specs.List.{flat_map, enumerate_from}
use Rattle.std.proofs.lemmas.Bool.{ne_eqb}
use Rattle.mls_model.specs.Numbers.{element}
use Rattle.mls_model.specs.Lanes.{Lane}
use Rattle.mls_model.specs.Schedules.{plain_order}

-- what a lane with its number adds to a rank's list
abbrev pub turns : ℕ → ℕ × Lane → List ℕ
turns rank p = cond (eqb p.1.rank rank) (replicate (length p.1.frames) p.0) []

-- what the lanes from one on add
abbrev pub turns_from : ℕ → ℕ → List Lane → List ℕ
turns_from rank k lanes = flat_map (turns rank) (enumerate_from k lanes)

same_lane : (l m : Lane) → ◌≡◌ {A = Option Lane} (Some l) (Some m) → l ≡ m
same_lane l m e = cc

drop_element : (lanes : List Lane) (k : ℕ) (l : Lane) → element lanes k ≡ Some l → drop k lanes ≡ l ∷ drop (k + 1) lanes
drop_element [] k l e = absurd cc
drop_element (m ∷ lanes) zero l e = ap (λ (x : Lane). x ∷ lanes) (same_lane m l e)
drop_element (m ∷ lanes) (suc k) l e = let up : suc (k + 1) ≡ suc k + 1 = omega arith in
    drop_element lanes k l e ∙ ap (λ (n : ℕ). l ∷ drop n (m ∷ lanes)) up

pub turns_step : (lanes : List Lane) (rank k : ℕ) (l : Lane) (found total : List ℕ) → element lanes k ≡ Some l → found ++ turns_from rank k (drop k lanes) ≡ total → (found ++ turns rank (k, l)) ++ turns_from rank (k + 1) (drop (k + 1) lanes) ≡ total
turns_step lanes rank k l found total e so_far =
    append_assoc found (turns rank (k, l)) (turns_from rank (k + 1) (drop (k + 1) lanes))
    ∙ ap (λ (ls : List Lane). found ++ turns_from rank k ls) (sym (drop_element lanes k l e))
    ∙ so_far

pub plain_start : (lanes : List Lane) (rank : ℕ) → turns_from rank 0 lanes ≡ plain_order lanes rank
unfolding plain_order
plain_start lanes rank = refl

-- a lane of the rank adds its number as often as it has events, and any other lane adds nothing
pub turns_taken : (rank k : ℕ) (l : Lane) (n : ℕ) → l.rank ≡ rank → n ≡ length l.frames → turns rank (k, l) ≡ replicate n k
turns_taken rank k l n same is = rw (eq-eqb l.rank rank same, is) refl

pub turns_left : (rank k : ℕ) (l : Lane) → (l.rank ≡ rank → ⊥) → turns rank (k, l) ≡ []
turns_left rank k l other = rw (ne_eqb l.rank rank other) refl
