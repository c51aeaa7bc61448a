-- The pairs of a study are ones of its ranks and clients that overlap.
use Rattle.std.proofs.Common.{◌≡◌, ℕ, zero, suc, ◌<◌, Bool, true, false, cond, List, [], ◌∷◌, ◌++◌, IsTrue, refl, sym, subst, arith}
use Rattle.std.specs.List.{flat_map, AllByRecursion}
use Rattle.std.proofs.lemmas.List.{append-nil}
use Rattle.std.proofs.lemmas.Grind.{flat_map-append}
use Rattle.mls_model.specs.Numbers.{below}
use Rattle.mls_model.specs.Studies.{Sizes}
use Rattle.mls_model.specs.Blocks.{overlaps}
use Rattle.mls_wire.specs.declared.pairing.Pair.{Pair}
use Rattle.mls_wire.specs.Sessions.{IsPair, pair_of, rank_pairs, pairs_of}

all-append : (P : Pair → Type 0) (xs ys : List Pair) → AllByRecursion P xs → AllByRecursion P ys → AllByRecursion P (xs ++ ys)
all-append P [] ys p q = q
all-append P (x ∷ xs) ys p q = (p.0, all-append P xs ys p.1 q)

all-below : (P : Pair → Type 0) (f : ℕ → List Pair) (n : ℕ) → ((i : ℕ) → i < n → AllByRecursion P (f i)) → AllByRecursion P (flat_map f (below n))
all-below P f zero each = tt
all-below P f (suc n) each = subst (AllByRecursion P) (sym (flat_map-append f (below n) (n ∷ [])))
    (all-append P (flat_map f (below n)) (f n ++ []) (all-below P f n (λ i h. each i (omega (arith, h))))
    (subst (AllByRecursion P) (sym (append-nil (f n))) (each n (omega arith))))

pair_by : (s : Sizes) (rank client : ℕ) (b : Bool) → rank < s.ranks → client < s.clients → (IsTrue b → IsTrue (overlaps s rank client)) → AllByRecursion (IsPair s) (cond b (record { rank = rank; client = client } ∷ []) [])
pair_by s rank client true h k o = (record { rank = h; client = k; overlap = o refl }, tt)
pair_by s rank client false h k o = tt

pub pairs_known : (s : Sizes) → AllByRecursion (IsPair s) (pairs_of s)
unfolding pairs_of rank_pairs
pairs_known s = all-below (IsPair s) (rank_pairs s) s.ranks (λ rank h. all-below (IsPair s) (pair_of s rank) s.clients (λ client k. pair_by s rank client (overlaps s rank client) h k (λ o. o)))
