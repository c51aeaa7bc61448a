-- The numbers below one, and a loop over them that writes a text for each.
use Rattle.std.proofs.Common.{◌≡◌, List, ℕ, zero, suc, [], ◌∷◌, ◌++◌, ◌+◌, ◌<◌, ◌≤◌, length, length-append, map, drop, get_or, refl, sym, ◌∙◌, ap, subst, arith, inl, inr}
use Rattle.std.specs.List.{flat_map}
use Rattle.std.proofs.lemmas.Bool.{cases_lt}
use Rattle.std.proofs.lemmas.List.{get_or_append_left, get_or_push}
use Rattle.mls_model.specs.Numbers.{below}
use Rattle.mls_text.specs.Writing.{SinkState, Wrote, FailedAfter}
use Rattle.mls_text.proofs.Writing.{IsFrontOut, texts_more, texts_failed, texts_all}

pub length-below : (n : ℕ) → length (below n) ≡ n
length-below zero = refl
length-below (suc n) = omega (arith, length-append (below n) (n ∷ []), length-below n)

pub get_or-below : (n i d : ℕ) → i < n → get_or (below n) i d ≡ i
get_or-below zero i d here = absurd (omega arith)
get_or-below (suc n) i d here = elim (cases_lt i n) [
  | inl small ↦ get_or_append_left (below n) (n ∷ []) d i (omega (arith, length-below n)) ∙ get_or-below n i d small
  | inr large ↦ let last : i ≡ n = omega arith in get_or_push (below n) n d i (length-below n ∙ sym last) ∙ sym last
]

-- one text more is out, one failed, all are out
pub number_more : (f : ℕ → List ℕ) (i n : ℕ) (text : List ℕ) (old mid new : SinkState) → i < n → IsFrontOut (flat_map f (drop i (below n))) text old mid → Wrote mid new (f i) → IsFrontOut (flat_map f (drop (i + 1) (below n))) text old new
number_more f i n text old mid new here so_far out =
    texts_more f i (below n) 0 text old mid new (omega (arith, here, length-below n)) so_far (subst (λ j. Wrote mid new (f j)) (sym (get_or-below n i 0 here)) out)

pub number_failed : (f : ℕ → List ℕ) (i n : ℕ) (text : List ℕ) (old mid new : SinkState) → i < n → IsFrontOut (flat_map f (drop i (below n))) text old mid → FailedAfter mid new (f i) → FailedAfter old new text
number_failed f i n text old mid new here so_far failed =
    texts_failed f i (below n) 0 text old mid new (omega (arith, here, length-below n)) so_far (subst (λ j. FailedAfter mid new (f j)) (sym (get_or-below n i 0 here)) failed)

pub number_all : (f : ℕ → List ℕ) (i n : ℕ) (text : List ℕ) (old new : SinkState) → n ≤ i → IsFrontOut (flat_map f (drop i (below n))) text old new → Wrote old new text
number_all f i n text old new past so_far = texts_all f i (below n) text old new (omega (arith, past, length-below n)) so_far

-- so many numbers from one on
abbrev from : ℕ → ℕ → List ℕ
from start zero = []
from start (suc n) = start ∷ from (start + 1) n

-- what is made of the elements of a list, where each is what is made of its place
from_place : {X Y : Type 0} (f : X → Y) (g : ℕ → Y) (start : ℕ) (xs : List X) → ((i : ℕ) (d : X) → i < length xs → f (get_or xs i d) ≡ g (start + i)) → map f xs ≡ map g (from start (length xs))
from_place f g start [] same = refl
from_place f g start (x ∷ xs) same =
    ap (λ y. y ∷ map f xs) (same 0 x (omega arith) ∙ ap g (omega arith))
    ∙ ap (λ ys. g start ∷ ys) (from_place f g (start + 1) xs (λ i d here. same (suc i) d (omega (arith, here)) ∙ ap g (omega arith)))

from_below : (start n : ℕ) → from start (suc n) ≡ from start n ++ (start + n) ∷ []
from_below start zero = ap (λ x. x ∷ []) (omega arith)
from_below start (suc n) = ap (λ xs. start ∷ xs) (from_below (start + 1) n) ∙ ap (λ x. start ∷ (from (start + 1) n ++ x ∷ [])) (omega arith)

below_is : (n : ℕ) → from 0 n ≡ below n
below_is zero = refl
below_is (suc n) = from_below 0 n ∙ ap (λ k. from 0 n ++ k ∷ []) (omega arith) ∙ ap (λ xs. xs ++ n ∷ []) (below_is n)

pub map_is : {X Y : Type 0} (f : X → Y) (g : ℕ → Y) (xs : List X) (n : ℕ) → length xs ≡ n → ((i : ℕ) (d : X) → i < length xs → f (get_or xs i d) ≡ g i) → map f xs ≡ map g (below n)
map_is f g xs n long same = from_place f g 0 xs (λ i d here. same i d here ∙ ap g (omega arith)) ∙ ap (map g) (below_is (length xs) ∙ ap below long)
