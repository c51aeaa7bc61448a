-- The three recursions over places, for a list with one more element at its end.
use Rattle.std.proofs.Common.{◌≡◌, Bool, true, false, ◌&&◌, ◌||◌, List, [], ◌∷◌, ◌++◌, refl, ap, sym, ◌∙◌, append_assoc, subst}
use Rattle.std.proofs.lemmas.List.{append-nil}
use Rattle.std.proofs.lemmas.Bool.{or_left, or_right}
use Rattle.mls_model.specs.Places.{gathered, any_place, all_places}

-- what comes after an element that moved to the list before
pub moved : {A : Type 0} (before : List A) (x : A) (rest : List A) → (before ++ x ∷ []) ++ rest ≡ before ++ x ∷ rest
moved before x rest = append_assoc before (x ∷ []) rest

or_false : (b : Bool) → (b || false) ≡ b
or_false true = refl
or_false false = refl

and_true : (b : Bool) → (b && true) ≡ b
and_true true = refl
and_true false = refl

pub or_assoc : (a b c : Bool) → (a || (b || c)) ≡ ((a || b) || c)
or_assoc true b c = refl
or_assoc false b c = refl

pub and_assoc : (a b c : Bool) → (a && (b && c)) ≡ ((a && b) && c)
and_assoc true b c = refl
and_assoc false b c = refl

pub gathered_more : {A B : Type 0} (give : List A → A → List B) (before xs : List A) (e : A) → gathered give before (xs ++ e ∷ []) ≡ gathered give before xs ++ give (before ++ xs) e
unfolding gathered
gathered_more give before [] e = append-nil (give before e) ∙ ap (λ b. give b e) (sym (append-nil before))
gathered_more give before (x ∷ xs) e =
    ap (λ r. give before x ++ r) (gathered_more give (before ++ x ∷ []) xs e)
    ∙ (sym (append_assoc (give before x) (gathered give (before ++ x ∷ []) xs) (give ((before ++ x ∷ []) ++ xs) e))
    ∙ ap (λ b. (give before x ++ gathered give (before ++ x ∷ []) xs) ++ give b e) (moved before x xs))

pub any_place_more : {A : Type 0} (test : List A → A → Bool) (before xs : List A) (e : A) → any_place test before (xs ++ e ∷ []) ≡ (any_place test before xs || test (before ++ xs) e)
unfolding any_place
any_place_more test before [] e = or_false (test before e) ∙ ap (λ b. test b e) (sym (append-nil before))
any_place_more test before (x ∷ xs) e =
    ap (λ r. test before x || r) (any_place_more test (before ++ x ∷ []) xs e)
    ∙ (or_assoc (test before x) (any_place test (before ++ x ∷ []) xs) (test ((before ++ x ∷ []) ++ xs) e)
    ∙ ap (λ b. (test before x || any_place test (before ++ x ∷ []) xs) || test b e) (moved before x xs))

pub all_places_more : {A : Type 0} (test : List A → A → Bool) (before xs : List A) (e : A) → all_places test before (xs ++ e ∷ []) ≡ (all_places test before xs && test (before ++ xs) e)
unfolding all_places
all_places_more test before [] e = and_true (test before e) ∙ ap (λ b. test b e) (sym (append-nil before))
all_places_more test before (x ∷ xs) e =
    ap (λ r. test before x && r) (all_places_more test (before ++ x ∷ []) xs e)
    ∙ (and_assoc (test before x) (all_places test (before ++ x ∷ []) xs) (test ((before ++ x ∷ []) ++ xs) e)
    ∙ ap (λ b. (test before x && all_places test (before ++ x ∷ []) xs) && test b e) (moved before x xs))

-- what no places give in the middle of a list
pub gathered_append : {A B : Type 0} (give : List A → A → List B) (before xs ys : List A) → gathered give before (xs ++ ys) ≡ gathered give before xs ++ gathered give (before ++ xs) ys
unfolding gathered
gathered_append give before [] ys = ap (λ b. gathered give b ys) (sym (append-nil before))
gathered_append give before (x ∷ xs) ys =
    ap (λ r. give before x ++ r) (gathered_append give (before ++ x ∷ []) xs ys)
    ∙ (sym (append_assoc (give before x) (gathered give (before ++ x ∷ []) xs) (gathered give ((before ++ x ∷ []) ++ xs) ys))
    ∙ ap (λ b. (give before x ++ gathered give (before ++ x ∷ []) xs) ++ gathered give b ys) (moved before x xs))

pub any_place_append : {A : Type 0} (test : List A → A → Bool) (before xs ys : List A) → any_place test before (xs ++ ys) ≡ (any_place test before xs || any_place test (before ++ xs) ys)
unfolding any_place
any_place_append test before [] ys = ap (λ b. any_place test b ys) (sym (append-nil before))
any_place_append test before (x ∷ xs) ys =
    ap (λ r. test before x || r) (any_place_append test (before ++ x ∷ []) xs ys)
    ∙ (or_assoc (test before x) (any_place test (before ++ x ∷ []) xs) (any_place test ((before ++ x ∷ []) ++ xs) ys)
    ∙ ap (λ b. (test before x || any_place test (before ++ x ∷ []) xs) || any_place test b ys) (moved before x xs))

-- an element among others passes the test at its place
pub any_place_there : {A : Type 0} (test : List A → A → Bool) (xs : List A) (x : A) (ys : List A) → test xs x ≡ true → any_place test [] (xs ++ x ∷ ys) ≡ true
unfolding any_place
any_place_there test xs x ys h =
    any_place_append test [] xs (x ∷ ys) ∙ or_right (any_place test [] xs) (test xs x || any_place test (xs ++ x ∷ []) ys) (or_left (test xs x) (any_place test (xs ++ x ∷ []) ys) h)

-- what holds of no elements and with each more at the end holds of every list
from_front : {A : Type 0} (P : List A → Type 0) → ((xs : List A) (x : A) → P xs → P (xs ++ x ∷ [])) → (before xs : List A) → P before → P (before ++ xs)
from_front P step before [] h = subst P (sym (append-nil before)) h
from_front P step before (x ∷ xs) h = subst P (moved before x xs) (from_front P step (before ++ x ∷ []) xs (step before x h))

pub from_end : {A : Type 0} (P : List A → Type 0) → P [] → ((xs : List A) (x : A) → P xs → P (xs ++ x ∷ [])) → (xs : List A) → P xs
from_end P none step xs = from_front P step [] xs none
