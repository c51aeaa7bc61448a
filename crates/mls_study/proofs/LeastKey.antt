-- The least of some keys, found one key after another.
use Rattle.std.proofs.Common.{Ordering, Less, Equal, Greater, ◌≡◌, ℕ, Bool, true, false, not, ◌||◌, cond, List, [], ◌∷◌, ◌++◌, Option, None, Some, bytes_eq, refl, sym, ap, ◌∙◌, true≢false, inl, inr}
use Rattle.std.proofs.lemmas.Bool.{cases_Bool, or_parts}
use Rattle.std.proofs.lemmas.Cmp.{nat_list_cmp_total}
use Rattle.std.proofs.lemmas.List.{append_assoc, append-nil}
use Rattle.std.proofs.lemmas.List.Folds.{list_any-append}
use Rattle.std.proofs.lemmas.Map.Lookups.{exact_bytes}
use Rattle.std.proofs.lemmas.Slice.Eq.{bytes_eq-Decides}
use Rattle.std.specs.Cmp.Lexicographic.{slice_cmp}
use Rattle.std.specs.List.{list_any, find}
use Rattle.std.specs.Ordering.{nat_cmp, is_lt, ordering_reverse}
use Rattle.mls_study.specs.UnknownKeys.{is_known_key, unknown_of, comes_before, none_before, least_of, lesser_of}
use Rattle.mls_study.specs.declared.unknown_keys.TableKind.{TableKind}

-- the least unknown key of some keys and the least one before them
unfoldable pub least_with : TableKind → Option (List ℕ) → List (List ℕ) → Option (List ℕ)
least_with kind o [] = o
least_with kind o (k ∷ ks) = cond (is_known_key kind k) (least_with kind o ks) (least_with kind (Some (lesser_of o k)) ks)

abbrev order : List ℕ → List ℕ → Ordering
order a b = slice_cmp nat_cmp a b

-- o is the least of the keys
abbrev IsLeast : List (List ℕ) → Option (List ℕ) → Type 0
IsLeast ks None = ks ≡ []
IsLeast ks (Some l) = (list_any (bytes_eq l) ks ≡ true) × (list_any (λ k. comes_before k l) ks ≡ false)

-- ---- the order of bytes

less_is : (o : Ordering) → is_lt o ≡ true → o ≡ Less
less_is Less h = refl
less_is Equal h = absurd (true≢false (sym h))
less_is Greater h = absurd (true≢false (sym h))

reversed : (o p : Ordering) → o ≡ ordering_reverse p → is_lt o ≡ false → is_lt p ≡ false → o ≡ Equal
reversed Less Less e a b = absurd (true≢false a)
reversed Less Equal e a b = absurd (true≢false a)
reversed Less Greater e a b = absurd (true≢false a)
reversed Equal p e a b = refl
reversed Greater Less e a b = absurd (true≢false b)
reversed Greater Equal e a b = e
reversed Greater Greater e a b = absurd (true≢false (sym (ap is_lt e)))

-- two keys of which neither comes before the other are the same
same_key : (a b : List ℕ) → comes_before a b ≡ false → comes_before b a ≡ false → a ≡ b
same_key a b x y = exact_bytes a b (reversed (order a b) (order b a) (nat_list_cmp_total.antisymm a b) x y)

before_trans : (a b c : List ℕ) → comes_before a b ≡ true → comes_before b c ≡ true → comes_before a c ≡ true
before_trans a b c x y = ap is_lt (nat_list_cmp_total.trans a b c (less_is (order a b) x) (less_is (order b c) y))

itself_true : (o : Ordering) → o ≡ ordering_reverse o → is_lt o ≡ false
itself_true Less e = ap is_lt e
itself_true Equal e = refl
itself_true Greater e = refl

not_itself : (a : List ℕ) → comes_before a a ≡ false
not_itself a = itself_true (order a a) (nat_list_cmp_total.antisymm a a)

itself : (a : List ℕ) → bytes_eq a a ≡ true
itself a = (bytes_eq-Decides a a).1 refl

-- ---- tests over lists

or_right : (a b : Bool) → b ≡ true → (a || b) ≡ true
or_right true b h = refl
or_right false b h = h

not_true : (b : Bool) → not b ≡ true → b ≡ false
not_true true h = absurd (true≢false (sym h))
not_true false h = refl

-- a key of the list passes no test that none passes
stands : (p : List ℕ → Bool) (l : List ℕ) (ks : List (List ℕ)) → list_any (bytes_eq l) ks ≡ true → list_any p ks ≡ false → p l ≡ false
stands p l [] among none = absurd (true≢false (sym among))
stands p l (k ∷ ks) among none =
    let (here, more) = or_parts (p k) (list_any p ks) none in
    elim (cases_Bool (bytes_eq l k)) [
      | inl t ↦ ap p ((bytes_eq-Decides l k).0 t) ∙ here
      | inr f ↦ stands p l ks (sym (ap (λ b. b || list_any (bytes_eq l) ks) f) ∙ among) more
    ]

-- the only key of the list that passes is the one that is found
found : (p : List ℕ → Bool) (l : List ℕ) (ks : List (List ℕ)) → list_any (bytes_eq l) ks ≡ true → p l ≡ true → ((k : List ℕ) → list_any (bytes_eq k) ks ≡ true → p k ≡ true → k ≡ l) → find p ks ≡ Some l
found p l [] among passes only = absurd (true≢false (sym among))
found p l (k ∷ ks) among passes only =
    elim (cases_Bool (p k)) [
      | inl t ↦ rw (t) (ap Some (only k (ap (λ b. b || list_any (bytes_eq k) ks) (itself k)) t))
      | inr f ↦
          let other : bytes_eq l k ≡ false = elim (cases_Bool (bytes_eq l k)) [
            | inl e ↦ absurd (true≢false (sym passes ∙ ap p ((bytes_eq-Decides l k).0 e) ∙ f))
            | inr n ↦ n
          ] in
          rw (f) (found p l ks (sym (ap (λ b. b || list_any (bytes_eq l) ks) other) ∙ among) passes (λ x here. only x (or_right (bytes_eq x k) (list_any (bytes_eq x) ks) here)))
    ]

-- ---- the least key

least_is : (ks : List (List ℕ)) (o : Option (List ℕ)) → IsLeast ks o → least_of ks ≡ o
unfolding least_of
least_is ks None h = ap (λ (xs : List (List ℕ)). find (none_before xs) xs) h
least_is ks (Some l) h =
    found (none_before ks) l ks h.0 (ap not h.1) (λ k here free. same_key k l (stands (λ x. comes_before x l) k ks here h.1) (stands (λ x. comes_before x k) l ks h.0 (not_true (list_any (λ x. comes_before x k) ks) free)))

-- what comes before an earlier key comes before a later one
none_earlier : (k l : List ℕ) (ks : List (List ℕ)) → comes_before k l ≡ true → list_any (λ x. comes_before x l) ks ≡ false → list_any (λ x. comes_before x k) ks ≡ false
none_earlier k l [] earlier none = refl
none_earlier k l (x ∷ xs) earlier none =
    let (here, more) = or_parts (comes_before x l) (list_any (λ y. comes_before y l) xs) none in
    let first : comes_before x k ≡ false = elim (cases_Bool (comes_before x k)) [
      | inl t ↦ absurd (true≢false (sym (before_trans x k l t earlier) ∙ here))
      | inr f ↦ f
    ] in
    rw (first) (none_earlier k l xs earlier more)

at_end : (p : List ℕ → Bool) (ks : List (List ℕ)) (k : List ℕ) (a b : Bool) → list_any p ks ≡ a → p k ≡ b → list_any p (ks ++ k ∷ []) ≡ (a || (b || false))
at_end p ks k a b front last = list_any-append p ks (k ∷ []) ∙ ap (λ c. c || (p k || false)) front ∙ ap (λ c. a || (c || false)) last

one_more : (ks : List (List ℕ)) (o : Option (List ℕ)) (k : List ℕ) → IsLeast ks o → IsLeast (ks ++ k ∷ []) (Some (lesser_of o k))
one_more ks None k h =
    let front : (p : List ℕ → Bool) → list_any p ks ≡ false = λ p. ap (λ (xs : List (List ℕ)). list_any p xs) h in
    (at_end (bytes_eq k) ks k false true (front (bytes_eq k)) (itself k), at_end (λ x. comes_before x k) ks k false false (front (λ x. comes_before x k)) (not_itself k))
one_more ks (Some l) k h =
    elim (cases_Bool (comes_before k l)) [
      | inl t ↦ rw (t) (list_any-append (bytes_eq k) ks (k ∷ []) ∙ or_right (list_any (bytes_eq k) ks) (bytes_eq k k || false) (ap (λ b. b || false) (itself k)), at_end (λ x. comes_before x k) ks k false false (none_earlier k l ks t h.1) (not_itself k))
      | inr f ↦ rw (f) (list_any-append (bytes_eq l) ks (k ∷ []) ∙ ap (λ b. b || (bytes_eq l k || false)) h.0, at_end (λ x. comes_before x l) ks k false false h.1 f)
    ]

with_more : (kind : TableKind) (ks before : List (List ℕ)) (o : Option (List ℕ)) → IsLeast before o → IsLeast (before ++ unknown_of kind ks) (least_with kind o ks)
unfolding least_with
with_more kind [] before o h = rw (append-nil before) h
with_more kind (k ∷ ks) before o h =
    elim (cases_Bool (is_known_key kind k)) [
      | inl t ↦ rw (t) (with_more kind ks before o h)
      | inr f ↦ rw (f, sym (append_assoc before (k ∷ []) (unknown_of kind ks))) (with_more kind ks (before ++ k ∷ []) (Some (lesser_of o k)) (one_more before o k h))
    ]

-- one key after another, the least unknown key of all is found
pub least_found : (kind : TableKind) (keys : List (List ℕ)) → least_with kind None keys ≡ least_of (unknown_of kind keys)
least_found kind keys = sym (least_is (unknown_of kind keys) (least_with kind None keys) (with_more kind keys [] None refl))
