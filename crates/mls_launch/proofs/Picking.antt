-- Which actions of a list are of one group.
use Rattle.std.proofs.Common.{◌≡◌, ℕ, zero, suc, ◌+◌, ◌<◌, ◌≤◌, Bool, true, false, List, [], ◌∷◌, ◌++◌, length, take, map, refl, sym, ap, ◌∙◌, subst, ltb, inl, inr, ◌⊎◌, arith, length-append}
use Rattle.std.specs.Prelude.{cond, ◌&&◌, ◌==◌}
use Rattle.std.specs.List.{filter}
use Rattle.std.proofs.lemmas.Bool.{cases_lt, cases_eq}
use Rattle.std.proofs.lemmas.Bool.Decides.{nat_tests}
use Rattle.std.proofs.lemmas.List.{append-nil, take-append-le, take_all, map-append}
use Rattle.std.proofs.lemmas.List.Elements.{filter-append}
use Rattle.std.proofs.Math.Seq.{take-nil}
use Rattle.mls_model.specs.Numbers.{below}
use Rattle.mls_model.specs.declared.launcher.Action.{Action}
use Rattle.mls_model.specs.declared.launcher.Action.TheVariants.{RestartRank}
use Rattle.mls_model.specs.Pasts.{is_of}

pub eq_same : (n : ℕ) → (n == n) ≡ true
eq_same n = grind (arith, nat_tests)

pub eq_other : (m n : ℕ) → (m ≡ n → ⊥) → (m == n) ≡ false
eq_other m n h = grind (arith, nat_tests)

pub eq_true : (m n : ℕ) → (m == n) ≡ true → m ≡ n
eq_true m n h = grind (arith, nat_tests)

pub lt_true : (m n : ℕ) → ltb m n ≡ true → m < n
lt_true m n h = grind (arith, nat_tests)

pub lt_false : (m n : ℕ) → ltb m n ≡ false → n ≤ m
lt_false m n h = grind (arith, nat_tests)

pub lt_yes : (m n : ℕ) → m < n → ltb m n ≡ true
lt_yes m n h = grind (arith, nat_tests)

pub lt_no : (m n : ℕ) → n ≤ m → ltb m n ≡ false
lt_no m n h = grind (arith, nat_tests)

-- the numbers below n that pass a test, one more
pub filter_suc : (t : ℕ → Bool) (n : ℕ) → filter t (below (suc n)) ≡ filter t (below n) ++ cond (t n) (n ∷ []) []
filter_suc t n = filter-append t (below n) (n ∷ [])

picks_suc : (g n : ℕ) (act : ℕ → Action) (t : ℕ → Bool) → filter (is_of g) (map act (filter t (below (suc n)))) ≡ filter (is_of g) (map act (filter t (below n))) ++ filter (is_of g) (map act (cond (t n) (n ∷ []) []))
picks_suc g n act t =
    ap (λ l. filter (is_of g) (map act l)) (filter_suc t n)
    ∙ ap (filter (is_of g)) (map-append act (filter t (below n)) (cond (t n) (n ∷ []) []))
    ∙ filter-append (is_of g) (map act (filter t (below n))) (map act (cond (t n) (n ∷ []) []))

last_pick_no : (g n : ℕ) (act : ℕ → Action) (b : Bool) → is_of g (act n) ≡ false → filter (is_of g) (map act (cond b (n ∷ []) [])) ≡ []
last_pick_no g n act true e = ap (λ c. cond c (act n ∷ []) []) e
last_pick_no g n act false e = refl

last_pick_yes : (g n : ℕ) (act : ℕ → Action) (b : Bool) → is_of g (act n) ≡ true → filter (is_of g) (map act (cond b (n ∷ []) [])) ≡ cond b (act n ∷ []) []
last_pick_yes g n act true e = ap (λ c. cond c (act n ∷ []) []) e
last_pick_yes g n act false e = refl

pub not_picked : (g n : ℕ) (act : ℕ → Action) (t : ℕ → Bool) → ((k : ℕ) → is_of g (act k) ≡ (k == g)) → n ≤ g → filter (is_of g) (map act (filter t (below n))) ≡ []
not_picked g zero act t own h = refl
not_picked g (suc n) act t own h =
    let ne : n ≡ g → ⊥ = omega arith in
    let le : n ≤ g = omega arith in
    picks_suc g n act t
    ∙ ap (λ l. l ++ filter (is_of g) (map act (cond (t n) (n ∷ []) []))) (not_picked g n act t own le)
    ∙ last_pick_no g n act (t n) (own n ∙ eq_other n g ne)

-- Each action is of the number that it is made of. So of the actions of the numbers that pass a test, those of
-- a group are the one of its own number, where that passes.
pub picked : (g n : ℕ) (act : ℕ → Action) (t : ℕ → Bool) → ((k : ℕ) → is_of g (act k) ≡ (k == g)) → g < n → filter (is_of g) (map act (filter t (below n))) ≡ cond (t g) (act g ∷ []) []
picked g zero act t own h = absurd (omega arith)
picked g (suc n) act t own h = elim (cases_eq n g) [
  | inl e ↦
      let le : n ≤ g = omega arith in
      let P : ℕ → Type 0 = λ k. filter (is_of g) (map act (filter t (below (suc n)))) ≡ cond (t k) (act k ∷ []) [] in
      subst P e (picks_suc g n act t
      ∙ ap (λ l. l ++ filter (is_of g) (map act (cond (t n) (n ∷ []) []))) (not_picked g n act t own le)
      ∙ last_pick_yes g n act (t n) (own n ∙ ap (λ k. k == g) e ∙ eq_same g))
  | inr ne ↦
      let lt : g < n = omega arith in
      picks_suc g n act t
      ∙ ap (λ l. l ++ filter (is_of g) (map act (cond (t n) (n ∷ []) []))) (picked g n act t own lt)
      ∙ ap (λ l. cond (t g) (act g ∷ []) [] ++ l) (last_pick_no g n act (t n) (own n ∙ eq_other n g ne))
      ∙ append-nil (cond (t g) (act g ∷ []) [])
]

pub none_of_ranks : (g : ℕ) (ranks : List ℕ) → filter (is_of g) (map (λ r. RestartRank r) ranks) ≡ []
none_of_ranks g [] = refl
none_of_ranks g (r ∷ ranks) = none_of_ranks g ranks

-- two choices that agree
pub same_filter : (p q : ℕ → Bool) (n : ℕ) → ((k : ℕ) → k < n → p k ≡ q k) → filter p (below n) ≡ filter q (below n)
same_filter p q zero same = refl
same_filter p q (suc n) same =
    filter_suc p n
    ∙ ap (λ l. l ++ cond (p n) (n ∷ []) []) (same_filter p q n (λ k h. same k (omega arith)))
    ∙ ap (λ b. filter q (below n) ++ cond b (n ∷ []) []) (same n (omega arith))
    ∙ sym (filter_suc q n)

same_one : (act bct : ℕ → Action) (b : Bool) (n : ℕ) → (b ≡ true → act n ≡ bct n) → map act (cond b (n ∷ []) []) ≡ map bct (cond b (n ∷ []) [])
same_one act bct true n same = ap (λ a. a ∷ []) (same refl)
same_one act bct false n same = refl

pub same_choice : (p q : ℕ → Bool) (act bct : ℕ → Action) (n : ℕ) → ((k : ℕ) → k < n → p k ≡ q k) → ((k : ℕ) → k < n → q k ≡ true → act k ≡ bct k) → map act (filter p (below n)) ≡ map bct (filter q (below n))
same_choice p q act bct zero same alike = refl
same_choice p q act bct (suc n) same alike =
    ap (map act) (filter_suc p n)
    ∙ map-append act (filter p (below n)) (cond (p n) (n ∷ []) [])
    ∙ ap (λ l. l ++ map act (cond (p n) (n ∷ []) [])) (same_choice p q act bct n (λ k h. same k (omega arith)) (λ k h. alike k (omega arith)))
    ∙ ap (λ b. map bct (filter q (below n)) ++ map act (cond b (n ∷ []) [])) (same n (omega arith))
    ∙ ap (λ l. map bct (filter q (below n)) ++ l) (same_one act bct (q n) n (alike n (omega arith)))
    ∙ sym (map-append bct (filter q (below n)) (cond (q n) (n ∷ []) []))
    ∙ sym (ap (map bct) (filter_suc q n))

-- how many pass
count_one : (b : Bool) (n : ℕ) → length (cond b (n ∷ []) []) ≡ cond b 1 0
count_one true n = refl
count_one false n = refl

pub count_suc : (p : ℕ → Bool) (n : ℕ) → length (filter p (below (suc n))) ≡ length (filter p (below n)) + cond (p n) 1 0
count_suc p n = ap length (filter_suc p n) ∙ length-append (filter p (below n)) (cond (p n) (n ∷ []) []) ∙ ap (λ k. length (filter p (below n)) + k) (count_one (p n) n)

one_le : (a b c : Bool) → (a ≡ true → (b ≡ true) ⊎ (c ≡ true)) → (x y z : ℕ) → x ≤ y + z → (x + cond a 1 0) ≤ ((y + cond b 1 0) + (z + cond c 1 0))
one_le true true c why x y z h = omega arith
one_le true false true why x y z h = omega arith
one_le true false false why x y z h = elim (why refl) [ inl e ↦ cc | inr e ↦ cc ]
one_le false b c why x y z h = omega arith

pub count_either : (r p q : ℕ → Bool) (n : ℕ) → ((k : ℕ) → k < n → r k ≡ true → (p k ≡ true) ⊎ (q k ≡ true)) → length (filter r (below n)) ≤ length (filter p (below n)) + length (filter q (below n))
count_either r p q zero either = omega arith
count_either r p q (suc n) either =
    rw (count_suc r n, count_suc p n, count_suc q n) (one_le (r n) (p n) (q n) (either n (omega arith)) (length (filter r (below n))) (length (filter p (below n))) (length (filter q (below n))) (count_either r p q n (λ k h. either k (omega arith))))

pub none_pass : (n : ℕ) → length (filter (λ k. false) (below n)) ≡ 0
none_pass zero = refl
none_pass (suc n) = count_suc (λ k. false) n ∙ ap (λ k. k + 0) (none_pass n)

pub count_mono : (r p : ℕ → Bool) (n : ℕ) → ((k : ℕ) → k < n → r k ≡ true → p k ≡ true) → length (filter r (below n)) ≤ length (filter p (below n))
count_mono r p n more = omega (arith, count_either r p (λ k. false) n (λ k h t. inl (more k h t)), none_pass n)

-- The first so many that pass are those before which fewer pass.
abbrev pub among_first : ℕ → (ℕ → Bool) → ℕ → Bool
among_first room p k = p k && ltb (length (filter p (below k))) room

first_one : (room : ℕ) (p : ℕ → Bool) (n : ℕ) (b : Bool) → p n ≡ b → (room ≤ length (filter p (below n))) ⊎ (length (filter p (below n)) < room) → take room (filter p (below n) ++ cond b (n ∷ []) []) ≡ take room (filter p (below n)) ++ cond (among_first room p n) (n ∷ []) []
first_one room p n false e why = ap (take room) (append-nil (filter p (below n))) ∙ sym (append-nil (take room (filter p (below n)))) ∙ ap (λ c. take room (filter p (below n)) ++ cond (c && ltb (length (filter p (below n))) room) (n ∷ []) []) (sym e)
first_one room p n true e (inl full) =
    take-append-le room (filter p (below n)) (n ∷ []) full
    ∙ sym (append-nil (take room (filter p (below n))))
    ∙ ap (λ c. take room (filter p (below n)) ++ cond c (n ∷ []) []) (sym (ap (λ c. c && ltb (length (filter p (below n))) room) e ∙ lt_no (length (filter p (below n))) room full))
first_one room p n true e (inr free) =
    take_all room (filter p (below n) ++ n ∷ []) (omega (arith, length-append (filter p (below n)) (n ∷ [])))
    ∙ ap (λ l. l ++ n ∷ []) (sym (take_all room (filter p (below n)) (omega arith)))
    ∙ ap (λ c. take room (filter p (below n)) ++ cond c (n ∷ []) []) (sym (ap (λ c. c && ltb (length (filter p (below n))) room) e ∙ lt_yes (length (filter p (below n))) room free))

room_or_none : (m n : ℕ) → (m ≤ n) ⊎ (n < m)
room_or_none m n = elim (cases_lt n m) [ inl lt ↦ inr lt | inr le ↦ inl le ]

pub first_so_many : (room : ℕ) (p : ℕ → Bool) (n : ℕ) → take room (filter p (below n)) ≡ filter (among_first room p) (below n)
first_so_many room p zero = take-nil room
first_so_many room p (suc n) =
    ap (take room) (filter_suc p n)
    ∙ first_one room p n (p n) refl (room_or_none room (length (filter p (below n))))
    ∙ ap (λ l. l ++ cond (among_first room p n) (n ∷ []) []) (first_so_many room p n)
    ∙ sym (filter_suc (among_first room p) n)
