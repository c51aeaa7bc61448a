-- Places of names, one parameter after another.
use Rattle.std.proofs.Common.{◌≡◌, ℕ, ◌<◌, ◌+◌, ◌↔◌, IsNone, Bool, true, false, ◌||◌, cond, List, [], ◌∷◌, ◌++◌, length, take, drop, get_or, position, not, nat_lt, Option, Some, None, is_some, option_map, string_bytes, bytes_eq, refl, ap, sym, ◌∙◌, arith, suc, true≢false, length-take}
use Rattle.std.proofs.lemmas.Bool.Decides.{nat_tests}
use Rattle.std.proofs.lemmas.List.{take_more, drop_more, map_push, length-map}
use Rattle.std.proofs.lemmas.Slice.Eq.{bytes_eq-Decides}
use Rattle.std.specs.List.{list_any, position_or_len}
use Rattle.std.specs.Map.{update}
use Rattle.std.specs.Option.{option_or}
use Rattle.mls_model.specs.Studies.{Parameter}
use Rattle.mls_study.specs.Names.{is_called, place_in, duplicate_from}
use Rattle.mls_study.specs.Parameters.{seen, all_seen}
use Rattle.mls_study.proofs.Texts.{bytes_eq_comm}
use Rattle.mls_study.specs.declared.parameter.Parameter.{Parameter as Kept}

cons_case : (b : Bool) (n m : ℕ) → cond (nat_lt (cond (not b) (1 + n) 0) (suc m)) (Some (cond (not b) (1 + n) 0)) None ≡ cond b (Some 0) (option_map suc (cond (nat_lt n m) (Some n) None))
cons_case true n m = grind (arith, nat_tests)
cons_case false n m = grind (arith, nat_tests)

position_cons : {A : Type 0} (p : A → Bool) (x : A) (xs : List A) → position p (x ∷ xs) ≡ cond (p x) (Some 0) (option_map suc (position p xs))
position_cons p x xs = cons_case (p x) (position_or_len p xs) (length xs)

some_case : (b : Bool) (o : Option ℕ) → is_some (cond b (Some 0) (option_map suc o)) ≡ (b || is_some o)
some_case true o = refl
some_case false None = refl
some_case false (Some n) = refl

-- an element is found exactly where one passes
pub is_some_position : {A : Type 0} (p : A → Bool) (xs : List A) → is_some (position p xs) ≡ list_any p xs
is_some_position p [] = refl
is_some_position p (x ∷ xs) = ap is_some (position_cons p x xs) ∙ some_case (p x) (position p xs) ∙ ap (λ b. p x || b) (is_some_position p xs)

push_case : (b : Bool) (o : Option ℕ) (c : Bool) (n : ℕ) → cond b (Some 0) (option_map suc (option_or o (cond c (Some n) None))) ≡ option_or (cond b (Some 0) (option_map suc o)) (cond c (Some (suc n)) None)
push_case true o c n = refl
push_case false (Some m) c n = refl
push_case false None true n = refl
push_case false None false n = refl

position_push : {A : Type 0} (p : A → Bool) (xs : List A) (y : A) → position p (xs ++ y ∷ []) ≡ option_or (position p xs) (cond (p y) (Some (length xs)) None)
position_push p [] y = position_cons p y []
position_push p (x ∷ xs) y =
    position_cons p x (xs ++ y ∷ [])
    ∙ ap (λ o. cond (p x) (Some 0) (option_map suc o)) (position_push p xs y)
    ∙ push_case (p x) (position p xs) (p y) (length xs)
    ∙ ap (λ o. option_or o (cond (p y) (Some (suc (length xs))) None)) (sym (position_cons p x xs))

placed_case : (b : Bool) (old : Option ℕ) (n : ℕ) → (b ≡ true → is_some old ≡ false) → cond b (Some n) old ≡ option_or old (cond b (Some n) None)
placed_case true None n absent = refl
placed_case true (Some m) n absent = absurd (true≢false (absent refl))
placed_case false None n absent = refl
placed_case false (Some m) n absent = refl

-- a map that gets the place of one more name
pub placed_more : (old new : List ℕ → Option ℕ) (before : List Parameter) (p : Parameter) (n : ℕ) → length before ≡ n
    → ((q : List ℕ) → old q ≡ place_in q before) → is_some (old p.name) ≡ false → ((q : List ℕ) → new q ≡ update bytes_eq old p.name (Some n) q)
    → (q : List ℕ) → new q ≡ place_in q (before ++ p ∷ [])
placed_more old new before p n len kept absent updated q =
    updated q
    ∙ placed_case (bytes_eq p.name q) (old q) n (λ e. ap (λ r. is_some (old r)) (sym ((bytes_eq-Decides p.name q).0 e)) ∙ absent)
    ∙ ap (λ o. option_or o (cond (bytes_eq p.name q) (Some n) None)) (kept q)
    ∙ ap (λ b. option_or (place_in q before) (cond b (Some n) None)) (bytes_eq_comm p.name q)
    ∙ ap (λ m. option_or (place_in q before) (cond (bytes_eq q p.name) (Some m) None)) (sym len)
    ∙ sym (position_push (is_called q) before p)

module _ (xs : List Kept) (i : ℕ) (x : Kept) (within : i < length xs) (is : x ≡ get_or xs i x) where
  pub seen_take : all_seen (take (i + 1) xs) ≡ all_seen (take i xs) ++ seen x ∷ []
  seen_take = ap all_seen (take_more xs i x within) ∙ map_push seen (take i xs) (get_or xs i x) ∙ ap (λ (y : Kept). all_seen (take i xs) ++ seen y ∷ []) (sym is)

  seen_drop : all_seen (drop i xs) ≡ seen x ∷ all_seen (drop (i + 1) xs)
  seen_drop = ap all_seen (drop_more xs i x within) ∙ ap (λ (y : Kept). seen y ∷ all_seen (drop (i + 1) xs)) (sym is)

  pub seen_len : length (all_seen (take i xs)) ≡ i
  seen_len = omega (arith, length-map {A = Kept} {B = Parameter}, length-take i xs)

  -- the name stands at an earlier place
  pub duplicate_here : list_any (is_called (string_bytes x.name)) (all_seen (take i xs)) ≡ true → duplicate_from (all_seen (take i xs)) (all_seen (drop i xs)) ≡ Some i
  unfolding duplicate_from
  duplicate_here called = rw (seen_drop, called) (ap Some seen_len)

  -- or it doesn't
  pub duplicate_later : list_any (is_called (string_bytes x.name)) (all_seen (take i xs)) ≡ false → duplicate_from (all_seen (take (i + 1) xs)) (all_seen (drop (i + 1) xs)) ≡ duplicate_from (all_seen (take i xs)) (all_seen (drop i xs))
  unfolding duplicate_from
  duplicate_later called = rw (seen_drop, called, seen_take) refl

-- no element is found exactly where none passes
pub none_passes : {A : Type 0} (p : A → Bool) (xs : List A) (found : Option ℕ) → found ≡ position p xs → IsNone found ↔ (list_any p xs ≡ false)
none_passes p xs None e = (λ _. sym (is_some_position p xs) ∙ ap is_some (sym e), λ _. refl)
none_passes p xs (Some n) e = (λ none. absurd (true≢false none), λ h. absurd (true≢false (ap is_some e ∙ is_some_position p xs ∙ h)))
