-- Which keys are completed, and where.
use Rattle.std.proofs.Common.{◌≡◌, ℕ, ◌<◌, ◌≢◌, Bool, true, false, not, ◌&&◌, ◌||◌, cond, List, [], ◌∷◌, ◌++◌, length, get_or, refl, ap, sym, ◌∙◌, ⊎_elim, ◌⊎◌, inl, inr, subst, arith}
use Rattle.std.specs.Prelude.{◌==◌}
use Rattle.std.specs.List.{list_any, AllPairs}
use Rattle.std.proofs.lemmas.List.Folds.{list_any-append, list_any_at}
use Rattle.std.proofs.lemmas.List.Quantifiers.{all_pairs_push}
use Rattle.std.proofs.lemmas.List.{append-nil}
use Rattle.std.proofs.lemmas.Bool.{cases_Bool, and_parts, and_from, eqb-true, eq-eqb, both_ways, not-true}
use Rattle.mls_model.specs.Places.{gathered, any_place}
use Rattle.mls_model.specs.Studies.{Sizes}
use Rattle.mls_model.specs.Frames.{Piece}
use Rattle.mls_model.specs.Completion.{Key, key_of, is_of_key, makes_whole, is_completed, completes}
use Rattle.mls_model.specs.AcceptedRows.{completions, accepted}
use Rattle.mls_laws.proofs.Places.{gathered_more, any_place_more, any_place_there, from_end}

pub same_key : (key : Key) (p : Piece) → is_of_key key p ≡ true → key_of p ≡ key
same_key key p h =
    let parts = and_parts (p.group == key.group) (p.plane == key.plane) h in
    let group : p.group ≡ key.group = eqb-true p.group key.group parts.0 in
    let plane : p.plane ≡ key.plane = eqb-true p.plane key.plane parts.1 in
    ap (λ (g : ℕ). let k : Key = record { group = g; plane = p.plane } in k) group ∙ ap (λ (t : ℕ). let k : Key = record { group = key.group; plane = t } in k) plane

pub own_key : (p : Piece) → is_of_key (key_of p) p ≡ true
own_key p = and_from _ _ (eq-eqb p.group p.group refl) (eq-eqb p.plane p.plane refl)

pub completions_more : {B : Type 0} (s : Sizes) (rank plane : ℕ) (give : List Piece → Piece → B) (pieces : List Piece) (p : Piece)
    → completions s rank plane give (pieces ++ p ∷ []) ≡ completions s rank plane give pieces ++ cond ((p.plane == plane) && completes s rank pieces p) (give pieces p ∷ []) []
unfolding completions
completions_more s rank plane give pieces p = gathered_more (λ before q. cond ((q.plane == plane) && completes s rank before q) (give before q ∷ []) []) [] pieces p

pub is_completed_more : (s : Sizes) (rank : ℕ) (key : Key) (pieces : List Piece) (p : Piece)
    → is_completed s rank key (pieces ++ p ∷ []) ≡ (is_completed s rank key pieces || (is_of_key key p && makes_whole s rank pieces p))
unfolding is_completed
is_completed_more s rank key pieces p = any_place_more (λ before q. is_of_key key q && makes_whole s rank before q) [] pieces p

pub accepted_more : (s : Sizes) (rank plane : ℕ) (pieces : List Piece) (p : Piece)
    → accepted s rank plane (pieces ++ p ∷ []) ≡ accepted s rank plane pieces ++ cond ((p.plane == plane) && completes s rank pieces p) (p.group ∷ []) []
unfolding accepted
accepted_more s rank plane pieces p = completions_more s rank plane (λ before q. q.group) pieces p

pub closed : (b : Bool) → (b && not true) ≡ false
closed true = refl
closed false = refl

-- the test of a place that completes the key
abbrev pub completes_key : Sizes → ℕ → Key → List Piece → Piece → Bool
completes_key s rank key before p = is_of_key key p && completes s rank before p

or_taken : (done here whole : Bool) → (done || (here && whole)) ≡ (done || (here && (whole && not done)))
or_taken true here whole = refl
or_taken false true true = refl
or_taken false true false = refl
or_taken false false whole = refl

or_key : (s : Sizes) (rank : ℕ) (key : Key) (pieces : List Piece) (p : Piece)
    → (is_completed s rank key pieces || (is_of_key key p && makes_whole s rank pieces p)) ≡ (is_completed s rank key pieces || completes_key s rank key pieces p)
unfolding completes
or_key s rank key pieces p = ⊎_elim
    (λ t.
    rw (← same_key key p t) (or_taken (is_completed s rank (key_of p) pieces) (is_of_key (key_of p) p) (makes_whole s rank pieces p)))
    (λ f. rw f refl)
    (cases_Bool (is_of_key key p))

none_completed : (s : Sizes) (rank : ℕ) (key : Key) → is_completed s rank key [] ≡ any_place (completes_key s rank key) [] []
unfolding is_completed any_place
none_completed s rank key = refl

-- a key is completed exactly where some place completes it
pub completed_at_some_place : (s : Sizes) (rank : ℕ) (key : Key) (pieces : List Piece) → is_completed s rank key pieces ≡ any_place (completes_key s rank key) [] pieces
completed_at_some_place s rank key pieces =
    from_end (λ ps. is_completed s rank key ps ≡ any_place (completes_key s rank key) [] ps) (none_completed s rank key)
    (λ ps p so_far.
    is_completed_more s rank key ps p
    ∙ (or_key s rank key ps p
    ∙ (ap (λ b. b || completes_key s rank key ps p) so_far
    ∙ sym (any_place_more (completes_key s rank key) [] ps p))))
    pieces

-- where a place makes its key whole, the key is completed from there on
pub completed_from : (s : Sizes) (rank : ℕ) (before : List Piece) (p : Piece) (after : List Piece) → completes s rank before p ≡ true → is_completed s rank (key_of p) (before ++ p ∷ after) ≡ true
unfolding completes is_completed
completed_from s rank before p after h =
    let parts = and_parts (makes_whole s rank before p) (not (is_completed s rank (key_of p) before)) h in
    any_place_there (λ b q. is_of_key (key_of p) q && makes_whole s rank b q) before p after (and_from _ _ (own_key p) (parts.0))

not_after : (s : Sizes) (rank : ℕ) (pieces : List Piece) (q : Piece) → is_completed s rank (key_of q) pieces ≡ true → completes s rank pieces q ≡ false
unfolding completes
not_after s rank pieces q h = rw h (closed (makes_whole s rank pieces q))

-- of two places of a key the later completes it not where the earlier does
pub completed_once : (s : Sizes) (rank : ℕ) (before : List Piece) (p : Piece) (between : List Piece) (q : Piece)
    → key_of p ≡ key_of q → completes s rank before p ≡ true → completes s rank (before ++ p ∷ between) q ≡ false
completed_once s rank before p between q same h =
    not_after s rank (before ++ p ∷ between) q (ap (λ key. is_completed s rank key (before ++ p ∷ between)) (sym same) ∙ completed_from s rank before p between h)

-- two places of one list are the same, or one comes after the other
meet_places : {A : Type 0} (a : List A) (p : A) (a_rest b : List A) (q : A) (b_rest : List A) → a ++ p ∷ a_rest ≡ b ++ q ∷ b_rest
    → (a ≡ b) ⊎ (((m : List A) × (b ≡ a ++ p ∷ m)) ⊎ ((m : List A) × (a ≡ b ++ q ∷ m)))
meet_places [] p a_rest [] q b_rest e = inl refl
meet_places [] p a_rest (y ∷ b) q b_rest e = inr (inl (b, cc))
meet_places (x ∷ a) p a_rest [] q b_rest e = inr (inr (a, cc))
meet_places (x ∷ a) p a_rest (y ∷ b) q b_rest e =
    let head : x ≡ y = cc in
    let tail : a ++ p ∷ a_rest ≡ b ++ q ∷ b_rest = cc in
    ⊎_elim
    (λ same. inl (cc (head, same)))
    (λ other. ⊎_elim (λ m. inr (inl (m.0, cc (head, m.1)))) (λ m. inr (inr (m.0, cc (head, m.1)))) other)
    (meet_places a p a_rest b q b_rest tail)

-- at most one place of a list completes a key
pub completed_at_one_place : (s : Sizes) (rank : ℕ) (a : List Piece) (p : Piece) (a_rest b : List Piece) (q : Piece) (b_rest : List Piece)
    → a ++ p ∷ a_rest ≡ b ++ q ∷ b_rest → key_of p ≡ key_of q → completes s rank a p ≡ true → completes s rank b q ≡ true → a ≡ b
completed_at_one_place s rank a p a_rest b q b_rest e same first second = ⊎_elim
    (λ here. here)
    (λ other. ⊎_elim
    (λ m. absurd (both_ways _ (ap (λ l. completes s rank l q) (m.1) ∙ completed_once s rank a p (m.0) q same first) second))
    (λ m. absurd (both_ways _ (ap (λ l. completes s rank l p) (m.1) ∙ completed_once s rank b q (m.0) p (sym same) second) first))
    other)
    (meet_places a p a_rest b q b_rest e)

none_accepted : (s : Sizes) (rank : ℕ) (key : Key) → list_any (λ g. g == key.group) (accepted s rank key.plane []) ≡ is_completed s rank key []
unfolding accepted completions is_completed gathered any_place
none_accepted s rank key = refl

or_nothing : (b : Bool) → (b || false) ≡ ((b && true) && true)
or_nothing true = refl
or_nothing false = refl

never_both : (b : Bool) → false ≡ ((b && true) && false)
never_both true = refl
never_both false = refl

never : (b : Bool) → (b && false) ≡ false
never true = refl
never false = refl

one_group : (here done : Bool) (group wanted : ℕ) → list_any (λ g. g == wanted) (cond (here && done) (group ∷ []) []) ≡ (((group == wanted) && here) && done)
one_group true true group wanted = or_nothing (group == wanted)
one_group true false group wanted = never_both (group == wanted)
one_group false done group wanted = sym (ap (λ b. b && done) (never (group == wanted)))

-- the accepted groups are those whose keys are completed
pub accepted_completed : (s : Sizes) (rank : ℕ) (key : Key) (pieces : List Piece) → list_any (λ g. g == key.group) (accepted s rank key.plane pieces) ≡ is_completed s rank key pieces
accepted_completed s rank key pieces =
    from_end (λ ps. list_any (λ g. g == key.group) (accepted s rank key.plane ps) ≡ is_completed s rank key ps) (none_accepted s rank key)
    (λ ps p so_far.
    ap (list_any (λ g. g == key.group)) (accepted_more s rank key.plane ps p)
    ∙ (list_any-append (λ g. g == key.group) (accepted s rank key.plane ps) (cond ((p.plane == key.plane) && completes s rank ps p) (p.group ∷ []) [])
    ∙ (ap (λ b. b || list_any (λ g. g == key.group) (cond ((p.plane == key.plane) && completes s rank ps p) (p.group ∷ []) [])) so_far
    ∙ (ap (λ b. is_completed s rank key ps || b) (one_group (p.plane == key.plane) (completes s rank ps p) p.group key.group)
    ∙ (sym (or_key s rank key ps p)
    ∙ sym (is_completed_more s rank key ps p))))))
    pieces

not_among : (xs : List ℕ) (g : ℕ) → list_any (λ x. x == g) xs ≡ false → (k d : ℕ) → k < length xs → get_or xs k d ≢ g
not_among xs g none k d within same = both_ways _ none (list_any_at (λ x. x == g) xs k d within (eq-eqb (get_or xs k d) g same))

none_pairs : (s : Sizes) (rank plane : ℕ) → AllPairs (λ (a b : ℕ). a ≢ b) (accepted s rank plane [])
unfolding accepted completions gathered
none_pairs s rank plane = λ i j d before within. absurd (omega arith)

keep_pairs : (b : Bool) (xs : List ℕ) (g : ℕ) → (b ≡ true → list_any (λ x. x == g) xs ≡ false) → AllPairs (λ (a b : ℕ). a ≢ b) xs → AllPairs (λ (a b : ℕ). a ≢ b) (xs ++ cond b (g ∷ []) [])
keep_pairs true xs g new h = all_pairs_push (λ (a b : ℕ). a ≢ b) xs g h (not_among xs g (new refl))
keep_pairs false xs g new h = subst (AllPairs (λ (a b : ℕ). a ≢ b)) (sym (append-nil xs)) h

new_group : (s : Sizes) (rank plane : ℕ) (pieces : List Piece) (p : Piece) → ((p.plane == plane) && completes s rank pieces p) ≡ true → list_any (λ x. x == p.group) (accepted s rank plane pieces) ≡ false
unfolding completes
new_group s rank plane pieces p h =
    let parts = and_parts (p.plane == plane) (completes s rank pieces p) h in
    let same : p.plane ≡ plane = eqb-true p.plane plane (parts.0) in
    let new = and_parts (makes_whole s rank pieces p) (not (is_completed s rank (key_of p) pieces)) (parts.1) in
    ap (λ t. list_any (λ x. x == p.group) (accepted s rank t pieces)) (sym same)
    ∙ (accepted_completed s rank (key_of p) pieces ∙ not-true _ (new.1))

-- no group is accepted twice
pub accepted_apart : (s : Sizes) (rank plane : ℕ) (pieces : List Piece) → AllPairs (λ (a b : ℕ). a ≢ b) (accepted s rank plane pieces)
accepted_apart s rank plane pieces =
    from_end (λ ps. AllPairs (λ (a b : ℕ). a ≢ b) (accepted s rank plane ps)) (none_pairs s rank plane)
    (λ ps p so_far.
    subst (AllPairs (λ (a b : ℕ). a ≢ b)) (sym (accepted_more s rank plane ps p))
    (keep_pairs ((p.plane == plane) && completes s rank ps p) (accepted s rank plane ps) p.group (new_group s rank plane ps p) so_far))
    pieces
