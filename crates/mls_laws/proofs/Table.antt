-- The rows that a rank keeps, with one more fitting piece.
use Rattle.std.proofs.Common.{◌≡◌, ℕ, ◌+◌, ◌-◌, ◌<◌, Bool, true, false, not, ◌&&◌, cond, List, [], ◌∷◌, ◌++◌, map, Option, Some, None, refl, ap, sym, ◌∙◌, ⊎_elim, subst, arith}
use Rattle.std.specs.Prelude.{◌==◌, nat_lt}
use Rattle.std.specs.Option.{option_or}
use Rattle.std.specs.List.{list_any, find, AllByRecursion}
use Rattle.std.proofs.lemmas.List.{append-nil, map-append}
use Rattle.std.proofs.lemmas.List.Folds.{find-append}
use Rattle.std.proofs.lemmas.Bool.{cases_Bool, and_from, lt-ltb, le-leb, ltb-true}
use Rattle.std.proofs.lemmas.Bool.Decides.{nat_tests}
use Rattle.mls_model.specs.Numbers.{below}
use Rattle.mls_model.specs.Studies.{Sizes}
use Rattle.mls_model.specs.Blocks.{block, part, is_in_span, width, client_of}
use Rattle.mls_model.specs.Samples.{shifted}
use Rattle.mls_model.specs.Frames.{Piece}
use Rattle.mls_model.specs.Completion.{key_of, is_of_key, is_share, completes}
use Rattle.mls_model.specs.AcceptedRows.{completions, samples_at, share_row, row_at, sample_rows, shifted_rows}
use Rattle.mls_model.specs.Standing.{Table, with_block, rank_table}
use Rattle.mls_model.specs.Fitting.{Fits}
use Rattle.mls_laws.proofs.Completing.{completions_more}
use Rattle.mls_laws.proofs.OneClient.{IsBlock, IsWhole, whole, none_found, own_share, completes_where_new, whole_end, no_front}

pub same_tables : (a b : Table) → ((plane place : ℕ) → a plane place ≡ b plane place) → a ≡ b
same_tables a b h = λ i plane place. h plane place i

in_whole : (a b x : ℕ) → a ≡ 0 → x < b → is_in_span (record { first = a; end = b }) x ≡ true
in_whole a b x none within = and_from _ _ (le-leb a x (omega arith)) (lt-ltb x b within)

only_client_of : (s : Sizes) (x : ℕ) → s.clients ≡ 1 → x < s.cells → client_of s x ≡ Some 0
only_client_of s x one within =
    let test : ℕ → Bool = λ client. is_in_span (part s client) x in
    let here : test 0 ≡ true = in_whole (part s 0).first (part s 0).end x (no_front s.cells s.clients one) (subst (λ (m : ℕ). x < m) (sym (whole_end s.cells s.clients one)) within) in
    ap (λ n. find test (below n)) one ∙ ap (λ b. cond b (Some 0) None) here

found_last : (test : Piece → Bool) (before : List Piece) (p : Piece) → find test before ≡ None → test p ≡ true → find test (before ++ p ∷ []) ≡ Some p
found_last test before p none own = find-append test before (p ∷ []) ∙ (ap (λ o. option_or o (find test (p ∷ []))) none ∙ ap (λ b. cond b (Some p) None) own)

-- the row of a cell that a new key gives is in its piece
new_row : (s : Sizes) (rank place : ℕ) (before : List Piece) (p : Piece) → s.clients ≡ 1 → IsBlock s rank → IsWhole s rank p → place < width (block s rank) → list_any (is_of_key (key_of p)) before ≡ false
    → row_at s ((block s rank).first + place) before p ≡ samples_at p place
new_row s rank place before p one is all within new =
    let inside : (block s rank).first + place < s.cells = omega (arith, is.within, is.some) in
    let own : is_share (key_of p) p.life 0 p ≡ true = ap (λ c. is_share (key_of p) p.life c p) (sym all.client) ∙ own_share p in
    let found : find (is_share (key_of p) p.life 0) (before ++ p ∷ []) ≡ Some p = found_last (is_share (key_of p) p.life 0) before p (none_found (key_of p) p.life 0 before new) own in
    let back : ((block s rank).first + place) - p.first ≡ place = omega (arith, all.first) in
    ap (λ (o : Option ℕ). elim o [ None ↦ [] | Some client ↦ share_row (key_of p) p.life ((block s rank).first + place) client (before ++ p ∷ []) ]) (only_client_of s ((block s rank).first + place) one inside)
    ∙ (ap (λ (o : Option Piece). elim o [ None ↦ [] | Some q ↦ samples_at q (((block s rank).first + place) - q.first) ]) found
    ∙ ap (samples_at p) back)

pub same_test : (a b : ℕ) → (a == b) ≡ (b == a)
same_test a b = grind (arith, nat_tests)

both : (b : Bool) → (b && true) ≡ b
both true = refl
both false = refl

map_cond : {A B : Type 0} (b : Bool) (f : A → B) (x : A) → map f (cond b (x ∷ []) []) ≡ cond b (f x ∷ []) []
map_cond true f x = refl
map_cond false f x = refl

joined_cond : {A : Type 0} (b : Bool) (xs : List A) (x : A) → xs ++ cond b (x ∷ []) [] ≡ cond (b && true) (xs ++ x ∷ []) xs
joined_cond true xs x = refl
joined_cond false xs x = append-nil xs

nothing_cond : {A : Type 0} (b : Bool) (xs : List A) → [] ≡ cond (b && false) xs []
nothing_cond true xs = refl
nothing_cond false xs = refl

no_more : {A : Type 0} (b : Bool) (xs : List A) (x : A) → xs ++ cond (b && false) (x ∷ []) [] ≡ xs
no_more true xs x = append-nil xs
no_more false xs x = append-nil xs

-- what a completing piece adds to the rows of a cell
rows_more : (s : Sizes) (rank plane x : ℕ) (before : List Piece) (p : Piece) → completes s rank before p ≡ true
    → shifted_rows s rank plane x (before ++ p ∷ []) ≡ shifted_rows s rank plane x before ++ cond (plane == p.plane) (map (shifted s.signed) (row_at s x before p) ∷ []) []
unfolding sample_rows
rows_more s rank plane x before p done =
    let here : ((p.plane == plane) && completes s rank before p) ≡ (plane == p.plane) = ap (λ b. (p.plane == plane) && b) done ∙ (both (p.plane == plane) ∙ same_test p.plane plane) in
    ap (map (map (shifted s.signed))) (completions_more s rank plane (row_at s x) before p)
    ∙ (map-append (map (shifted s.signed)) (completions s rank plane (row_at s x) before) (cond ((p.plane == plane) && completes s rank before p) (row_at s x before p ∷ []) [])
    ∙ ap (λ r. shifted_rows s rank plane x before ++ r)
    (ap (λ b. map (map (shifted s.signed)) (cond b (row_at s x before p ∷ []) [])) here ∙ map_cond (plane == p.plane) (map (shifted s.signed)) (row_at s x before p)))

added_at : (s : Sizes) (rank : ℕ) (before : List Piece) (p : Piece) (row : ℕ → List ℕ) → completes s rank before p ≡ true
    → ((place : ℕ) → place < width (block s rank) → map (shifted s.signed) (row_at s ((block s rank).first + place) before p) ≡ row place)
    → (plane place : ℕ) → rank_table s rank (before ++ p ∷ []) plane place ≡ with_block (rank_table s rank before) p.plane (width (block s rank)) row plane place
added_at s rank before p row done rows plane place = ⊎_elim
    (λ t.
    let within : place < width (block s rank) = ltb-true place (width (block s rank)) t in
    let x : ℕ = (block s rank).first + place in
    rw (t, rows_more s rank plane ((block s rank).first + place) before p done)
    (ap (λ (r : List ℕ). shifted_rows s rank plane ((block s rank).first + place) before ++ cond (plane == p.plane) (r ∷ []) []) (rows place within)
    ∙ joined_cond (plane == p.plane) (shifted_rows s rank plane ((block s rank).first + place) before) (row place)))
    (λ f. rw f (nothing_cond (plane == p.plane) _))
    (cases_Bool (nat_lt place (width (block s rank))))

-- a piece that completes its key adds the rows of its key to its plane
pub table_completed : (s : Sizes) (rank : ℕ) (before : List Piece) (p : Piece) (row : ℕ → List ℕ) → completes s rank before p ≡ true
    → ((place : ℕ) → place < width (block s rank) → map (shifted s.signed) (row_at s ((block s rank).first + place) before p) ≡ row place)
    → rank_table s rank (before ++ p ∷ []) ≡ with_block (rank_table s rank before) p.plane (width (block s rank)) row
table_completed s rank before p row done rows = same_tables _ _ (added_at s rank before p row done rows)

-- a piece whose key is new adds its samples to its plane
pub table_accepted : (s : Sizes) (rank : ℕ) (before : List Piece) (p : Piece) → s.clients ≡ 1 → IsBlock s rank → AllByRecursion (Fits s rank) before → Fits s rank p → list_any (is_of_key (key_of p)) before ≡ false
    → rank_table s rank (before ++ p ∷ []) ≡ with_block (rank_table s rank before) p.plane (width (block s rank)) (λ place. map (shifted s.signed) (samples_at p place))
table_accepted s rank before p one is all fit new =
    table_completed s rank before p (λ place. map (shifted s.signed) (samples_at p place)) (completes_where_new s rank before p one all fit ∙ ap not new)
    (λ place within. ap (map (shifted s.signed)) (new_row s rank place before p one is (whole s rank p one is fit) within new))

kept_at : (s : Sizes) (rank : ℕ) (before : List Piece) (p : Piece) → completes s rank before p ≡ false → (plane place : ℕ) → rank_table s rank (before ++ p ∷ []) plane place ≡ rank_table s rank before plane place
unfolding sample_rows
kept_at s rank before p none plane place =
    let same : completions s rank plane (row_at s ((block s rank).first + place)) (before ++ p ∷ []) ≡ completions s rank plane (row_at s ((block s rank).first + place)) before
    = completions_more s rank plane (row_at s ((block s rank).first + place)) before p ∙ rw none (no_more (p.plane == plane) _ _) in
    ap (λ r. cond (nat_lt place (width (block s rank))) (map (map (shifted s.signed)) r) []) same

-- a piece that completes no key adds nothing
pub table_kept : (s : Sizes) (rank : ℕ) (before : List Piece) (p : Piece) → completes s rank before p ≡ false → rank_table s rank (before ++ p ∷ []) ≡ rank_table s rank before
table_kept s rank before p none = same_tables _ _ (kept_at s rank before p none)

-- a replay adds nothing
pub table_replay : (s : Sizes) (rank : ℕ) (before : List Piece) (p : Piece) → s.clients ≡ 1 → AllByRecursion (Fits s rank) before → Fits s rank p → list_any (is_of_key (key_of p)) before ≡ true
    → rank_table s rank (before ++ p ∷ []) ≡ rank_table s rank before
table_replay s rank before p one all fit seen = table_kept s rank before p (completes_where_new s rank before p one all fit ∙ ap not seen)
