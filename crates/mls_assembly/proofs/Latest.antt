-- The greatest life of a key's pieces, and the shares of a life, with one more piece.
use Rattle.std.proofs.Common.{◌≡◌, ℕ, ◌<◌, max, Bool, true, false, not, ◌||◌, cond, List, [], ◌∷◌, ◌++◌, Option, Some, None, refl, ap, sym, ◌∙◌, ⊎_elim, arith}
use Rattle.std.specs.Prelude.{◌==◌, nat_lt, nat_le}
use Rattle.std.specs.Option.{option_or, is_some}
use Rattle.std.specs.List.{list_any, list_all, find}
use Rattle.std.proofs.lemmas.List.Folds.{find-append}
use Rattle.std.proofs.lemmas.Bool.{cases_Bool, cases_eq, and_from, and_left, and_right, or_left, or_right, ne_eqb, le-ltb, lt-leb, leb-false, not_from_false}
use Rattle.std.proofs.lemmas.Bool.Decides.{nat_tests}
use Rattle.mls_model.specs.Numbers.{below}
use Rattle.mls_model.specs.Studies.{Sizes}
use Rattle.mls_model.specs.Blocks.{overlaps}
use Rattle.mls_model.specs.Frames.{Piece}
use Rattle.mls_model.specs.Completion.{Key, key_of, is_of_key, is_later_life, is_share, has_all_shares, makes_whole, is_completed}
use Rattle.mls_laws.proofs.Places.{from_end}
use Rattle.mls_laws.proofs.Completing.{same_key, is_completed_more}
use Rattle.mls_ckpt.specs.Histories.{later_of, greatest_life}

later_first : (a b : ℕ) (g : Option ℕ) → later_of (Some (later_of g a)) b ≡ later_of (Some (later_of g b)) a
later_first a b None = omega arith
later_first a b (Some m) = omega arith

later_swap : (bq bp : Bool) (a b : ℕ) (g : Option ℕ)
    → cond bq (Some (later_of (cond bp (Some (later_of g b)) g) a)) (cond bp (Some (later_of g b)) g)
    ≡ cond bp (Some (later_of (cond bq (Some (later_of g a)) g) b)) (cond bq (Some (later_of g a)) g)
later_swap true true a b g = ap (λ (n : ℕ). Some n) (later_first b a g)
later_swap true false a b g = refl
later_swap false true a b g = refl
later_swap false false a b g = refl

pub greatest_more : (key : Key) (ps : List Piece) (p : Piece) → greatest_life key (ps ++ p ∷ []) ≡ cond (is_of_key key p) (Some (later_of (greatest_life key ps) p.life)) (greatest_life key ps)
unfolding greatest_life
greatest_more key [] p = refl
greatest_more key (q ∷ ps) p =
    ap (λ (o : Option ℕ). cond (is_of_key key q) (Some (later_of o q.life)) o) (greatest_more key ps p)
    ∙ later_swap (is_of_key key q) (is_of_key key p) q.life p.life (greatest_life key ps)

-- whether a life stands that is greater
abbrev pub is_after : ℕ → Option ℕ → Bool
is_after life None = false
is_after life (Some other) = nat_lt life other

after_one : (life a : ℕ) (g : Option ℕ) → (nat_lt life a || is_after life g) ≡ nat_lt life (later_of g a)
after_one life a None = grind (arith, nat_tests)
after_one life a (Some m) = grind (arith, nat_tests)

pub later_is : (key : Key) (life : ℕ) (ps : List Piece) → list_any (is_later_life key life) ps ≡ is_after life (greatest_life key ps)
unfolding greatest_life
later_is key life [] = refl
later_is key life (q ∷ ps) = ⊎_elim
    (λ t. rw t (ap (λ b. nat_lt life q.life || b) (later_is key life ps) ∙ after_one life q.life (greatest_life key ps)))
    (λ f. rw f (later_is key life ps))
    (cases_Bool (is_of_key key q))

-- whether a life stands that is at least this
abbrev pub reaches : ℕ → Option ℕ → Bool
reaches life None = false
reaches life (Some other) = nat_le life other

not_reached : (life a : ℕ) (g : Option ℕ) → nat_le life (later_of g a) ≡ false → ((a == life) ≡ false) × (reaches life g ≡ false)
not_reached life a None h = grind (arith, nat_tests)
not_reached life a (Some m) h =
    let less : max m a < life = leb-false life (max m a) h in
    (ne_eqb a life (λ e. omega arith), lt-leb life m (omega arith))

-- no piece of a life that is greater than all
pub none_of_life : (key : Key) (life client : ℕ) (ps : List Piece) → reaches life (greatest_life key ps) ≡ false → find (is_share key life client) ps ≡ None
unfolding greatest_life
none_of_life key life client [] h = refl
none_of_life key life client (q ∷ ps) h = ⊎_elim
    (λ (t : is_of_key key q ≡ true).
    let g : nat_le life (later_of (greatest_life key ps) q.life) ≡ false = (rw t at h) in
    let parts = not_reached life q.life (greatest_life key ps) g in
    rw (t, parts.0) (none_of_life key life client ps (parts.1)))
    (λ (f : is_of_key key q ≡ false).
    let g : reaches life (greatest_life key ps) ≡ false = (rw f at h) in
    rw f (none_of_life key life client ps g))
    (cases_Bool (is_of_key key q))

-- an element is found where there is one
pub found_is : {A : Type 0} (test : A → Bool) (xs : List A) → list_any test xs ≡ is_some (find test xs)
found_is test [] = refl
found_is test (x ∷ xs) = ⊎_elim (λ t. rw t refl) (λ f. rw f (found_is test xs)) (cases_Bool (test x))

pub find_more : {A : Type 0} (test : A → Bool) (xs : List A) (x : A) → find test (xs ++ x ∷ []) ≡ option_or (find test xs) (cond (test x) (Some x) None)
find_more test xs x = find-append test xs (x ∷ [])

or_none : {A : Type 0} (o : Option A) → option_or o None ≡ o
or_none None = refl
or_none (Some x) = refl

pub find_other : {A : Type 0} (test : A → Bool) (xs : List A) (x : A) → test x ≡ false → find test (xs ++ x ∷ []) ≡ find test xs
find_other test xs x h = find_more test xs x ∙ (ap (λ b. option_or (find test xs) (cond b (Some x) None)) h ∙ or_none (find test xs))

pub any_other : {A : Type 0} (test : A → Bool) (xs : List A) (x : A) → test x ≡ false → list_any test (xs ++ x ∷ []) ≡ list_any test xs
any_other test xs x h = found_is test (xs ++ x ∷ []) ∙ (ap is_some (find_other test xs x h) ∙ sym (found_is test xs))

pub all_same : (t u : ℕ → Bool) (xs : List ℕ) → ((k : ℕ) → t k ≡ u k) → list_all t xs ≡ list_all u xs
all_same t u xs h = ap (λ (v : ℕ → Bool). list_all v xs) (λ i k. h k i)

-- a piece that is no share of a life adds none to it
pub shares_other : (s : Sizes) (rank : ℕ) (key : Key) (life : ℕ) (ps : List Piece) (p : Piece) → ((client : ℕ) → is_share key life client p ≡ false)
    → has_all_shares s rank key life (ps ++ p ∷ []) ≡ has_all_shares s rank key life ps
shares_other s rank key life ps p h =
    all_same (λ client. not (overlaps s rank client) || list_any (is_share key life client) (ps ++ p ∷ [])) (λ client. not (overlaps s rank client) || list_any (is_share key life client) ps) (below s.clients)
    (λ client. ap (λ b. not (overlaps s rank client) || b) (any_other (is_share key life client) ps p (h client)))

pub other_life : (key : Key) (life client : ℕ) (p : Piece) → (p.life == life) ≡ false → is_share key life client p ≡ false
other_life key life client p h = and_left _ (p.client == client) (and_right (is_of_key key p) (p.life == life) h)

pub no_share : (key : Key) (life client : ℕ) (p : Piece) → is_of_key key p ≡ false → is_share key life client p ≡ false
no_share key life client p h = and_left _ (p.client == client) (and_left (is_of_key key p) (p.life == life) h)

some_same : (a b : ℕ) → ◌≡◌ {A = Option ℕ} (Some a) (Some b) → a ≡ b
some_same a b h = cc

not_after : (g : Option ℕ) (l : ℕ) → later_of g l ≡ l → is_after l g ≡ false
not_after None l h = refl
not_after (Some m) l h = le-ltb l m (omega arith)

-- a last piece with the greatest life makes its key whole where that life has all shares
pub last_whole : (s : Sizes) (rank : ℕ) (ps : List Piece) (p : Piece) → later_of (greatest_life (key_of p) ps) p.life ≡ p.life
    → has_all_shares s rank (key_of p) p.life (ps ++ p ∷ []) ≡ true → makes_whole s rank ps p ≡ true
unfolding makes_whole
last_whole s rank ps p top whole =
    let none : list_any (is_later_life (key_of p) p.life) ps ≡ false = later_is (key_of p) p.life ps ∙ not_after (greatest_life (key_of p) ps) p.life top in
    and_from _ _ (not_from_false _ none) whole

earlier_top : (g : Option ℕ) (a life : ℕ) → later_of g a ≡ life → (a ≡ life → ⊥) → g ≡ Some life
earlier_top None a life top other = absurd (other top)
earlier_top (Some m) a life top other = let same : m ≡ life = omega arith in ap (λ (n : ℕ). Some n) same

none_greatest : (key : Key) (life : ℕ) → greatest_life key [] ≡ Some life → ⊥
unfolding greatest_life
none_greatest key life h = cc

-- A life without a later one that has all shares completed its key.
pub whole_completed : (s : Sizes) (rank : ℕ) (key : Key) (pieces : List Piece) (life : ℕ) → greatest_life key pieces ≡ Some life → has_all_shares s rank key life pieces ≡ true → is_completed s rank key pieces ≡ true
whole_completed s rank key pieces =
    from_end (λ ps. (life : ℕ) → greatest_life key ps ≡ Some life → has_all_shares s rank key life ps ≡ true → is_completed s rank key ps ≡ true)
    (λ life top whole. absurd (none_greatest key life top))
    (λ ps p so_far life top whole.
    let grown : cond (is_of_key key p) (Some (later_of (greatest_life key ps) p.life)) (greatest_life key ps) ≡ Some life = sym (greatest_more key ps p) ∙ top in
    is_completed_more s rank key ps p
    ∙ ⊎_elim
    (λ (t : is_of_key key p ≡ true).
    let same : key_of p ≡ key = same_key key p t in
    let most : later_of (greatest_life key ps) p.life ≡ life = some_same _ _ (ap (λ b. cond b (Some (later_of (greatest_life key ps) p.life)) (greatest_life key ps)) (sym t) ∙ grown) in
    ⊎_elim
    (λ (own : p.life ≡ life).
    let own_top : later_of (greatest_life (key_of p) ps) p.life ≡ p.life = ap (λ k. later_of (greatest_life k ps) p.life) same ∙ (most ∙ sym own) in
    let own_whole : has_all_shares s rank (key_of p) p.life (ps ++ p ∷ []) ≡ true = ap (λ k. has_all_shares s rank k p.life (ps ++ p ∷ [])) same ∙ (ap (λ (l : ℕ). has_all_shares s rank key l (ps ++ p ∷ [])) own ∙ whole) in
    or_right (is_completed s rank key ps) _ (and_from _ _ t (last_whole s rank ps p own_top own_whole)))
    (λ (other : p.life ≡ life → ⊥).
    let before : greatest_life key ps ≡ Some life = earlier_top (greatest_life key ps) p.life life most other in
    let shares : has_all_shares s rank key life ps ≡ true = sym (shares_other s rank key life ps p (λ client. other_life key life client p (ne_eqb p.life life other))) ∙ whole in
    or_left (is_completed s rank key ps) _ (so_far life before shares))
    (cases_eq p.life life))
    (λ (f : is_of_key key p ≡ false).
    let before : greatest_life key ps ≡ Some life = ap (λ b. cond b (Some (later_of (greatest_life key ps) p.life)) (greatest_life key ps)) (sym f) ∙ grown in
    let shares : has_all_shares s rank key life ps ≡ true = sym (shares_other s rank key life ps p (λ client. no_share key life client p f)) ∙ whole in
    or_left (is_completed s rank key ps) _ (so_far life before shares))
    (cases_Bool (is_of_key key p)))
    pieces
