-- With one client each fitting piece covers the rank's block alone.
use Rattle.std.proofs.Common.{◌≡◌, ℕ, ◌+◌, ◌*◌, ◌/◌, ◌<◌, ◌≤◌, Bool, true, false, not, ◌&&◌, ◌||◌, cond, List, [], ◌∷◌, ◌++◌, Some, None, refl, ap, sym, ◌∙◌, ⊎_elim, subst, arith}
use Rattle.std.specs.List.{list_any, list_all, find, AllByRecursion}
use Rattle.std.proofs.lemmas.List.Folds.{list_any-append}
use Rattle.std.proofs.lemmas.Nat.{le-div, div_below}
use Rattle.std.proofs.Math.Nat.{mul-le-mul_right}
use Rattle.std.proofs.lemmas.Bool.{cases_Bool, and_from, and_left, or_parts, or_left, or_right, eq-eqb, not_from_false}
use Rattle.mls_model.specs.declared.outcomes.Outcome.TheVariants.{Accepted, Kept, Replay, Stale, Repeated}
use Rattle.mls_model.specs.declared.blocks.Span.{Span}
use Rattle.mls_model.specs.Numbers.{below}
use Rattle.mls_model.specs.Places.{any_place}
use Rattle.mls_model.specs.Studies.{Sizes, AreSizes}
use Rattle.mls_model.specs.Blocks.{block, part, width, meet, overlap, overlaps}
use Rattle.mls_model.specs.Frames.{Piece}
use Rattle.mls_model.specs.Completion.{Key, key_of, is_of_key, is_later_life, is_share, has_all_shares, makes_whole, is_completed, completes}
use Rattle.mls_model.specs.Histories.{LaneEvent}
use Rattle.mls_model.specs.Fitting.{fitting, fitting_piece}
use Rattle.mls_model.specs.Outcomes.{piece_outcome, outcome}
use Rattle.mls_model.specs.Fitting.{Fits}
use Rattle.mls_laws.proofs.Fits.{all_fit, event_fits, outcome_of_fitting}
use Rattle.mls_laws.proofs.Completing.{same_key, own_key, closed}

-- the block of a rank begins and ends within the mesh, and has a cell
pub record IsBlock (s : Sizes) (rank : ℕ) : Type 0 where
  pub some : (block s rank).first < (block s rank).end
  pub within : (block s rank).end ≤ s.cells

block_grows : (m n r : ℕ) → 1 ≤ n → n ≤ m → (r * m) / n < ((r + 1) * m) / n
block_grows m n r some enough =
    let more : (r * m) / n + 1 ≤ ((r + 1) * m) / n = le-div ((r * m) / n + 1) ((r + 1) * m) n (omega arith) (omega arith) in omega arith

block_ends : (m n r : ℕ) → 1 ≤ n → r < n → ((r + 1) * m) / n ≤ m
block_ends m n r some within =
    let up : (r + 1) * m ≤ n * m = mul-le-mul_right m (omega arith) in
    let less : ((r + 1) * m) / n < m + 1 = div_below ((r + 1) * m) n (m + 1) (omega arith) (omega arith) in omega arith

pub is_block : (s : Sizes) (rank : ℕ) → AreSizes s → rank < s.ranks → IsBlock s rank
is_block s rank sizes below_ranks = record {
  some = block_grows s.cells s.ranks rank sizes.some_ranks sizes.ranks_have_cells;
  within = block_ends s.cells s.ranks rank sizes.some_ranks below_ranks;
}

only_client : (n client : ℕ) → n ≡ 1 → client < n → client ≡ 0
only_client n client one h = omega arith

same_span : (a b c d : ℕ) → a ≡ c → b ≡ d → ◌≡◌ {A = Span} (record { first = a; end = b }) (record { first = c; end = d })
same_span a b c d first end = cc

pub no_front : (m n : ℕ) → n ≡ 1 → (0 * m) / n ≡ 0
no_front m n one = let P : ℕ → Type 0 = λ k. (0 * m) / k ≡ 0 in subst P (sym one) (omega arith)

pub whole_end : (m n : ℕ) → n ≡ 1 → (1 * m) / n ≡ m
whole_end m n one = let P : ℕ → Type 0 = λ k. (1 * m) / k ≡ m in subst P (sym one) (omega arith)

met : (a b c d : ℕ) → c ≡ 0 → a < b → b ≤ d → meet (record { first = a; end = b }) (record { first = c; end = d }) ≡ record { first = a; end = b }
met a b c d none some within = same_span _ _ _ _ (omega arith) (omega arith)

pub whole_overlap : (s : Sizes) (rank : ℕ) → s.clients ≡ 1 → IsBlock s rank → overlap s rank 0 ≡ block s rank
whole_overlap s rank one is =
    met (block s rank).first (block s rank).end (part s 0).first (part s 0).end (no_front s.cells s.clients one) is.some
    (let e : (part s 0).end ≡ s.cells = whole_end s.cells s.clients one in let w : (block s rank).end ≤ s.cells = is.within in subst (λ (m : ℕ). (block s rank).end ≤ m) (sym e) w)

-- with one client, what a fitting piece is
pub record IsWhole (s : Sizes) (rank : ℕ) (p : Piece) : Type 0 where
  pub client : p.client ≡ 0
  pub first : p.first ≡ (block s rank).first
  pub count : p.count ≡ width (block s rank)

pub whole : (s : Sizes) (rank : ℕ) (p : Piece) → s.clients ≡ 1 → IsBlock s rank → Fits s rank p → IsWhole s rank p
whole s rank p one is fit =
    let client : p.client ≡ 0 = only_client s.clients p.client one fit.client in
    let same : overlap s rank p.client ≡ block s rank = ap (overlap s rank) client ∙ whole_overlap s rank one is in
    record {
      client = client;
      first = fit.first ∙ ap (λ (b : Span). b.first) same;
      count = fit.count ∙ ap width same;
    }

none_later : (key : Key) (life : ℕ) (before : List Piece) → list_any (is_of_key key) before ≡ false → list_any (is_later_life key life) before ≡ false
none_later key life [] h = refl
none_later key life (q ∷ before) h =
    let parts = or_parts (is_of_key key q) (list_any (is_of_key key) before) h in rw (parts.0) (none_later key life before (parts.1))

none_shared : (key : Key) (life client : ℕ) (before : List Piece) → list_any (is_of_key key) before ≡ false → list_any (is_share key life client) before ≡ false
none_shared key life client [] h = refl
none_shared key life client (q ∷ before) h =
    let parts = or_parts (is_of_key key q) (list_any (is_of_key key) before) h in rw (parts.0) (none_shared key life client before (parts.1))

pub none_found : (key : Key) (life client : ℕ) (before : List Piece) → list_any (is_of_key key) before ≡ false → find (is_share key life client) before ≡ None
none_found key life client [] h = refl
none_found key life client (q ∷ before) h =
    let parts = or_parts (is_of_key key q) (list_any (is_of_key key) before) h in rw (parts.0) (none_found key life client before (parts.1))

pub own_share : (p : Piece) → is_share (key_of p) p.life p.client p ≡ true
own_share p = and_from _ _ (and_from _ _ (own_key p) (eq-eqb p.life p.life refl)) (eq-eqb p.client p.client refl)

with_itself : (test : Piece → Bool) (before : List Piece) (p : Piece) → test p ≡ true → list_any test (before ++ p ∷ []) ≡ true
with_itself test before p h = list_any-append test before (p ∷ []) ∙ or_right (list_any test before) (list_any test (p ∷ [])) (or_left (test p) false h)

all_shares : (s : Sizes) (rank : ℕ) (before : List Piece) (p : Piece) → s.clients ≡ 1 → p.client ≡ 0 → has_all_shares s rank (key_of p) p.life (before ++ p ∷ []) ≡ true
all_shares s rank before p one first =
    let test : ℕ → Bool = λ client. not (overlaps s rank client) || list_any (is_share (key_of p) p.life client) (before ++ p ∷ []) in
    let own : list_any (is_share (key_of p) p.life 0) (before ++ p ∷ []) ≡ true = ap (λ c. list_any (is_share (key_of p) p.life c) (before ++ p ∷ [])) (sym first) ∙ with_itself (is_share (key_of p) p.life p.client) before p (own_share p) in
    ap (λ n. list_all test (below n)) one ∙ and_from _ _ (or_right (not (overlaps s rank 0)) _ own) refl

pub whole_makes : (s : Sizes) (rank : ℕ) (before : List Piece) (p : Piece) → s.clients ≡ 1 → p.client ≡ 0 → list_any (is_of_key (key_of p)) before ≡ false → makes_whole s rank before p ≡ true
unfolding makes_whole
whole_makes s rank before p one first new = and_from _ _ (not_from_false _ (none_later (key_of p) p.life before new)) (all_shares s rank before p one first)

-- the first of a key makes it whole
first_makes : (s : Sizes) (rank : ℕ) (key : Key) (before : List Piece) (p : Piece) → s.clients ≡ 1 → p.client ≡ 0 → list_any (is_of_key key) before ≡ false
    → (is_of_key key p && makes_whole s rank before p) ≡ is_of_key key p
first_makes s rank key before p one first new = ⊎_elim
    (λ t. and_from _ _ t (whole_makes s rank before p one first (ap (λ k. list_any (is_of_key k) before) (same_key key p t) ∙ new)) ∙ sym t)
    (λ f. and_left (is_of_key key p) (makes_whole s rank before p) f ∙ sym f)
    (cases_Bool (is_of_key key p))

found_among : (s : Sizes) (rank : ℕ) (key : Key) (before pieces : List Piece) → s.clients ≡ 1 → AllByRecursion (Fits s rank) pieces → list_any (is_of_key key) before ≡ false
    → any_place (λ b q. is_of_key key q && makes_whole s rank b q) before pieces ≡ list_any (is_of_key key) pieces
unfolding any_place
found_among s rank key before [] one all new = refl
found_among s rank key before (p ∷ rest) one all new =
    let first : p.client ≡ 0 = only_client s.clients p.client one (all.0).client in
    ap (λ b. b || any_place (λ b q. is_of_key key q && makes_whole s rank b q) (before ++ p ∷ []) rest) (first_makes s rank key before p one first new)
    ∙ ⊎_elim
    (λ t. rw t refl)
    (λ f. rw f (found_among s rank key (before ++ p ∷ []) rest one (all.1) (list_any-append (is_of_key key) before (p ∷ []) ∙ (ap (λ b. b || (is_of_key key p || false)) new ∙ rw f refl))))
    (cases_Bool (is_of_key key p))

-- a key is completed exactly where a piece of it came
pub completed_where_found : (s : Sizes) (rank : ℕ) (key : Key) (pieces : List Piece) → s.clients ≡ 1 → AllByRecursion (Fits s rank) pieces → is_completed s rank key pieces ≡ list_any (is_of_key key) pieces
unfolding is_completed
completed_where_found s rank key pieces one all = found_among s rank key [] pieces one all refl

-- a place completes its key exactly where no piece of it came before
pub completes_where_new : (s : Sizes) (rank : ℕ) (before : List Piece) (p : Piece) → s.clients ≡ 1 → AllByRecursion (Fits s rank) before → Fits s rank p
    → completes s rank before p ≡ not (list_any (is_of_key (key_of p)) before)
unfolding completes
completes_where_new s rank before p one all fit =
    let first : p.client ≡ 0 = only_client s.clients p.client one fit.client in
    rw (completed_where_found s rank (key_of p) before one all) (⊎_elim
    (λ t. rw t (closed (makes_whole s rank before p)))
    (λ f. rw (f, whole_makes s rank before p one first f) refl)
    (cases_Bool (list_any (is_of_key (key_of p)) before)))

first_that_holds : (found later shared completed : Bool) → (found ≡ false → (later ≡ false) × (shared ≡ false)) → completed ≡ not found
    → cond found Replay (cond later Stale (cond shared Repeated (cond completed Accepted Kept))) ≡ cond found Replay Accepted
first_that_holds true later shared completed none done = refl
first_that_holds false later shared completed none done = let h = none refl in rw (h.0, h.1, done) refl

-- a fitting piece is a replay where a piece of its key came before, and else it is accepted
pub replay_or_accepted : (s : Sizes) (rank : ℕ) (before : List Piece) (p : Piece) → s.clients ≡ 1 → AllByRecursion (Fits s rank) before → Fits s rank p
    → piece_outcome s rank before p ≡ cond (list_any (is_of_key (key_of p)) before) Replay Accepted
unfolding piece_outcome
replay_or_accepted s rank before p one all fit =
    rw (completed_where_found s rank (key_of p) before one all)
    (first_that_holds (list_any (is_of_key (key_of p)) before) (list_any (is_later_life (key_of p) p.life) before) (list_any (is_share (key_of p) p.life p.client) before) (completes s rank before p)
    (λ f. (none_later (key_of p) p.life before f, none_shared (key_of p) p.life p.client before f))
    (completes_where_new s rank before p one all fit))

pub all_more : (s : Sizes) (rank : ℕ) (before : List Piece) (p : Piece) → AllByRecursion (Fits s rank) before → Fits s rank p → AllByRecursion (Fits s rank) (before ++ p ∷ [])
all_more s rank [] p all fit = (fit, tt)
all_more s rank (q ∷ before) p all fit = (all.0, all_more s rank before p (all.1) fit)

or_last : (a b : Bool) → (a || (b || false)) ≡ (a || b)
or_last true b = refl
or_last false true = refl
or_last false false = refl

-- one more piece completes its key, and no other
pub completed_more : (s : Sizes) (rank : ℕ) (key : Key) (before : List Piece) (p : Piece) → s.clients ≡ 1 → AllByRecursion (Fits s rank) before → Fits s rank p
    → is_completed s rank key (before ++ p ∷ []) ≡ (is_completed s rank key before || is_of_key key p)
completed_more s rank key before p one all fit =
    completed_where_found s rank key (before ++ p ∷ []) one (all_more s rank before p all fit)
    ∙ (list_any-append (is_of_key key) before (p ∷ [])
    ∙ (or_last (list_any (is_of_key key) before) (is_of_key key p)
    ∙ ap (λ b. b || is_of_key key p) (sym (completed_where_found s rank key before one all))))

-- the outcome of an event with a fitting piece
pub outcome_of_piece : (s : Sizes) (rank : ℕ) (before : List LaneEvent) (e : LaneEvent) (p : Piece) → s.clients ≡ 1 → fitting_piece s rank e ≡ Some p
    → outcome s rank before e ≡ cond (list_any (is_of_key (key_of p)) (fitting s rank before)) Replay Accepted
outcome_of_piece s rank before e p one h =
    outcome_of_fitting s rank before e p h ∙ replay_or_accepted s rank (fitting s rank before) p one (all_fit s rank before) (event_fits s rank e p h)
