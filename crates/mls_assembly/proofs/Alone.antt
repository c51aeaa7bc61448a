-- A piece that covers its block alone completes its key, unless the key is completed.
use Rattle.std.proofs.Common.{◌≡◌, ℕ, ◌<◌, ◌≤◌, Bool, true, false, not, ◌||◌, cond, List, [], ◌∷◌, Option, Some, None, refl, ap, sym, ◌∙◌, ⊎_elim, subst, arith, IsTrue, IsSome}
use Rattle.std.specs.Option.{is_some}
use Rattle.std.specs.List.{list_any, list_all, AllByRecursion}
use Rattle.std.proofs.lemmas.Bool.{cases_Bool, cases_eq, and_from, or_left, or_right, eq-eqb, ltb-true, both_ways, not_from_false}
use Rattle.mls_model.specs.declared.blocks.Span.{Span}
use Rattle.mls_model.specs.Numbers.{below}
use Rattle.mls_model.specs.Studies.{Sizes, AreSizes}
use Rattle.mls_model.specs.Blocks.{block, part, overlap, overlaps, width, meet, is_in_span}
use Rattle.mls_model.specs.Frames.{Piece}
use Rattle.mls_model.specs.Completion.{Key, key_of, is_of_key, is_share, has_all_shares, is_completed}
use Rattle.mls_base.specs.Partitions.{ArePartition}
use Rattle.mls_base.proofs.Spans.{bounds, in_span, in_meet, meets_partition, span_end}
use Rattle.mls_model.specs.Fitting.{Fits}
use Rattle.mls_assembly.specs.Shares.{Share, share_of, has_all}
use Rattle.mls_assembly.specs.KeyShares.{KeyShares, share_in}
use Rattle.mls_assembly.specs.Held.{Held, kept_of, IsPending, ArePending, AreWhole}
use Rattle.mls_ckpt.specs.Histories.{later_of, greatest_life}
use Rattle.mls_assembly.specs.Pendings.{PendsAt}
use Rattle.mls_assembly.proofs.Latest.{reaches, whole_completed}
use Rattle.mls_assembly.proofs.Taking.{all_below, open_life}
use Rattle.mls_assembly.proofs.Storing.{Stored, with_share, stored_first}

-- the overlaps of a rank share no cell
pub overlaps_apart : (s : Sizes) (rank a b x : ℕ) → AreSizes s → rank < s.ranks → a < s.clients → b < s.clients → IsTrue (is_in_span (overlap s rank a) x) → IsTrue (is_in_span (overlap s rank b) x) → a ≡ b
overlaps_apart s rank a b x sizes within a_in b_in in_a in_b =
    let parts : ArePartition s.clients (overlap s rank) (λ y. IsTrue (is_in_span (block s rank) y)) = meets_partition s.cells s.clients (block s rank) sizes.some_clients (span_end s.cells s.ranks rank sizes.some_ranks within) in
    let one = parts.once x (parts.inside a a_in x in_a) in
    one.only a a_in in_a ∙ sym (one.only b b_in in_b)

whole_meet : (a b : Span) → 0 < width (meet a b) → width (meet a b) ≡ width a → (a.first ≡ (meet a b).first) × (a.end ≡ (meet a b).end)
whole_meet a b some same = (omega arith, omega arith)

pub whole_first : (s : Sizes) (rank : ℕ) (p : Piece) → Fits s rank p → p.count ≡ width (block s rank) → (block s rank).first ≡ (overlap s rank p.client).first
whole_first s rank p fit all = (whole_meet (block s rank) (part s p.client) (ltb-true 0 (width (overlap s rank p.client)) fit.some) (sym fit.count ∙ all)).0

-- the only client that sends cells of the block
pub only_client : (s : Sizes) (rank : ℕ) (p : Piece) (c : ℕ) → AreSizes s → rank < s.ranks → Fits s rank p → p.count ≡ width (block s rank) → c < s.clients → overlaps s rank c ≡ true → c ≡ p.client
only_client s rank p c sizes within fit all c_in c_some =
    let own : 0 < width (overlap s rank p.client) = ltb-true 0 (width (overlap s rank p.client)) fit.some in
    let whole = whole_meet (block s rank) (part s p.client) own (sym fit.count ∙ all) in
    let other : 0 < width (overlap s rank c) = ltb-true 0 (width (overlap s rank c)) c_some in
    let x : ℕ = (overlap s rank c).first in
    let in_c : IsTrue (is_in_span (overlap s rank c) x) = in_span (overlap s rank c) x (omega arith) (omega arith) in
    let in_block : IsTrue (is_in_span (block s rank) x) = ((in_meet (block s rank) (part s c) x).0 in_c).0 in
    let b = bounds (block s rank) x in_block in
    let low : (overlap s rank p.client).first ≤ x = subst (λ (n : ℕ). n ≤ x) (whole.0) (b.0) in
    let high : x < (overlap s rank p.client).end = subst (λ (n : ℕ). x < n) (whole.1) (b.1) in
    overlaps_apart s rank c p.client x sizes within c_in fit.client in_c (in_span (overlap s rank p.client) x low high)

some_same : (a b : ℕ) → ◌≡◌ {A = Option ℕ} (Some a) (Some b) → a ≡ b
some_same a b e = cc

-- where all pieces come from one client, the greatest life has a share of it
greatest_shared : (s : Sizes) (rank : ℕ) (key : Key) (c m : ℕ) (ps : List Piece) → ((q : Piece) → Fits s rank q → q.client ≡ c) → AllByRecursion (Fits s rank) ps → greatest_life key ps ≡ Some m → list_any (is_share key m c) ps ≡ true
unfolding greatest_life
greatest_shared s rank key c m [] one all top = absurd cc
greatest_shared s rank key c m (q ∷ ps) one all top = ⊎_elim
    (λ (t : is_of_key key q ≡ true).
    let most : later_of (greatest_life key ps) q.life ≡ m = some_same _ _ (sym (ap (λ b. cond b (Some (later_of (greatest_life key ps) q.life)) (greatest_life key ps)) t) ∙ top) in
    ⊎_elim
    (λ (same : q.life ≡ m). or_left _ _ (and_from _ _ (and_from _ _ t (eq-eqb q.life m same)) (eq-eqb q.client c (one q (all.0)))))
    (λ (other : q.life ≡ m → ⊥). or_right _ _ (greatest_shared s rank key c m ps one (all.1) (earlier (greatest_life key ps) q.life most other)))
    (cases_eq q.life m))
    (λ (f : is_of_key key q ≡ false).
    or_right _ _ (greatest_shared s rank key c m ps one (all.1) (sym (ap (λ b. cond b (Some (later_of (greatest_life key ps) q.life)) (greatest_life key ps)) f) ∙ top)))
    (cases_Bool (is_of_key key q))
  where
    earlier : (g : Option ℕ) (a : ℕ) → later_of g a ≡ m → (a ≡ m → ⊥) → g ≡ Some m
    earlier None a most other = absurd (other most)
    earlier (Some n) a most other = let same : n ≡ m = omega arith in ap (λ (k : ℕ). Some k) same

-- what is asked of each client holds where it holds of the only one
asked_of_one : (s : Sizes) (rank : ℕ) (p : Piece) (t : ℕ → Bool) → AreSizes s → rank < s.ranks → Fits s rank p → p.count ≡ width (block s rank) → t p.client ≡ true
    → list_all (λ client. not (overlaps s rank client) || t client) (below s.clients) ≡ true
asked_of_one s rank p t sizes within fit all h =
    all_below (λ client. not (overlaps s rank client) || t client) s.clients (λ client inside. ⊎_elim
    (λ some. or_right _ _ (ap t (only_client s rank p client sizes within fit all inside some) ∙ h))
    (λ none. or_left _ _ (not_from_false _ none))
    (cases_Bool (overlaps s rank client)))

-- where a piece covers the block alone, each key that has a share has all
pub all_whole : (held : Held) (p : Piece) → AreSizes held.sizes → ArePending held → Fits held.sizes held.rank p → p.count ≡ width (block held.sizes held.rank) → AreWhole held
all_whole held p sizes pending fit whole key = by_cases (kept_of held key) (pending.each key)
  where
    there : (o : Option Share) → IsSome o → (share : Share) × (o ≡ Some share)
    there None h = absurd cc
    there (Some share) h = (share, refl)

    held_there : (o : Option Share) (share : Share) → o ≡ Some share → is_some o ≡ true
    held_there None share e = absurd cc
    held_there (Some x) share e = refl

    by_cases : (o : Option KeyShares) → ((x : KeyShares) → o ≡ Some x → IsPending held.sizes held.rank key x) → IsSome o
        → has_all held.sizes held.rank (λ client. elim o [ None ↦ None | Some x ↦ share_in x client ]) ≡ true
    by_cases None each h = absurd cc
    by_cases (Some x) each h =
        let is : IsPending held.sizes held.rank key x = each x refl in
        let found = there (share_in x (is.some.0)) (is.some.2) in
        let own : is.some.0 ≡ p.client = only_client held.sizes held.rank p (is.some.0) sizes pending.rank_in fit whole (is.some.1) (is.shares.shares (is.some.0) (found.0) (found.1)).some in
        asked_of_one held.sizes held.rank p (λ client. is_some (share_in x client)) sizes pending.rank_in fit whole
        (ap (λ c. is_some (share_in x c)) (sym own) ∙ held_there (share_in x (is.some.0)) (found.0) (found.1))

-- no life stands before a piece that covers its block alone
pub none_before : (s : Sizes) (rank : ℕ) (ps : List Piece) (p : Piece) → AreSizes s → rank < s.ranks → AllByRecursion (Fits s rank) ps → Fits s rank p → p.count ≡ width (block s rank) → is_completed s rank (key_of p) ps ≡ false
    → greatest_life (key_of p) ps ≡ None
none_before s rank ps p sizes within all fit whole was = by_cases (greatest_life (key_of p) ps) (λ m top.
    let shared : list_any (is_share (key_of p) m p.client) ps ≡ true = greatest_shared s rank (key_of p) p.client m ps (λ q q_fit. only_client s rank p q.client sizes within fit whole q_fit.client q_fit.some) all top in
    let shares : has_all_shares s rank (key_of p) m ps ≡ true = asked_of_one s rank p (λ client. list_any (is_share (key_of p) m client) ps) sizes within fit whole shared in
    both_ways _ was (whole_completed s rank (key_of p) ps m top shares))
  where
    by_cases : (g : Option ℕ) → ((m : ℕ) → g ≡ Some m → ⊥) → g ≡ None
    by_cases None h = refl
    by_cases (Some m) h = absurd (h m refl)

-- its own share alone makes its key whole
pub stored_alone : (s : Sizes) (rank : ℕ) (ps : List Piece) (p : Piece) (life : Option ℕ) (shares : ℕ → Option Share) → AreSizes s → rank < s.ranks → AllByRecursion (Fits s rank) ps → Fits s rank p → p.count ≡ width (block s rank)
    → PendsAt s rank (key_of p) life shares ps → is_completed s rank (key_of p) ps ≡ false
    → Stored s rank ps p (with_share (λ client. None) p) × (has_all s rank (with_share (λ client. None) p) ≡ true) × (life ≡ None)
stored_alone s rank ps p life shares sizes within all fit whole h was =
    let none : life ≡ None = open_life s rank (key_of p) life shares ps h was ∙ none_before s rank ps p sizes within all fit whole was in (
      stored_first s rank ps p life shares h was (ap (reaches p.life) none),
      asked_of_one s rank p (λ client. is_some (with_share (λ client. None) p client)) sizes within fit whole (ap (λ b. is_some (cond b (Some (share_of p)) None)) (eq-eqb p.client p.client refl)),
      none,
    )
