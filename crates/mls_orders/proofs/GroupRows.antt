-- What row an accepted group gives, from the tape alone.
use Rattle.std.proofs.Common.{◌≡◌, ℕ, ◌+◌, ◌-◌, ◌*◌, ◌<◌, ◌≤◌, Bool, true, false, not, ◌&&◌, ◌||◌, cond, eqb, List, [], ◌∷◌, ◌++◌, map, get_or, IsPermutation, Option, Some, None, All, Contains, refl, sym, ap, ap₂, ◌∙◌, arith, eqb-true, eq-eqb}
use Rattle.std.specs.Prelude.{slice_index}
use Rattle.std.specs.List.{list_any, find, AllByRecursion}
use Rattle.std.proofs.lemmas.Bool.{and_parts, and_from, leb-true, ltb-true, lt-ltb}
use Rattle.std.proofs.lemmas.List.{map-append}
use Rattle.std.proofs.lemmas.List.Sorted.{IsPermutation-sym, All-permutation}
use Rattle.std.proofs.lemmas.List.Elements.{All-from_recursion, recursion_from_All, Contains-get_or}
use Rattle.std.proofs.lemmas.List.Folds.{list_any_at}
use Rattle.mls_model.specs.declared.blocks.Span.{Span}
use Rattle.mls_model.specs.Numbers.{below}
use Rattle.mls_model.specs.Places.{gathered}
use Rattle.mls_model.specs.Studies.{Sizes}
use Rattle.mls_model.specs.Blocks.{block, part, is_in_span, meet, overlap, overlaps, width, client_of}
use Rattle.mls_model.specs.Frames.{Piece}
use Rattle.mls_model.specs.Fitting.{Fits}
use Rattle.mls_model.specs.Completion.{Key, key_of, is_of_key, is_share, has_all_shares, makes_whole, completes}
use Rattle.mls_model.specs.AcceptedRows.{completions, accepted, samples_at, share_row, row_at, sample_rows}
use Rattle.mls_laws.proofs.Places.{from_end}
use Rattle.mls_laws.proofs.Completing.{same_key, own_key, completions_more, accepted_more}
use Rattle.mls_orders.specs.OrderFree.{CarryTheSame}
use Rattle.mls_orders.specs.CellLines.{is_from, part_row, group_row}
use Rattle.mls_orders.proofs.Found.{found, passes, or_second, all_front, are_below, at_below}

-- what is known of a fitting piece of the tape
pub record IsKnown (s : Sizes) (rank : ℕ) (tape : List Piece) (q : Piece) : Type 0 where
  pub fit : Fits s rank q
  pub there : list_any (is_from (key_of q) q.client) tape ≡ true
  pub alike : AllByRecursion (λ r. Fits s rank r × CarryTheSame q r) tape

own_part : (p : Piece) → is_from (key_of p) p.client p ≡ true
own_part p = and_from _ _ (own_key p) (eq-eqb p.client p.client refl)

known_on_tape : (s : Sizes) (rank : ℕ) (tape : List Piece) → AllByRecursion (Fits s rank) tape → ((p q : Piece) → Contains tape p → Contains tape q → CarryTheSame p q) → All (IsKnown s rank tape) tape
known_on_tape s rank tape fits alike = λ k d lt.
    let fit : All (Fits s rank) tape = All-from_recursion (Fits s rank) tape fits in
    record {
      fit = fit k d lt;
      there = list_any_at (is_from (key_of (get_or tape k d)) (get_or tape k d).client) tape k d lt (own_part (get_or tape k d));
      alike = recursion_from_All (λ r. Fits s rank r × CarryTheSame (get_or tape k d) r) tape (λ j e long. (fit j e long, alike (get_or tape k d) (get_or tape j e) (Contains-get_or tape k d lt) (Contains-get_or tape j e long)));
    }

-- so much is known of each piece of a history
pub all_known : (s : Sizes) (rank : ℕ) (pieces tape : List Piece) → IsPermutation pieces tape → AllByRecursion (Fits s rank) tape → ((p q : Piece) → Contains tape p → Contains tape q → CarryTheSame p q) → AllByRecursion (IsKnown s rank tape) pieces
all_known s rank pieces tape h fits alike = recursion_from_All (IsKnown s rank tape) pieces (All-permutation (IsKnown s rank tape) tape pieces (IsPermutation-sym pieces tape h) (known_on_tape s rank tape fits alike))

-- ---- one place that completes its key

in_both : (a b : Span) (x : ℕ) → is_in_span a x ≡ true → is_in_span b x ≡ true → 0 < width (meet a b)
in_both a b x h k =
    let here = and_parts _ _ h in
    let there = and_parts _ _ k in
    let a_first : a.first ≤ x = leb-true a.first x here.0 in
    let a_end : x < a.end = ltb-true x a.end here.1 in
    let b_first : b.first ≤ x = leb-true b.first x there.0 in
    let b_end : x < b.end = ltb-true x b.end there.1 in
    omega (arith, a_first, a_end, b_first, b_end)

samples_same : (q r : Piece) (x : ℕ) → q.rows ≡ r.rows → q.first ≡ r.first → q.count ≡ r.count → q.samples ≡ r.samples → samples_at q (x - q.first) ≡ samples_at r (x - r.first)
samples_same q r x rows first count samples = λ i. map (λ row. slice_index (samples i) (row * count i + (x - first i))) (below (rows i))

fit_alike : (s : Sizes) (rank : ℕ) (q r : Piece) (x : ℕ) → Fits s rank q → Fits s rank r → q.client ≡ r.client → q.samples ≡ r.samples → samples_at q (x - q.first) ≡ samples_at r (x - r.first)
fit_alike s rank q r x a b client samples = samples_same q r x (a.rows ∙ sym b.rows) (a.first ∙ ap (λ (c : ℕ). (overlap s rank c).first) client ∙ sym b.first) (a.count ∙ ap (λ (c : ℕ). width (overlap s rank c)) client ∙ sym b.count) samples

completes_whole : (s : Sizes) (rank : ℕ) (ps : List Piece) (p : Piece) → completes s rank ps p ≡ true → has_all_shares s rank (key_of p) p.life (ps ++ p ∷ []) ≡ true
unfolding completes makes_whole
completes_whole s rank ps p h = (and_parts _ _ (and_parts _ _ h).0).1

-- where a life has all shares, it has one of each client that overlaps
pub has_share : (s : Sizes) (rank : ℕ) (key : Key) (life client : ℕ) (pieces : List Piece) → has_all_shares s rank key life pieces ≡ true → client < s.clients → overlaps s rank client ≡ true → list_any (is_share key life client) pieces ≡ true
has_share s rank key life client pieces all lt some = or_second (overlaps s rank client) _ (at_below (λ c. not (overlaps s rank c) || list_any (is_share key life c) pieces) s.clients client all lt) some

from_option : (o : Option Piece) (q : Piece) (x : ℕ) → o ≡ Some q → elim o [ None ↦ [] | Some r ↦ samples_at r (x - r.first) ] ≡ samples_at q (x - q.first)
from_option None q x e = absurd cc
from_option (Some r) q x e = let same : r ≡ q = cc in ap (λ (p : Piece). samples_at p (x - p.first)) same

-- the first share of the life that completes gives the samples of the first piece of the client on the tape
share_is_part : (s : Sizes) (rank : ℕ) (key : Key) (life x client : ℕ) (pieces tape : List Piece) → AllByRecursion (IsKnown s rank tape) pieces → list_any (is_share key life client) pieces ≡ true → share_row key life x client pieces ≡ part_row key x client tape
share_is_part s rank key life x client pieces tape known some =
    let share = found (is_share key life client) (IsKnown s rank tape) pieces known some in
    let q : Piece = share.0 in
    let tests = and_parts (is_of_key key q && eqb q.life life) (eqb q.client client) share.2 in
    let own : key_of q ≡ key = same_key key q (and_parts (is_of_key key q) (eqb q.life life) tests.0).0 in
    let from : q.client ≡ client = eqb-true q.client client tests.1 in
    let there : list_any (is_from key client) tape ≡ true = (λ i. list_any (is_from (sym own i) (sym from i)) tape) ∙ share.3.there in
    let first = found (is_from key client) (λ r. Fits s rank r × CarryTheSame q r) tape share.3.alike there in
    let r : Piece = first.0 in
    let parts = and_parts (is_of_key key r) (eqb r.client client) first.2 in
    let own_too : key_of r ≡ key = same_key key r parts.0 in
    let client_too : q.client ≡ r.client = from ∙ sym (eqb-true r.client client parts.1) in
    from_option (find (is_share key life client) pieces) q x share.1
    ∙ fit_alike s rank q r x share.3.fit first.3.0 client_too (first.3.1 (own ∙ sym own_too) client_too)
    ∙ sym (from_option (find (is_from key client) tape) r x first.1)

by_client : (s : Sizes) (rank plane x : ℕ) (ps : List Piece) (p : Piece) (tape : List Piece) (o : Option ℕ) → client_of s x ≡ o → is_in_span (block s rank) x ≡ true → AllByRecursion (IsKnown s rank tape) (ps ++ p ∷ []) → p.plane ≡ plane → has_all_shares s rank (key_of p) p.life (ps ++ p ∷ []) ≡ true
    → ◌≡◌ {A = List ℕ} (elim o [ None ↦ [] | Some client ↦ share_row (key_of p) p.life x client (ps ++ p ∷ []) ]) (elim o [ None ↦ [] | Some client ↦ part_row (record { group = p.group; plane = plane }) x client tape ])
by_client s rank plane x ps p tape None e inside known at all = refl
by_client s rank plane x ps p tape (Some client) e inside known at all =
    let holds = passes (λ c. is_in_span (part s c) x) (λ (c : ℕ). c < s.clients) (below s.clients) client (are_below s.clients) e in
    let some : overlaps s rank client ≡ true = lt-ltb 0 (width (overlap s rank client)) (in_both (block s rank) (part s client) x inside holds.0) in
    share_is_part s rank (key_of p) p.life x client (ps ++ p ∷ []) tape known (has_share s rank (key_of p) p.life client (ps ++ p ∷ []) all holds.1 some)
    ∙ ap (λ (t : ℕ). part_row (record { group = p.group; plane = t }) x client tape) at

row_known : (s : Sizes) (rank plane x : ℕ) (ps : List Piece) (p : Piece) (tape : List Piece) → is_in_span (block s rank) x ≡ true → AllByRecursion (IsKnown s rank tape) (ps ++ p ∷ []) → (eqb p.plane plane && completes s rank ps p) ≡ true → row_at s x ps p ≡ group_row s plane x tape p.group
unfolding group_row
row_known s rank plane x ps p tape inside known h =
    let parts = and_parts (eqb p.plane plane) (completes s rank ps p) h in
    by_client s rank plane x ps p tape (client_of s x) refl inside known (eqb-true p.plane plane parts.0) (completes_whole s rank ps p parts.1)

-- ---- all of them

HasRows : Sizes → ℕ → ℕ → ℕ → List Piece → List Piece → Type 0
HasRows s rank plane x tape ps = AllByRecursion (IsKnown s rank tape) ps → sample_rows s rank plane x ps ≡ map (group_row s plane x tape) (accepted s rank plane ps)

one_row : (b : Bool) (row : List ℕ) (group : ℕ) (f : ℕ → List ℕ) → (b ≡ true → row ≡ f group) → cond b (row ∷ []) [] ≡ map f (cond b (group ∷ []) [])
one_row true row group f same = ap (λ (r : List ℕ). r ∷ []) (same refl)
one_row false row group f same = refl

rows_more : (s : Sizes) (rank plane x : ℕ) (ps : List Piece) (p : Piece) → sample_rows s rank plane x (ps ++ p ∷ []) ≡ sample_rows s rank plane x ps ++ cond (eqb p.plane plane && completes s rank ps p) (row_at s x ps p ∷ []) []
unfolding sample_rows
rows_more s rank plane x ps p = completions_more s rank plane (row_at s x) ps p

no_rows : (s : Sizes) (rank plane x : ℕ) (tape : List Piece) → HasRows s rank plane x tape []
unfolding HasRows sample_rows accepted completions gathered
no_rows s rank plane x tape known = refl

has_more : (s : Sizes) (rank plane x : ℕ) (tape : List Piece) → is_in_span (block s rank) x ≡ true → (ps : List Piece) (p : Piece) → HasRows s rank plane x tape ps → HasRows s rank plane x tape (ps ++ p ∷ [])
unfolding HasRows
has_more s rank plane x tape inside ps p so known =
    let b : Bool = eqb p.plane plane && completes s rank ps p in
    rows_more s rank plane x ps p
    ∙ ap₂ (λ (us vs : List (List ℕ)). us ++ vs) (so (all_front (IsKnown s rank tape) ps p known)) (one_row b (row_at s x ps p) p.group (group_row s plane x tape) (λ t. row_known s rank plane x ps p tape inside known t))
    ∙ sym (map-append (group_row s plane x tape) (accepted s rank plane ps) (cond b (p.group ∷ []) []))
    ∙ sym (ap (map (group_row s plane x tape)) (accepted_more s rank plane ps p))

pub rows_of_groups : (s : Sizes) (rank plane x : ℕ) (pieces tape : List Piece) → is_in_span (block s rank) x ≡ true → AllByRecursion (IsKnown s rank tape) pieces → sample_rows s rank plane x pieces ≡ map (group_row s plane x tape) (accepted s rank plane pieces)
unfolding HasRows
rows_of_groups s rank plane x pieces tape inside = from_end (HasRows s rank plane x tape) (no_rows s rank plane x tape) (has_more s rank plane x tape inside) pieces
