-- The rows of a completed key, by the shares of its life.
use Rattle.std.proofs.Common.{◌≡◌, ℕ, ◌+◌, ◌-◌, ◌*◌, ◌<◌, Bool, true, false, not, ◌||◌, cond, List, [], ◌∷◌, ◌++◌, map, Option, Some, None, refl, ap, sym, ◌∙◌, ⊎_elim, subst, arith, IsTrue}
use Rattle.std.specs.Prelude.{slice_index}
use Rattle.std.specs.Option.{option_map, is_some}
use Rattle.std.specs.List.{find, AllByRecursion}
use Rattle.std.proofs.lemmas.Bool.{cases_Bool, lt-ltb, eq-eqb}
use Rattle.mls_model.specs.Numbers.{below}
use Rattle.mls_model.specs.Studies.{Sizes, AreSizes}
use Rattle.mls_model.specs.Blocks.{block, part, overlap, overlaps, width, is_in_span, client_of}
use Rattle.mls_model.specs.Frames.{Piece}
use Rattle.mls_model.specs.Completion.{key_of, is_share}
use Rattle.mls_model.specs.AcceptedRows.{samples_at, share_row, row_at}
use Rattle.mls_base.specs.Partitions.{ArePartition}
use Rattle.mls_base.proofs.Spans.{bounds, in_span, in_meet, spans_partition, span_found}
use Rattle.mls_model.specs.Fitting.{Fits}
use Rattle.mls_laws.proofs.OneClient.{IsBlock, is_block, all_more}
use Rattle.mls_assembly.specs.Shares.{Share, share_of, share_sample, block_sample, has_all}
use Rattle.mls_assembly.proofs.Taking.{below_at}
use Rattle.mls_assembly.proofs.Storing.{Stored, with_share}
use Rattle.mls_assembly.proofs.Alone.{only_client, whole_first}

-- the client of a cell of the block
pub record IsSender (s : Sizes) (rank x client : ℕ) : Type 0 where
  pub within : client < s.clients
  pub found : client_of s x ≡ Some client
  pub holds : IsTrue (is_in_span (overlap s rank client) x)
  pub some : overlaps s rank client ≡ true

sends : (s : Sizes) (rank x client : ℕ) → AreSizes s → client < s.clients → IsTrue (is_in_span (part s client) x) → IsTrue (is_in_span (block s rank) x) → IsSender s rank x client
sends s rank x client sizes within in_part in_block =
    let holds : IsTrue (is_in_span (overlap s rank client) x) = (in_meet (block s rank) (part s client) x).1 (in_block, in_part) in
    let b = bounds (overlap s rank client) x holds in
    record {
      within = within;
      found = (span_found s.cells s.clients x client sizes.some_clients).1 (within, in_part);
      holds = holds;
      some = lt-ltb 0 (width (overlap s rank client)) (omega arith);
    }

pub sender : (s : Sizes) (rank place : ℕ) → AreSizes s → rank < s.ranks → place < width (block s rank) → (client : ℕ) × IsSender s rank ((block s rank).first + place) client
sender s rank place sizes within inside =
    let is : IsBlock s rank = is_block s rank sizes within in
    let x : ℕ = (block s rank).first + place in
    let in_block : IsTrue (is_in_span (block s rank) x) = in_span (block s rank) x (omega arith) (omega arith) in
    let in_mesh : x < s.cells = omega (arith, is.within, is.some) in
    let parts : ArePartition s.clients (part s) (λ y. y < s.cells) = spans_partition s.cells s.clients sizes.some_clients in
    let one = parts.once x in_mesh in
    (one.one, sends s rank x one.one sizes one.within one.holds in_block)

find_all : {A : Type 0} (test : A → Bool) (P : A → Type 0) (xs : List A) (q : A) → AllByRecursion P xs → find test xs ≡ Some q → P q
find_all test P [] q all h = absurd cc
find_all {A} test P (x ∷ xs) q all h = ⊎_elim
    (λ (t : test x ≡ true). let same : x ≡ q = some_same x q (sym (ap (λ b. cond b (Some x) (find test xs)) t) ∙ h) in subst P same (all.0))
    (λ (f : test x ≡ false). find_all test P xs q (all.1) (sym (ap (λ b. cond b (Some x) (find test xs)) f) ∙ h))
    (cases_Bool (test x))
  where
    some_same : (a b : A) → Some a ≡ Some b → a ≡ b
    some_same a b e = cc

or_true : (a b : Bool) → a ≡ true → (not a || b) ≡ true → b ≡ true
or_true true b h e = e
or_true false b h e = absurd cc

-- the row of a place that a whole key gives is that of the shares
pub row_is : (s : Sizes) (rank place : ℕ) (ps : List Piece) (p : Piece) (shares : ℕ → Option Share) → AreSizes s → rank < s.ranks → AllByRecursion (Fits s rank) ps → Fits s rank p → place < width (block s rank)
    → Stored s rank ps p shares → has_all s rank shares ≡ true
    → row_at s ((block s rank).first + place) ps p ≡ map (λ row. block_sample s rank shares row place) (below (s.parameters + 2))
row_is s rank place ps p shares sizes within all fit inside h whole =
    let x : ℕ = (block s rank).first + place in
    let from = sender s rank place sizes within inside in
    let c : ℕ = from.0 in
    let is : IsSender s rank ((block s rank).first + place) (from.0) = from.1 in
    let asked : (not (overlaps s rank (from.0)) || is_some (shares (from.0))) ≡ true = below_at (λ client. not (overlaps s rank client) || is_some (shares client)) s.clients whole (from.0) is.within in
    let held : is_some (shares (from.0)) ≡ true = or_true (overlaps s rank (from.0)) _ is.some asked in
    let found = mapped_there share_of (find (is_share (key_of p) p.life (from.0)) (ps ++ p ∷ [])) (ap is_some (sym (h.first (from.0) is.within)) ∙ held) in
    let q : Piece = found.0 in
    let q_fit : Fits s rank (found.0) = find_all (is_share (key_of p) p.life (from.0)) (Fits s rank) (ps ++ p ∷ []) (found.0) (all_more s rank ps p all fit) (found.1) in
    let share : shares (from.0) ≡ Some (share_of (found.0)) = h.first (from.0) is.within ∙ ap (option_map share_of) (found.1) in
    ap (λ (o : Option ℕ). elim o [ None ↦ [] | Some client ↦ share_row (key_of p) p.life ((block s rank).first + place) client (ps ++ p ∷ []) ]) is.found
    ∙ (ap (λ (o : Option Piece). elim o [ None ↦ [] | Some r ↦ samples_at r (((block s rank).first + place) - r.first) ]) (found.1)
    ∙ (ap (λ (n : ℕ). map (λ row. slice_index (found.0).samples (row * (found.0).count + (((block s rank).first + place) - (found.0).first))) (below n)) q_fit.rows
    ∙ ap (λ (f : ℕ → ℕ). map f (below (s.parameters + 2)))
    (same_samples (λ row. slice_index (found.0).samples (row * (found.0).count + (((block s rank).first + place) - (found.0).first))) (λ row. block_sample s rank shares row place)
    (λ row.
    sym (ap (λ (o : Option ℕ). elim o [ None ↦ 0 | Some client ↦ share_sample (shares client) row ((block s rank).first + place) ]) is.found
    ∙ ap (λ (o : Option Share). share_sample o row ((block s rank).first + place)) share)))))
  where
    mapped_there : {A B : Type 0} (f : A → B) (o : Option A) → is_some (option_map f o) ≡ true → (y : A) × (o ≡ Some y)
    mapped_there f None e = absurd cc
    mapped_there f (Some y) e = (y, refl)

    same_samples : (f g : ℕ → ℕ) → ((row : ℕ) → f row ≡ g row) → f ≡ g
    same_samples f g e = λ i row. e row i

-- a piece that covers its block alone gives each place its own samples
pub own_row : (s : Sizes) (rank place : ℕ) (ps : List Piece) (p : Piece) → AreSizes s → rank < s.ranks → AllByRecursion (Fits s rank) ps → Fits s rank p → p.count ≡ width (block s rank) → place < width (block s rank)
    → Stored s rank ps p (with_share (λ client. None) p) → has_all s rank (with_share (λ client. None) p) ≡ true
    → row_at s ((block s rank).first + place) ps p ≡ map (λ row. slice_index p.samples (row * p.count + place)) (below (s.parameters + 2))
own_row s rank place ps p sizes within all fit whole inside h done =
    let from = sender s rank place sizes within inside in
    let is : IsSender s rank ((block s rank).first + place) (from.0) = from.1 in
    let own : from.0 ≡ p.client = only_client s rank p (from.0) sizes within fit whole is.within is.some in
    let at : p.first ≡ (block s rank).first = fit.first ∙ sym (whole_first s rank p fit whole) in
    let back : ((block s rank).first + place) - p.first ≡ place = omega (arith, at) in
    row_is s rank place ps p (with_share (λ client. None) p) sizes within all fit inside h done
    ∙ ap (λ (f : ℕ → ℕ). map f (below (s.parameters + 2)))
    (same_samples (λ row. block_sample s rank (with_share (λ client. None) p) row place) (λ row. slice_index p.samples (row * p.count + place))
    (λ row.
    ap (λ (o : Option ℕ). elim o [ None ↦ 0 | Some client ↦ share_sample (with_share (λ client. None) p client) row ((block s rank).first + place) ]) is.found
    ∙ (ap (λ b. share_sample (cond b (Some (share_of p)) None) row ((block s rank).first + place)) (eq-eqb (from.0) p.client own)
    ∙ ap (λ (n : ℕ). slice_index p.samples (row * p.count + n)) back)))
  where
    same_samples : (f g : ℕ → ℕ) → ((row : ℕ) → f row ≡ g row) → f ≡ g
    same_samples f g e = λ i row. e row i
