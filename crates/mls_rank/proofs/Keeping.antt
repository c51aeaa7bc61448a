-- What a rank keeps after one more fitting piece.
use Rattle.std.proofs.Common.{◌≡◌, ℕ, ◌+◌, ◌<◌, Bool, true, false, ◌&&◌, ◌||◌, cond, List, [], ◌∷◌, ◌++◌, length, map, refl, ap, sym, ◌∙◌, subst, length-append}
use Rattle.std.specs.Prelude.{◌==◌, nat_lt}
use Rattle.std.proofs.lemmas.List.{append-nil}
use Rattle.std.proofs.lemmas.Simd.{map-map}
use Rattle.mls_model.specs.Numbers.{below}
use Rattle.mls_model.specs.Studies.{Sizes}
use Rattle.mls_model.specs.Blocks.{block, width}
use Rattle.mls_model.specs.Samples.{shifted}
use Rattle.mls_model.specs.Frames.{Piece}
use Rattle.mls_model.specs.Places.{gathered, any_place}
use Rattle.mls_model.specs.Completion.{Key, is_of_key, is_completed, completes}
use Rattle.mls_model.specs.AcceptedRows.{completions, accepted, row_at, sample_rows}
use Rattle.mls_model.specs.Standing.{Table, empty_table, with_block, rank_table}
use Rattle.mls_field.specs.ShiftedRows.{shifted_row}
use Rattle.mls_laws.proofs.Places.{any_place_more}
use Rattle.mls_laws.proofs.Completing.{accepted_more, completes_key, completed_at_some_place}
use Rattle.mls_laws.proofs.Table.{same_tables, same_test, table_kept, table_completed}
use Rattle.mls_assembly.specs.Held.{Held}
use Rattle.mls_assembly.specs.Offered.{offered_sample, Completed}
use Rattle.mls_rank.specs.Standing.{KeepsRows}

no_rows : (b : Bool) → cond b [] [] ≡ (let r : List (List ℕ) = [] in r)
no_rows true = refl
no_rows false = refl

empty_rows : (s : Sizes) (rank plane place : ℕ) → rank_table s rank [] plane place ≡ empty_table plane place
unfolding sample_rows completions gathered
empty_rows s rank plane place = no_rows (nat_lt place (width (block s rank)))

none_completed : (s : Sizes) (rank : ℕ) (key : Key) → is_completed s rank key [] ≡ false
unfolding is_completed any_place
none_completed s rank key = refl

none_accepted : (s : Sizes) (rank plane : ℕ) → length (accepted s rank plane []) ≡ 0
unfolding accepted completions gathered
none_accepted s rank plane = refl

-- before any piece
pub keeps_none : (s : Sizes) (rank : ℕ) (marks : ℕ → ℕ → Bool) (groups : ℕ → ℕ) (stands : Table → Type 0) → ((group plane : ℕ) → marks group plane ≡ false) → ((plane : ℕ) → groups plane ≡ 0) → stands empty_table → KeepsRows s rank marks groups stands []
keeps_none s rank marks groups stands empty none rows = record {
  marked = λ group plane. empty group plane ∙ sym (none_completed s rank (record { group = group; plane = plane }));
  accepted = λ plane. none plane ∙ sym (none_accepted s rank plane);
  rows = subst stands (sym (same_tables (rank_table s rank []) empty_table (empty_rows s rank))) rows;
}

-- one more piece completes its key where it completes it, and no other
pub is_completed_by : (s : Sizes) (rank : ℕ) (key : Key) (pieces : List Piece) (p : Piece) → is_completed s rank key (pieces ++ p ∷ []) ≡ (is_completed s rank key pieces || (is_of_key key p && completes s rank pieces p))
is_completed_by s rank key pieces p =
    completed_at_some_place s rank key (pieces ++ p ∷ [])
    ∙ (any_place_more (completes_key s rank key) [] pieces p
    ∙ ap (λ b. b || completes_key s rank key pieces p) (sym (completed_at_some_place s rank key pieces)))

or_never : (a b c : Bool) → c ≡ false → (a || (b && c)) ≡ a
or_never true b c h = refl
or_never false true c h = h
or_never false false c h = refl

or_always : (a b c : Bool) → c ≡ true → (a || (b && c)) ≡ (a || b)
or_always true b c h = refl
or_always false true c h = h
or_always false false c h = refl

none_added : (b c : Bool) (xs : List ℕ) (x : ℕ) → c ≡ false → xs ++ cond (b && c) (x ∷ []) [] ≡ xs
none_added true c xs x h = rw h (append-nil xs)
none_added false c xs x h = append-nil xs

-- a piece that completes no key
pub keeps_unchanged : (s : Sizes) (rank : ℕ) (marks : ℕ → ℕ → Bool) (groups : ℕ → ℕ) (stands : Table → Type 0) (pieces : List Piece) (p : Piece)
    → completes s rank pieces p ≡ false → KeepsRows s rank marks groups stands pieces → KeepsRows s rank marks groups stands (pieces ++ p ∷ [])
keeps_unchanged s rank marks groups stands pieces p none kept = record {
  marked = λ group plane.
      kept.marked group plane
      ∙ sym (is_completed_by s rank (record { group = group; plane = plane }) pieces p
      ∙ or_never (is_completed s rank (record { group = group; plane = plane }) pieces) (is_of_key (record { group = group; plane = plane }) p) (completes s rank pieces p) none);
  accepted = λ plane. kept.accepted plane ∙ sym (ap length (accepted_more s rank plane pieces p ∙ none_added (p.plane == plane) (completes s rank pieces p) (accepted s rank plane pieces) p.group none));
  rows = subst stands (sym (table_kept s rank pieces p none)) kept.rows;
}

one_longer : (b c : Bool) (xs : List ℕ) (x : ℕ) → c ≡ true → length (xs ++ cond (b && c) (x ∷ []) []) ≡ cond b (length xs + 1) (length xs)
one_longer true c xs x h = rw h (length-append xs (x ∷ []))
one_longer false c xs x h = ap length (append-nil xs)

-- a piece that completes its key
pub keeps_completed : (s : Sizes) (rank : ℕ) (marks new_marks : ℕ → ℕ → Bool) (groups new_groups : ℕ → ℕ) (stands new_stands : Table → Type 0) (pieces : List Piece) (p : Piece) (sample : ℕ → ℕ → ℕ) → completes s rank pieces p ≡ true
    → ((place : ℕ) → place < width (block s rank) → row_at s ((block s rank).first + place) pieces p ≡ map (λ row. sample row place) (below (s.parameters + 2)))
    → ((group plane : ℕ) → new_marks group plane ≡ (marks group plane || ((group == p.group) && (plane == p.plane))))
    → ((plane : ℕ) → new_groups plane ≡ cond (plane == p.plane) (groups plane + 1) (groups plane))
    → ((t : Table) → stands t → new_stands (with_block t p.plane (width (block s rank)) (shifted_row s.signed (s.parameters + 2) sample)))
    → KeepsRows s rank marks groups stands pieces → KeepsRows s rank new_marks new_groups new_stands (pieces ++ p ∷ [])
keeps_completed s rank marks new_marks groups new_groups stands new_stands pieces p sample done rows marked counted added kept = record {
  marked = λ group plane.
      marked group plane
      ∙ (ap (λ b. b || ((group == p.group) && (plane == p.plane))) (kept.marked group plane)
      ∙ (ap (λ b. is_completed s rank (record { group = group; plane = plane }) pieces || b) (ap (λ b. b && (plane == p.plane)) (same_test group p.group) ∙ ap (λ b. (p.group == group) && b) (same_test plane p.plane))
      ∙ sym (is_completed_by s rank (record { group = group; plane = plane }) pieces p
      ∙ or_always (is_completed s rank (record { group = group; plane = plane }) pieces) (is_of_key (record { group = group; plane = plane }) p) (completes s rank pieces p) done)));
  accepted = λ plane.
      counted plane
      ∙ (ap (λ n. cond (plane == p.plane) (n + 1) n) (kept.accepted plane)
      ∙ (ap (λ b. cond b (length (accepted s rank plane pieces) + 1) (length (accepted s rank plane pieces))) (same_test plane p.plane)
      ∙ sym (ap length (accepted_more s rank plane pieces p) ∙ one_longer (p.plane == plane) (completes s rank pieces p) (accepted s rank plane pieces) p.group done)));
  rows = subst new_stands
      (sym (table_completed s rank pieces p (shifted_row s.signed (s.parameters + 2) sample) done
      (λ place within. ap (map (shifted s.signed)) (rows place within) ∙ map-map (shifted s.signed) (λ row. sample row place) (below (s.parameters + 2)))))
      (added (rank_table s rank pieces) kept.rows);
}

same_samples : (f g : ℕ → ℕ) → ((row : ℕ) → f row ≡ g row) → f ≡ g
same_samples f g h = λ i row. h row i

-- the same, from what the parts of a core say
pub keeps_taken : (s fold_sizes : Sizes) (rank fold_rank : ℕ) (marks new_marks : ℕ → ℕ → Bool) (groups new_groups : ℕ → ℕ) (stands new_stands : Table → Type 0) (pieces : List Piece) (p : Piece) (held : Held) (group plane row_plane n : ℕ) (sample : ℕ → ℕ → ℕ)
    → fold_sizes ≡ s → fold_rank ≡ rank → group ≡ p.group → plane ≡ p.plane → row_plane ≡ p.plane → n ≡ s.parameters + 2
    → ((row place : ℕ) → offered_sample s rank held p row place ≡ sample row place) → Completed s rank held p pieces
    → ((g q : ℕ) → new_marks g q ≡ (marks g q || ((g == group) && (q == plane))))
    → ((q : ℕ) → new_groups q ≡ cond (q == plane) (groups q + 1) (groups q))
    → ((t : Table) → stands t → new_stands (with_block t row_plane (width (block fold_sizes fold_rank)) (shifted_row fold_sizes.signed n sample)))
    → KeepsRows s rank marks groups stands pieces → KeepsRows s rank new_marks new_groups new_stands (pieces ++ p ∷ [])
keeps_taken s fold_sizes rank fold_rank marks new_marks groups new_groups stands new_stands pieces p held group plane row_plane n sample s_same r_same g_same p_same q_same n_same samples completed marked counted added kept =
    keeps_completed s rank marks new_marks groups new_groups stands new_stands pieces p sample completed.completes
    (λ place within. completed.rows place within ∙ ap (λ (f : ℕ → ℕ). map f (below (s.parameters + 2))) (same_samples (λ row. offered_sample s rank held p row place) (λ row. sample row place) (λ row. samples row place)))
    (λ g q. marked g q ∙ (ap (λ n. marks g q || ((g == n) && (q == plane))) g_same ∙ ap (λ n. marks g q || ((g == p.group) && (q == n))) p_same))
    (λ q. counted q ∙ ap (λ n. cond (q == n) (groups q + 1) (groups q)) p_same)
    (λ t h.
    subst (λ (k : ℕ). new_stands (with_block t p.plane (width (block s rank)) (shifted_row s.signed k sample))) n_same
    (subst (λ (z : Sizes). new_stands (with_block t p.plane (width (block z rank)) (shifted_row z.signed n sample))) s_same
    (subst (λ (r : ℕ). new_stands (with_block t p.plane (width (block fold_sizes r)) (shifted_row fold_sizes.signed n sample))) r_same
    (subst (λ (q : ℕ). new_stands (with_block t q (width (block fold_sizes fold_rank)) (shifted_row fold_sizes.signed n sample))) q_same (added t h)))))
    kept

-- what a test of the marks said
pub mark_at : (marks : ℕ → ℕ → Bool) (has answer : Bool) (group plane g q : ℕ) → has ≡ marks group plane → group ≡ g → plane ≡ q → has ≡ answer → marks g q ≡ answer
mark_at marks has answer group plane g q h g_same q_same is =
    sym (ap (λ n. marks n plane) g_same ∙ ap (λ n. marks g n) q_same) ∙ (sym h ∙ is)
