-- A list by its entries, and the counts of a cell.
use Rattle.std.proofs.Common.{◌≡◌, ℕ, zero, suc, ◌+◌, ◌*◌, ◌<◌, ◌≤◌, List, [], ◌∷◌, ◌++◌, length, map, take, get_or, inl, inr, ap, ◌∙◌, refl, sym, arith}
use Rattle.std.specs.Prelude.{sum, Option, Some, None, IsNone, ◌↔◌}
use Rattle.std.proofs.lemmas.Bool.{cases_lt}
use Rattle.mls_model.specs.CellSums.{both}
use Rattle.mls_model.specs.Standing.{Table}
use Rattle.std.proofs.lemmas.List.{map-append}
use Rattle.mls_model.specs.Numbers.{below}
use Rattle.mls_model.specs.Studies.{planes}
use Rattle.mls_hist.proofs.NumbersPut.{take_more}
use Rattle.mls_field.proofs.Rows.{same_entries, entry_of, length-shifted_outputs}
use Rattle.mls_hist.specs.declared.hist.Hist.{Hist}
use Rattle.mls_hist.specs.Histograms.{cell_start}
use Rattle.mls_hist.specs.Stands.{row_count, StandsFor, bin_count, bin_counts}
use Rattle.mls_hist.specs.Quartiles.{bracket, bracket_in}
use Rattle.mls_hist.proofs.QuartileBins.{no_samples, some_samples, bracket_is}
use Rattle.mls_hist.proofs.Parts.{counts_of_rows}
use Rattle.mls_hist.proofs.Sums.{take_whole}
use Rattle.mls_hist.proofs.Counting.{in_total, counts_opened}
use Rattle.mls_hist.proofs.RowsAdded.{count_opened}

entries : (xs : List ℕ) (n : ℕ) → n ≤ length xs → take n xs ≡ map (λ i. get_or xs i 0) (below n)
entries xs zero h = refl
entries xs (suc n) h =
    ap (λ m. take m xs) (let e : suc n ≡ n + 1 = omega arith in e) ∙ (take_more xs n (omega (arith, h)) ∙
    (ap (λ ys. ys ++ get_or xs n 0 ∷ []) (entries xs n (omega (arith, h))) ∙ sym (map-append (λ i. get_or xs i 0) (below n) (n ∷ []))))

pub list_is : (xs : List ℕ) (f : ℕ → ℕ) (n : ℕ) → length xs ≡ n → ((i : ℕ) → i < n → get_or xs i 0 ≡ f i) → xs ≡ map f (below n)
list_is xs f n long same = sym (take_whole xs n (omega (arith, long))) ∙ (entries xs n (omega (arith, long)) ∙ same_entries (λ i. get_or xs i 0) f n same)

-- a count that was added is small
pub added_small : (h : Hist) (plane place bin : ℕ) → plane < planes h.shape → place < h.places → bin < 64 → get_or h.bins.items (cell_start h.places plane place + bin) 0 ≤ 131070
added_small h plane place bin p_in inside low =
    let opened = count_opened h.places h.waiting.items h.bins.items h.samples.items plane place bin in
    let most = in_total (bin_count h plane place) 64 bin low in
    let whole = sym (ap sum (counts_opened h.places h.waiting.items h.bins.items h.samples.items plane place)) ∙ h.kept.whole plane place p_in inside in
    omega (arith, opened, most, whole, h.kept.few plane)

pub entry_counts : (h : Hist) (plane place bin : ℕ) → bin < 64 → get_or (bin_counts h plane place) bin 0 ≡ bin_count h plane place bin
entry_counts h plane place bin low =
    ap (λ (xs : List ℕ). get_or xs bin 0) (counts_opened h.places h.waiting.items h.bins.items h.samples.items plane place) ∙ entry_of (bin_count h plane place) 64 bin low

-- the brackets of a cell
pub counts_sum : (h : Hist) (plane place : ℕ) → plane < planes h.shape → place < h.places → sum (bin_counts h plane place) ≡ 2 * row_count h plane
counts_sum h plane place p_in inside = h.kept.whole plane place p_in inside

not_none : (r : Option ℕ) (b : ℕ) → r ≡ Some b → IsNone r → ⊥
not_none None b e none = absurd (let clash : ⊥ = cc in clash)
not_none (Some a) b e none = let clash : ⊥ = cc in clash

is_none : (r : Option ℕ) → r ≡ None → IsNone r
is_none None e = refl
is_none (Some a) e = absurd (let clash : ⊥ = cc in clash)

pub none_of : (h : Hist) (plane place j : ℕ) → plane < planes h.shape → place < h.places → (r : Option ℕ) → r ≡ bracket_in (bin_counts h plane place) j → IsNone r ↔ (row_count h plane ≡ 0)
none_of h plane place j p_in inside r is = elim (cases_lt 0 (row_count h plane)) [
  | inl some ↦ some_case some
  | inr none ↦ none_case (omega (arith, none))
]
  where
    whole : sum (bin_counts h plane place) ≡ 2 * row_count h plane
    whole = counts_sum h plane place p_in inside

    some_case : 0 < row_count h plane → IsNone r ↔ (row_count h plane ≡ 0)
    some_case some = (λ none. absurd (not_none r _ (is ∙ some_samples (bin_counts h plane place) j (omega (arith, some, whole))) none), λ empty. absurd (omega (arith, some, empty)))

    none_case : row_count h plane ≡ 0 → IsNone r ↔ (row_count h plane ≡ 0)
    none_case empty = (λ none. empty, λ again. is_none r (is ∙ no_samples (bin_counts h plane place) j (omega (arith, empty, whole))))

pub bracket_of_rows : (h : Hist) (t : Table) (plane place j : ℕ) → StandsFor h t → plane < planes h.shape → place < h.places → 1 ≤ j → j ≤ 3 → bracket_in (bin_counts h plane place) j ≡ bracket (both (t plane place)) j
bracket_of_rows h t plane place j stands p_in inside least most =
    let same = counts_of_rows h t plane place stands p_in inside in
    let whole = sym (ap sum same) ∙ counts_sum h plane place p_in inside in
    let long = length-shifted_outputs (t plane place) in
    ap (λ (xs : List ℕ). bracket_in xs j) same ∙ bracket_is (both (t plane place)) j (omega (arith, whole, long, stands.counted plane place p_in inside)) least most
