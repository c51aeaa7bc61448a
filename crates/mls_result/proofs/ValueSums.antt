-- What cores that stand for histories keep of a cell adds up the values of its rows.
use Rattle.std.proofs.Common.{◌≡◌, ℕ, ◌+◌, ◌-◌, ◌<◌, ◌≤◌, List, [], ◌∷◌, length, get_or, Bool, ℤ, refl, sym, ◌∙◌, ap, subst, arith}
use Rattle.std.specs.List.{AllByRecursion}
use Rattle.mls_model.specs.Studies.{Sizes, planes}
use Rattle.mls_model.specs.Blocks.{block, width}
use Rattle.mls_model.specs.Histories.{LaneEvent}
use Rattle.mls_model.specs.Standing.{rank_table}
use Rattle.mls_model.specs.Statistics.{outputs, total, squares}
use Rattle.mls_model.specs.CellSums.{CellSums, both, sums_of}
use Rattle.mls_model.specs.SumsText.{samples, height, first_power, second_power}
use Rattle.mls_model.specs.ResultText.{history_rows, pieces_of}
use Rattle.mls_power.proofs.Lowered.{value_sums}
use Rattle.mls_base.proofs.Spans.{holder}
use Rattle.mls_field.specs.declared.field.Field.{Field}
use Rattle.mls_field.specs.declared.fold.RowFold.{Ghosts}
use Rattle.mls_field.specs.contracts.field.FieldRowFold.TheImpl.{ghosts as field_ghosts}
use Rattle.mls_field.specs.Stands.{shape_of, rank_of as field_rank, StandsFor}
use Rattle.mls_field.specs.Kept.{sums_at}
use Rattle.mls_field.proofs.Kept.{sums_of_rows, rows_whole}
use Rattle.mls_field.proofs.Rows.{length-shifted_outputs, outputs_are}
use Rattle.mls_rank.specs.declared.rank_core.RankCore.{RankCore}
use Rattle.mls_rank.specs.Cores.{rank_of as core_rank, fold_of}
use Rattle.mls_rank.proofs.Folds.{fold_sizes, fold_rank}
use Rattle.mls_result.specs.Histories.{AreCores, AllStand, kept_sums, core_sums}
use Rattle.mls_result.specs.HistorySums.{KeepHistories, KeepTheirHistories}
use Rattle.mls_result.proofs.CellText.{rows_at}
use Rattle.mls_result.proofs.RowsText.{values}
use Rattle.mls_result.proofs.States.{FoldsStand, kept_at}
use Rattle.mls_result.proofs.Texts.{rows_are, holder_is_found, holder_within_ranks, holder_bounds}
use Rattle.mls_result.proofs.Whole.{counts_are}

abbrev AllRows : Sizes → List (List ℕ) → Type 0
AllRows s rows = AllByRecursion (λ row. length row ≡ s.parameters + 2) rows

-- the first two sums of powers of values, from sums of what they are kept as
record AddUp (signed : Bool) (c : CellSums) (ws : List ℤ) : Type 0 where
  first : first_power (height signed) c ≡ total ws
  second : second_power (height signed) c ≡ squares ws

rows_add_up : (s : Sizes) (rows : List (List ℕ)) → AllRows s rows → AddUp s.signed (sums_of s.parameters s.thresholds rows) (outputs (values s.signed rows))
rows_add_up s rows all =
    let c = sums_of s.parameters s.thresholds rows in
    let long : length (both rows) ≡ samples c = length-shifted_outputs rows in
    let sums = value_sums s.signed (samples c) c.p1 c.p2 c.p3 c.p4 (both rows) (record { count = sym long; first = refl; second = refl; third = refl; fourth = refl }) in
    let same = sym (outputs_are s.signed s.parameters rows all) in
    record { first = sums.first ∙ ap total same; second = sums.second ∙ ap squares same }

some_core : {A : Type 0} (xs : List A) (i : ℕ) → i < length xs → A
some_core [] i here = absurd (omega (arith, here))
some_core (x ∷ xs) i here = x

-- those of a cell, from the core of the rank whose block holds it
cell_adds_up : {T : Ghosts Field} (s : Sizes) (cores : List (RankCore Field T)) (histories : ℕ → List LaneEvent) → 1 ≤ s.ranks → AreCores s cores → FoldsStand s cores histories → (plane x : ℕ) → plane < planes s → x < s.cells → AddUp s.signed (kept_sums s cores plane x) (outputs (history_rows s histories plane x))
cell_adds_up s cores histories some are stand plane x plane_below here =
    let rank = holder s.cells s.ranks x in
    let found = holder_is_found s x some here in
    let within = holder_bounds s x some here in
    let in_cores : rank < length cores = omega (arith, are.count, holder_within_ranks s x some here) in
    let d = some_core cores rank in_cores in
    let core = get_or cores rank d in
    let f = fold_of core in
    let place = x - (block s rank).first in
    let pieces = pieces_of s rank (histories rank) in
    let table = rank_table s rank pieces in
    let rows = table plane place in
    let shape = stand.sizes rank d in_cores in
    let stands = stand.rows rank d in_cores in
    let plane_in : plane < planes (shape_of f) = subst (λ z. plane < planes z) (sym shape) plane_below in
    let place_below : place < width (block s rank) = omega (arith, within.0, within.1) in
    let place_in : place < width (block (shape_of f) (field_rank f)) = subst (λ z. place < width (block z (field_rank f))) (sym shape) (subst (λ r. place < width (block s r)) (sym (stand.ranks rank d in_cores)) place_below) in
    let own : core_sums core plane x ≡ sums_at f plane place = (λ i. sums_at f plane (x - (block (are.sizes rank d in_cores i) (are.ranks rank d in_cores i)).first)) in
    let sums : kept_sums s cores plane x ≡ sums_of s.parameters s.thresholds rows = kept_at s cores rank plane x d found in_cores ∙ own ∙ sums_of_rows f table plane place stands plane_in place_in ∙ ap (λ (z : Sizes). sums_of z.parameters z.thresholds rows) shape in
    let up = rows_add_up s rows (subst (λ (z : Sizes). AllRows z rows) shape (rows_whole f table plane place stands plane_in place_in)) in
    let told : values s.signed rows ≡ history_rows s histories plane x = rows_at s rank plane x pieces within.0 within.1 ∙ rows_are s histories rank plane x found in
    record {
      first = ap (first_power (height s.signed)) sums ∙ up.first ∙ ap (λ rs. total (outputs rs)) told;
      second = ap (second_power (height s.signed)) sums ∙ up.second ∙ ap (λ rs. squares (outputs rs)) told;
    }

-- what cores that stand for histories keep of rows
folds_stand : (s : Sizes) (cores : List (RankCore Field field_ghosts)) (histories : ℕ → List LaneEvent) → AreCores s cores → AllStand cores histories → FoldsStand s cores histories
folds_stand s cores histories are stand = record {
  sizes = λ rank d here. fold_sizes (get_or cores rank d) ∙ are.sizes rank d here;
  ranks = λ rank d here. fold_rank (get_or cores rank d) ∙ are.ranks rank d here;
  rows = λ rank d here. (
      let core = get_or cores rank d in
      subst (λ r. StandsFor (fold_of core) (rank_table s r (pieces_of s r (histories rank)))) (are.ranks rank d here)
      (subst (λ z. StandsFor (fold_of core) (rank_table z (core_rank core) (pieces_of z (core_rank core) (histories rank)))) (are.sizes rank d here) (stand.each rank d here).holds.rows)
      );
}

pub keep_histories : KeepTheirHistories field_ghosts
keep_histories s cores histories ok are stand = record {
  counts = counts_are s cores histories are stand;
  first = λ plane x plane_in here. (cell_adds_up s cores histories ok.some_ranks are (folds_stand s cores histories are stand) plane x plane_in here).first;
  second = λ plane x plane_in here. (cell_adds_up s cores histories ok.some_ranks are (folds_stand s cores histories are stand) plane x plane_in here).second;
}
