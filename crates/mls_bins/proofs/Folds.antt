-- The counts of cores one after another, and the text under a schedule.
use Rattle.std.proofs.Common.{◌≡◌, List, ℕ, [], ◌∷◌, ◌++◌, ◌+◌, ◌<◌, ◌≤◌, length, map, take, get_or, refl, sym, ◌∙◌, ap, add-one, take-suc}
use Rattle.std.proofs.lemmas.List.{map-append, take_all}
use Rattle.mls_model.specs.declared.outcomes.Counts.{Counts}
use Rattle.mls_model.specs.Studies.{Study}
use Rattle.mls_model.specs.Lanes.{Lane}
use Rattle.mls_model.specs.ResultText.{histories_of, lines_of}
use Rattle.mls_field.specs.declared.fold.RowFold.{Ghosts}
use Rattle.mls_hist.specs.BinsText.{history_bins, bins_text}
use Rattle.mls_rank.specs.declared.rank_core.RankCore.{RankCore}
use Rattle.mls_rank.specs.Cores.{counts_of}

-- the counts of one core more, and of all
pub counts_more : {F : Type 0} {T : Ghosts F} (cores : List (RankCore F T)) (rank : ℕ) (kept kept' : List Counts) (core : RankCore F T) (n : Counts) → kept ≡ map counts_of (take rank cores) → kept' ≡ kept ++ n ∷ [] → rank < length cores → core ≡ get_or cores rank core → n ≡ counts_of core → kept' ≡ map counts_of (take (rank + 1) cores)
counts_more cores rank kept kept' core n so_far pushed here is own =
    pushed ∙ (λ i. so_far i ++ (own ∙ ap counts_of is) i ∷ [])
    ∙ sym (ap (λ m. map counts_of (take m cores)) (add-one rank) ∙ ap (map counts_of) (take-suc cores rank core here) ∙ map-append counts_of (take rank cores) (get_or cores rank core ∷ []))

pub counts_all : {F : Type 0} {T : Ghosts F} (cores : List (RankCore F T)) (rank : ℕ) (kept : List Counts) → kept ≡ map counts_of (take rank cores) → length cores ≤ rank → kept ≡ map counts_of cores
counts_all cores rank kept so_far past = so_far ∙ ap (map counts_of) (take_all rank cores past)

-- the text of the histories under a schedule is the bins text
pub text_is : (study : Study) (lanes : List Lane) (orders : List (List ℕ)) → history_bins study (histories_of lanes orders) (lines_of lanes) ≡ bins_text study lanes orders
unfolding bins_text
text_is study lanes orders = refl
