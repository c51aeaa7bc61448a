-- What a core stands for by its parts.
use Rattle.std.proofs.Common.{◌≡◌, List, sym, subst}
use Rattle.mls_model.specs.Histories.{LaneEvent}
use Rattle.mls_model.specs.Survival.{surviving}
use Rattle.mls_model.specs.Fitting.{fitting}
use Rattle.mls_model.specs.Outcomes.{counts}
use Rattle.mls_field.specs.declared.fold.RowFold.{Ghosts}
use Rattle.mls_ledger.specs.MarkSets.{is_marked, marked}
use Rattle.mls_assembly.specs.Held.{life_of, share_at}
use Rattle.mls_assembly.specs.Pendings.{Pends}
use Rattle.mls_rank.specs.declared.rank_core.RankCore.{RankCore}
use Rattle.mls_rank.specs.Standing.{StandsFor, KeepsRows}
use Rattle.mls_book.specs.Cores.{CoreParts, parts_of, Stands}

-- cores of the same parts stand for the same histories
pub same_stands : {F : Type 0} {T : Ghosts F} (core core' : RankCore F T) (h : List LaneEvent) → parts_of core' ≡ parts_of core → StandsFor core h → StandsFor core' h
same_stands {F} {T} core core' h same st = record {
  counts = subst (λ (p : CoreParts F). p.counts ≡ counts p.sizes p.rank (surviving h)) (sym same) st.counts;
  holds = subst (λ (p : CoreParts F). KeepsRows p.sizes p.rank (λ group plane. is_marked p.marks group plane) (λ plane. marked p.marks plane) (T.stands p.fold) (fitting p.sizes p.rank (surviving h))) (sym same) st.holds;
  waits = subst (λ (p : CoreParts F). Pends p.sizes p.rank (life_of p.pending) (share_at p.pending) (fitting p.sizes p.rank (surviving h))) (sym same) st.waits;
}

-- what a core stands for, its parts do
pub parts_stand : {F : Type 0} {T : Ghosts F} (core : RankCore F T) (h : List LaneEvent) → StandsFor core h → Stands T (parts_of core) h
parts_stand core h st = λ core' same. same_stands core core' h same st
