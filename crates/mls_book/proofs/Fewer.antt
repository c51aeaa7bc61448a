-- How many events a rank counted at most.
use Rattle.std.proofs.Common.{◌≡◌, ℕ, ◌+◌, ◌^◌, ◌≤◌, Bool, true, false, List, Option, None, Some, arith, refl, sym, ◌∙◌, subst}
use Rattle.std.specs.Prelude.{IsSome, IfSome, IsSomeAnd}
use Rattle.std.proofs.lemmas.Bool.{true≢false}
use Rattle.mls_base.specs.Told.{MayCease, replaced}
use Rattle.mls_model.specs.Studies.{Sizes}
use Rattle.mls_model.specs.Outcomes.{total_count}
use Rattle.mls_field.specs.declared.fold.RowFold.{Ghosts}
use Rattle.mls_rank.specs.declared.rank_core.RankCore.{RankCore}
use Rattle.mls_rank.specs.Cores.{sizes_of, rank_of, counts_of}
use Rattle.mls_rank.specs.Counting.{no_counts}
use Rattle.mls_rank.specs.Saving.{SpellsCore}
use Rattle.mls_book.specs.declared.faults.BookFault.{BookFault}
use Rattle.mls_book.specs.declared.faults.BookFault.TheVariants.{KeeperFault, CheckpointBad, Memory}
use Rattle.mls_book.specs.Faults.{IfBad}
use Rattle.mls_book.specs.Backups.{written_of, IsSpelled, Begins, GoesBack, HoldsNone}
use Rattle.mls_book.specs.Histories.{SpellsFew, IsFew}
use Rattle.mls_book.proofs.Telling.{told_before, some_replaced, told_put}

-- a fact on sizes and a rank, at equal ones
moved : (P : Sizes → ℕ → Type 0) (s s' : Sizes) (r r' : ℕ) → s' ≡ s → r' ≡ r → P s r → P s' r'
moved P s s' r r' s_same r_same h = subst (λ (z : Sizes). P z r') (sym s_same) (subst (λ (q : ℕ). P s q) (sym r_same) h)

more : {F : Type 0} {T : Ghosts F} (s : Sizes) (rank most most' : ℕ) (bytes : List ℕ) → most ≤ most' → SpellsFew F T s rank most bytes → SpellsFew F T s rank most' bytes
more s rank most most' bytes le few = record { core = few.core; spells = few.spells; fewer = omega (arith, few.fewer, le) }

kept_more : (F : Type 0) (T : Ghosts F) (s : Sizes) (rank most most' : ℕ) (held : Option (Option (List ℕ))) → most ≤ most'
    → IfSome held (λ kept. IsSomeAnd kept (SpellsFew F T s rank most)) → IfSome held (λ kept. IsSomeAnd kept (SpellsFew F T s rank most'))
kept_more F T s rank most most' None le h = tt
kept_more F T s rank most most' (Some None) le h = absurd h
kept_more F T s rank most most' (Some (Some bytes)) le h = more s rank most most' bytes le h

opens_more : (F : Type 0) (T : Ghosts F) (s : Sizes) (rank most most' : ℕ) (opening : Option (List ℕ)) → most ≤ most' → IfSome opening (SpellsFew F T s rank most) → IfSome opening (SpellsFew F T s rank most')
opens_more F T s rank most most' None le h = tt
opens_more F T s rank most most' (Some bytes) le h = more s rank most most' bytes le h

-- at the beginning
pub few_none_yet : {F : Type 0} {T : Ghosts F} (core : RankCore F T) (held : Option (Option (List ℕ))) → counts_of core ≡ no_counts → IsFew core held false None 0
few_none_yet core held none = record {
  few = λ _. subst (λ c. total_count c ≤ 0) (sym none) (omega arith);
  back = λ had. absurd (true≢false (sym had));
  opens = λ _. tt;
}

pub few_opened : {F : Type 0} {T : Ghosts F} (core : RankCore F T) (held : Option (Option (List ℕ))) (bytes : List ℕ) → SpellsCore (sizes_of core) (rank_of core) bytes core → IsFew core held false (Some bytes) (total_count (counts_of core))
few_opened core held bytes spells = record {
  few = λ _. omega arith;
  back = λ had. absurd (true≢false (sym had));
  opens = λ _. record { core = core; spells = spells; fewer = omega arith };
}

-- an event that is not taken, or is no save
pub few_more : {F : Type 0} {T : Ghosts F} (core core' : RankCore F T) (held held' : Option (Option (List ℕ))) (saved : Bool) (opening : Option (List ℕ)) (most most' : ℕ)
    → sizes_of core' ≡ sizes_of core → rank_of core' ≡ rank_of core → MayCease held held' → most ≤ most' → (IsSome held' → total_count (counts_of core') ≤ most')
    → IsFew core held saved opening most → IsFew core' held' saved opening most'
few_more {F} {T} core core' held held' saved opening most most' s_same r_same may le few f = record {
  few = few;
  back = λ had. told_before (λ kept. IsSomeAnd kept (SpellsFew F T (sizes_of core') (rank_of core') most')) held held' may
      (moved (λ s r. IfSome held (λ kept. IsSomeAnd kept (SpellsFew F T s r most'))) (sizes_of core) (sizes_of core') (rank_of core) (rank_of core') s_same r_same
      (kept_more F T (sizes_of core) (rank_of core) most most' held le (f.back had)));
  opens = λ none. moved (λ s r. IfSome opening (SpellsFew F T s r most')) (sizes_of core) (sizes_of core') (rank_of core) (rank_of core') s_same r_same
      (opens_more F T (sizes_of core) (rank_of core) most most' opening le (f.opens none));
}

-- a save
pub few_save : {F : Type 0} {T : Ghosts F} (core : RankCore F T) (held held' : Option (Option (List ℕ))) (saved saved' : Bool) (opening : Option (List ℕ)) (most : ℕ)
    → most ≤ 2 ^ 62 → held' ≡ replaced held (Some (written_of core)) → saved' ≡ true → IsSpelled core → IsFew core held saved opening most → IsFew core held' saved' opening (most + 1)
few_save {F} {T} core held held' saved saved' opening most le put had spelled f = record {
  few = λ some. let few = f.few (some_replaced held (Some (written_of core)) (subst IsSome put some)) in omega (arith, few);
  back = λ _. told_put (λ kept. IsSomeAnd kept (SpellsFew F T (sizes_of core) (rank_of core) (most + 1))) held held' (Some (written_of core)) put (λ some.
      let few = f.few some in
      record {
        core = core;
        spells = spelled (omega (arith, few, le));
        fewer = omega (arith, few);
      });
  opens = λ none. absurd (true≢false (sym had ∙ none));
}

-- the core that a crash brings back
pub few_restored : {F : Type 0} {T : Ghosts F} (s : Sizes) (rank most : ℕ) (held : Option (Option (List ℕ))) (core : RankCore F T) → IsSome held
    → IfSome held (λ kept. IsSomeAnd kept (SpellsFew F T s rank most)) → GoesBack s rank held core → total_count (counts_of core) ≤ most
few_restored s rank most None core some back resumes = absurd (true≢false (sym some))
few_restored s rank most (Some None) core some back resumes = absurd back
few_restored s rank most (Some (Some bytes)) core some back resumes = subst (λ c. total_count c ≤ most) (sym (resumes back.core back.spells).counts) back.fewer

pub few_reopened : {F : Type 0} {T : Ghosts F} (s : Sizes) (rank most : ℕ) (opening : Option (List ℕ)) (core : RankCore F T) → IfSome opening (SpellsFew F T s rank most) → Begins s rank opening core → total_count (counts_of core) ≤ most
few_reopened s rank most None core opens begins = subst (λ c. total_count c ≤ most) (sym begins.0) (omega arith)
few_reopened s rank most (Some bytes) core opens begins = subst (λ c. total_count c ≤ most) (sym (begins opens.core opens.spells).counts) opens.fewer

-- the same of equal values
pub few_at : {F : Type 0} {T : Ghosts F} (core core' : RankCore F T) (held held' : Option (Option (List ℕ))) (saved saved' : Bool) (opening opening' : Option (List ℕ)) (most : ℕ)
    → core' ≡ core → held' ≡ held → saved' ≡ saved → opening' ≡ opening → IsFew core held saved opening most → IsFew core' held' saved' opening' most
few_at {F} {T} core core' held held' saved saved' opening opening' most core_is held_is saved_is opening_is f =
    subst (λ (k : RankCore F T). IsFew k held' saved' opening' most) (sym core_is)
    (subst (λ (h : Option (Option (List ℕ))). IsFew core h saved' opening' most) (sym held_is)
    (subst (λ (b : Bool). IsFew core held b opening' most) (sym saved_is)
    (subst (λ (o : Option (List ℕ)). IsFew core held saved o most) (sym opening_is) f)))

-- what spells no core is not told
few_none : (F : Type 0) (T : Ghosts F) (s : Sizes) (rank most : ℕ) (held : Option (Option (List ℕ))) → IfSome held (λ kept. IsSomeAnd kept (SpellsFew F T s rank most)) → HoldsNone F T s rank held → held ≡ None
few_none F T s rank most None back none = refl
few_none F T s rank most (Some None) back none = absurd back
few_none F T s rank most (Some (Some bytes)) back none = absurd (none back.core back.spells)

pub few_untold : (F : Type 0) (T : Ghosts F) (s : Sizes) (rank most : ℕ) (held : Option (Option (List ℕ))) (fault : BookFault) → IfSome held (λ kept. IsSomeAnd kept (SpellsFew F T s rank most))
    → IfBad fault (HoldsNone F T s rank held) → IfBad fault (held ≡ None)
few_untold F T s rank most held KeeperFault back none = tt
few_untold F T s rank most held (CheckpointBad at why) back none = few_none F T s rank most held back none
few_untold F T s rank most held Memory back none = tt
