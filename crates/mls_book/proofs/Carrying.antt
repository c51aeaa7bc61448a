-- What an event makes of a history that is carried.
use Rattle.std.proofs.Common.{◌≡◌, ℕ, ◌^◌, ◌≤◌, Bool, true, false, ◌||◌, cond, List, [], ◌∷◌, ◌++◌, length, Option, None, Some, arith, refl, ap, sym, ◌∙◌, subst, inl, ⊎_elim}
use Rattle.std.specs.Prelude.{IsSome, IfSome, IsSomeAnd}
use Rattle.std.specs.List.{list_any}
use Rattle.std.proofs.lemmas.Bool.{cases_Bool, or_left, or_right, true≢false}
use Rattle.std.proofs.lemmas.List.Folds.{list_any-append}
use Rattle.mls_base.specs.Told.{MayCease, replaced}
use Rattle.mls_model.specs.Studies.{Sizes}
use Rattle.mls_model.specs.Histories.{LaneEvent}
use Rattle.mls_model.specs.Survival.{is_save, is_crash, last_save, before_last_save}
use Rattle.mls_model.specs.Outcomes.{total_count}
use Rattle.mls_ckpt.specs.Histories.{checkpoint}
use Rattle.mls_laws.proofs.Surviving.{save_no_crash, before_last_save_more}
use Rattle.mls_laws.proofs.Outcomes.{few_counts}
use Rattle.mls_field.specs.declared.fold.RowFold.{Ghosts}
use Rattle.mls_rank.specs.declared.rank_core.RankCore.{RankCore}
use Rattle.mls_rank.specs.Cores.{sizes_of, rank_of, counts_of}
use Rattle.mls_rank.specs.Standing.{StandsFor, StandsOn}
use Rattle.mls_rank.specs.Saving.{SpellsCore}
use Rattle.mls_book.specs.declared.faults.BookFault.{BookFault}
use Rattle.mls_book.specs.declared.faults.BookFault.TheVariants.{KeeperFault, CheckpointBad, Memory}
use Rattle.mls_book.specs.Faults.{IfBad}
use Rattle.mls_book.specs.Backups.{written_of, IsCheckpoint, IsSpelled, Begins, GoesBack, HoldsNone}
use Rattle.mls_book.specs.Histories.{Sure, Saves, Opens, Carries}
use Rattle.mls_book.proofs.Telling.{told_before, some_replaced, told_put, sure_before, sure_same, sure_told}

-- a fact on sizes and a rank, at equal ones
moved : (P : Sizes → ℕ → Type 0) (s s' : Sizes) (r r' : ℕ) → s' ≡ s → r' ≡ r → P s r → P s' r'
moved P s s' r r' s_same r_same h = subst (λ (z : Sizes). P z r') (sym s_same) (subst (λ (q : ℕ). P s q) (sym r_same) h)

-- a crash is no save
pub crash_no_save : (e : LaneEvent) → is_crash e ≡ true → is_save e ≡ false
crash_no_save e crashed = ⊎_elim (λ saves. absurd (true≢false (sym crashed ∙ save_no_crash e saves))) (λ none. none) (cases_Bool (is_save e))

or_none : (b : Bool) → (b || (false || false)) ≡ b
or_none true = refl
or_none false = refl

-- whether there was a save, with one event more
pub no_save_more : (run : List LaneEvent) (e : LaneEvent) → is_save e ≡ false → list_any is_save (run ++ e ∷ []) ≡ list_any is_save run
no_save_more run e none = list_any-append is_save run (e ∷ []) ∙ (ap (λ b. list_any is_save run || (b || false)) none ∙ or_none (list_any is_save run))

pub save_more : (run : List LaneEvent) (e : LaneEvent) → is_save e ≡ true → list_any is_save (run ++ e ∷ []) ≡ true
save_more run e saves = list_any-append is_save run (e ∷ []) ∙ or_right (list_any is_save run) (list_any is_save (e ∷ [])) (or_left (is_save e) false saves)

pub before_other : (whole : List LaneEvent) (e : LaneEvent) → is_save e ≡ false → before_last_save (whole ++ e ∷ []) ≡ before_last_save whole
before_other whole e none = before_last_save_more whole e ∙ ap (λ b. cond b whole (before_last_save whole)) none

before_save : (whole : List LaneEvent) (e : LaneEvent) → is_save e ≡ true → before_last_save (whole ++ e ∷ []) ≡ whole
before_save whole e saves = before_last_save_more whole e ∙ ap (λ b. cond b whole (before_last_save whole)) saves

-- nothing is carried before any event
pub carries_none : {F : Type 0} {T : Ghosts F} (core : RankCore F T) (held : Option (Option (List ℕ))) (saved : Bool) (opening : Option (List ℕ)) → saved ≡ false → opening ≡ None → StandsFor core [] → Carries core held saved opening [] []
unfolding last_save
carries_none {F} {T} core held saved opening none empty st = record {
  stands = λ sure. st;
  had = none;
  back = λ had. absurd (true≢false (sym had ∙ none));
  kept = λ had. absurd (true≢false (sym had ∙ none));
  opens = λ _. subst (Opens F T (sizes_of core) (rank_of core) []) (sym empty) refl;
}

-- a history is carried at the beginning whose last save the opening spells
pub carries_opened : {F : Type 0} {T : Ghosts F} (core : RankCore F T) (held : Option (Option (List ℕ))) (saved : Bool) (bytes : List ℕ) (whole : List LaneEvent)
    → saved ≡ false → SpellsCore (sizes_of core) (rank_of core) bytes core → StandsFor core (before_last_save whole) → StandsFor core whole → Carries core held saved (Some bytes) whole []
carries_opened core held saved bytes whole none spells back st = record {
  stands = λ sure. st;
  had = none;
  back = λ had. absurd (true≢false (sym had ∙ none));
  kept = λ had. absurd (true≢false (sym had ∙ none));
  opens = λ _. record { core = core; spells = spells; stands = back };
}

-- what is kept by an event that is not taken
pub carries_kept : {F : Type 0} {T : Ghosts F} (core core' : RankCore F T) (held held' : Option (Option (List ℕ))) (saved : Bool) (opening : Option (List ℕ)) (whole run : List LaneEvent)
    → sizes_of core' ≡ sizes_of core → rank_of core' ≡ rank_of core → ((h : List LaneEvent) → StandsFor core h → StandsFor core' h) → MayCease held held'
    → Carries core held saved opening whole run → Carries core' held' saved opening whole run
carries_kept {F} {T} core core' held held' saved opening whole run s_same r_same follows may c = record {
  stands = λ sure. follows whole (c.stands (sure_same held held' run may sure));
  had = c.had;
  back = λ had. told_before (λ kept. IsSomeAnd kept (Saves F T (sizes_of core') (rank_of core') (before_last_save whole))) held held' may
      (moved (λ s r. IfSome held (λ kept. IsSomeAnd kept (Saves F T s r (before_last_save whole)))) (sizes_of core) (sizes_of core') (rank_of core) (rank_of core') s_same r_same (c.back had));
  kept = λ had. told_before (λ kept. kept ≡ Some (checkpoint T.part_of (sizes_of core') (rank_of core') (before_last_save whole))) held held' may
      (moved (λ s r. IfSome held (λ kept. kept ≡ Some (checkpoint T.part_of s r (before_last_save whole)))) (sizes_of core) (sizes_of core') (rank_of core) (rank_of core') s_same r_same (c.kept had));
  opens = λ none. moved (λ s r. Opens F T s r (before_last_save whole) opening) (sizes_of core) (sizes_of core') (rank_of core) (rank_of core') s_same r_same (c.opens none);
}

-- what a history says of the bytes, with one event more that is no save
back_more : {F : Type 0} {T : Ghosts F} (core core' : RankCore F T) (held : Option (Option (List ℕ))) (saved : Bool) (opening : Option (List ℕ)) (whole run : List LaneEvent) (e : LaneEvent)
    → sizes_of core' ≡ sizes_of core → rank_of core' ≡ rank_of core → is_save e ≡ false → Carries core held saved opening whole run
    → (Sure held (run ++ e ∷ []) → StandsFor core' (whole ++ e ∷ [])) → Carries core' held saved opening (whole ++ e ∷ []) (run ++ e ∷ [])
back_more {F} {T} core core' held saved opening whole run e s_same r_same none c stands =
    let before : before_last_save whole ≡ before_last_save (whole ++ e ∷ []) = sym (before_other whole e none) in
    record {
      stands = stands;
      had = c.had ∙ sym (no_save_more run e none);
      back = λ had. moved (λ s r. IfSome held (λ kept. IsSomeAnd kept (Saves F T s r (before_last_save (whole ++ e ∷ []))))) (sizes_of core) (sizes_of core') (rank_of core) (rank_of core') s_same r_same
          (subst (λ (h : List LaneEvent). IfSome held (λ kept. IsSomeAnd kept (Saves F T (sizes_of core) (rank_of core) h))) before (c.back had));
      kept = λ had. moved (λ s r. IfSome held (λ kept. kept ≡ Some (checkpoint T.part_of s r (before_last_save (whole ++ e ∷ []))))) (sizes_of core) (sizes_of core') (rank_of core) (rank_of core') s_same r_same
          (subst (λ (h : List LaneEvent). IfSome held (λ kept. kept ≡ Some (checkpoint T.part_of (sizes_of core) (rank_of core) h))) before (c.kept had));
      opens = λ no. moved (λ s r. Opens F T s r (before_last_save (whole ++ e ∷ [])) opening) (sizes_of core) (sizes_of core') (rank_of core) (rank_of core') s_same r_same
          (subst (λ (h : List LaneEvent). Opens F T (sizes_of core) (rank_of core) h opening) before (c.opens no));
    }

-- an event that is neither a save nor a crash
pub carries_other : {F : Type 0} {T : Ghosts F} (core core' : RankCore F T) (held : Option (Option (List ℕ))) (saved : Bool) (opening : Option (List ℕ)) (whole run : List LaneEvent) (e : LaneEvent)
    → sizes_of core' ≡ sizes_of core → rank_of core' ≡ rank_of core → is_save e ≡ false → is_crash e ≡ false → StandsOn core core' e
    → Carries core held saved opening whole run → Carries core' held saved opening (whole ++ e ∷ []) (run ++ e ∷ [])
carries_other core core' held saved opening whole run e s_same r_same none calm on c =
    back_more core core' held saved opening whole run e s_same r_same none c (λ sure. on whole (c.stands (sure_before held held run e (λ some. some) sure)) calm)

few_stand : {F : Type 0} {T : Ghosts F} (core : RankCore F T) (whole : List LaneEvent) → length whole ≤ 2 ^ 62 → StandsFor core whole → total_count (counts_of core) ≤ 2 ^ 62
few_stand core whole few st =
    let counted : total_count (counts_of core) ≤ length whole = subst (λ c. total_count c ≤ length whole) (sym st.counts) (few_counts (sizes_of core) (rank_of core) whole) in
    omega (arith, counted, few)

-- a save
pub carries_save : {F : Type 0} {T : Ghosts F} (core : RankCore F T) (held held' : Option (Option (List ℕ))) (saved saved' : Bool) (opening : Option (List ℕ)) (whole run : List LaneEvent) (e : LaneEvent)
    → is_save e ≡ true → length whole ≤ 2 ^ 62 → StandsOn core core e → held' ≡ replaced held (Some (written_of core)) → saved' ≡ true
    → IsCheckpoint core → IsSpelled core
    → Carries core held saved opening whole run → Carries core held' saved' opening (whole ++ e ∷ []) (run ++ e ∷ [])
carries_save {F} {T} core held held' saved saved' opening whole run e saves few on put had written spelled c =
    let before : whole ≡ before_last_save (whole ++ e ∷ []) = sym (before_save whole e saves) in
    record {
      stands = λ sure. on whole (c.stands (sure_before held held' run e (λ some. some_replaced held (Some (written_of core)) (subst IsSome put some)) sure)) (save_no_crash e saves);
      had = had ∙ sym (save_more run e saves);
      back = λ _. told_put (λ kept. IsSomeAnd kept (Saves F T (sizes_of core) (rank_of core) (before_last_save (whole ++ e ∷ [])))) held held' (Some (written_of core)) put (λ some.
          record {
            core = core;
            spells = spelled (few_stand core whole few (c.stands (inl some)));
            stands = subst (StandsFor core) before (c.stands (inl some));
          });
      kept = λ _. told_put (λ kept. kept ≡ Some (checkpoint T.part_of (sizes_of core) (rank_of core) (before_last_save (whole ++ e ∷ [])))) held held' (Some (written_of core)) put (λ some.
          ap Some (written (before_last_save (whole ++ e ∷ [])) (subst (StandsFor core) before (c.stands (inl some)))));
      opens = λ none. absurd (true≢false (sym had ∙ none));
    }

-- the core of the beginning stands for what the beginning stands for
opened : {F : Type 0} {T : Ghosts F} (s : Sizes) (rank : ℕ) (h : List LaneEvent) (opening : Option (List ℕ)) (core : RankCore F T) → Opens F T s rank h opening → Begins s rank opening core → StandsFor core h
opened s rank h None core none begins = subst (StandsFor core) (sym none) begins.1
opened s rank h (Some bytes) core saves begins = (begins saves.core saves.spells).stands h saves.stands

-- and the core of the last save for what stood before it
gone_back : {F : Type 0} {T : Ghosts F} (s : Sizes) (rank : ℕ) (h : List LaneEvent) (held : Option (Option (List ℕ))) (core : RankCore F T) → IsSome held
    → IfSome held (λ kept. IsSomeAnd kept (Saves F T s rank h)) → GoesBack s rank held core → StandsFor core h
gone_back s rank h None core some back resumes = absurd (true≢false (sym some))
gone_back s rank h (Some None) core some back resumes = absurd back
gone_back s rank h (Some (Some bytes)) core some back resumes = (resumes back.core back.spells).stands h back.stands

-- what a core says of the crash that brought it back
abbrev pub AfterCrash : {F : Type 0} {T : Ghosts F} → RankCore F T → Type 0
AfterCrash core = (history : List LaneEvent) (e : LaneEvent) → is_crash e ≡ true → StandsFor core (before_last_save history) → StandsFor core (history ++ e ∷ [])

-- a crash of a run without a save
pub carries_reopened : {F : Type 0} {T : Ghosts F} (core core' : RankCore F T) (held : Option (Option (List ℕ))) (saved : Bool) (opening : Option (List ℕ)) (whole run : List LaneEvent) (e : LaneEvent)
    → sizes_of core' ≡ sizes_of core → rank_of core' ≡ rank_of core → is_crash e ≡ true → saved ≡ false → Begins (sizes_of core) (rank_of core) opening core' → AfterCrash core'
    → Carries core held saved opening whole run → Carries core' held saved opening (whole ++ e ∷ []) (run ++ e ∷ [])
carries_reopened core core' held saved opening whole run e s_same r_same crashed none begins after c =
    back_more core core' held saved opening whole run e s_same r_same (crash_no_save e crashed) c
    (λ sure. after whole e crashed (opened (sizes_of core) (rank_of core) (before_last_save whole) opening core' (c.opens none) begins))

-- a crash after a save
pub carries_restored : {F : Type 0} {T : Ghosts F} (core core' : RankCore F T) (held : Option (Option (List ℕ))) (saved : Bool) (opening : Option (List ℕ)) (whole run : List LaneEvent) (e : LaneEvent)
    → sizes_of core' ≡ sizes_of core → rank_of core' ≡ rank_of core → is_crash e ≡ true → saved ≡ true
    → GoesBack (sizes_of core) (rank_of core) held core' → AfterCrash core'
    → Carries core held saved opening whole run → Carries core' held saved opening (whole ++ e ∷ []) (run ++ e ∷ [])
carries_restored core core' held saved opening whole run e s_same r_same crashed had resumes after c =
    back_more core core' held saved opening whole run e s_same r_same (crash_no_save e crashed) c
    (λ sure. after whole e crashed (gone_back (sizes_of core) (rank_of core) (before_last_save whole) held core' (sure_told held run e crashed (sym c.had ∙ had) sure) (c.back had) resumes))

-- the same of equal values
pub carries_at : {F : Type 0} {T : Ghosts F} (core core' : RankCore F T) (held held' : Option (Option (List ℕ))) (saved saved' : Bool) (opening opening' : Option (List ℕ)) (whole run : List LaneEvent)
    → core' ≡ core → held' ≡ held → saved' ≡ saved → opening' ≡ opening → Carries core held saved opening whole run → Carries core' held' saved' opening' whole run
carries_at {F} {T} core core' held held' saved saved' opening opening' whole run core_is held_is saved_is opening_is c =
    subst (λ (k : RankCore F T). Carries k held' saved' opening' whole run) (sym core_is)
    (subst (λ (h : Option (Option (List ℕ))). Carries core h saved' opening' whole run) (sym held_is)
    (subst (λ (b : Bool). Carries core held b opening' whole run) (sym saved_is)
    (subst (λ (o : Option (List ℕ)). Carries core held saved o whole run) (sym opening_is) c)))

-- what spells no core is not told
bad_none : (F : Type 0) (T : Ghosts F) (s : Sizes) (rank : ℕ) (h : List LaneEvent) (held : Option (Option (List ℕ))) → IfSome held (λ kept. IsSomeAnd kept (Saves F T s rank h)) → HoldsNone F T s rank held → held ≡ None
bad_none F T s rank h None back none = refl
bad_none F T s rank h (Some None) back none = absurd back
bad_none F T s rank h (Some (Some bytes)) back none = absurd (none back.core back.spells)

pub bad_untold : (F : Type 0) (T : Ghosts F) (s : Sizes) (rank : ℕ) (h : List LaneEvent) (held : Option (Option (List ℕ))) (fault : BookFault) → IfSome held (λ kept. IsSomeAnd kept (Saves F T s rank h))
    → IfBad fault (HoldsNone F T s rank held) → IfBad fault (held ≡ None)
bad_untold F T s rank h held KeeperFault back none = tt
bad_untold F T s rank h held (CheckpointBad at why) back none = bad_none F T s rank h held back none
bad_untold F T s rank h held Memory back none = tt
