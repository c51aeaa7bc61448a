-- The ranks one after another: their cores, and what became of their keepers.
use Rattle.std.proofs.Common.{◌≡◌, ◌≢◌, List, ℕ, zero, suc, [], ◌∷◌, ◌++◌, ◌+◌, ◌<◌, ◌≤◌, Bool, true, false, cond, length, get_or, Option, Some, None, Result, Ok, Err, refl, sym, ◌∙◌, ap, subst, inl, inr, ◌⊎◌, ⊎_elim, arith}
use Rattle.std.specs.Prelude.{IsSome, IfOk, IfErr}
use Rattle.std.specs.Global.{Vec}
use Rattle.std.specs.List.{list_any}
use Rattle.std.specs.Option.{option_map}
use Rattle.mls_base.specs.Told.{replaced}
use Rattle.mls_ckpt.specs.Histories.{checkpoint}
use Rattle.std.proofs.lemmas.Bool.{cases_lt}
use Rattle.mls_base.specs.declared.outside.Keeper as keeper
use Rattle.mls_model.specs.Numbers.{element}
use Rattle.mls_model.specs.Studies.{Sizes}
use Rattle.mls_model.specs.Histories.{LaneEvent}
use Rattle.mls_model.specs.Survival.{is_save, before_last_save}
use Rattle.mls_model.specs.Standing.{Table}
use Rattle.mls_ckpt.specs.Reading.{Cursor, Read}
use Rattle.mls_field.specs.declared.fold.RowFold.{Ghosts}
use Rattle.mls_rank.specs.declared.rank_core.RankCore.{RankCore}
use Rattle.mls_rank.specs.Standing.{StandsFor}
use Rattle.mls_book.specs.Histories.{Sure}
use Rattle.mls_book.specs.Keepers.{KeeperState, keeper_seen, keepers_seen, AreSure, HasRun, HasFailed, HasGivenNone, AtRank, HaveRun, AreLeft, EndedAt}
use Rattle.mls_book.proofs.KeeperPlaces.{element_map}
use Rattle.mls_result.specs.Histories.{AreCores, AllStand}
use Rattle.mls_result.specs.declared.fault.FoldFault.{FoldFault}
use Rattle.mls_result.specs.declared.fault.FoldFault.TheVariants as fold
use Rattle.mls_result.proofs.States.{at_element}
use Rattle.mls_replay.specs.Folding.{StandSure, KeepersAfter, RankEnds}
use Rattle.mls_replay.proofs.Folds.{AreFirst}

-- the last of a longer list
pushed : {A : Type 0} (xs : List A) (x y : A) (i : ℕ) → element (xs ++ x ∷ []) i ≡ Some y → (element xs i ≡ Some y) ⊎ ((i ≡ length xs) × (x ≡ y))
pushed [] x y zero there = let same : x ≡ y = cc in inr (refl, same)
pushed [] x y (suc i) there = let none : ◌≡◌ {A = Option _} None (Some y) = there in cc
pushed (z ∷ zs) x y zero there = inl there
pushed (z ∷ zs) x y (suc i) there = ⊎_elim (λ before. inl before) (λ last. inr (ap suc last.0, last.1)) (pushed zs x y i there)

element_below : {A : Type 0} (xs : List A) (i : ℕ) (x : A) → element xs i ≡ Some x → i < length xs
element_below [] i x there = cc
element_below (y ∷ ys) zero x there = omega arith
element_below (y ∷ ys) (suc i) x there = let h = element_below ys i x there in omega (arith, h)

-- what is seen of equal places is equal
seen_same : {K : Type 0} (U : keeper.Ghosts K) (a b : List K) (i : ℕ) → element a i ≡ element b i → element (keepers_seen U a) i ≡ element (keepers_seen U b) i
seen_same U a b i same = element_map (keeper_seen U) a i ∙ (ap (option_map (keeper_seen U)) same ∙ sym (element_map (keeper_seen U) b i))

-- The first n ranks have run: a core for each of them, and their keepers after their histories; the others are as handed in.
pub record RunSoFar {F K : Type 0} {T : Ghosts F} (U : keeper.Ghosts K) (s : Sizes) (histories : ℕ → List LaneEvent) (n : ℕ) (entry now : List K) (cores : List (RankCore F T)) : Type 0 where
  pub first : AreFirst s n cores
  pub stand : StandSure U cores now histories
  pub ran : HaveRun T.part_of s histories n (keepers_seen U entry) (keepers_seen U now)
  pub left : AreLeft n entry now
  pub quiet : (rank : ℕ) → list_any is_save (histories rank) ≡ false → element now rank ≡ element entry rank

pub none_run : {F K : Type 0} {T : Ghosts F} (U : keeper.Ghosts K) (s : Sizes) (histories : ℕ → List LaneEvent) (entry : List K) (cores : List (RankCore F T)) → cores ≡ [] → AreFirst s 0 cores → RunSoFar U s histories 0 entry entry cores
none_run U s histories entry cores empty first = record {
  first = first;
  stand = λ rank core keeper there _ _. let none : element cores rank ≡ None = ap (λ cs. element cs rank) empty in absurd cc;
  ran = λ rank below. absurd (omega (arith, below));
  left = λ other above. refl;
  quiet = λ rank none. refl;
}

same_or_not : (a b : ℕ) → (a ≡ b) ⊎ (a ≢ b)
same_or_not a b = ⊎_elim
    (λ lt. inr (λ e. omega (arith, lt, e)))
    (λ le. ⊎_elim (λ lt. inr (λ e. omega (arith, lt, e))) (λ ge. inl (omega (arith, le, ge))) (cases_lt b a))
    (cases_lt a b)

lt_ne : (a b : ℕ) → a < b → a ≢ b
lt_ne a b lt e = omega (arith, lt, e)

gt_ne : (a b : ℕ) → b + 1 ≤ a → a ≢ b
gt_ne a b lt e = omega (arith, lt, e)

-- the ranks below have run also after the next one
still_ran : {K : Type 0} (U : keeper.Ghosts K) (part_of : Sizes → ℕ → Table → List ℕ) (s : Sizes) (histories : ℕ → List LaneEvent) (n : ℕ) (entry old new : List K)
    → HaveRun part_of s histories n (keepers_seen U entry) (keepers_seen U old) → ((other : ℕ) → other ≢ n → element new other ≡ element old other)
    → HaveRun part_of s histories n (keepers_seen U entry) (keepers_seen U new)
still_ran U part_of s histories n entry old new ran others rank below =
    let r = ran rank below in
    record { before = r.before; after = r.after; was = r.was; is = seen_same U new old rank (others rank (lt_ne rank n below)) ∙ r.is; related = r.related }

-- what is related since the rank's turn is related since the beginning
since : {K : Type 0} (U : keeper.Ghosts K) (n : ℕ) (entry old new : List K) (relation : KeeperState → KeeperState → Type 0)
    → AreLeft n entry old → AtRank n (keepers_seen U old) (keepers_seen U new) relation → AtRank n (keepers_seen U entry) (keepers_seen U new) relation
since U n entry old new relation left own = record { before = own.before; after = own.after; was = seen_same U entry old n (sym (left n (omega arith))) ∙ own.was; is = own.is; related = own.related }

left_more : {K : Type 0} (n : ℕ) (entry old new : List K) → AreLeft n entry old → ((other : ℕ) → other ≢ n → element new other ≡ element old other) → AreLeft (n + 1) entry new
left_more n entry old new left others other above = others other (gt_ne other n above) ∙ left other (omega (arith, above))

pub quiet_more : {K : Type 0} (histories : ℕ → List LaneEvent) (n : ℕ) (entry old new : List K)
    → ((rank : ℕ) → list_any is_save (histories rank) ≡ false → element old rank ≡ element entry rank)
    → ((other : ℕ) → other ≢ n → element new other ≡ element old other)
    → (list_any is_save (histories n) ≡ false → element new n ≡ element old n)
    → (rank : ℕ) → list_any is_save (histories rank) ≡ false → element new rank ≡ element entry rank
quiet_more histories n entry old new quiet others own rank none = ⊎_elim
    (λ (e : rank ≡ n). subst (λ k. element new k ≡ element entry k) (sym e) (own (subst (λ k. list_any is_save (histories k) ≡ false) e none) ∙ quiet n (subst (λ k. list_any is_save (histories k) ≡ false) e none)))
    (λ (ne : rank ≢ n). others rank ne ∙ quiet rank none)
    (same_or_not rank n)

-- the next rank has run too
pub one_ran : {F K : Type 0} {T : Ghosts F} (U : keeper.Ghosts K) (s : Sizes) (histories : ℕ → List LaneEvent) (n : ℕ) (entry old new : List K) (cores cores' : List (RankCore F T)) (core : RankCore F T)
    → RunSoFar U s histories n entry old cores → cores' ≡ cores ++ core ∷ [] → AreFirst s (n + 1) cores'
    → ((keeper : K) → element new n ≡ Some keeper → Sure (U.held keeper) (histories n) → StandsFor core (histories n))
    → AtRank n (keepers_seen U old) (keepers_seen U new) (HasRun T.part_of s n (histories n))
    → ((other : ℕ) → other ≢ n → element new other ≡ element old other)
    → (list_any is_save (histories n) ≡ false → element new n ≡ element old n)
    → RunSoFar U s histories (n + 1) entry new cores'
one_ran {F} {K} {T} U s histories n entry old new cores cores' core so grown first stands own others quiet = record {
  first = first;
  stand = λ rank c keeper there here sure. ⊎_elim
      (λ (before : element cores rank ≡ Some c).
      let below : rank < n = subst (λ m. rank < m) so.first.count (element_below cores rank c before) in
      so.stand rank c keeper before (sym (others rank (lt_ne rank n below)) ∙ here) sure)
      (λ last.
      let at : rank ≡ n = last.0 ∙ so.first.count in
      let here' : element new n ≡ Some keeper = ap (element new) (sym at) ∙ here in
      let sure' : Sure (U.held keeper) (histories n) = subst (λ k. Sure (U.held keeper) (histories k)) at sure in
      subst (λ k. StandsFor c (histories k)) (sym at) (subst (λ x. StandsFor x (histories n)) last.1 (stands keeper here' sure')))
      (pushed cores core c rank (subst (λ cs. element cs rank ≡ Some c) grown there));
  ran = λ rank below. ⊎_elim
      (λ lt. still_ran U T.part_of s histories n entry old new so.ran others rank lt)
      (λ le. let at : n ≡ rank = omega (arith, le, below) in
      subst (λ k. AtRank k (keepers_seen U entry) (keepers_seen U new) (HasRun T.part_of s k (histories k))) at (since U n entry old new (HasRun T.part_of s n (histories n)) so.left own))
      (cases_lt rank n);
  left = left_more n entry old new so.left others;
  quiet = quiet_more histories n entry old new so.quiet others quiet;
}

ended : {K : Type 0} (U : keeper.Ghosts K) (part_of : Sizes → ℕ → Table → List ℕ) (s : Sizes) (histories : ℕ → List LaneEvent) (n : ℕ) (entry old new : List K) (relation : KeeperState → KeeperState → Type 0)
    → HaveRun part_of s histories n (keepers_seen U entry) (keepers_seen U old) → AreLeft n entry old → n < s.ranks
    → AtRank n (keepers_seen U old) (keepers_seen U new) relation → ((other : ℕ) → other ≢ n → element new other ≡ element old other)
    → EndedAt part_of s histories n relation (keepers_seen U entry) (keepers_seen U new)
ended U part_of s histories n entry old new relation ran left here own others = record {
  here = here;
  below = still_ran U part_of s histories n entry old new ran others;
  own = since U n entry old new relation left own;
  above = λ other above. seen_same U new entry other (left_more n entry old new left others other above);
}

-- the next rank ended with a fault
pub one_ended : (A B : Type 0) {F K : Type 0} {T : Ghosts F} (U : keeper.Ghosts K) (s : Sizes) (histories : ℕ → List LaneEvent) (n : ℕ) (entry old new : List K) (cores : List (RankCore F T)) (fault : FoldFault)
    → RunSoFar U s histories n entry old cores → n < s.ranks
    → AtRank n (keepers_seen U old) (keepers_seen U new) (RankEnds {A = A} (Err fault) T.part_of T.part_at s n (histories n))
    → ((other : ℕ) → other ≢ n → element new other ≡ element old other)
    → KeepersAfter {A = B} (Err fault) T.part_of T.part_at s histories (keepers_seen U entry) (keepers_seen U new)
one_ended A B {F} {K} {T} U s histories n entry old new cores (fold.KeeperFault r) so here own others =
    let at : r ≡ n = own.related.0 in
    let mine : AtRank n (keepers_seen U old) (keepers_seen U new) (HasFailed (histories n)) = record { before = own.before; after = own.after; was = own.was; is = own.is; related = own.related.1 } in
    subst (λ k. EndedAt T.part_of s histories k (HasFailed (histories k)) (keepers_seen U entry) (keepers_seen U new)) (sym at)
    (ended U T.part_of s histories n entry old new (HasFailed (histories n)) so.ran so.left here mine others)
one_ended A B {F} {K} {T} U s histories n entry old new cores (fold.CheckpointBad r at why) so here own others =
    let is : r ≡ n = own.related.0 in
    let mine : AtRank n (keepers_seen U old) (keepers_seen U new) (HasGivenNone T.part_at s n at why (histories n)) = record { before = own.before; after = own.after; was = own.was; is = own.is; related = own.related.1 } in
    subst (λ k. EndedAt T.part_of s histories k (HasGivenNone T.part_at s k at why (histories k)) (keepers_seen U entry) (keepers_seen U new)) (sym is)
    (ended U T.part_of s histories n entry old new (HasGivenNone T.part_at s n at why (histories n)) so.ran so.left here mine others)
one_ended A B U s histories n entry old new cores fold.WriteFault so here own others = absurd own.related
one_ended A B U s histories n entry old new cores fold.Memory so here own others = tt

stays_told : {A : Type 0} (b : Bool) (held : Option A) (x : A) → IsSome held → IsSome (cond b (replaced held x) held)
stays_told true None x told = told
stays_told true (Some y) x told = refl
stays_told false held x told = told

-- a keeper of which something is seen
seen_of : {K : Type 0} (U : keeper.Ghosts K) (ks : List K) (i : ℕ) (x : KeeperState) → element (keepers_seen U ks) i ≡ Some x → (k : K) × (element ks i ≡ Some k) × (keeper_seen U k ≡ x)
seen_of U [] i x there = cc
seen_of U (k ∷ ks) zero x there = let same : keeper_seen U k ≡ x = cc in (k, refl, same)
seen_of U (k ∷ ks) (suc i) x there = seen_of U ks i x there

-- the same at equal sizes and an equal history
pub ran_of : {A K : Type 0} (U : keeper.Ghosts K) (part_of : Sizes → ℕ → Table → List ℕ) (part_at : Sizes → ℕ → List ℕ → Cursor → Read Cursor) (s s' : Sizes) (rank : ℕ) (h h' : List LaneEvent) (old new : List K) (x : A)
    → s' ≡ s → h ≡ h' → AtRank rank (keepers_seen U old) (keepers_seen U new) (RankEnds {A = A} (Ok x) part_of part_at s' rank h)
    → AtRank rank (keepers_seen U old) (keepers_seen U new) (HasRun part_of s rank h')
ran_of U part_of part_at s s' rank h h' old new x sizes history own = record {
  before = own.before;
  after = own.after;
  was = own.was;
  is = own.is;
  related = subst (λ z. HasRun part_of s rank z own.before own.after) history (subst (λ z. HasRun part_of z rank h own.before own.after) sizes own.related);
}

pub ended_of : (A : Type 0) {K : Type 0} (U : keeper.Ghosts K) (part_of : Sizes → ℕ → Table → List ℕ) (part_at : Sizes → ℕ → List ℕ → Cursor → Read Cursor) (s s' : Sizes) (rank : ℕ) (h h' : List LaneEvent) (old new : List K) (fault : FoldFault)
    → s' ≡ s → h ≡ h' → AtRank rank (keepers_seen U old) (keepers_seen U new) (RankEnds {A = A} (Err fault) part_of part_at s' rank h)
    → AtRank rank (keepers_seen U old) (keepers_seen U new) (RankEnds {A = A} (Err fault) part_of part_at s rank h')
ended_of A U part_of part_at s s' rank h h' old new fault sizes history own = record {
  before = own.before;
  after = own.after;
  was = own.was;
  is = own.is;
  related = subst (λ z. RankEnds {A = A} (Err fault) part_of part_at s rank z own.before own.after) history (subst (λ z. RankEnds {A = A} (Err fault) part_of part_at z rank h own.before own.after) sizes own.related);
}

-- after the text was written or a write failed, each keeper has run
pub written_keepers : {A : Type 0} (answer : Result A FoldFault) (part_of : Sizes → ℕ → Table → List ℕ) (part_at : Sizes → ℕ → List ℕ → Cursor → Read Cursor) (s : Sizes) (histories : ℕ → List LaneEvent) (old new : List KeeperState)
    → IfErr answer (λ fault. fault ≡ fold.WriteFault) → HaveRun part_of s histories s.ranks old new → KeepersAfter answer part_of part_at s histories old new
written_keepers (Ok x) part_of part_at s histories old new only ran = ran
written_keepers {A} (Err fault) part_of part_at s histories old new only ran = subst (λ f. KeepersAfter {A = A} (Err f) part_of part_at s histories old new) (sym only) ran

-- what is sure of the keepers at the beginning is sure of them after their runs
still_told : (part_of : Sizes → ℕ → Table → List ℕ) (s : Sizes) (rank : ℕ) (history : List LaneEvent) (old new : KeeperState) → HasRun part_of s rank history old new → Sure old.held history → Sure new.held history
still_told part_of s rank history old new run sure = ⊎_elim (λ told. inl (subst IsSome (sym run.held) (stays_told (list_any is_save history) old.held (Some (checkpoint part_of s rank (before_last_save history))) told))) (λ quiet. inr quiet) sure

-- where all is sure at the beginning, each core stands for its rank's history
pub all_stand : {F K : Type 0} {T : Ghosts F} (U : keeper.Ghosts K) (s : Sizes) (histories : ℕ → List LaneEvent) (entry now : List K) (cores : List (RankCore F T))
    → AreCores s cores → StandSure U cores now histories → HaveRun T.part_of s histories s.ranks (keepers_seen U entry) (keepers_seen U now)
    → AreSure histories (keepers_seen U entry) → AllStand cores histories
all_stand {F} {K} {T} U s histories entry now cores are stand ran sure = record {
  each = λ rank d here.
      let below : rank < s.ranks = omega (arith, here, are.count) in
      let r = ran rank below in
      let k = seen_of U now rank r.after r.is in
      let own = still_told T.part_of s rank (histories rank) r.before r.after r.related (sure rank r.before r.was) in
      stand rank (get_or cores rank d) k.0 (at_element cores rank d here) k.1 (subst (λ (x : KeeperState). Sure x.held (histories rank)) (sym k.2) own);
}

-- the same of a run that may have ended
pub if_all_stand : {F K : Type 0} {T : Ghosts F} (U : keeper.Ghosts K) (s : Sizes) (histories : ℕ → List LaneEvent) (entry now : List K) (answer : Result (Vec (RankCore F T)) FoldFault)
    → IfOk answer (λ cores. AreCores s cores.items) → IfOk answer (λ cores. StandSure U cores.items now histories)
    → KeepersAfter answer T.part_of T.part_at s histories (keepers_seen U entry) (keepers_seen U now)
    → AreSure histories (keepers_seen U entry) → IfOk answer (λ cores. AllStand cores.items histories)
if_all_stand U s histories entry now (Ok cores) are stand ran sure = all_stand U s histories entry now cores.items are stand ran sure
if_all_stand U s histories entry now (Err fault) are stand ran sure = tt
