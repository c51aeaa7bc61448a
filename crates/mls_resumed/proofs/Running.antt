-- The ranks one after another: their cores, and what became of their keepers.
use Rattle.std.proofs.Common.{◌≡◌, ◌≢◌, List, ℕ, zero, suc, [], ◌∷◌, ◌++◌, ◌+◌, ◌<◌, ◌≤◌, false, length, get_or, drop, Option, Some, None, Result, Ok, Err, refl, sym, ◌∙◌, ap, subst, inl, inr, ◌⊎◌, ⊎_elim, arith}
use Rattle.std.specs.Prelude.{IfOk, IfErr}
use Rattle.std.specs.Global.{Vec}
use Rattle.std.specs.List.{list_any, remove}
use Rattle.std.specs.Option.{option_map}
use Rattle.std.proofs.lemmas.Bool.{cases_lt}
use Rattle.std.proofs.lemmas.List.{get_or-drop, drop-drop}
use Rattle.mls_base.specs.declared.outside.Keeper as keeper
use Rattle.mls_model.specs.Numbers.{element}
use Rattle.mls_model.specs.Studies.{Sizes}
use Rattle.mls_model.specs.Histories.{LaneEvent}
use Rattle.mls_model.specs.Survival.{is_save}
use Rattle.mls_model.specs.Standing.{Table}
use Rattle.mls_ckpt.specs.Reading.{Cursor, Read}
use Rattle.mls_field.specs.declared.fold.RowFold.{Ghosts}
use Rattle.mls_rank.specs.declared.rank_core.RankCore.{RankCore}
use Rattle.mls_rank.specs.Standing.{StandsFor}
use Rattle.mls_book.specs.Histories.{Sure}
use Rattle.mls_book.specs.Keepers.{KeeperState, keeper_seen, keepers_seen, AreSure, HasFailed, HasGivenNone, AtRank, AreLeft}
use Rattle.mls_book.proofs.KeeperPlaces.{element_map}
use Rattle.mls_result.specs.Histories.{AreCores, AllStand}
use Rattle.mls_result.specs.declared.fault.FoldFault.{FoldFault}
use Rattle.mls_result.specs.declared.fault.FoldFault.TheVariants as fold
use Rattle.mls_result.proofs.States.{at_element}
use Rattle.mls_replay.proofs.Folds.{AreFirst}
use Rattle.mls_replay.proofs.Running.{quiet_more}
use Rattle.mls_resume.specs.Opening.{OpensWith}
use Rattle.mls_resume.specs.Reads.{lists_of}
use Rattle.mls_resume.proofs.Pieces.{at_list}
use Rattle.mls_resumed.specs.GoingOn.{whole_of, wholes_of, HasGoneOn, HaveGoneOn, StoppedAt, KeepersGoOn, RankStops, StandOn}

-- the last of a longer list
pushed : {A : Type 0} (xs : List A) (x y : A) (i : ℕ) → element (xs ++ x ∷ []) i ≡ Some y → (element xs i ≡ Some y) ⊎ ((i ≡ length xs) × (x ≡ y))
pushed [] x y zero there = let same : x ≡ y = cc in inr (refl, same)
pushed [] x y (suc i) there = let none : ◌≡◌ {A = Option _} None (Some y) = there in cc
pushed (z ∷ zs) x y zero there = inl there
pushed (z ∷ zs) x y (suc i) there = ⊎_elim (λ before. inl before) (λ last. inr (ap suc last.0, last.1)) (pushed zs x y i there)

element_below : {A : Type 0} (xs : List A) (i : ℕ) (x : A) → element xs i ≡ Some x → i < length xs
element_below [] i x there = cc
element_below (y ∷ ys) zero x there = omega arith
element_below (y ∷ ys) (suc i) x there = let h = element_below ys i x there in omega (arith, h)

-- what is seen of equal places is equal
seen_same : {K : Type 0} (U : keeper.Ghosts K) (a b : List K) (i : ℕ) → element a i ≡ element b i → element (keepers_seen U a) i ≡ element (keepers_seen U b) i
seen_same U a b i same = element_map (keeper_seen U) a i ∙ (ap (option_map (keeper_seen U)) same ∙ sym (element_map (keeper_seen U) b i))

-- The first n ranks have run: a core for each of them, and their keepers after their lists; the others are as handed in.
pub record RunSoFar {F K : Type 0} {T : Ghosts F} (U : keeper.Ghosts K) (s : Sizes) (opens : ℕ → List LaneEvent → Type 0) (runs : ℕ → List LaneEvent) (n : ℕ) (entry now : List K) (cores : List (RankCore F T)) : Type 0 where
  pub first : AreFirst s n cores
  pub stand : StandOn U cores now opens runs
  pub ran : HaveGoneOn T.part_of s opens runs n (keepers_seen U entry) (keepers_seen U now)
  pub left : AreLeft n entry now
  pub quiet : (rank : ℕ) → list_any is_save (runs rank) ≡ false → element now rank ≡ element entry rank

pub none_run : {F K : Type 0} {T : Ghosts F} (U : keeper.Ghosts K) (s : Sizes) (opens : ℕ → List LaneEvent → Type 0) (runs : ℕ → List LaneEvent) (entry : List K) (cores : List (RankCore F T)) → cores ≡ [] → AreFirst s 0 cores → RunSoFar U s opens runs 0 entry entry cores
none_run U s opens runs entry cores empty first = record {
  first = first;
  stand = λ rank core keeper there _ _ _ _. let none : element cores rank ≡ None = ap (λ cs. element cs rank) empty in absurd cc;
  ran = λ rank below. absurd (omega (arith, below));
  left = λ other above. refl;
  quiet = λ rank none. refl;
}

lt_ne : (a b : ℕ) → a < b → a ≢ b
lt_ne a b lt e = omega (arith, lt, e)

gt_ne : (a b : ℕ) → b + 1 ≤ a → a ≢ b
gt_ne a b lt e = omega (arith, lt, e)

-- the ranks below have run also after the next one
still_ran : {K : Type 0} (U : keeper.Ghosts K) (part_of : Sizes → ℕ → Table → List ℕ) (s : Sizes) (opens : ℕ → List LaneEvent → Type 0) (runs : ℕ → List LaneEvent) (n : ℕ) (entry old new : List K)
    → HaveGoneOn part_of s opens runs n (keepers_seen U entry) (keepers_seen U old) → ((other : ℕ) → other ≢ n → element new other ≡ element old other)
    → HaveGoneOn part_of s opens runs n (keepers_seen U entry) (keepers_seen U new)
still_ran U part_of s opens runs n entry old new ran others rank below =
    let r = ran rank below in
    record { before = r.before; after = r.after; was = r.was; is = seen_same U new old rank (others rank (lt_ne rank n below)) ∙ r.is; related = r.related }

-- what is related since the rank's turn is related since the beginning
since : {K : Type 0} (U : keeper.Ghosts K) (n : ℕ) (entry old new : List K) (relation : KeeperState → KeeperState → Type 0)
    → AreLeft n entry old → AtRank n (keepers_seen U old) (keepers_seen U new) relation → AtRank n (keepers_seen U entry) (keepers_seen U new) relation
since U n entry old new relation left own = record { before = own.before; after = own.after; was = seen_same U entry old n (sym (left n (omega arith))) ∙ own.was; is = own.is; related = own.related }

left_more : {K : Type 0} (n : ℕ) (entry old new : List K) → AreLeft n entry old → ((other : ℕ) → other ≢ n → element new other ≡ element old other) → AreLeft (n + 1) entry new
left_more n entry old new left others other above = others other (gt_ne other n above) ∙ left other (omega (arith, above))

-- the next rank has run too
pub one_ran : {F K : Type 0} {T : Ghosts F} (U : keeper.Ghosts K) (s : Sizes) (opens : ℕ → List LaneEvent → Type 0) (runs : ℕ → List LaneEvent) (n : ℕ) (entry old new : List K) (cores cores' : List (RankCore F T)) (core : RankCore F T)
    → RunSoFar U s opens runs n entry old cores → cores' ≡ cores ++ core ∷ [] → AreFirst s (n + 1) cores'
    → ((keeper : K) → element new n ≡ Some keeper → Sure (U.held keeper) (runs n) → (before : List LaneEvent) → opens n before → StandsFor core (whole_of before (runs n)))
    → AtRank n (keepers_seen U old) (keepers_seen U new) (HasGoneOn T.part_of s n (opens n) (runs n))
    → ((other : ℕ) → other ≢ n → element new other ≡ element old other)
    → (list_any is_save (runs n) ≡ false → element new n ≡ element old n)
    → RunSoFar U s opens runs (n + 1) entry new cores'
one_ran {F} {K} {T} U s opens runs n entry old new cores cores' core so grown first stands own others quiet = record {
  first = first;
  stand = λ rank c keeper there here sure before open_so. ⊎_elim
      (λ (earlier : element cores rank ≡ Some c).
      let below : rank < n = subst (λ m. rank < m) so.first.count (element_below cores rank c earlier) in
      so.stand rank c keeper earlier (sym (others rank (lt_ne rank n below)) ∙ here) sure before open_so)
      (λ last.
      let at : rank ≡ n = last.0 ∙ so.first.count in
      let here' : element new n ≡ Some keeper = ap (element new) (sym at) ∙ here in
      let sure' : Sure (U.held keeper) (runs n) = subst (λ k. Sure (U.held keeper) (runs k)) at sure in
      let open' : opens n before = subst (λ k. opens k before) at open_so in
      subst (λ k. StandsFor c (whole_of before (runs k))) (sym at) (subst (λ x. StandsFor x (whole_of before (runs n))) last.1 (stands keeper here' sure' before open')))
      (pushed cores core c rank (subst (λ cs. element cs rank ≡ Some c) grown there));
  ran = λ rank below. ⊎_elim
      (λ lt. still_ran U T.part_of s opens runs n entry old new so.ran others rank lt)
      (λ le. let at : n ≡ rank = omega (arith, le, below) in
      subst (λ k. AtRank k (keepers_seen U entry) (keepers_seen U new) (HasGoneOn T.part_of s k (opens k) (runs k))) at (since U n entry old new (HasGoneOn T.part_of s n (opens n) (runs n)) so.left own))
      (cases_lt rank n);
  left = left_more n entry old new so.left others;
  quiet = quiet_more runs n entry old new so.quiet others quiet;
}

stopped : {K : Type 0} (U : keeper.Ghosts K) (part_of : Sizes → ℕ → Table → List ℕ) (s : Sizes) (opens : ℕ → List LaneEvent → Type 0) (runs : ℕ → List LaneEvent) (n : ℕ) (entry old new : List K) (relation : KeeperState → KeeperState → Type 0)
    → HaveGoneOn part_of s opens runs n (keepers_seen U entry) (keepers_seen U old) → AreLeft n entry old → n < s.ranks
    → AtRank n (keepers_seen U old) (keepers_seen U new) relation → ((other : ℕ) → other ≢ n → element new other ≡ element old other)
    → StoppedAt part_of s opens runs n relation (keepers_seen U entry) (keepers_seen U new)
stopped U part_of s opens runs n entry old new relation ran left here own others = record {
  here = here;
  below = still_ran U part_of s opens runs n entry old new ran others;
  own = since U n entry old new relation left own;
  above = λ other above. seen_same U new entry other (left_more n entry old new left others other above);
}

-- the next rank ended with a fault
pub one_stopped : (A B : Type 0) {F K : Type 0} {T : Ghosts F} (U : keeper.Ghosts K) (s : Sizes) (opens : ℕ → List LaneEvent → Type 0) (runs : ℕ → List LaneEvent) (n : ℕ) (entry old new : List K) (cores : List (RankCore F T)) (fault : FoldFault)
    → RunSoFar U s opens runs n entry old cores → n < s.ranks
    → AtRank n (keepers_seen U old) (keepers_seen U new) (RankStops {A = A} (Err fault) T.part_of T.part_at s n (opens n) (runs n))
    → ((other : ℕ) → other ≢ n → element new other ≡ element old other)
    → KeepersGoOn {A = B} (Err fault) T.part_of T.part_at s opens runs (keepers_seen U entry) (keepers_seen U new)
one_stopped A B {F} {K} {T} U s opens runs n entry old new cores (fold.KeeperFault r) so here own others =
    let at : r ≡ n = own.related.0 in
    let mine : AtRank n (keepers_seen U old) (keepers_seen U new) (HasFailed (runs n)) = record { before = own.before; after = own.after; was = own.was; is = own.is; related = own.related.1 } in
    subst (λ k. StoppedAt T.part_of s opens runs k (HasFailed (runs k)) (keepers_seen U entry) (keepers_seen U new)) (sym at)
    (stopped U T.part_of s opens runs n entry old new (HasFailed (runs n)) so.ran so.left here mine others)
one_stopped A B {F} {K} {T} U s opens runs n entry old new cores (fold.CheckpointBad r at why) so here own others =
    let is : r ≡ n = own.related.0 in
    let mine : AtRank n (keepers_seen U old) (keepers_seen U new) (HasGivenNone T.part_at s n at why (runs n)) = record { before = own.before; after = own.after; was = own.was; is = own.is; related = own.related.1 } in
    subst (λ k. StoppedAt T.part_of s opens runs k (HasGivenNone T.part_at s k at why (runs k)) (keepers_seen U entry) (keepers_seen U new)) (sym is)
    (stopped U T.part_of s opens runs n entry old new (HasGivenNone T.part_at s n at why (runs n)) so.ran so.left here mine others)
one_stopped A B U s opens runs n entry old new cores fold.WriteFault so here own others = absurd own.related
one_stopped A B U s opens runs n entry old new cores fold.Memory so here own others = tt

-- what is related by a rank's answer, of another form of the answer's parts
pub related_as : {K : Type 0} (U : keeper.Ghosts K) (rank : ℕ) (old new : List K) (P Q : KeeperState → KeeperState → Type 0) → ((a b : KeeperState) → P a b → Q a b) → AtRank rank (keepers_seen U old) (keepers_seen U new) P → AtRank rank (keepers_seen U old) (keepers_seen U new) Q
related_as U rank old new P Q implies own = record { before = own.before; after = own.after; was = own.was; is = own.is; related = implies own.before own.after own.related }

-- a keeper of which something is seen
seen_of : {K : Type 0} (U : keeper.Ghosts K) (ks : List K) (i : ℕ) (x : KeeperState) → element (keepers_seen U ks) i ≡ Some x → (k : K) × (element ks i ≡ Some k) × (keeper_seen U k ≡ x)
seen_of U [] i x there = cc
seen_of U (k ∷ ks) zero x there = let same : keeper_seen U k ≡ x = cc in (k, refl, same)
seen_of U (k ∷ ks) (suc i) x there = seen_of U ks i x there

-- after the text was written or a write failed, each keeper has run
pub written_keepers : {A : Type 0} (answer : Result A FoldFault) (part_of : Sizes → ℕ → Table → List ℕ) (part_at : Sizes → ℕ → List ℕ → Cursor → Read Cursor) (s : Sizes) (opens : ℕ → List LaneEvent → Type 0) (runs : ℕ → List LaneEvent) (old new : List KeeperState)
    → IfErr answer (λ fault. fault ≡ fold.WriteFault) → HaveGoneOn part_of s opens runs s.ranks old new → KeepersGoOn answer part_of part_at s opens runs old new
written_keepers (Ok x) part_of part_at s opens runs old new only ran = ran
written_keepers {A} (Err fault) part_of part_at s opens runs old new only ran = subst (λ f. KeepersGoOn {A = A} (Err f) part_of part_at s opens runs old new) (sym only) ran

-- where all is sure at the beginning, each core stands for its rank's whole history
pub all_stand : {F K : Type 0} {T : Ghosts F} (U : keeper.Ghosts K) (s : Sizes) (opens : ℕ → List LaneEvent → Type 0) (runs before : ℕ → List LaneEvent) (entry now : List K) (cores : List (RankCore F T))
    → AreCores s cores → StandOn U cores now opens runs → HaveGoneOn T.part_of s opens runs s.ranks (keepers_seen U entry) (keepers_seen U now)
    → ((rank : ℕ) → rank < s.ranks → opens rank (before rank)) → AreSure runs (keepers_seen U entry) → AllStand cores (wholes_of before runs)
all_stand {F} {K} {T} U s opens runs before entry now cores are stand ran all_open sure = record {
  each = λ rank d here.
      let below : rank < s.ranks = omega (arith, here, are.count) in
      let r = ran rank below in
      let k = seen_of U now rank r.after r.is in
      let own : Sure r.after.held (runs rank) = ⊎_elim (λ told. inl (r.related.told told)) (λ quiet. inr quiet) (sure rank r.before r.was) in
      stand rank (get_or cores rank d) k.0 (at_element cores rank d here) k.1 (subst (λ (x : KeeperState). Sure x.held (runs rank)) (sym k.2) own) (before rank) (all_open rank below);
}

-- the same of a run that may have ended
pub if_all_stand : {F K : Type 0} {T : Ghosts F} (U : keeper.Ghosts K) (s : Sizes) (opens : ℕ → List LaneEvent → Type 0) (runs before : ℕ → List LaneEvent) (entry now : List K) (answer : Result (Vec (RankCore F T)) FoldFault)
    → IfOk answer (λ cores. AreCores s cores.items) → IfOk answer (λ cores. StandOn U cores.items now opens runs)
    → KeepersGoOn answer T.part_of T.part_at s opens runs (keepers_seen U entry) (keepers_seen U now)
    → ((rank : ℕ) → rank < s.ranks → opens rank (before rank)) → AreSure runs (keepers_seen U entry) → IfOk answer (λ cores. AllStand cores.items (wholes_of before runs))
if_all_stand U s opens runs before entry now (Ok cores) are stand ran all_open sure = all_stand U s opens runs before entry now cores.items are stand ran all_open sure
if_all_stand U s opens runs before entry now (Err fault) are stand ran all_open sure = tt

-- the answer of a rank at equal sizes, an equal opening and an equal history
pub went_as : {A F K : Type 0} {T : Ghosts F} (U : keeper.Ghosts K) (s s' : Sizes) (rank : ℕ) (opening opening' : List ℕ) (h h' : List LaneEvent) (old new : List K) (x : A) → s' ≡ s → opening ≡ opening' → h ≡ h'
    → AtRank rank (keepers_seen U old) (keepers_seen U new) (RankStops {A = A} (Ok x) T.part_of T.part_at s' rank (OpensWith T s' rank opening) h)
    → AtRank rank (keepers_seen U old) (keepers_seen U new) (HasGoneOn T.part_of s rank (OpensWith T s rank opening') h')
went_as {A} {F} {K} {T} U s s' rank opening opening' h h' old new x sizes bytes history own =
    let P : Sizes → List ℕ → List LaneEvent → Type 0 = λ z o r. AtRank rank (keepers_seen U old) (keepers_seen U new) (HasGoneOn T.part_of z rank (OpensWith T z rank o) r) in
    subst (λ r. P s opening' r) history (subst (λ o. P s o h) bytes (subst (λ z. P z opening h) sizes own))

pub stopped_as : (A : Type 0) {F K : Type 0} (T : Ghosts F) (U : keeper.Ghosts K) (s s' : Sizes) (rank : ℕ) (opening opening' : List ℕ) (h h' : List LaneEvent) (old new : List K) (fault : FoldFault) → s' ≡ s → opening ≡ opening' → h ≡ h'
    → AtRank rank (keepers_seen U old) (keepers_seen U new) (RankStops {A = A} (Err fault) T.part_of T.part_at s' rank (OpensWith T s' rank opening) h)
    → AtRank rank (keepers_seen U old) (keepers_seen U new) (RankStops {A = A} (Err fault) T.part_of T.part_at s rank (OpensWith T s rank opening') h')
stopped_as A {F} {K} T U s s' rank opening opening' h h' old new fault sizes bytes history own =
    let P : Sizes → List ℕ → List LaneEvent → Type 0 = λ z o r. AtRank rank (keepers_seen U old) (keepers_seen U new) (RankStops {A = A} (Err fault) T.part_of T.part_at z rank (OpensWith T z rank o) r) in
    subst (λ r. P s opening' r) history (subst (λ o. P s o h) bytes (subst (λ z. P z opening h) sizes own))

-- the first list that is left is that of the next rank, and those behind it are left
pub opening_at : (entry now : List (Vec ℕ)) (rank : ℕ) (v : Vec ℕ) → now ≡ drop rank entry → rank < length entry → v ≡ get_or now 0 v → v.items ≡ get_or (lists_of entry) rank []
opening_at entry now rank v left here is =
    at_list entry rank v here (is ∙ ap (λ l. get_or l 0 v) left ∙ get_or-drop rank entry 0 v ∙ ap (λ n. get_or entry n v) (let e : rank + 0 ≡ rank = omega arith in e))

removed_first : {A : Type 0} (xs : List A) → remove xs 0 ≡ drop 1 xs
removed_first [] = refl
removed_first (x ∷ xs) = refl

pub next_left : (entry now rest : List (Vec ℕ)) (rank : ℕ) → now ≡ drop rank entry → rest ≡ remove now 0 → rest ≡ drop (rank + 1) entry
next_left entry now rest rank left is = is ∙ ap (λ l. remove l 0) left ∙ removed_first (drop rank entry) ∙ drop-drop 1 rank entry

-- a core of the next rank stands for its whole histories
pub stands_as : {F K : Type 0} {T : Ghosts F} (U : keeper.Ghosts K) (s s' : Sizes) (rank : ℕ) (opening opening' : List ℕ) (h h' : List LaneEvent) (new : List K) (core : RankCore F T) → s' ≡ s → opening ≡ opening' → h ≡ h'
    → ((keeper : K) → element new rank ≡ Some keeper → Sure (U.held keeper) h → (before : List LaneEvent) → OpensWith T s' rank opening before → StandsFor core (whole_of before h))
    → (keeper : K) → element new rank ≡ Some keeper → Sure (U.held keeper) h' → (before : List LaneEvent) → OpensWith T s rank opening' before → StandsFor core (whole_of before h')
stands_as {F} {K} {T} U s s' rank opening opening' h h' new core sizes bytes history stands =
    let P : Sizes → List ℕ → List LaneEvent → Type 0 = λ z o r. (keeper : K) → element new rank ≡ Some keeper → Sure (U.held keeper) r → (before : List LaneEvent) → OpensWith T z rank o before → StandsFor core (whole_of before r) in
    subst (λ r. P s opening' r) history (subst (λ o. P s o h) bytes (subst (λ z. P z opening h) sizes stands))
