-- The books of a pool, rank by rank, and what they say of the run.
use Rattle.std.proofs.Common.{◌≡◌, ℕ, zero, suc, ◌+◌, ◌<◌, ◌≤◌, Bool, true, false, cond, List, [], ◌∷◌, ◌++◌, length, drop, Option, Some, None, Result, Ok, Err, refl, sym, ◌∙◌, ap, subst, inl, inr, ⊎_elim, arith}
use Rattle.std.specs.Prelude.{IsSome, IfSome}
use Rattle.std.specs.List.{AllByRecursion, list_any}
use Rattle.mls_base.specs.declared.outside.Keeper as keeper
use Rattle.mls_base.specs.Told.{MayCease, replaced}
use Rattle.mls_text.specs.Writing.{SinkState, Wrote, FailedAfter}
use Rattle.mls_model.specs.Numbers.{element}
use Rattle.mls_model.specs.Studies.{Sizes, Study}
use Rattle.mls_model.specs.Lanes.{Lane}
use Rattle.mls_model.specs.Histories.{LaneEvent, history}
use Rattle.mls_model.specs.Survival.{is_save, before_last_save, crash_after_save}
use Rattle.mls_model.specs.Schedules.{is_complete, schedule_text}
use Rattle.mls_model.specs.ResultText.{histories_of, result_text}
use Rattle.mls_orders.specs.OrderFree.{IsOrderFree}
use Rattle.mls_orders.specs.CellLines.{text_with_plain_lines}
use Rattle.mls_ckpt.specs.Histories.{checkpoint}
use Rattle.mls_ckpt.specs.CellParts.{sums_part}
use Rattle.mls_book.specs.Books.{IsRecord}
use Rattle.mls_book.specs.Keepers.{keeper_seen, keepers_seen, AreLeft, AreSure, AtRank}
use Rattle.mls_book.specs.Runs.{held_over}
use Rattle.mls_book.specs.declared.faults.BookFault.{BookFault}
use Rattle.mls_book.specs.declared.faults.BookFault.TheVariants as book
use Rattle.mls_result.specs.declared.status.Status.{Status}
use Rattle.mls_result.specs.declared.status.Status.TheVariants as status
use Rattle.mls_launch.specs.declared.faults.OutFault.{OutFault}
use Rattle.mls_launch.specs.declared.faults.OutFault.TheVariants as fault
use Rattle.mls_load.specs.Refusals.{FileState}
use Rattle.mls_pool.specs.declared.faults.PoolFault.{PoolFault}
use Rattle.mls_pool.specs.Pools.{AreBooks, AreClean, IsBookOf, IsEnded, IsReported, IsShown, TapeBook, journals, lanes_of}
use Rattle.mls_live.specs.Ending.{AreAllSure, AreOnTape, Ends, IsKept, IsSaved, IsSpoiled, IsUnsaved, OfBooks, own_keepers}
use Rattle.mls_desk.specs.Ends.{HasFaulted, HasGivenBad}
use Rattle.mls_live.specs.Running.{EndsPool, HoldsLast, Ran, RunAnswers, WasRun, ended_status, pool_status, running_of}
use Rattle.mls_live.specs.Answers.{IsUncalled}
use Rattle.mls_live.proofs.Standing.{all_at, journal_history}

-- an item at a place
record Item {A : Type 0} (xs : List A) (i : ℕ) : Type 0 where
  pub item : A
  pub there : element xs i ≡ Some item

item_at : {A : Type 0} (xs : List A) (i : ℕ) → i < length xs → Item xs i
item_at [] i here = absurd (omega (arith, here))
item_at (x ∷ xs) zero here = record { item = x; there = refl }
item_at (x ∷ xs) (suc i) here = let r = item_at xs i (omega (arith, here)) in record { item = r.item; there = r.there }

below : {A : Type 0} (xs : List A) (i : ℕ) (x : A) → element xs i ≡ Some x → i < length xs
below [] i x there = cc
below (y ∷ ys) zero x there = omega arith
below (y ∷ ys) (suc i) x there = let h = below ys i x there in omega (arith, h)

none_some : {A : Type 0} (x : A) → ◌≡◌ {A = Option A} None (Some x) → ⊥
none_some x e = cc

same_some : {A : Type 0} (x y : A) → ◌≡◌ {A = Option A} (Some x) (Some y) → x ≡ y
same_some x y e = cc

-- what is seen of the books' keepers at their ranks, and of the others
own_at : {K : Type 0} (U : keeper.Ghosts K) (books : List (TapeBook K)) (spare : List K) (rank : ℕ) (book : TapeBook K) → element books rank ≡ Some book → element (keepers_seen U (own_keepers books ++ spare)) rank ≡ Some (keeper_seen U book.keeper)
own_at U [] spare rank book there = absurd (none_some book there)
own_at {K} U (b ∷ bs) spare zero book there = ap (λ (x : TapeBook K). Some (keeper_seen U x.keeper)) (same_some b book there)
own_at U (b ∷ bs) spare (suc i) book there = own_at U bs spare i book there

left_at : {K : Type 0} (U : keeper.Ghosts K) (books : List (TapeBook K)) (keepers : List K) (other : ℕ) → length books ≤ length keepers → length books ≤ other → element (keepers_seen U (own_keepers books ++ drop (length books) keepers)) other ≡ element (keepers_seen U keepers) other
left_at U [] keepers other few past = refl
left_at U (b ∷ bs) [] other few past = absurd (omega (arith, few))
left_at U (b ∷ bs) (k ∷ ks) zero few past = absurd (omega (arith, past))
left_at U (b ∷ bs) (k ∷ ks) (suc other) few past = left_at U bs ks other (omega (arith, few)) (omega (arith, past))

seen_length : {K : Type 0} (U : keeper.Ghosts K) (keepers : List K) → length (keepers_seen U keepers) ≡ length keepers
seen_length U [] = refl
seen_length U (k ∷ ks) = ap suc (seen_length U ks)

none_told : (A : Type 0) → IsSome {T = A} None → ⊥
none_told A e = cc

-- what a keeper holds that lost nothing that it told
held_is : (saved : Bool) (bytes : List ℕ) (start held : Option (Option (List ℕ))) → (IsSome start → IsSome held) → (IsSome held → IsSome start) → (saved ≡ true → IfSome held (λ kept. kept ≡ Some bytes)) → (saved ≡ false → MayCease start held) → held ≡ cond saved (replaced start (Some bytes)) start
held_is true bytes None None tells untold kept before = refl
held_is false bytes None None tells untold kept before = refl
held_is saved bytes None (Some h) tells untold kept before = absurd (none_told (Option (List ℕ)) (untold refl))
held_is saved bytes (Some s) None tells untold kept before = absurd (none_told (Option (List ℕ)) (tells refl))
held_is true bytes (Some s) (Some h) tells untold kept before = ap Some (kept refl)
held_is false bytes (Some s) (Some h) tells untold kept before = sym (before refl)

-- the two laws: no crash is read back, and the text is the one with the plain schedule's lines
abbrev pub NoneCrash : Type 0
NoneCrash = (s : Sizes) (lanes : List Lane) (orders : List (List ℕ)) (rank : ℕ) → IsOrderFree s lanes → is_complete s.ranks lanes orders ≡ true → crash_after_save (histories_of lanes orders rank) ≡ false

abbrev pub LinesAreSame : Type 0
LinesAreSame = (study : Study) (lanes : List Lane) (orders : List (List ℕ)) → IsOrderFree study.sizes lanes → is_complete study.sizes.ranks lanes orders ≡ true → result_text study lanes orders ≡ text_with_plain_lines study lanes orders

module _ {K : Type 0} (U : keeper.Ghosts K) (tape : List Lane) (s : Sizes) (keepers : List K) (books : List (TapeBook K)) (are : AreBooks U tape s (keepers_seen U keepers) books) (few : s.ranks ≤ 64) (all : length keepers ≡ 64) where
  start_at : (rank : ℕ) (book : TapeBook K) → element books rank ≡ Some book → Item (keepers_seen U keepers) rank
  start_at rank book there =
      let h = below books rank book there in
      let n = seen_length U keepers in
      item_at (keepers_seen U keepers) rank (omega (arith, h, are.count, few, all, n))

  book_of : (rank : ℕ) (book : TapeBook K) (there : element books rank ≡ Some book) → IsBookOf U tape s rank (start_at rank book there).item book
  book_of rank book there = are.each rank book (start_at rank book there).item there (start_at rank book there).there

  pub on_tape : AreOnTape tape s books
  on_tape = record {
    count = are.count;
    each = λ rank book there.
        let o = book_of rank book there in
        record { over = o.over; sizes = o.sizes; of_rank = o.of_rank };
  }

  history_at : (rank : ℕ) (book : TapeBook K) → element books rank ≡ Some book → history (lanes_of book) book.journal ≡ histories_of tape (journals books) rank
  history_at rank book there = journal_history tape books rank book there (book_of rank book there).over.histories

  -- no book shows a fault
  module _ (clean : AreClean books) where
    sure_of : AreSure (histories_of tape (journals books)) (keepers_seen U keepers) → AreAllSure U books
    sure_of sure rank book there =
        let o = book_of rank book there in
        let start = start_at rank book there in
        let calm : book.fault ≡ None = clean rank book there in
        ⊎_elim (λ told. inl (o.begun.sure calm told))
        (λ none. inr (ap crash_after_save (history_at rank book there) ∙ none)) (sure rank start.item start.there)

    holds_last : (spare : List K) → AllByRecursion (IsKept U) books → (rank : ℕ) → rank < s.ranks → AtRank rank (keepers_seen U keepers) (keepers_seen U (own_keepers books ++ spare)) (HoldsLast s rank (histories_of tape (journals books) rank))
    holds_last spare kept rank here =
        let b = item_at books rank (omega (arith, here, are.count)) in
        let o = book_of rank b.item b.there in
        let start = start_at rank b.item b.there in
        let calm : b.item.fault ≡ None = clean rank b.item b.there in
        let own = all_at (IsKept U) books rank b.item kept b.there in
        let h = history (lanes_of b.item) b.item.journal in
        let held : U.held b.item.keeper ≡ cond (list_any is_save h) (replaced start.item.held (Some (checkpoint sums_part b.item.core.sizes b.item.core.rank (before_last_save h)))) start.item.held =
        held_is (list_any is_save h) (checkpoint sums_part b.item.core.sizes b.item.core.rank (before_last_save h)) start.item.held (U.held b.item.keeper) (o.begun.sure calm) o.begun.untold (λ e. own.kept (own.had ∙ e)) (λ e. o.begun.kept (own.had ∙ e)) in
        let at_sizes = subst (λ (z : Sizes). U.held b.item.keeper ≡ held_over sums_part z b.item.core.rank h start.item.held) o.sizes held in
        let at_rank = subst (λ (r : ℕ). U.held b.item.keeper ≡ held_over sums_part s r h start.item.held) o.of_rank at_sizes in
        record {
          before = start.item;
          after = keeper_seen U b.item.keeper;
          was = start.there;
          is = own_at U books spare rank b.item b.there;
          related = record {
            held = subst (λ (x : List LaneEvent). U.held b.item.keeper ≡ held_over sums_part s rank x start.item.held) (history_at rank b.item b.there) at_rank;
            counted = o.begun.counted;
          };
        }

  -- the fault of a rank's keeper, from its book's record
  module _ (spare : List K) (f : PoolFault) (reported : IsReported books f) (cause : (book : TapeBook K) → element books f.rank ≡ Some book → IsRecord book.fault (U.faults book.keeper) (U.held book.keeper)) where
    faulted : f.fault ≡ book.KeeperFault → AtRank f.rank (keepers_seen U keepers) (keepers_seen U (own_keepers books ++ spare)) HasFaulted
    faulted is =
        let b = item_at books f.rank reported.here in
        let o = book_of f.rank b.item b.there in
        let start = start_at f.rank b.item b.there in
        let shown : b.item.fault ≡ Some book.KeeperFault = subst (λ (x : BookFault). IsShown x b.item.fault) is (reported.shown b.item b.there) in
        record {
          before = start.item;
          after = keeper_seen U b.item.keeper;
          was = start.there;
          is = own_at U books spare f.rank b.item b.there;
          related = record { rose = o.begun.caused shown; unsound = λ sound. o.begun.blameless sound shown };
        }

    given_bad : (at : ℕ) (why : _) → f.fault ≡ book.CheckpointBad at why → AtRank f.rank (keepers_seen U keepers) (keepers_seen U (own_keepers books ++ spare)) HasGivenBad
    given_bad at why is =
        let b = item_at books f.rank reported.here in
        let o = book_of f.rank b.item b.there in
        let start = start_at f.rank b.item b.there in
        let shown : b.item.fault ≡ Some (book.CheckpointBad at why) = subst (λ (x : BookFault). IsShown x b.item.fault) is (reported.shown b.item b.there) in
        let silent : U.held b.item.keeper ≡ None = subst (λ (x : Option BookFault). IsRecord x (U.faults b.item.keeper) (U.held b.item.keeper)) shown (cause b.item b.there) in
        record {
          before = start.item;
          after = keeper_seen U b.item.keeper;
          was = start.there;
          is = own_at U books spare f.rank b.item b.there;
          related = record {
            silent = silent;
            rose = λ told. ⊎_elim (λ tells. absurd (none_told (Option (List ℕ)) (subst IsSome silent tells))) (λ rose. rose) (o.begun.tells told);
            unsound = λ told sound. none_told (Option (List ℕ)) (subst IsSome silent (o.begun.tells_on sound told));
          };
        }

-- a run whose books have no fault
pub was_run : {K : Type 0} (U : keeper.Ghosts K) (study : Study) (tape : List Lane) (name : List ℕ) (keepers : List K) (books : List (TapeBook K)) (spare : List K) → NoneCrash → LinesAreSame → study.sizes.ranks ≤ 64 → length keepers ≡ 64
    → IsEnded U tape study.sizes keepers books spare None → (goes saves : List ℕ → Type 0) → OfBooks U study tape books goes → saves (schedule_text (journals books))
    → WasRun (running_of study tape name) (keepers_seen U keepers) (keepers_seen U (own_keepers books ++ spare)) saves goes
was_run U study tape name keepers books spare calm same few all ended goes saves h saved =
    let are = ended.pool.are in
    let clean = ended.pool.clean refl in
    let complete = ended.complete refl in
    let sure = sure_of U tape study.sizes keepers books are few all clean in
    record {
      orders = journals books;
      complete = complete;
      text = record { cores = h.0.cores; are = h.0.are; form = h.0.form; right = λ told. h.0.right (sure told) };
      plain = λ free. subst goes (same study tape (journals books) free complete) (h.0.right (sure (λ rank k there. inr (calm study.sizes tape (journals books) rank free complete))));
      saved = saved;
      keep = holds_last U tape study.sizes keepers books are few all clean spare h.1;
    }

-- what each answer of an end says
ended_answers : {A K : Type 0} (U : keeper.Ghosts K) (study : Study) (tape : List Lane) (name : List ℕ) (keepers : List K) (books : List (TapeBook K)) (spare : List K) → NoneCrash → LinesAreSame → study.sizes.ranks ≤ 64 → length keepers ≡ 64
    → IsEnded U tape study.sizes keepers books spare None → (result : Result A OutFault) (files files' : FileState) (out out' : SinkState) → Ends (OfBooks U study tape books) name (schedule_text (journals books)) result files files' out out'
    → RunAnswers (running_of study tape name) files files' out out' (keepers_seen U keepers) (keepers_seen U (own_keepers books ++ spare)) (ended_status result)
ended_answers U study tape name keepers books spare calm same few all ended (Ok done) files files' out out' h = was_run U study tape name keepers books spare calm same few all ended (Wrote out out') (λ bytes. IsSaved name bytes files files') h.0 h.1
ended_answers U study tape name keepers books spare calm same few all ended (Err fault.WriteFault) files files' out out' h = ⊎_elim
    (λ failed. inl (was_run U study tape name keepers books spare calm same few all ended (FailedAfter out out') (λ bytes. IsUnsaved files files') failed.0 failed.1))
    (λ wrote. inr (was_run U study tape name keepers books spare calm same few all ended (Wrote out out') (λ bytes. IsSpoiled name files files') wrote.0 wrote.1)) h
ended_answers U study tape name keepers books spare calm same few all ended (Err fault.Memory) files files' out out' h =
    (⊎_elim (λ none. inl none) (λ wrote. inr (was_run U study tape name keepers books spare calm same few all ended (Wrote out out') (λ bytes. Unit {0}) wrote tt)) h.0, h.1.saves)

faulty_answers : {K : Type 0} (U : keeper.Ghosts K) (study : Study) (tape : List Lane) (name : List ℕ) (keepers : List K) (books : List (TapeBook K)) (spare : List K) → study.sizes.ranks ≤ 64 → length keepers ≡ 64
    → AreBooks U tape study.sizes (keepers_seen U keepers) books → (w r : ℕ) (x : BookFault) → IsReported books (record { worker = w; rank = r; fault = x }) → ((book : TapeBook K) → element books r ≡ Some book → IsRecord book.fault (U.faults book.keeper) (U.held book.keeper))
    → (files : FileState) (out : SinkState) → RunAnswers (running_of study tape name) files files out out (keepers_seen U keepers) (keepers_seen U (own_keepers books ++ spare)) (pool_status (record { worker = w; rank = r; fault = x }))
faulty_answers U study tape name keepers books spare few all are w r book.KeeperFault reported cause files out =
    (faulted U tape study.sizes keepers books are few all spare (record { worker = w; rank = r; fault = book.KeeperFault }) reported cause refl, (refl, record { held = refl; loads = refl; saves = refl }))
faulty_answers U study tape name keepers books spare few all are w r (book.CheckpointBad at why) reported cause files out =
    (given_bad U tape study.sizes keepers books are few all spare (record { worker = w; rank = r; fault = book.CheckpointBad at why }) reported cause at why refl, (refl, record { held = refl; loads = refl; saves = refl }))
faulty_answers U study tape name keepers books spare few all are w r book.Memory reported cause files out = (inl refl, refl)

left_as : {K : Type 0} (U : keeper.Ghosts K) (s : Sizes) (keepers : List K) (books : List (TapeBook K)) (spare : List K) → length books ≡ s.ranks → s.ranks ≤ 64 → length keepers ≡ 64 → spare ≡ drop s.ranks keepers → AreLeft s.ranks (keepers_seen U keepers) (keepers_seen U (own_keepers books ++ spare))
left_as {K} U s keepers books spare count few all left other past =
    let same : spare ≡ drop (length books) keepers = left ∙ ap (λ n. drop n keepers) (sym count) in
    ap (λ (ks : List K). element (keepers_seen U (own_keepers books ++ ks)) other) same ∙ left_at U books keepers other (omega (arith, count, few, all)) (omega (arith, count, past))

-- how a run answers whose pool ended so
pub ran_pool : {K : Type 0} (U : keeper.Ghosts K) (study : Study) (tape : List Lane) (name : List ℕ) (keepers : List K) (books : List (TapeBook K)) (spare back : List K) (f : Option PoolFault) → NoneCrash → LinesAreSame → study.sizes.ranks ≤ 64 → length keepers ≡ 64
    → IsEnded U tape study.sizes keepers books spare f → (files files' : FileState) (out out' : SinkState) (answer : Status) → EndsPool U study tape name books spare f back files files' out out' answer
    → Ran (running_of study tape name) files files' out out' (keepers_seen U keepers) (keepers_seen U back) answer
ran_pool {K} U study tape name keepers books spare back (Some f) calm same few all ended files files' out out' answer h =
    let r = running_of study tape name in
    let old = keepers_seen U keepers in
    let own = faulty_answers U study tape name keepers books spare few all ended.pool.are f.worker f.rank f.fault ended.pool.reported h.cause files out in
    let at_files = subst (λ (x : FileState). RunAnswers r files x out out old (keepers_seen U (own_keepers books ++ spare)) (pool_status f)) (sym h.same_files) own in
    let at_out = subst (λ (x : SinkState). RunAnswers r files files' out x old (keepers_seen U (own_keepers books ++ spare)) (pool_status f)) (sym h.same_out) at_files in
    let at_status = subst (λ (x : Status). RunAnswers r files files' out out' old (keepers_seen U (own_keepers books ++ spare)) x) (sym h.status_is) at_out in
    record {
      answers = subst (λ (ks : List K). RunAnswers r files files' out out' old (keepers_seen U ks) answer) (sym h.keepers_are) at_status;
      left = subst (λ (ks : List K). AreLeft study.sizes.ranks old (keepers_seen U ks)) (sym h.keepers_are) (left_as U study.sizes keepers books spare ended.pool.are.count few all ended.pool.left);
    }
ran_pool {K} U study tape name keepers books spare back None calm same few all ended files files' out out' answer h =
    let r = running_of study tape name in
    let old = keepers_seen U keepers in
    let own = ended_answers U study tape name keepers books spare calm same few all ended h.result files files' out out' h.ends in
    let at_status = subst (λ (x : Status). RunAnswers r files files' out out' old (keepers_seen U (own_keepers books ++ spare)) x) (sym h.status_is) own in
    record {
      answers = subst (λ (ks : List K). RunAnswers r files files' out out' old (keepers_seen U ks) answer) (sym h.keepers_are) at_status;
      left = subst (λ (ks : List K). AreLeft study.sizes.ranks old (keepers_seen U ks)) (sym h.keepers_are) (left_as U study.sizes keepers books spare ended.pool.are.count few all ended.pool.left);
    }

-- a run that didn't begin
pub ran_not : {K : Type 0} (U : keeper.Ghosts K) (study : Study) (tape : List Lane) (name : List ℕ) (keepers back : List K) → back ≡ keepers → (files : FileState) (out : SinkState) → Ran (running_of study tape name) files files out out (keepers_seen U keepers) (keepers_seen U back) status.Memory
ran_not {K} U study tape name keepers back same files out = record {
  answers = (inl refl, refl);
  left = λ other past. ap (λ (ks : List K). element (keepers_seen U ks) other) same;
}

-- the books' keepers and the others are as many as were handed in
drop_length : {A : Type 0} (n : ℕ) (xs : List A) → n ≤ length xs → n + length (drop n xs) ≡ length xs
drop_length zero xs few = omega arith
drop_length (suc n) [] few = absurd (omega (arith, few))
drop_length (suc n) (x ∷ xs) few = let h = drop_length n xs (omega (arith, few)) in omega (arith, h)

pub room_left : {B K : Type 0} (keepers : List K) (ranks : ℕ) (books : List B) (spare : List K) → length books ≡ ranks → ranks ≤ 64 → length keepers ≡ 64 → spare ≡ drop ranks keepers → length books + length spare ≡ 64
room_left keepers ranks books spare count few all left =
    let n = drop_length ranks keepers (omega (arith, few, all)) in
    let m = ap length left in
    omega (arith, n, m, count, all)

own_count : {K : Type 0} (books : List (TapeBook K)) (spare : List K) → length (own_keepers books ++ spare) ≡ length books + length spare
own_count [] spare = omega arith
own_count (b ∷ bs) spare = let h = own_count bs spare in omega (arith, h)

pub back_count : {K : Type 0} (U : keeper.Ghosts K) (study : Study) (tape : List Lane) (name : List ℕ) (books : List (TapeBook K)) (spare back : List K) (f : Option PoolFault) (files files' : FileState) (out out' : SinkState) (answer : Status) → EndsPool U study tape name books spare f back files files' out out' answer → length back ≡ length books + length spare
back_count U study tape name books spare back (Some f) files files' out out' answer h = ap length h.keepers_are ∙ own_count books spare
back_count U study tape name books spare back None files files' out out' answer h = ap length h.keepers_are ∙ own_count books spare

-- a run that began is never refused
called_pool : (w r : ℕ) (x : BookFault) → IsUncalled (pool_status (record { worker = w; rank = r; fault = x })) → ⊥
called_pool w r book.KeeperFault h = h
called_pool w r (book.CheckpointBad at why) h = h
called_pool w r book.Memory h = h

called_end : {A : Type 0} (result : Result A OutFault) → IsUncalled (ended_status result) → ⊥
called_end (Ok done) h = h
called_end (Err fault.WriteFault) h = h
called_end (Err fault.Memory) h = h

pub called : {K : Type 0} (U : keeper.Ghosts K) (study : Study) (tape : List Lane) (name : List ℕ) (books : List (TapeBook K)) (spare back : List K) (f : Option PoolFault) (files files' : FileState) (out out' : SinkState) (answer : Status) → EndsPool U study tape name books spare f back files files' out out' answer → IsUncalled answer → ⊥
called U study tape name books spare back (Some f) files files' out out' answer h is = called_pool f.worker f.rank f.fault (subst IsUncalled h.status_is is)
called U study tape name books spare back None files files' out out' answer h is = called_end h.result (subst IsUncalled h.status_is is)
