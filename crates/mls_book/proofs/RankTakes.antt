-- What a rank says of an event, and what it makes of a book's fields.
use Rattle.std.proofs.Common.{◌≡◌, ℕ, ◌+◌, ◌^◌, ◌<◌, ◌≤◌, min, max, Bool, true, false, ◌||◌, List, [], ◌∷◌, ◌++◌, length, get_or, set, replicate, Option, None, Some, refl, sym, ap, ◌∙◌, subst, inl, inr, arith}
use Rattle.std.specs.Prelude.{IsSome, IfSome}
use Rattle.std.proofs.lemmas.Bool.{cases_Bool}
use Rattle.std.proofs.lemmas.List.{length_push}
use Rattle.mls_base.specs.Told.{MayCease, replaced, raised, StaysSound}
use Rattle.mls_base.specs.declared.outside.Keeper as keeper
use Rattle.mls_model.specs.declared.lanes.LaneKind.{LaneKind}
use Rattle.mls_model.specs.declared.outcomes.Outcome.{Outcome}
use Rattle.mls_model.specs.declared.outcomes.Counts.{Counts}
use Rattle.mls_model.specs.Outcomes.{total_count}
use Rattle.mls_model.specs.Places.{any_place}
use Rattle.mls_model.specs.Frames.{Frame}
use Rattle.mls_model.specs.Histories.{LaneEvent}
use Rattle.mls_model.specs.Survival.{is_save, is_crash, crash_after_save}
use Rattle.mls_field.specs.declared.fold.RowFold.{Ghosts}
use Rattle.mls_rank.specs.Cores.{IsSame, counts_of}
use Rattle.mls_rank.specs.Counting.{no_counts}
use Rattle.mls_tape.specs.Events.{IsToldEvent}
use Rattle.mls_rank.specs.Standing.{StandsFor, StandsOn, IsOutcome}
use Rattle.mls_book.specs.declared.faults.BookFault.{BookFault}
use Rattle.mls_book.specs.declared.faults.BookFault.TheVariants.{KeeperFault, CheckpointBad, Memory}
use Rattle.mls_book.specs.declared.saved_rank.SavedRank.{SavedRank}
use Rattle.mls_book.specs.Faults.{Leaves, CountsFault, SoundFault, HasCause, IfBad}
use Rattle.mls_book.specs.Backups.{written_of, gets_after, Begins}
use Rattle.mls_book.specs.SavedRanks.{core_of, study_of, number_of, total_of, saved_of, opening_of, keeper_of, held_of, faults_of, gets_of, sound_of, IsGiven, IsRefused, reads_keeper, calls_keeper, CarriesHistory, CarriesMore, CountsFew}
use Rattle.mls_book.specs.Histories.{Sure}
use Rattle.mls_book.specs.Journals.{ToldLane, told_event, told_history}
use Rattle.mls_book.specs.Books.{IsRecord, IsJournal, BookKept}
use Rattle.mls_book.specs.Offers.{recorded}
use Rattle.mls_book.proofs.JournalLaws.{told_is, told_few, tell_before, history_none, history_more, history_few, journal_none, journal_more}

-- an event that is taken
pub record RankTakes {F K : Type 0} {R : Ghosts F} {U : keeper.Ghosts K} (old new : SavedRank F K R U) (e : LaneEvent) (o : Outcome) : Type 0 where
  pub right : IsOutcome (core_of old) e o
  pub carries : (whole run : List LaneEvent) → length whole ≤ 2 ^ 62 → CarriesHistory old whole run → CarriesMore new whole run e
  pub counts : (most : ℕ) → most ≤ 2 ^ 62 → CountsFew old most → CountsFew new (most + 1)
  pub stands : StandsOn (core_of old) (core_of new) e
  pub sizes : study_of new ≡ study_of old
  pub rank : number_of new ≡ number_of old
  pub sum : total_of new ≤ max (2 ^ 62) (total_of old + 1)
  pub saved : saved_of new ≡ (saved_of old || is_save e)
  pub opening : opening_of new ≡ opening_of old
  pub reopens : is_crash e ≡ true → saved_of old ≡ false → Begins (study_of old) (number_of old) (opening_of old) (core_of new)
  pub untouched : calls_keeper (saved_of old) e ≡ false → keeper_of new ≡ keeper_of old
  pub put : is_save e ≡ true → held_of new ≡ replaced (held_of old) (Some (written_of (core_of new)))
  pub held : is_save e ≡ false → held_of new ≡ held_of old
  pub gets : gets_of new ≡ gets_after (reads_keeper (saved_of old) e) (gets_of old)
  pub given : reads_keeper (saved_of old) e ≡ true → IsGiven old new
  pub sound : StaysSound (sound_of old) (sound_of new)
  pub faults : faults_of new ≡ faults_of old

-- an event that is refused for a fault
pub record RankRefuses {F K : Type 0} {R : Ghosts F} {U : keeper.Ghosts K} (old new : SavedRank F K R U) (e : LaneEvent) (fault : BookFault) : Type 0 where
  pub keeps : (whole run : List LaneEvent) → CarriesHistory old whole run → CarriesHistory new whole run
  pub fewer : (most : ℕ) → CountsFew old most → CountsFew new most
  pub untold : (most : ℕ) → CountsFew old most → IfBad fault (held_of old ≡ None)
  pub stands : (h : List LaneEvent) → StandsFor (core_of old) h → StandsFor (core_of new) h
  pub same : IsSame (core_of old) (core_of new)
  pub saved : saved_of new ≡ saved_of old
  pub opening : opening_of new ≡ opening_of old
  pub untouched : calls_keeper (saved_of old) e ≡ false → keeper_of new ≡ keeper_of old
  pub leaves : Leaves fault (held_of old) (held_of new)
  pub sound : StaysSound (sound_of old) (sound_of new)
  pub faults : CountsFault fault (faults_of old) (faults_of new)
  pub surely : SoundFault fault (sound_of old)
  pub cause : HasCause fault (calls_keeper (saved_of old) e) (reads_keeper (saved_of old) e)
  pub got : IfBad fault (gets_of new ≡ raised (gets_of old))
  pub read : IfBad fault (IsRefused fault old new)

-- a keeper that doesn't tell, still doesn't
replaced_none : {A : Type 0} (old new : Option A) (value : A) → old ≡ None → new ≡ replaced old value → new ≡ None
replaced_none old new value none is = subst (λ o. new ≡ replaced o value) none is

ceased_none : {A : Type 0} (old new : Option A) → old ≡ None → MayCease old new → new ≡ None
ceased_none old None none may = refl
ceased_none old (Some v) none may = let clash : None ≡ Some v = sym none ∙ may in absurd cc

-- the record of faults after an event that is taken
record_kept : (fault : Option BookFault) (faults faults' : ℕ) (held held' : Option (Option (List ℕ))) → faults' ≡ faults → (held ≡ None → held' ≡ None) → IsRecord fault faults held → IsRecord fault faults' held'
record_kept None faults faults' held held' same none is = tt
record_kept (Some KeeperFault) faults faults' held held' same none is = subst (λ n. 0 < n) (sym same) is
record_kept (Some (CheckpointBad at why)) faults faults' held held' same none is = none is
record_kept (Some Memory) faults faults' held held' same none is = absurd is

still_none : {F K : Type 0} {R : Ghosts F} {U : keeper.Ghosts K} (old new : SavedRank F K R U) (e : LaneEvent) (o : Outcome) → RankTakes old new e o → held_of old ≡ None → held_of new ≡ None
still_none old new e o t none = elim (cases_Bool (is_save e)) [
  | inl saves ↦ replaced_none (held_of old) (held_of new) (Some (written_of (core_of new))) none (t.put saves)
  | inr other ↦ t.held other ∙ none
]

pub few_places : (total total' places : ℕ) → total ≤ 2 ^ 62 + places → total' ≤ max (2 ^ 62) (total + 1) → total' ≤ 2 ^ 62 + (places + 1)
few_places total total' places few sum = omega (arith, few, sum)

-- what a book's fields keep, with one more event that is taken
pub kept_taken : {F K : Type 0} {R : Ghosts F} {U : keeper.Ghosts K} (told : ℕ → ToldLane) (belongs : ℕ → ℕ → Bool) (lanes : ℕ) (old new : SavedRank F K R U) (journal taken : List ℕ) (fault : Option BookFault) (k n : ℕ) (e : LaneEvent) (o : Outcome)
    → k < lanes → belongs (number_of old) k ≡ true → n ≡ get_or taken k 0 → length journal ≤ 2 ^ 62
    → IfSome (told k) (λ (l : LaneKind × List Frame). n < length l.1) → (IsSome (told k) → told_event (told k) n ≡ Some e)
    → RankTakes old new e o → BookKept told belongs lanes old journal taken fault
    → BookKept told belongs lanes new (journal ++ k ∷ []) (set taken k (n + 1)) fault
kept_taken told belongs lanes old new journal taken fault k n e o there own next small few event t b =
    let places = journal_more told (belongs (number_of old)) lanes journal taken k n there own next few b.places in
    let count = next ∙ b.places.each k there in
    let longer : length (journal ++ k ∷ []) ≡ length journal + 1 = length_push journal k in
    record {
      places = subst (λ (r : ℕ). IsJournal told (belongs r) lanes (journal ++ k ∷ []) (set taken k (n + 1))) (sym t.rank) places;
      carries = λ all.
          let before = tell_before told journal k all in
          let h = told_history told journal in
          let more : told_history told (journal ++ k ∷ []) ≡ told_history told journal ++ e ∷ [] = history_more told journal k n e count (event before.1) in
          let short = history_few told journal in
          let carried : CarriesHistory new (told_history told journal ++ e ∷ []) (told_history told journal ++ e ∷ []) = t.carries h h (omega (arith, short, small)) (b.carries before.0) in
          subst (λ (g : List LaneEvent). CarriesHistory new g g) (sym more) carried;
      opens = t.opening ∙ b.opens;
      few = subst (λ (m : ℕ). CountsFew new m) (sym longer) (t.counts (length journal) small b.few);
      room = subst (λ (m : ℕ). total_of new ≤ 2 ^ 62 + m) (sym longer) (few_places (total_of old) (total_of new) (length journal) b.room t.sum);
      cause = record_kept fault (faults_of old) (faults_of new) (held_of old) (held_of new) t.faults (still_none old new e o t) b.cause;
    }

none_sure : (held : Option (Option (List ℕ))) → Sure held []
unfolding crash_after_save any_place
none_sure held = inr refl

-- what a rank stands for at the beginning
pub stands_none : {F K : Type 0} {R : Ghosts F} {U : keeper.Ghosts K} (x : SavedRank F K R U) → CarriesHistory x [] [] → StandsFor (core_of x) []
stands_none x c = c.stands (none_sure (held_of x))

-- what a book's fields keep at the beginning
pub kept_none : {F K : Type 0} {R : Ghosts F} {U : keeper.Ghosts K} (told : ℕ → ToldLane) (belongs : ℕ → ℕ → Bool) (lanes count : ℕ) (x : SavedRank F K R U) (journal taken : List ℕ)
    → journal ≡ [] → taken ≡ replicate count 0 → count ≡ lanes → counts_of (core_of x) ≡ no_counts → opening_of x ≡ None → CarriesHistory x [] [] → CountsFew x 0
    → BookKept told belongs lanes x journal taken None
kept_none told belongs lanes count x journal taken none zeros same counts opening carried few =
    let all : taken ≡ replicate lanes 0 = zeros ∙ ap (λ n. replicate n 0) same in
    let kept : BookKept told belongs lanes x [] taken None = record {
      places = journal_none told (belongs (number_of x)) lanes taken all;
      carries = λ _. subst (λ (h : List LaneEvent). CarriesHistory x h h) (sym (history_none told)) carried;
      opens = opening;
      few = few;
      room = subst (λ (c : Counts). total_count c ≤ 2 ^ 62 + 0) (sym counts) (omega arith);
      cause = tt;
    } in
    subst (λ (j : List ℕ). BookKept told belongs lanes x j taken None) (sym none) kept

-- the record of faults after a fault
record_fault : (fault : BookFault) (before : Option BookFault) (faults faults' : ℕ) (held held' : Option (Option (List ℕ))) → CountsFault fault faults faults' → Leaves fault held held' → IfBad fault (held ≡ None)
    → IsRecord before faults held → IsRecord (recorded fault before) faults' held'
record_fault KeeperFault before faults faults' held held' count leaves untold is = let higher : min (faults + 1) 18446744073709551615 ≤ faults' = count.higher in omega (arith, higher)
record_fault (CheckpointBad at why) before faults faults' held held' count leaves untold is = leaves ∙ untold
record_fault Memory before faults faults' held held' count leaves untold is = record_kept before faults faults' held held' count (λ none. leaves ∙ none) is

-- what a book's fields keep, where an event is refused
pub kept_refused : {F K : Type 0} {R : Ghosts F} {U : keeper.Ghosts K} (told : ℕ → ToldLane) (belongs : ℕ → ℕ → Bool) (lanes : ℕ) (old new : SavedRank F K R U) (journal taken : List ℕ) (before : Option BookFault) (e : LaneEvent) (fault : BookFault)
    → RankRefuses old new e fault → BookKept told belongs lanes old journal taken before → BookKept told belongs lanes new journal taken (recorded fault before)
kept_refused told belongs lanes old new journal taken before e fault r b = record {
  places = subst (λ (n : ℕ). IsJournal told (belongs n) lanes journal taken) (sym r.same.rank) b.places;
  carries = λ all. r.keeps (told_history told journal) (told_history told journal) (b.carries all);
  opens = r.opening ∙ b.opens;
  few = r.fewer (length journal) b.few;
  room = subst (λ (c : Counts). total_count c ≤ 2 ^ 62 + length journal) (sym r.same.counts) b.room;
  cause = record_fault fault before (faults_of old) (faults_of new) (held_of old) (held_of new) r.faults r.leaves (r.untold (length journal) b.few) b.cause;
}

-- what a book's fields keep, with one more event that its lane may tell
pub kept_event : {F K : Type 0} {R : Ghosts F} {U : keeper.Ghosts K} (told : ℕ → ToldLane) (belongs : ℕ → ℕ → Bool) (lanes : ℕ) (old new : SavedRank F K R U) (journal journal' taken : List ℕ) (fault : Option BookFault) (k n : ℕ) (kind : LaneKind) (frame : Frame) (o : Outcome)
    → k < lanes → belongs (number_of old) k ≡ true → n ≡ get_or taken k 0 → length journal ≤ 2 ^ 62 → IsToldEvent (told k) n kind frame → journal' ≡ journal ++ k ∷ []
    → RankTakes old new (record { kind = kind; frame = frame }) o → BookKept told belongs lanes old journal taken fault
    → BookKept told belongs lanes new journal' (set taken k (n + 1)) fault
kept_event told belongs lanes old new journal journal' taken fault k n kind frame o there own next small is longer t b =
    let e : LaneEvent = record { kind = kind; frame = frame } in
    subst (λ (j : List ℕ). BookKept told belongs lanes new j (set taken k (n + 1)) fault) (sym longer)
    (kept_taken told belongs lanes old new journal taken fault k n e o there own next small (told_few (told k) n kind frame is) (λ some. told_is (told k) n kind frame is some) t b)

-- events of equal kinds and frames
pub same_event : (kind k : LaneKind) (frame f : Frame) → kind ≡ k → frame ≡ f → ◌≡◌ {A = LaneEvent} (record { kind = kind; frame = frame }) (record { kind = k; frame = f })
same_event kind k frame f a b =
    let first : ◌≡◌ {A = LaneEvent} (record { kind = kind; frame = frame }) (record { kind = k; frame = frame }) = ap (λ (x : LaneKind). let r : LaneEvent = record { kind = x; frame = frame } in r) a in
    let second : ◌≡◌ {A = LaneEvent} (record { kind = k; frame = frame }) (record { kind = k; frame = f }) = ap (λ (x : Frame). let r : LaneEvent = record { kind = k; frame = x } in r) b in
    first ∙ second

-- a rank that isn't asked is as before
pub not_asked : {F K : Type 0} {R : Ghosts F} {U : keeper.Ghosts K} (x : SavedRank F K R U) (e : LaneEvent) → RankRefuses x x e Memory
not_asked x e = record {
  keeps = λ whole run c. c;
  fewer = λ most f. f;
  untold = λ most f. tt;
  stands = λ h st. st;
  same = record { sizes = refl; rank = refl; counts = refl; marks = λ group plane. refl; pending = refl; fold = refl };
  saved = refl;
  opening = refl;
  untouched = λ _. refl;
  leaves = refl;
  sound = λ sound. sound;
  faults = refl;
  surely = tt;
  cause = tt;
  got = tt;
  read = tt;
}
