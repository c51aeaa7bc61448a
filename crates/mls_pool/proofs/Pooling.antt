-- The pool of a run, and what is drained.
use Rattle.std.proofs.Common.{◌≡◌, ◌≢◌, ℕ, zero, suc, ◌+◌, ◌<◌, ◌≤◌, Bool, true, false, cond, eqb, leb, ◌&&◌, List, [], ◌∷◌, length, Option, Some, None, IfSome, refl, sym, ap, subst, ◌∙◌, inl, inr, arith, eq-eqb}
use Rattle.std.specs.List.{AllByRecursion, list_all, enumerate_from}
use Rattle.std.specs.Borrow.{Bor}
use Rattle.std.proofs.lemmas.Bool.{true≢false, ne_eqb, cases_Bool, eqb-true}
use Rattle.std.proofs.lemmas.List.{length-map}
use Rattle.mls_base.specs.declared.outside.Keeper as keeper
use Rattle.mls_held.specs.declared.run.Run as run
use Rattle.mls_model.specs.declared.lanes.LaneKind.{LaneKind}
use Rattle.mls_model.specs.Numbers.{element, times, joined}
use Rattle.mls_model.specs.Frames.{Frame}
use Rattle.mls_model.specs.Studies.{Sizes}
use Rattle.mls_model.specs.Lanes.{Lane}
use Rattle.mls_model.specs.Schedules.{event_count, is_lane_of, is_legal_order, is_legal, is_complete}
use Rattle.mls_tape.specs.Tapes.{TapeView, told_lane}
use Rattle.mls_tape.proofs.Entries.{count_of, lane_of_rank}
use Rattle.mls_tape.proofs.Complete.{both, all_placed, times-append}
use Rattle.mls_book.proofs.TapeBooks.{told_tape}
use Rattle.mls_book.proofs.KeeperPlaces.{element_in}
use Rattle.mls_book.specs.Journals.{told_history}
use Rattle.mls_book.specs.Keepers.{KeeperState, keepers_seen}
use Rattle.mls_held.specs.Begun.{HasBegun}
use Rattle.mls_pool.specs.declared.faults.PoolFault.{PoolFault}
use Rattle.mls_pool.specs.Pools.{TapeBook, lanes_of, journals, TellTape, IsBookOf, AreBooks, AreClean, IsReported, IsPool, IsEnded}
use Rattle.mls_pool.specs.Named.{IsRunOf, AreSeated, start_of}
use Rattle.mls_pool.specs.Moving.{GoesOn, GoOn, AreDrained}
use Rattle.mls_pool.proofs.Elements.{within, gets, same_some}

-- ---- lanes that tell the same

abbrev count_told : Option (LaneKind × List Frame) → ℕ
count_told None = 0
count_told (Some lane) = length lane.1

event_told : (lanes : List Lane) (k : ℕ) → event_count lanes k ≡ count_told (told_lane lanes k)
event_told [] k = refl
event_told (lane ∷ lanes) zero = refl
event_told (lane ∷ lanes) (suc k) = event_told lanes k

all_equal : (p q : ℕ → Bool) (xs : List ℕ) → ((k : ℕ) → p k ≡ q k) → list_all p xs ≡ list_all q xs
all_equal p q [] same = refl
all_equal p q (x ∷ xs) same = ap (λ (b : Bool). b && list_all p xs) (same x) ∙ ap (λ (b : Bool). q x && b) (all_equal p q xs same)

legal_same : (own tape : List Lane) → ((k : ℕ) → event_count own k ≡ event_count tape k) → is_lane_of own ≡ is_lane_of tape → (rank : ℕ) (order : List ℕ) → is_legal_order own rank order ≡ is_legal_order tape rank order
unfolding is_legal_order
legal_same own tape events ranks rank order = all_equal (λ k. is_lane_of own rank k && leb (times k order) (event_count own k)) (λ k. is_lane_of tape rank k && leb (times k order) (event_count tape k)) order
    (λ k. ap (λ (f : ℕ → ℕ → Bool). f rank k && leb (times k order) (event_count own k)) ranks ∙ ap (λ (n : ℕ). is_lane_of tape rank k && leb (times k order) n) (events k))

tells_tape : (tape own : List Lane) → length own ≡ length tape → told_lane own ≡ told_lane tape → is_lane_of own ≡ is_lane_of tape → TellTape tape own
tells_tape tape own count told ranks =
    let events : (k : ℕ) → event_count own k ≡ event_count tape k = λ k. event_told own k ∙ (ap (λ (f : ℕ → Option (LaneKind × List Frame)). count_told (f k)) told ∙ sym (event_told tape k)) in
    record {
      count = count;
      told = told;
      ranks = ranks;
      events = events;
      histories = λ order. sym (told_tape own order) ∙ (ap (λ (f : ℕ → Option (LaneKind × List Frame)). told_history f order) told ∙ told_tape tape order);
      legal = legal_same own tape events ranks;
    }

-- ---- the books of a run

pub books_of : {K R : Type 0} {U : keeper.Ghosts K} {N : run.Ghosts R} (tape : List Lane) (s : Sizes) (starts : List KeeperState) (books : List (TapeBook K)) → IsRunOf N tape s starts → AreSeated U N books → length books ≡ s.ranks → s.ranks ≤ length starts → AreBooks U tape s starts books
books_of {K} {R} {U} {N} tape s starts books names seated count enough = record {
  count = count;
  enough = enough;
  each = λ rank book start e f.
      let named = (seated rank book e).0 in
      let own = (seated rank book e).1 in
      let begun : N.keepers book.core.rank ≡ start = ap (λ (g : ℕ → KeeperState). g book.core.rank) names.keepers ∙ (ap (λ (r : ℕ). start_of starts r) own ∙ gets starts rank start Rattle.mls_held.specs.Unnamed.no_keeper f) in
      record {
        over = tells_tape tape (lanes_of book) (named.count ∙ names.count) (named.told ∙ names.told) (named.belongs ∙ names.belongs);
        sizes = named.sizes ∙ names.sizes;
        of_rank = own;
        begun = subst (λ (k : KeeperState). HasBegun U k book) begun named.begun;
      };
}

-- ---- a complete schedule

joined_none : (k : ℕ) (orders : List (List ℕ)) → ((j : ℕ) (order : List ℕ) → element orders j ≡ Some order → times k order ≡ 0) → times k (joined orders) ≡ 0
joined_none k [] none = refl
joined_none k (x ∷ orders) none =
    let here = none 0 x refl in
    let rest = joined_none k orders (λ j order e. none (suc j) order e) in
    omega (arith, times-append k x (joined orders), here, rest)

joined_once : (k n : ℕ) (orders : List (List ℕ)) (d : ℕ) → d < length orders → ((j : ℕ) (order : List ℕ) → element orders j ≡ Some order → j ≢ d → times k order ≡ 0) → ((order : List ℕ) → element orders d ≡ Some order → times k order ≡ n) → times k (joined orders) ≡ n
joined_once k n [] d lt none one = absurd (omega (arith, lt))
joined_once k n (x ∷ orders) zero lt none one =
    let here = one x refl in
    let rest = joined_none k orders (λ j order e. none (suc j) order e (λ c. cc)) in
    omega (arith, times-append k x (joined orders), here, rest)
joined_once k n (x ∷ orders) (suc d) lt none one =
    let here = none 0 x refl (λ c. cc) in
    let rest = joined_once k n orders d (omega (arith, lt)) (λ j order e ne. none (suc j) order e (λ c. ne cc)) one in
    omega (arith, times-append k x (joined orders), here, rest)

and_first : (a b : Bool) → (a && b) ≡ true → a ≡ true
and_first true b e = refl
and_first false b e = e

and_second : (a b : Bool) → (a && b) ≡ true → b ≡ true
and_second true b e = e
and_second false b e = absurd (true≢false (sym e))

-- a number that a test refuses stands nowhere in a list that passes it
times_none : (p : ℕ → Bool) (k : ℕ) (xs : List ℕ) → p k ≡ false → list_all p xs ≡ true → times k xs ≡ 0
times_none p k [] fails all = refl
times_none p k (x ∷ xs) fails all = elim (cases_Bool (eqb x k)) [
  | inl h ↦ absurd (true≢false (sym (and_first (p x) (list_all p xs) all) ∙ (ap p (eqb-true x k h) ∙ fails)))
  | inr h ↦ ap (λ (b : Bool). cond b (suc (times k xs)) (times k xs)) h ∙ times_none p k xs fails (and_second (p x) (list_all p xs) all)
]

other_rank : (lanes : List Lane) (rank : ℕ) (order : List ℕ) (k : ℕ) (lane : Lane) → element lanes k ≡ Some lane → rank ≢ lane.rank → is_legal_order lanes rank order ≡ true → times k order ≡ 0
unfolding is_legal_order
other_rank lanes rank order k lane e ne legal = times_none (λ j. is_lane_of lanes rank j && leb (times j order) (event_count lanes j)) k order
    (ap (λ (b : Bool). b && leb (times k order) (event_count lanes k)) (lane_of_rank lanes rank k lane e ∙ ne_eqb lane.rank rank (λ c. ne (sym c)))) legal

ranks_at : (ranks : ℕ) (lanes : List Lane) (k : ℕ) (l : Lane) → AllByRecursion (λ (lane : Lane). lane.rank < ranks) lanes → element lanes k ≡ Some l → l.rank < ranks
ranks_at ranks [] k l known e = absurd cc
ranks_at ranks (m ∷ lanes) zero l known e = subst (λ (x : Lane). x.rank < ranks) (same_some m l e) known.0
ranks_at ranks (m ∷ lanes) (suc k) l known e = ranks_at ranks lanes k l known.1 e

pub complete_from : (ranks : ℕ) (lanes : List Lane) (orders : List (List ℕ)) → length orders ≡ ranks → ((rank : ℕ) (order : List ℕ) → element orders rank ≡ Some order → is_legal_order lanes rank order ≡ true)
    → ((rank : ℕ) (order : List ℕ) → element orders rank ≡ Some order → (k : ℕ) → is_lane_of lanes rank k ≡ true → times k order ≡ event_count lanes k) → AllByRecursion (λ (lane : Lane). lane.rank < ranks) lanes → is_complete ranks lanes orders ≡ true
unfolding is_complete is_legal
complete_from ranks lanes orders count legal whole known =
    both (is_legal ranks lanes orders) (list_all (λ (p : ℕ × Lane). eqb (times p.0 (joined orders)) (length p.1.frames)) (enumerate_from 0 lanes))
    (both (eqb (length orders) ranks) (list_all (λ (p : ℕ × List ℕ). is_legal_order lanes p.0 p.1) (enumerate_from 0 orders)) (eq-eqb _ _ count)
    (all_placed (λ (p : ℕ × List ℕ). is_legal_order lanes p.0 p.1) orders 0 (λ rank order e.
    let at : 0 + rank ≡ rank = omega arith in
    ap (λ n. is_legal_order lanes n order) at ∙ legal rank order e)))
    (all_placed (λ (p : ℕ × Lane). eqb (times p.0 (joined orders)) (length p.1.frames)) lanes 0 (λ k lane e.
    let at : 0 + k ≡ k = omega arith in
    let there = ranks_at ranks lanes k lane known e in
    eq-eqb _ _ (ap (λ (n : ℕ). times n (joined orders)) at ∙ joined_once k (length lane.frames) orders lane.rank (omega (arith, there, count))
    (λ j order f ne. other_rank lanes j order k lane e ne (legal j order f))
    (λ order f. whole lane.rank order f k (lane_of_rank lanes lane.rank k lane e ∙ eq-eqb lane.rank lane.rank refl) ∙ count_of lanes k lane e))))

-- ---- what was drained

-- an element of the journals is a book's
pub record JournalAt {K : Type 0} (books : List (TapeBook K)) (rank : ℕ) (order : List ℕ) : Type 0 where
  pub book : TapeBook K
  pub stands : element books rank ≡ Some book
  pub own : book.journal ≡ order

journal_at : {K : Type 0} (books : List (TapeBook K)) (rank : ℕ) (order : List ℕ) → element (journals books) rank ≡ Some order → JournalAt books rank order
journal_at [] rank order e = absurd cc
journal_at (b ∷ books) zero order e = record { book = b; stands = refl; own = same_some b.journal order e }
journal_at (b ∷ books) (suc rank) order e = let r = journal_at books rank order e in record { book = r.book; stands = r.stands; own = r.own }

book_goes_on : {K : Type 0} {U : keeper.Ghosts K} (tape : List Lane) (s : Sizes) (rank : ℕ) (start : KeeperState) (old new : TapeBook K) → IsBookOf U tape s rank start old → GoesOn U old new → IsBookOf U tape s rank start new
book_goes_on tape s rank start old new is goes = record {
  over = subst (λ (ls : List Lane). TellTape tape ls) (sym (ap (λ (t : Bor TapeView). t.now.lanes) goes.lanes)) is.over;
  sizes = goes.sizes ∙ is.sizes;
  of_rank = goes.rank ∙ is.of_rank;
  begun = goes.begun start is.begun;
}

books_go_on : {K : Type 0} {U : keeper.Ghosts K} (tape : List Lane) (s : Sizes) (starts : List KeeperState) (old new : List (TapeBook K)) → AreBooks U tape s starts old → GoOn U old new → AreBooks U tape s starts new
books_go_on tape s starts old new are on = record {
  count = on.count ∙ are.count;
  enough = are.enough;
  each = λ rank book start e f. let from = on.each rank book e in book_goes_on tape s rank start from.old book (are.each rank from.old start from.was f) from.goes_on;
}

drained_complete : {K : Type 0} {U : keeper.Ghosts K} (tape : List Lane) (s : Sizes) (starts : List KeeperState) (books : List (TapeBook K)) → AllByRecursion (λ (lane : Lane). lane.rank < s.ranks) tape → AreBooks U tape s starts books → AreDrained books → is_complete s.ranks tape (journals books) ≡ true
drained_complete {K} {U} tape s starts books known are drained =
    let of : (rank : ℕ) (book : TapeBook K) → element books rank ≡ Some book → (start : KeeperState) × IsBookOf U tape s rank start book = λ rank book e.
    let few = within books rank book e in
    let count = are.count in
    let enough = are.enough in
    let start = element_in starts rank (omega (arith, few, count, enough)) in
    (start.0, are.each rank book start.0 e start.1) in
    complete_from s.ranks tape (journals books) (length-map books (λ (book : TapeBook K). book.journal) ∙ are.count)
    (λ rank order e.
    let at = journal_at books rank order e in
    let is = (of rank at.book at.stands).1 in
    let d = drained rank at.book at.stands in
    ap (λ (o : List ℕ). is_legal_order tape rank o) (sym at.own) ∙ (sym (is.over.legal rank at.book.journal) ∙ (ap (λ (r : ℕ). is_legal_order (lanes_of at.book) r at.book.journal) (sym is.of_rank) ∙ d.legal)))
    (λ rank order e k own.
    let at = journal_at books rank order e in
    let is = (of rank at.book at.stands).1 in
    let d = drained rank at.book at.stands in
    let ours : is_lane_of (lanes_of at.book) at.book.core.rank k ≡ true = ap (λ (f : ℕ → ℕ → Bool). f at.book.core.rank k) is.over.ranks ∙ (ap (λ (r : ℕ). is_lane_of tape r k) is.of_rank ∙ own) in
    ap (λ (o : List ℕ). times k o) (sym at.own) ∙ (d.whole k ours ∙ is.over.events k))
    known

pub ended : {K : Type 0} {U : keeper.Ghosts K} (tape : List Lane) (s : Sizes) (keepers : List K) (old new : List (TapeBook K)) (spare : List K) (before after : Option PoolFault)
    → before ≡ None → IsPool U tape s keepers old spare before → GoOn U old new → (after ≡ None → AreDrained new) → (after ≡ None → AreClean old → AreClean new) → IfSome after (IsReported new) → IsEnded U tape s keepers new spare after
ended {K} {U} tape s keepers old new spare before after none pool on drained clean reported =
    let are = books_go_on tape s (keepers_seen U keepers) old new pool.are on in
    record {
      pool = record { within = pool.within; are = are; left = pool.left; reported = reported; clean = λ e. clean e (pool.clean none) };
      complete = λ e. drained_complete tape s (keepers_seen U keepers) new pool.within are (drained e);
    }

-- a pool with a fault is left as it is
pub handed : {K : Type 0} {U : keeper.Ghosts K} (tape : List Lane) (s : Sizes) (keepers : List K) (books : List (TapeBook K)) (spare : List K) (fault : Option PoolFault) (is : PoolFault)
    → fault ≡ Some is → IsPool U tape s keepers books spare fault → IsEnded U tape s keepers books spare fault
handed tape s keepers books spare fault is e pool = record { pool = pool; complete = λ none. let clash : Some is ≡ None = sym e ∙ none in absurd cc }
