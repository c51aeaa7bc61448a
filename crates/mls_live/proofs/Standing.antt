-- The cores of the books of a run stand for the histories of the journals.
use Rattle.std.proofs.Common.{◌≡◌, ℕ, zero, suc, ◌<◌, List, [], ◌∷◌, length, map, get_or, Some, Result, Ok, Err, refl, sym, ◌∙◌, ap, subst, inl, inr, ⊎_elim, arith}
use Rattle.std.specs.Option.{option_map}
use Rattle.std.specs.List.{AllByRecursion}
use Rattle.mls_base.specs.declared.outside.Keeper as keeper
use Rattle.mls_text.specs.Writing.{SinkState, Wrote, FailedAfter}
use Rattle.mls_model.specs.declared.lanes.LaneLine.{LaneLine}
use Rattle.mls_model.specs.Numbers.{element}
use Rattle.mls_model.specs.Studies.{Sizes, Study}
use Rattle.mls_model.specs.Lanes.{Lane}
use Rattle.mls_model.specs.Histories.{history}
use Rattle.mls_model.specs.ResultText.{histories_of, history_text, lines_of}
use Rattle.mls_rank.specs.Standing.{StandsFor}
use Rattle.mls_book.specs.Cores.{CoreParts, parts_of}
use Rattle.mls_field.specs.declared.field.Field.{Field}
use Rattle.mls_book.proofs.KeeperPlaces.{element_map}
use Rattle.mls_result.specs.Histories.{AreCores, AllStand, states_text}
use Rattle.mls_launch.specs.declared.faults.OutFault.{OutFault}
use Rattle.mls_launch.specs.declared.faults.OutFault.TheVariants as fault
use Rattle.mls_load.specs.Refusals.{FileState}
use Rattle.mls_replay.proofs.Folds.{history_is, text_is}
use Rattle.mls_pool.specs.Pools.{TapeBook, journals, lanes_of}
use Rattle.mls_live.specs.Ending.{AreAllSure, AreOnTape, Ends, FieldCore, GoesOut, IsKept, OfBooks}

-- the book of the core at a rank
pub record CoreAt {K : Type 0} (books : List (TapeBook K)) (core : FieldCore) (rank : ℕ) : Type 0 where
  pub book : TapeBook K
  pub there : element books rank ≡ Some book
  pub parts : parts_of core ≡ book.core

heads : {A : Type 0} (x y : A) (xs ys : List A) → ◌≡◌ {A = List A} (x ∷ xs) (y ∷ ys) → x ≡ y
heads x y xs ys e = cc

tails : {A : Type 0} (x y : A) (xs ys : List A) → ◌≡◌ {A = List A} (x ∷ xs) (y ∷ ys) → xs ≡ ys
tails x y xs ys e = cc

no_cons : {A : Type 0} (x : A) (xs : List A) → ◌≡◌ {A = List A} (x ∷ xs) [] → ⊥
no_cons x xs e = cc

abbrev book_core : {K : Type 0} → TapeBook K → CoreParts Field
book_core book = book.core

abbrev core_parts : FieldCore → CoreParts Field
core_parts core = parts_of core

core_at : {K : Type 0} (cores : List FieldCore) (books : List (TapeBook K)) → map core_parts cores ≡ map (book_core {K = K}) books → (rank : ℕ) (d : FieldCore) → rank < length cores → CoreAt books (get_or cores rank d) rank
core_at [] books e rank d here = absurd (omega (arith, here))
core_at {K} (c ∷ cs) [] e rank d here = absurd (no_cons (core_parts c) (map core_parts cs) e)
core_at {K} (c ∷ cs) (b ∷ bs) e zero d here = record { book = b; there = refl; parts = heads (core_parts c) (book_core b) (map core_parts cs) (map (book_core {K = K}) bs) e }
core_at {K} (c ∷ cs) (b ∷ bs) e (suc n) d here =
    let r = core_at cs bs (tails (core_parts c) (book_core b) (map core_parts cs) (map (book_core {K = K}) bs) e) n d (omega (arith, here)) in
    record { book = r.book; there = r.there; parts = r.parts }

same_length : {A B C : Type 0} (f : A → C) (g : B → C) (xs : List A) (ys : List B) → map f xs ≡ map g ys → length xs ≡ length ys
same_length f g [] [] e = refl
same_length f g [] (y ∷ ys) e = absurd (no_cons (g y) (map g ys) (sym e))
same_length f g (x ∷ xs) [] e = absurd (no_cons (f x) (map f xs) e)
same_length f g (x ∷ xs) (y ∷ ys) e = ap suc (same_length f g xs ys (tails (f x) (g y) (map f xs) (map g ys) e))

-- one core for each rank
pub are_cores : {K : Type 0} (tape : List Lane) (s : Sizes) (books : List (TapeBook K)) (cores : List FieldCore) → AreOnTape tape s books → map core_parts cores ≡ map (book_core {K = K}) books → AreCores s cores
are_cores {K} tape s books cores on e = record {
  count = same_length core_parts (book_core {K = K}) cores books e ∙ on.count;
  sizes = λ rank d here.
      let r = core_at cores books e rank d here in
      ap (λ (p : CoreParts Field). p.sizes) r.parts ∙ (on.each rank r.book r.there).sizes;
  ranks = λ rank d here.
      let r = core_at cores books e rank d here in
      ap (λ (p : CoreParts Field). p.rank) r.parts ∙ (on.each rank r.book r.there).of_rank;
}

pub all_at : {A : Type 0} (P : A → Type 0) (xs : List A) (i : ℕ) (x : A) → AllByRecursion P xs → element xs i ≡ Some x → P x
all_at P [] i x all there = cc
all_at P (y ∷ ys) zero x all there = let same : y ≡ x = cc in subst P same all.0
all_at P (y ∷ ys) (suc i) x all there = all_at P ys i x all.1 there

-- the history of a rank's journal over the tape
pub journal_history : {K : Type 0} (tape : List Lane) (books : List (TapeBook K)) (rank : ℕ) (book : TapeBook K) → element books rank ≡ Some book → ((order : List ℕ) → history (lanes_of book) order ≡ history tape order) → history (lanes_of book) book.journal ≡ histories_of tape (journals books) rank
journal_history {K} tape books rank book there same =
    let own : element (journals books) rank ≡ Some book.journal = element_map (λ (b : TapeBook K). b.journal) books rank ∙ ap (option_map (λ (b : TapeBook K). b.journal)) there in
    same book.journal ∙ sym (history_is tape (journals books) rank book.journal own)

pub all_stand : {K : Type 0} (U : keeper.Ghosts K) (tape : List Lane) (s : Sizes) (books : List (TapeBook K)) (cores : List FieldCore) → AreOnTape tape s books → map core_parts cores ≡ map (book_core {K = K}) books → AllByRecursion (IsKept U) books → AreAllSure U books → AllStand cores (histories_of tape (journals books))
all_stand {K} U tape s books cores on e kept sure = record {
  each = λ rank d here.
      let r = core_at cores books e rank d here in
      let own = (all_at (IsKept U) books rank r.book kept r.there).stands (sure rank r.book r.there) (get_or cores rank d) r.parts in
      subst (λ h. StandsFor (get_or cores rank d) h) (journal_history tape books rank r.book r.there (on.each rank r.book r.there).over.histories) own;
}

-- what goes out of the cores, of the run
pub of_run : {K : Type 0} (U : keeper.Ghosts K) (study : Study) (tape : List Lane) (books : List (TapeBook K)) (cores : List FieldCore) (lines : List LaneLine) → AreOnTape tape study.sizes books → map core_parts cores ≡ map (book_core {K = K}) books → AllByRecursion (IsKept U) books → lines ≡ lines_of tape
    → (goes : List ℕ → Type 0) → GoesOut study cores lines goes → OfBooks U study tape books goes
of_run U study tape books cores lines on e kept same goes h = (
  record {
    cores = cores;
    are = are_cores tape study.sizes books cores on e;
    form = subst (λ (ls : List LaneLine). goes (states_text study cores ls)) same h.states;
    right = λ sure. subst goes (ap (history_text study (histories_of tape (journals books))) same ∙ text_is study tape (journals books)) (h.histories (histories_of tape (journals books)) (all_stand U tape study.sizes books cores on e kept sure));
  },
  kept,
)

-- what goes out so ends so
pub ends_as : {A : Type 0} (P Q : (List ℕ → Type 0) → Type 0) (name bytes : List ℕ) (result : Result A OutFault) (files files' : FileState) (out out' : SinkState) → ((goes : List ℕ → Type 0) → P goes → Q goes) → Ends P name bytes result files files' out out' → Ends Q name bytes result files files' out out'
ends_as P Q name bytes (Ok done) files files' out out' f h = (f (Wrote out out') h.0, h.1)
ends_as P Q name bytes (Err fault.WriteFault) files files' out out' f h = ⊎_elim
    (λ failed. inl (f (FailedAfter out out') failed.0, failed.1))
    (λ wrote. inr (f (Wrote out out') wrote.0, wrote.1)) h
ends_as P Q name bytes (Err fault.Memory) files files' out out' f h = (⊎_elim (λ none. inl none) (λ wrote. inr (f (Wrote out out') wrote)) h.0, h.1)
