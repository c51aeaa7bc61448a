-- Books that agree with the names of a run.
use Rattle.std.proofs.Common.{◌≡◌, ℕ, suc, ◌+◌, ◌<◌, List, [], ◌∷◌, ◌++◌, length, map, get_or, Some, None, refl, sym, ap, subst, ◌∙◌, inl, inr}
use Rattle.mls_base.specs.declared.outside.Keeper as keeper
use Rattle.mls_model.specs.Numbers.{element}
use Rattle.mls_model.specs.Studies.{Sizes}
use Rattle.mls_book.specs.Keepers.{KeeperState, keeper_seen, keepers_seen}
use Rattle.mls_held.specs.declared.run.Run as run
use Rattle.mls_held.specs.Unnamed.{no_keeper}
use Rattle.mls_held.specs.Begun.{HasBegun}
use Rattle.mls_desk.specs.Desks.{IsDeskRun, start_of, takes_below}
use Rattle.mls_desk.specs.Books.{WireBook, IsNamed, IsFresh, AreNamed, AreSeated, keepers_of}
use Rattle.mls_desk.proofs.Elements.{element_push, gets, either}

-- what was seen of the keeper behind those of the books
start_here : {K A : Type 0} (f : K → A) (books : List (WireBook K)) (keeper : K) (rest : List K) (d : A) → get_or (map f (keepers_of books ++ keeper ∷ rest)) (length books) d ≡ f keeper
start_here f [] keeper rest d = refl
start_here f (b ∷ books) keeper rest d = start_here f books keeper rest d

-- a book that begins agrees with the names
pub begins_named : {K R : Type 0} {U : keeper.Ghosts K} {N : run.Ghosts R} (lanes : ℕ) (s : Sizes) (rank : ℕ) (entry : List K) (books : List (WireBook K)) (book : WireBook K) (rest : List K)
    → IsDeskRun N lanes s (keepers_seen U entry) → IsFresh lanes s rank book.keeper book → HasBegun U (keeper_seen U book.keeper) book → keepers_of books ++ book.keeper ∷ rest ≡ entry → length books ≡ rank → IsNamed U N book
begins_named {K} {R} {U} {N} lanes s rank entry books book rest names fresh begun order count = record {
  count = fresh.over ∙ sym names.count;
  told = sym names.told;
  belongs = ap takes_below fresh.over ∙ sym names.belongs;
  sizes = fresh.sizes ∙ sym names.sizes;
  begun =
      let here : start_of (keepers_seen U entry) rank ≡ keeper_seen U book.keeper =
      ap (λ (ks : List K). start_of (keepers_seen U ks) rank) (sym order) ∙ ap (λ (r : ℕ). start_of (keepers_seen U (keepers_of books ++ book.keeper ∷ rest)) r) (sym count) ∙ start_here (keeper_seen U) books book.keeper rest no_keeper in
      let start : N.keepers book.core.rank ≡ keeper_seen U book.keeper = ap (λ (f : ℕ → KeeperState). f book.core.rank) names.keepers ∙ ap (λ (r : ℕ). start_of (keepers_seen U entry) r) fresh.of_rank ∙ here in
      subst (λ (k : KeeperState). HasBegun U k book) (sym start) begun;
}

-- one more book in its place
pub seated_more : {K R : Type 0} {U : keeper.Ghosts K} {N : run.Ghosts R} (books : List (WireBook K)) (book : WireBook K) (rank : ℕ) → AreSeated U N books → length books ≡ rank → IsNamed U N book → book.core.rank ≡ rank → AreSeated U N (books ++ book ∷ [])
seated_more {K} {R} {U} {N} books book rank seated count named own = λ r x e. elim (element_push books book x r e) [
  | inl h ↦ seated r x h
  | inr h ↦ (subst (λ (b : WireBook K). IsNamed U N b) h.1 named, ap (λ (b : WireBook K). b.core.rank) (sym h.1) ∙ own ∙ sym (h.0 ∙ count))
]

all_named : {K R : Type 0} {U : keeper.Ghosts K} {N : run.Ghosts R} (books : List (WireBook K)) → ((rank : ℕ) (book : WireBook K) → element books rank ≡ Some book → IsNamed U N book) → AreNamed U N books
all_named [] each = tt
all_named {U} {N} (b ∷ books) each = (each 0 b refl, all_named {U = U} {N = N} books (λ rank book e. each (suc rank) book e))

-- books in their places agree with the names
pub seated_named : {K R : Type 0} {U : keeper.Ghosts K} {N : run.Ghosts R} (books : List (WireBook K)) → AreSeated U N books → AreNamed U N books
seated_named {U} {N} books seated = all_named {U = U} {N = N} books (λ rank book e. (seated rank book e).0)

-- a book that is taken from the end gives its keeper to the front
pub keepers_pop : {K : Type 0} (books : List (WireBook K)) (book : WireBook K) (keepers : List K) → keepers_of (books ++ book ∷ []) ++ keepers ≡ keepers_of books ++ book.keeper ∷ keepers
keepers_pop [] book keepers = refl
keepers_pop (b ∷ books) book keepers = ap (λ ks. b.keeper ∷ ks) (keepers_pop books book keepers)

-- one more book shows no fault
pub clean_more : {K : Type 0} (books : List (WireBook K)) (n : ℕ) (last : WireBook K) → ((r : ℕ) (book : WireBook K) → r < n → element books r ≡ Some book → book.fault ≡ None) → get_or books n last ≡ last → last.fault ≡ None
    → (r : ℕ) (book : WireBook K) → r < n + 1 → element books r ≡ Some book → book.fault ≡ None
clean_more {K} books n last clean there none r book lt e = elim (either r n lt) [
  | inl h ↦ clean r book h e
  | inr h ↦ (let same : book ≡ last = sym (gets books n book last (ap (λ i. element books i) (sym h) ∙ e)) ∙ there in ap (λ (b : WireBook K). b.fault) same ∙ none)
]
