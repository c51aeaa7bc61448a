-- Books that agree with the names of a run.
use Rattle.std.proofs.Common.{◌≡◌, ℕ, List, [], ◌∷◌, ◌++◌, length, map, get_or, refl, sym, ap, subst, ◌∙◌, inl, inr}
use Rattle.mls_base.specs.declared.outside.Keeper as keeper
use Rattle.mls_held.specs.declared.run.Run as run
use Rattle.mls_model.specs.Studies.{Sizes}
use Rattle.mls_model.specs.Lanes.{Lane}
use Rattle.mls_model.specs.Schedules.{is_lane_of}
use Rattle.mls_tape.specs.Tapes.{told_lane}
use Rattle.mls_book.specs.Keepers.{KeeperState, keeper_seen, keepers_seen}
use Rattle.mls_held.specs.Begun.{HasBegun}
use Rattle.mls_pool.specs.Pools.{TapeBook}
use Rattle.mls_pool.specs.Named.{IsNamed, IsFresh, IsRunOf, AreSeated, keepers_of, start_of}
use Rattle.mls_pool.proofs.Elements.{element_push}

-- what was seen of the keeper behind those of the books
start_here : {K A : Type 0} (f : K → A) (books : List (TapeBook K)) (keeper : K) (rest : List K) (d : A) → get_or (map f (keepers_of books ++ keeper ∷ rest)) (length books) d ≡ f keeper
start_here f [] keeper rest d = refl
start_here f (b ∷ books) keeper rest d = start_here f books keeper rest d

-- a book that begins agrees with the names
pub begins_named : {K R : Type 0} {U : keeper.Ghosts K} {N : run.Ghosts R} (tape : List Lane) (s : Sizes) (rank : ℕ) (entry : List K) (books : List (TapeBook K)) (book : TapeBook K) (rest : List K)
    → IsRunOf N tape s (keepers_seen U entry) → IsFresh tape s rank book.keeper book → HasBegun U (keeper_seen U book.keeper) book → keepers_of books ++ book.keeper ∷ rest ≡ entry → length books ≡ rank → IsNamed U N book
begins_named {K} {R} {U} {N} tape s rank entry books book rest names fresh begun order count = record {
  count = ap (λ (ls : List Lane). length ls) fresh.over ∙ sym names.count;
  told = ap (λ (ls : List Lane). told_lane ls) fresh.over ∙ sym names.told;
  belongs = ap (λ (ls : List Lane). is_lane_of ls) fresh.over ∙ sym names.belongs;
  sizes = fresh.sizes ∙ sym names.sizes;
  begun =
      let here : start_of (keepers_seen U entry) rank ≡ keeper_seen U book.keeper =
      ap (λ (ks : List K). start_of (keepers_seen U ks) rank) (sym order) ∙ ap (λ (r : ℕ). start_of (keepers_seen U (keepers_of books ++ book.keeper ∷ rest)) r) (sym count) ∙ start_here (keeper_seen U) books book.keeper rest Rattle.mls_held.specs.Unnamed.no_keeper in
      let start : N.keepers book.core.rank ≡ keeper_seen U book.keeper = ap (λ (f : ℕ → KeeperState). f book.core.rank) names.keepers ∙ ap (λ (r : ℕ). start_of (keepers_seen U entry) r) fresh.of_rank ∙ here in
      subst (λ (k : KeeperState). HasBegun U k book) (sym start) begun;
}

-- one more book in its place
pub seated_more : {K R : Type 0} {U : keeper.Ghosts K} {N : run.Ghosts R} (books : List (TapeBook K)) (book : TapeBook K) (rank : ℕ) → AreSeated U N books → length books ≡ rank → IsNamed U N book → book.core.rank ≡ rank → AreSeated U N (books ++ book ∷ [])
seated_more {K} {R} {U} {N} books book rank seated count named own = λ r x e. elim (element_push books book x r e) [
  | inl h ↦ seated r x h
  | inr h ↦ (subst (λ (b : TapeBook K). IsNamed U N b) h.1 named, ap (λ (b : TapeBook K). b.core.rank) (sym h.1) ∙ own ∙ sym (h.0 ∙ count))
]
