-- How far an export came: one more rank, and the rank at which it stopped.
use Rattle.std.proofs.Common.{◌≡◌, ◌≢◌, ℕ, zero, suc, ◌+◌, ◌<◌, Bool, false, IsTrue, List, [], ◌∷◌, ◌++◌, length, map, Option, Some, None, Err, refl, sym, ap, subst, ◌∙◌, ◌⊎◌, inl, inr, ⊎_elim, length-append, arith}
use Rattle.std.specs.Option.{option_map}
use Rattle.std.proofs.lemmas.Bool.{true≢false}
use Rattle.mls_base.specs.Told.{Names, MaySpoil, Rose, Saved, Holds}
use Rattle.mls_model.specs.Numbers.{element}
use Rattle.mls_export.specs.declared.faults.ExportFault.{ExportFault}
use Rattle.mls_export.specs.declared.faults.ExportFault.TheVariants as fault
use Rattle.mls_book.specs.Keepers.{KeeperState, AtRank, AreLeft}
use Rattle.mls_export.specs.Files.{FileState, AreKept, AreSaved, HoldsFiles, SaveFailedBehind, SavedFiles, file_name}
use Rattle.mls_export.specs.Exports.{ExportedTo, Exports, ExportsRank, GetFailed, HasGiven, HasGivenBytes, HaveGiven, IsKept, RankSaved, RankSpoiled, RankUnsaved, StoppedAt}
use Rattle.mls_book.proofs.KeeperPlaces.{element_in, element_map}
use Rattle.mls_export.proofs.Places.{element_within}
use Rattle.mls_export.proofs.FileNames.{names_differ}

-- nothing is exported yet
saved_none : (prefix : List ℕ) (held : Option Names) → SavedFiles prefix [] held held
saved_none prefix None = tt
saved_none prefix (Some held) = record { own = λ rank bytes is. absurd cc; others = λ name apart. refl }

pub exported_none : (prefix : List ℕ) (files : FileState) (keepers : List KeeperState) → ExportedTo 0 prefix files files keepers keepers
exported_none prefix files keepers = record {
  lists = [];
  one_each = refl;
  saved = record { saved = saved_none prefix files.held; sound = λ s. s; loads = refl; saves = refl };
  given = λ rank bytes is. absurd cc;
  above = λ other here. refl;
}

-- the element at a place is one of those before, or the last
which : {A : Type 0} (xs : List A) (y : A) (i : ℕ) (x : A) → element (xs ++ y ∷ []) i ≡ Some x → (element xs i ≡ Some x) ⊎ ((i ≡ length xs) × (y ≡ x))
which [] y zero x is = inr (refl, cc)
which [] y (suc i) x is = absurd cc
which (z ∷ xs) y zero x is = inl is
which (z ∷ xs) y (suc i) x is = ⊎_elim inl (λ e. inr (ap suc e.0, e.1)) (which xs y i x is)

held_more : (prefix : List ℕ) (lists : List (List ℕ)) (bytes : List ℕ) (old between new : Names) → length lists < 64 → HoldsFiles prefix lists old between → Holds (file_name prefix (length lists)) bytes between new → HoldsFiles prefix (lists ++ bytes ∷ []) old new
held_more prefix lists bytes old between new few first second = record {
  own = λ rank own is. ⊎_elim
      (λ before. let here : rank < length lists = element_within lists rank own before in
      second.others (file_name prefix rank) (names_differ prefix rank (length lists) (omega (arith, here, few)) (omega (arith, few)) (λ e. omega (arith, e, here))) ∙ first.own rank own before)
      (λ last. ap (λ r. new (file_name prefix r)) last.0 ∙ second.own ∙ ap Some last.1)
      (which lists bytes rank own is);
  others = λ name apart.
      let long : length (lists ++ bytes ∷ []) ≡ length lists + 1 = length-append lists (bytes ∷ []) in
      second.others name (apart (length lists) (omega (arith, long))) ∙ first.others name (λ rank here. apart rank (omega (arith, here, long)));
}

saved_more : (prefix : List ℕ) (lists : List (List ℕ)) (bytes : List ℕ) (old between new : Option Names) → length lists < 64 → SavedFiles prefix lists old between → Saved (file_name prefix (length lists)) bytes between new → SavedFiles prefix (lists ++ bytes ∷ []) old new
saved_more prefix lists bytes None None None few first second = tt
saved_more prefix lists bytes None None (Some n) few first second = absurd second
saved_more prefix lists bytes None (Some b) new few first second = absurd first
saved_more prefix lists bytes (Some o) None new few first second = absurd first
saved_more prefix lists bytes (Some o) (Some b) None few first second = absurd second
saved_more prefix lists bytes (Some o) (Some b) (Some n) few first second = held_more prefix lists bytes o b n few first second

-- the keepers but that of a rank are as they were
abbrev pub OthersAre : {A : Type 0} → ℕ → List A → List A → Type 0
OthersAre rank old new = (other : ℕ) → other ≢ rank → element new other ≡ element old other

pub others_seen : {A B : Type 0} (see : A → B) (rank : ℕ) (old new : List A) → OthersAre rank old new → OthersAre rank (map see old) (map see new)
others_seen see rank old new are = λ other ne. element_map see new other ∙ ap (option_map see) (are other ne) ∙ sym (element_map see old other)

-- a keeper before the rank, and the rank's own, over both steps
earlier : (rank r : ℕ) (relation : KeeperState → KeeperState → Type 0) (first between last : List KeeperState) → r ≢ rank → OthersAre rank between last → AtRank r first between relation → AtRank r first last relation
earlier rank r relation first between last ne are at = record { before = at.before; after = at.after; was = at.was; is = are r ne ∙ at.is; related = at.related }

own_since : (rank : ℕ) (relation : KeeperState → KeeperState → Type 0) (first between last : List KeeperState) → AreLeft rank first between → AtRank rank between last relation → AtRank rank first last relation
own_since rank relation first between last left at = record { before = at.before; after = at.after; was = sym (left rank (omega (arith))) ∙ at.was; is = at.is; related = at.related }

above_since : (rank : ℕ) (first between last : List KeeperState) → AreLeft rank first between → OthersAre rank between last → AreLeft (rank + 1) first last
above_since rank first between last left are = λ other here. are other (λ e. omega (arith, here, e)) ∙ left other (omega (arith, here))

given_since : (rank : ℕ) (lists : List (List ℕ)) (first between last : List KeeperState) → length lists ≡ rank → HaveGiven lists first between → OthersAre rank between last → HaveGiven lists first last
given_since rank lists first between last long given are = λ r bytes is.
    let here = element_within lists r bytes is in
    earlier rank r (HasGiven (Some bytes)) first between last (λ e. omega (arith, here, long, e)) are (given r bytes is)

given_more : (rank : ℕ) (lists : List (List ℕ)) (bytes : List ℕ) (first between last : List KeeperState) → length lists ≡ rank → HaveGiven lists first between → AreLeft rank first between → OthersAre rank between last → AtRank rank between last (HasGiven (Some bytes)) → HaveGiven (lists ++ bytes ∷ []) first last
given_more rank lists bytes first between last long given left are own = λ r b is. ⊎_elim
    (λ before. given_since rank lists first between last long given are r b before)
    (λ now. subst (λ (k : ℕ). AtRank k first last (HasGiven (Some b))) (sym (now.0 ∙ long)) (subst (λ (x : List ℕ). AtRank rank first last (HasGiven (Some x))) now.1 (own_since rank (HasGiven (Some bytes)) first between last left own)))
    (which lists bytes r b is)

-- one more rank was exported
pub exported_more : (rank : ℕ) (prefix : List ℕ) (old between new : FileState) (first middle last : List KeeperState) → rank < 64 → ExportedTo rank prefix old between first middle → RankSaved rank prefix between new middle last → OthersAre rank middle last → ExportedTo (rank + 1) prefix old new first last
exported_more rank prefix old between new first middle last few so one are =
    let name : file_name prefix rank ≡ file_name prefix (length so.lists) = ap (file_name prefix) (sym so.one_each) in
    record {
      lists = so.lists ++ one.bytes ∷ [];
      one_each = length-append so.lists (one.bytes ∷ []) ∙ ap (λ n. n + 1) so.one_each;
      saved = record {
        saved = saved_more prefix so.lists one.bytes old.held between.held new.held (omega (arith, few, so.one_each)) so.saved.saved (subst (λ (n : List ℕ). Saved n one.bytes between.held new.held) name one.saved.saved);
        sound = λ s. one.saved.sound (so.saved.sound s);
        loads = one.saved.loads ∙ so.saved.loads;
        saves = one.saved.saves ∙ so.saved.saves;
      };
      given = given_more rank so.lists one.bytes first middle last so.one_each so.given so.above are one.asked;
      above = above_since rank first middle last so.above are;
    }

-- the files after a rank of which nothing was saved
saved_still : (prefix : List ℕ) (lists : List (List ℕ)) (old between new : FileState) → AreSaved prefix lists old between → AreKept between new → AreSaved prefix lists old new
saved_still prefix lists old between new saved kept = record {
  saved = subst (λ (h : Option Names). SavedFiles prefix lists old.held h) (sym kept.held) saved.saved;
  sound = λ s. kept.sound (saved.sound s);
  loads = kept.loads ∙ saved.loads;
  saves = kept.saves ∙ saved.saves;
}

unsaved_at : (rank ranks : ℕ) (prefix : List ℕ) (own : KeeperState → KeeperState → Type 0) (old between new : FileState) (first middle last : List KeeperState) → rank < ranks → ExportedTo rank prefix old between first middle → RankUnsaved rank own between new middle last → OthersAre rank middle last
    → StoppedAt rank ranks (λ lists. AreSaved prefix lists old new) own first last
unsaved_at rank ranks prefix own old between new first middle last here so one are = record {
  here = here;
  lists = so.lists;
  as_far = so.one_each;
  files = saved_still prefix so.lists old between new so.saved one.kept;
  given = given_since rank so.lists first middle last so.one_each so.given are;
  asked = own_since rank own first middle last so.above one.asked;
  above = above_since rank first middle last so.above are;
}

not_sound : (sound : Bool) → sound ≡ false → IsTrue sound → ⊥
not_sound sound is_not is = true≢false (sym is ∙ is_not)

spoiled_at : (rank ranks : ℕ) (prefix : List ℕ) (old between new : FileState) (first middle last : List KeeperState) → rank < ranks → ExportedTo rank prefix old between first middle → RankSpoiled rank prefix between new middle last → OthersAre rank middle last
    → StoppedAt rank ranks (λ lists. SaveFailedBehind prefix lists old new) HasGivenBytes first last
spoiled_at rank ranks prefix old between new first middle last here so one are =
    let name : file_name prefix rank ≡ file_name prefix (length so.lists) = ap (file_name prefix) (sym so.one_each) in
    record {
      here = here;
      lists = so.lists;
      as_far = so.one_each;
      files = record {
        between = between.held;
        saved = so.saved.saved;
        spoiled = subst (λ (n : List ℕ). MaySpoil n between.held new.held) name one.spoiled.spoiled;
        unsound = λ s. not_sound between.sound one.spoiled.unsound (so.saved.sound s);
        loads = one.spoiled.loads ∙ so.saved.loads;
        rose = subst (λ (n : ℕ). Rose n new.save_faults) so.saved.saves one.spoiled.rose;
      };
      given = given_since rank so.lists first middle last so.one_each so.given are;
      asked = own_since rank HasGivenBytes first middle last so.above one.asked;
      above = above_since rank first middle last so.above are;
    }

-- the export stopped at a rank
pub exported_till : (A B : Type 0) (rank ranks : ℕ) (prefix : List ℕ) (old between new : FileState) (first middle last : List KeeperState) (f : ExportFault) → rank < ranks → ExportedTo rank prefix old between first middle → ExportsRank {A = A} (Err f) rank prefix between new middle last → OthersAre rank middle last
    → Exports {A = B} (Err f) ranks prefix old new first last
exported_till A B rank ranks prefix old between new first middle last (fault.KeeperFault r) here so one are = subst (λ (k : ℕ). StoppedAt k ranks (λ lists. AreSaved prefix lists old new) GetFailed first last) (sym one.0) (unsaved_at rank ranks prefix GetFailed old between new first middle last here so one.1 are)
exported_till A B rank ranks prefix old between new first middle last (fault.Absent r) here so one are = subst (λ (k : ℕ). StoppedAt k ranks (λ lists. AreSaved prefix lists old new) (HasGiven None) first last) (sym one.0) (unsaved_at rank ranks prefix (HasGiven None) old between new first middle last here so one.1 are)
exported_till A B rank ranks prefix old between new first middle last fault.WriteFault here so one are = record { rank = rank; at = spoiled_at rank ranks prefix old between new first middle last here so one are }
exported_till A B rank ranks prefix old between new first middle last fault.Memory here so one are = record { rank = rank; at = unsaved_at rank ranks prefix IsKept old between new first middle last here so one are }

-- a keeper that wasn't called
pub uncalled_at : {K : Type 0} (see : K → KeeperState) (rank : ℕ) (keepers : List K) → rank < length keepers → AtRank rank (map see keepers) (map see keepers) IsKept
uncalled_at see rank keepers here =
    let x = element_in keepers rank here in
    let is : element (map see keepers) rank ≡ Some (see x.0) = element_map see keepers rank ∙ ap (option_map see) x.1 in
    record { before = see x.0; after = see x.0; was = is; is = is; related = record { held = refl; sound = λ s. s; faults = refl } }
