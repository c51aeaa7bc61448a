-- Books that are taken apart from the last on.
use Rattle.std.proofs.Common.{◌≡◌, List, [], ◌∷◌, ◌++◌, length, map, refl, sym, ◌∙◌, ap, subst, append_assoc, append-nil}
use Rattle.mls_base.specs.declared.outside.Keeper as keeper
use Rattle.mls_book.specs.Cores.{parts_of}
use Rattle.mls_desk.specs.Books.{WireBook}
use Rattle.mls_desk.specs.Ends.{AreOf, FieldCore, TookLast, TookSome}

pub none_left : {A : Type 0} (xs : List A) → length xs ≡ 0 → xs ≡ []
none_left [] e = refl
none_left (x ∷ xs) e = cc

-- nothing was taken yet
pub took_none : {K : Type 0} (U : keeper.Ghosts K) (all : List (WireBook K)) (cores : List FieldCore) (spare : List K) → cores ≡ [] → TookSome U all all cores spare spare
took_none U all cores spare no_cores = record {
  taken = [];
  split = sym (append-nil all);
  are = record {
    cores_are = ap (map parts_of) no_cores;
    keepers_are = refl;
    caused = tt;
  };
}

-- one more was taken
pub took_more : {K : Type 0} (U : keeper.Ghosts K) (all left left' : List (WireBook K)) (cores cores' : List FieldCore) (spare keepers keepers' : List K) → TookSome U all left cores spare keepers → TookLast U left left' cores cores' keepers keepers' → TookSome U all left' cores' spare keepers'
took_more {K} U all left left' cores cores' spare keepers keepers' so took = record {
  taken = took.book ∷ so.taken;
  split = so.split ∙ (ap (λ (bs : List (WireBook K)). bs ++ so.taken) took.last ∙ append_assoc left' (took.book ∷ []) so.taken);
  are = record {
    cores_are = took.core_is ∙ ap (λ cs. took.book.core ∷ cs) so.are.cores_are;
    keepers_are = took.keeper_is ∙ ap (λ ks. took.book.keeper ∷ ks) so.are.keepers_are;
    caused = (took.caused, so.are.caused);
  };
}

-- all were taken
pub took_all : {K : Type 0} (U : keeper.Ghosts K) (all left : List (WireBook K)) (cores : List FieldCore) (spare keepers : List K) → TookSome U all left cores spare keepers → length left ≡ 0 → AreOf U all cores spare keepers
took_all {K} U all left cores spare keepers so none =
    let same : all ≡ so.taken = so.split ∙ ap (λ (bs : List (WireBook K)). bs ++ so.taken) (none_left left none) in
    subst (λ (bs : List (WireBook K)). AreOf U bs cores spare keepers) (sym same) so.are
