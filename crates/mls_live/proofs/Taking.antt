-- Books that are taken apart from the last on.
use Rattle.std.proofs.Common.{◌≡◌, ℕ, List, [], ◌∷◌, ◌++◌, length, map, refl, sym, ◌∙◌, ap, subst, append_assoc, append-nil}
use Rattle.std.specs.Global.{Vec}
use Rattle.mls_base.specs.declared.outside.Keeper as keeper
use Rattle.mls_book.specs.Cores.{parts_of}
use Rattle.mls_pool.specs.Pools.{TapeBook}
use Rattle.mls_live.specs.Ending.{AreOf, FieldCore, TookLast, TookSome, items_of, own_keepers}

-- the keepers of longer lists
own-append : {K : Type 0} (xs : List (TapeBook K)) (book : TapeBook K) (ks : List K) → own_keepers (xs ++ book ∷ []) ++ ks ≡ own_keepers xs ++ book.keeper ∷ ks
own-append [] book ks = refl
own-append (x ∷ xs) book ks = ap (λ r. x.keeper ∷ r) (own-append xs book ks)

-- one more keeper was taken
pub keeper_taken : {K : Type 0} (books books' taken : List (TapeBook K)) (book : TapeBook K) (keepers keepers' all : List K) → books ≡ books' ++ book ∷ [] → keepers' ≡ book.keeper ∷ keepers → own_keepers books ++ keepers ≡ all → own_keepers books' ++ keepers' ≡ all
keeper_taken books books' taken book keepers keepers' all last first so =
    ap (λ ks. own_keepers books' ++ ks) first ∙ (sym (own-append books' book keepers) ∙ (ap (λ bs. own_keepers bs ++ keepers) (sym last) ∙ so))

pub none_left : {A : Type 0} (xs : List A) → length xs ≡ 0 → xs ≡ []
none_left [] e = refl
none_left (x ∷ xs) e = cc

-- nothing was taken yet
pub took_none : {K : Type 0} (U : keeper.Ghosts K) (all : List (TapeBook K)) (cores : List FieldCore) (lists : List (Vec ℕ)) (spare : List K) → cores ≡ [] → lists ≡ [] → TookSome U all all cores lists spare spare
took_none U all cores lists spare no_cores no_lists = record {
  taken = [];
  split = sym (append-nil all);
  are = record {
    cores_are = ap (map parts_of) no_cores;
    lists_are = ap items_of no_lists;
    keepers_are = refl;
    kept = tt;
  };
}

-- one more was taken
pub took_more : {K : Type 0} (U : keeper.Ghosts K) (all left left' : List (TapeBook K)) (cores cores' : List FieldCore) (lists lists' : List (Vec ℕ)) (spare keepers keepers' : List K) → TookSome U all left cores lists spare keepers → TookLast U left left' cores cores' lists lists' keepers keepers' → TookSome U all left' cores' lists' spare keepers'
took_more U all left left' cores cores' lists lists' spare keepers keepers' so took = record {
  taken = took.book ∷ so.taken;
  split = so.split ∙ (ap (λ bs. bs ++ so.taken) took.last ∙ append_assoc left' (took.book ∷ []) so.taken);
  are = record {
    cores_are = took.core_is ∙ ap (λ cs. took.book.core ∷ cs) so.are.cores_are;
    lists_are = took.list_is ∙ ap (λ js. took.book.journal ∷ js) so.are.lists_are;
    keepers_are = took.keeper_is ∙ ap (λ ks. took.book.keeper ∷ ks) so.are.keepers_are;
    kept = (took.kept, so.are.kept);
  };
}

-- all were taken
pub took_all : {K : Type 0} (U : keeper.Ghosts K) (all left : List (TapeBook K)) (cores : List FieldCore) (lists : List (Vec ℕ)) (spare keepers : List K) → TookSome U all left cores lists spare keepers → length left ≡ 0 → AreOf U all cores lists spare keepers
took_all {K} U all left cores lists spare keepers so none =
    let same : all ≡ so.taken = so.split ∙ ap (λ bs. bs ++ so.taken) (none_left left none) in
    subst (λ (bs : List (TapeBook K)). AreOf U bs cores lists spare keepers) (sym same) so.are
