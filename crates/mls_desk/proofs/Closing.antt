-- What the books of a server say of its keepers at the end.
use Rattle.std.proofs.Common.{◌≡◌, ℕ, zero, suc, ◌<◌, ◌≤◌, List, [], ◌∷◌, ◌++◌, length, map, drop, get_or, Option, Some, None, refl, sym, ◌∙◌, ap, subst, ⊎_elim, arith}
use Rattle.std.specs.Prelude.{IsSome, IfSome}
use Rattle.std.specs.List.{AllByRecursion}
use Rattle.std.proofs.lemmas.List.{length-map}
use Rattle.mls_base.specs.declared.outside.Keeper as keeper
use Rattle.mls_model.specs.Numbers.{element}
use Rattle.mls_model.specs.Studies.{Sizes}
use Rattle.mls_field.specs.declared.field.Field.{Field}
use Rattle.mls_field.specs.contracts.field.FieldRowFold.TheImpl.{ghosts as field_ghosts}
use Rattle.mls_book.specs.declared.faults.BookFault.{BookFault}
use Rattle.mls_book.specs.declared.faults.BookFault.TheVariants as book
use Rattle.mls_book.specs.Books.{IsRecord}
use Rattle.mls_book.specs.Cores.{CoreParts, parts_of, parts_bytes}
use Rattle.mls_book.specs.Keepers.{KeeperState, keeper_seen, keepers_seen, AtRank}
use Rattle.mls_held.specs.declared.run.Run as run
use Rattle.mls_held.specs.Unnamed.{no_keeper}
use Rattle.mls_held.specs.Begun.{HasBegun}
use Rattle.mls_serve.specs.declared.served.LaneFault.{LaneFault}
use Rattle.mls_desk.specs.Desks.{IsDeskRun, start_of}
use Rattle.mls_desk.specs.Books.{WireBook, AreSeated, IsShown, IsReported, AreSaved, keepers_of}
use Rattle.mls_desk.specs.Ends.{AreCoresOf, AreOf, EndsBooks, FaultSays, FieldCore, HasRecord, HoldLast, HoldsCore, IsLaneFault, IsSince}
use Rattle.mls_desk.proofs.Elements.{Item, item_at, within, gets, same_some}

none_some : {A : Type 0} (x : A) → ◌≡◌ {A = Option A} None (Some x) → ⊥
none_some x e = cc

none_told : (A : Type 0) → IsSome {T = A} None → ⊥
none_told A e = cc

-- what is seen of the books' keepers at their ranks, and of the others
own_at : {K : Type 0} (U : keeper.Ghosts K) (books : List (WireBook K)) (spare : List K) (rank : ℕ) (book : WireBook K) → element books rank ≡ Some book → element (keepers_seen U (keepers_of books ++ spare)) rank ≡ Some (keeper_seen U book.keeper)
own_at U [] spare rank book there = absurd (none_some book there)
own_at {K} U (b ∷ bs) spare zero book there = ap (λ (x : WireBook K). Some (keeper_seen U x.keeper)) (same_some b book there)
own_at U (b ∷ bs) spare (suc i) book there = own_at U bs spare i book there

left_at : {K : Type 0} (U : keeper.Ghosts K) (books : List (WireBook K)) (keepers : List K) (other : ℕ) → length books ≤ length keepers → length books ≤ other → element (keepers_seen U (keepers_of books ++ drop (length books) keepers)) other ≡ element (keepers_seen U keepers) other
left_at U [] keepers other few past = refl
left_at U (b ∷ bs) [] other few past = absurd (omega (arith, few))
left_at U (b ∷ bs) (k ∷ ks) zero few past = absurd (omega (arith, past))
left_at U (b ∷ bs) (k ∷ ks) (suc other) few past = left_at U bs ks other (omega (arith, few)) (omega (arith, past))

count_at : {K : Type 0} (U : keeper.Ghosts K) (books : List (WireBook K)) (keepers : List K) → length books ≤ length keepers → length (keepers_seen U (keepers_of books ++ drop (length books) keepers)) ≡ length (keepers_seen U keepers)
count_at U [] keepers few = refl
count_at U (b ∷ bs) [] few = absurd (omega (arith, few))
count_at U (b ∷ bs) (k ∷ ks) few = ap suc (count_at U bs ks (omega (arith, few)))

-- what holds of each book of a list
all_at : {A : Type 0} (P : A → Type 0) (xs : List A) (i : ℕ) (x : A) → AllByRecursion P xs → element xs i ≡ Some x → P x
all_at P [] i x all e = absurd (none_some x e)
all_at P (y ∷ ys) zero x all e = subst P (same_some y x e) all.0
all_at P (y ∷ ys) (suc i) x all e = all_at P ys i x all.1 e

heads : {A : Type 0} (x y : A) (xs ys : List A) → ◌≡◌ {A = List A} (x ∷ xs) (y ∷ ys) → x ≡ y
heads x y xs ys e = cc

tails : {A : Type 0} (x y : A) (xs ys : List A) → ◌≡◌ {A = List A} (x ∷ xs) (y ∷ ys) → xs ≡ ys
tails x y xs ys e = cc

-- what two lists have at a place that have the same images
image_at : {A B C : Type 0} (f : A → C) (g : B → C) (xs : List A) (ys : List B) (i : ℕ) (y : B) (x : A) → map f xs ≡ map g ys → element ys i ≡ Some y → element xs i ≡ Some x → f x ≡ g y
image_at f g [] ys i y x same there e = absurd (none_some x e)
image_at f g (a ∷ xs) [] i y x same there e = absurd (none_some y there)
image_at f g (a ∷ xs) (b ∷ ys) zero y x same there e = ap f (sym (same_some a x e)) ∙ (heads (f a) (g b) (map f xs) (map g ys) same ∙ ap g (same_some b y there))
image_at f g (a ∷ xs) (b ∷ ys) (suc i) y x same there e = image_at f g xs ys i y x (tails (f a) (g b) (map f xs) (map g ys) same) there e

abbrev core_parts : FieldCore → CoreParts Field
core_parts core = parts_of core

abbrev book_core : {K : Type 0} → WireBook K → CoreParts Field
book_core b = b.core

-- the core at a rank is the book's
core_at : {K : Type 0} (cores : List FieldCore) (books : List (WireBook K)) (rank : ℕ) (book : WireBook K) (core : FieldCore) → map core_parts cores ≡ map (book_core {K = K}) books → element books rank ≡ Some book → element cores rank ≡ Some core → parts_of core ≡ book.core
core_at {K} cores books rank b core same there e = image_at core_parts (book_core {K = K}) cores books rank b core same there e

module _ {K R : Type 0} (U : keeper.Ghosts K) (N : run.Ghosts R) (lanes : ℕ) (s : Sizes) (books : List (WireBook K)) (cores : List FieldCore) (spare keepers back : List K)
    (seated : AreSeated U N books) (are : AreOf U books cores spare back)
    (names : IsDeskRun N lanes s (keepers_seen U keepers)) (enough : s.ranks ≤ length keepers) (count : length books ≡ s.ranks) (left : spare ≡ drop s.ranks keepers) where
  back_is : back ≡ keepers_of books ++ drop (length books) keepers
  back_is = are.keepers_are ∙ ap (λ (ks : List K). keepers_of books ++ ks) (left ∙ ap (λ (n : ℕ). drop n keepers) (sym count))

  start_at : (rank : ℕ) (b : WireBook K) → element books rank ≡ Some b → Item (keepers_seen U keepers) rank
  start_at rank b there =
      let h = within books rank b there in
      let n = length-map keepers (keeper_seen U) in
      item_at (keepers_seen U keepers) rank (omega (arith, h, count, enough, n))

  begun_at : (rank : ℕ) (b : WireBook K) (there : element books rank ≡ Some b) → HasBegun U (start_at rank b there).item b
  begun_at rank b there =
      let named = (seated rank b there).0 in
      let own = (seated rank b there).1 in
      let start = start_at rank b there in
      let is : N.keepers b.core.rank ≡ start.item = ap (λ (g : ℕ → KeeperState). g b.core.rank) names.keepers ∙ (ap (λ (r : ℕ). start_of (keepers_seen U keepers) r) own ∙ gets (keepers_seen U keepers) rank start.item no_keeper start.there) in
      subst (λ (k : KeeperState). HasBegun U k b) is named.begun

  now_at : (rank : ℕ) (b : WireBook K) → element books rank ≡ Some b → element (keepers_seen U back) rank ≡ Some (keeper_seen U b.keeper)
  now_at rank b there = ap (λ (ks : List K). element (keepers_seen U ks) rank) back_is ∙ own_at U books (drop (length books) keepers) rank b there

  -- what holds of a rank's keeper
  at_rank : (P : KeeperState → KeeperState → Type 0) (rank : ℕ) (b : WireBook K) (there : element books rank ≡ Some b) → P (start_at rank b there).item (keeper_seen U b.keeper) → AtRank rank (keepers_seen U keepers) (keepers_seen U back) P
  at_rank P rank b there is = record {
    before = (start_at rank b there).item;
    after = keeper_seen U b.keeper;
    was = (start_at rank b there).there;
    is = now_at rank b there;
    related = is;
  }

  since_at : (rank : ℕ) → rank < s.ranks → AtRank rank (keepers_seen U keepers) (keepers_seen U back) IsSince
  since_at rank here =
      let b = item_at books rank (omega (arith, here, count)) in
      let o = begun_at rank b.item b.there in
      at_rank IsSince rank b.item b.there (record {
        counted = o.counted;
        tells = o.tells;
        untold = o.untold;
        sound = o.sound;
        tells_on = o.tells_on;
        faultless = o.faultless;
      })

  core_there : (rank : ℕ) (d : FieldCore) → rank < length cores → Item books rank
  core_there rank d here =
      let n : length cores ≡ length books = sym (length-map cores parts_of) ∙ (ap (λ (ps : List (CoreParts Field)). length ps) are.cores_are ∙ length-map books (λ (b : WireBook K). b.core)) in
      item_at books rank (omega (arith, here, n))

  core_is : (rank : ℕ) (d : FieldCore) (here : rank < length cores) → parts_of (get_or cores rank d) ≡ (core_there rank d here).item.core
  core_is rank d here =
      let b = core_there rank d here in
      let c = item_at cores rank here in
      ap parts_of (gets cores rank c.item d c.there) ∙ core_at cores books rank b.item c.item are.cores_are b.there c.there

  cores_of : AreCoresOf s cores
  cores_of = record {
    count = sym (length-map cores parts_of) ∙ (ap (λ (ps : List (CoreParts Field)). length ps) are.cores_are ∙ (length-map books (λ (b : WireBook K). b.core) ∙ count));
    sizes = λ rank d here.
        let b = core_there rank d here in
        ap (λ (p : CoreParts Field). p.sizes) (core_is rank d here) ∙ ((seated rank b.item b.there).0.sizes ∙ names.sizes);
    ranks = λ rank d here.
        let b = core_there rank d here in
        ap (λ (p : CoreParts Field). p.rank) (core_is rank d here) ∙ (seated rank b.item b.there).1;
  }

  says : (f : BookFault) (start : KeeperState) (b : WireBook K) → HasBegun U start b → HasRecord U b → IsShown f b.fault → FaultSays f start (keeper_seen U b.keeper)
  says book.KeeperFault start b o caused shown = record { rose = o.caused shown; unsound = λ sound. o.blameless sound shown }
  says (book.CheckpointBad at why) start b o caused shown =
      let silent : U.held b.keeper ≡ None = subst (λ (x : Option BookFault). IsRecord x (U.faults b.keeper) (U.held b.keeper)) shown caused in
      record {
        silent = silent;
        rose = λ told. ⊎_elim (λ tells. absurd (none_told (Option (List ℕ)) (subst IsSome silent tells))) (λ rose. rose) (o.tells told);
        unsound = λ told sound. none_told (Option (List ℕ)) (subst IsSome silent (o.tells_on sound told));
      }
  says book.Memory start b o caused shown = tt

  fault_at : (fault : LaneFault) → IsReported books fault → IsLaneFault s (keepers_seen U keepers) (keepers_seen U back) fault
  fault_at fault reported =
      let b = item_at books fault.rank reported.here in
      record {
        here = let h = reported.here in omega (arith, h, count);
        says = at_rank (FaultSays fault.fault) fault.rank b.item b.there
            (says fault.fault (start_at fault.rank b.item b.there).item b.item (begun_at fault.rank b.item b.there) (all_at (HasRecord U) books fault.rank b.item are.caused b.there) (reported.shown b.item b.there));
      }

  last_at : AreSaved U books → HoldLast s cores (keepers_seen U keepers) (keepers_seen U back)
  last_at saved rank core e =
      let c : rank < length cores = within cores rank core e in
      let b = core_there rank core c in
      let o = begun_at rank b.item b.there in
      let own = saved rank b.item b.there in
      let same : parts_of core ≡ b.item.core = core_at cores books rank b.item core are.cores_are b.there e in
      at_rank (HoldsCore (parts_of core)) rank b.item b.there (record {
        holds = subst (λ (p : CoreParts Field). IfSome (U.held b.item.keeper) (λ kept. kept ≡ Some (parts_bytes field_ghosts p))) (sym same) own.1;
        tells = o.sure own.0;
      })

  pub ends_books : EndsBooks U s books cores keepers back
  ends_books = record {
    ends = record {
      are_cores = cores_of;
      count = ap (λ (ks : List K). length (keepers_seen U ks)) back_is ∙ count_at U books keepers (omega (arith, enough, count));
      each = since_at;
      left = λ other past. ap (λ (ks : List K). element (keepers_seen U ks) other) back_is ∙ left_at U books keepers other (omega (arith, enough, count)) (omega (arith, past, count));
    };
    fault = fault_at;
    last = last_at;
  }
