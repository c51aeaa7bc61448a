-- What a keeper still tells.
use Rattle.std.proofs.Common.{◌≡◌, ℕ, true, false, ◌&&◌, List, [], ◌∷◌, ◌++◌, Option, None, Some, refl, ap, sym, ◌∙◌, subst, inl, inr, ⊎_elim}
use Rattle.std.specs.Prelude.{is_some, IsSome, IfSome}
use Rattle.std.specs.Global.{Vec}
use Rattle.std.specs.Option.{option_map}
use Rattle.std.specs.List.{list_any}
use Rattle.std.proofs.lemmas.Bool.{or_parts, true≢false}
use Rattle.mls_base.specs.Told.{MayCease, replaced}
use Rattle.mls_model.specs.Histories.{LaneEvent}
use Rattle.mls_model.specs.Survival.{is_save, is_crash, crash_after_save}
use Rattle.mls_laws.proofs.Surviving.{crash_after_save_more}
use Rattle.mls_book.specs.declared.faults.BookFault.{BookFault}
use Rattle.mls_book.specs.declared.faults.BookFault.TheVariants.{KeeperFault, CheckpointBad, Memory}
use Rattle.mls_book.specs.Faults.{Leaves}
use Rattle.mls_book.specs.Histories.{Sure}

-- what is told as before may cease
pub same_may : {A : Type 0} (old new : Option A) → new ≡ old → MayCease old new
same_may old None e = tt
same_may old (Some v) e = sym e

pub leaves_may : {A : Type 0} (fault : BookFault) (old new : Option A) → Leaves fault old new → MayCease old new
leaves_may KeeperFault old new l = l
leaves_may (CheckpointBad at why) old new l = same_may old new l
leaves_may Memory old new l = same_may old new l

-- what is told was told before, and is as it was
pub some_before : {A : Type 0} (old new : Option A) → MayCease old new → IsSome new → IsSome old
some_before old None may some = absurd (true≢false (sym some))
some_before old (Some v) may some = ap is_some may

pub told_before : {A : Type 0} (P : A → Type 0) (old new : Option A) → MayCease old new → IfSome old P → IfSome new P
told_before P old None may h = tt
told_before P old (Some v) may h = subst (λ o. IfSome o P) may h

-- what was put is told where something was told before
pub some_replaced : {A : Type 0} (old : Option A) (value : A) → IsSome (replaced old value) → IsSome old
some_replaced None value some = some
some_replaced (Some v) value some = refl

pub told_put : {A : Type 0} (P : A → Type 0) (old new : Option A) (value : A) → new ≡ replaced old value → (IsSome old → P value) → IfSome new P
told_put P None new value is h = subst (λ o. IfSome o P) (sym is) tt
told_put P (Some v) new value is h = subst (λ o. IfSome o P) (sym is) (h refl)

-- what is sure with one event more was sure before
quiet_before : (run : List LaneEvent) (e : LaneEvent) → crash_after_save (run ++ e ∷ []) ≡ false → crash_after_save run ≡ false
quiet_before run e quiet = (or_parts (crash_after_save run) (is_crash e && list_any is_save run) (sym (crash_after_save_more run e) ∙ quiet)).0

pub sure_before : (old new : Option (Option (List ℕ))) (run : List LaneEvent) (e : LaneEvent) → (IsSome new → IsSome old) → Sure new (run ++ e ∷ []) → Sure old run
sure_before old new run e told sure = ⊎_elim (λ some. inl (told some)) (λ quiet. inr (quiet_before run e quiet)) sure

pub sure_same : (old new : Option (Option (List ℕ))) (run : List LaneEvent) → MayCease old new → Sure new run → Sure old run
sure_same old new run may sure = ⊎_elim (λ some. inl (some_before old new may some)) (λ quiet. inr quiet) sure

-- after a crash behind a save only a keeper that tells is sure
pub sure_told : (new : Option (Option (List ℕ))) (run : List LaneEvent) (e : LaneEvent) → is_crash e ≡ true → list_any is_save run ≡ true → Sure new (run ++ e ∷ []) → IsSome new
sure_told new run e crashed had sure = ⊎_elim (λ some. some) (λ quiet.
    let both : (is_crash e && list_any is_save run) ≡ true = ap (λ b. b && list_any is_save run) crashed ∙ had in
    let none : (is_crash e && list_any is_save run) ≡ false = (or_parts (crash_after_save run) (is_crash e && list_any is_save run) (sym (crash_after_save_more run e) ∙ quiet)).1 in
    absurd (true≢false (sym both ∙ none))) sure

-- what a get gave is what is held
pub told_given : {A : Type 0} (P : A → Type 0) (held : Option A) (given : A) → IfSome held (λ kept. kept ≡ given) → P given → IfSome held P
told_given P None given is h = tt
told_given P (Some kept) given is h = subst P (sym is) h

-- bytes, as a list
pub some_items : (P : List ℕ → Type 0) (given : Option (Vec ℕ)) → IfSome given (λ (bytes : Vec ℕ). P bytes.items) → IfSome (option_map (λ (bytes : Vec ℕ). bytes.items) given) P
some_items P None h = tt
some_items P (Some bytes) h = h

-- what holds of bytes that are there
pub some_is : (P : Vec ℕ → Type 0) (given : Option (Vec ℕ)) (bytes : Vec ℕ) → given ≡ Some bytes → P bytes → IfSome given P
some_is P given bytes is h = subst (λ (o : Option (Vec ℕ)). IfSome o P) (sym is) h
