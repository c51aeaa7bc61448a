-- What calls over all connections leave.
use Rattle.std.proofs.Common.{◌≡◌, ◌≢◌, ℕ, zero, suc, ◌+◌, ◌<◌, ◌≤◌, Bool, true, false, List, [], ◌∷◌, ◌++◌, length, Option, Some, None, IfSome, refl, sym, ap, subst, ◌∙◌, inl, inr, ◌⊎◌, arith}
use Rattle.std.proofs.lemmas.Bool.{true≢false}
use Rattle.mls_base.specs.declared.outside.Keeper as keeper
use Rattle.mls_base.specs.Told.{Rose, replaced}
use Rattle.mls_model.specs.Numbers.{element}
use Rattle.mls_field.specs.declared.fold.RowFold.{Ghosts}
use Rattle.mls_book.specs.Cores.{parts_bytes}
use Rattle.mls_poll.specs.declared.outside.PollLink as link
use Rattle.mls_hub.specs.declared.connection.Connection.{Connection}
use Rattle.mls_hub.specs.declared.faults.Fault.{Fault}
use Rattle.mls_hub.specs.declared.faults.Fault.TheVariants as faults
use Rattle.mls_hub.specs.Lanes.{save_event}
use Rattle.mls_hub.specs.Books.{WireBook, GoOn, GoesOn, KeeperRose, IsCaused, OneMoved, TookAt}
use Rattle.mls_hub.specs.Halls.{WaitedAt, GaveAt, WasPending, EndsAt}
use Rattle.mls_hub.specs.Turns.{IsSaved}
use Rattle.mls_hub.proofs.Elements.{same_or, same_element}

-- what was pending among connections was so among those before, where it is the same one
pub pending_from : {L : Type 0} (U : link.Ghosts L) (i : ℕ) (old mid new : List (Connection L)) → element mid i ≡ element old i → WasPending U i mid new → WasPending U i old new
pending_from U i old mid new e (inl w) = inl (record { before = w.before; now = w.now; was = sym e ∙ w.was; is = w.is; rose = w.rose })
pending_from U i old mid new e (inr w) = inr (record { before = w.before; now = w.now; was = sym e ∙ w.was; is = w.is; gave = w.gave })

-- and stays so while others move
pub pending_on : {L : Type 0} (U : link.Ghosts L) (i : ℕ) (old mid new : List (Connection L)) → element new i ≡ element mid i → WasPending U i old mid → WasPending U i old new
pending_on U i old mid new e (inl w) = inl (record { before = w.before; now = w.now; was = w.was; is = e ∙ w.is; rose = w.rose })
pending_on U i old mid new e (inr w) = inr (record { before = w.before; now = w.now; was = w.was; is = e ∙ w.is; gave = w.gave })

-- a fault in a later call has its cause in the whole
pub caused_from : {F K : Type 0} (W : keeper.Ghosts K) (fault : Fault) (old mid new : List (WireBook F K)) → GoOn W old mid → IsCaused {F = F} W fault mid new → IsCaused {F = F} W fault old new
caused_from W (faults.Keeper rank) old mid new on c =
    let f = on.each rank c.before c.was in
    let later = f.goes_on.later in
    let rose = c.rose.later in
    let higher = c.rose.higher in
    record {
      before = f.old;
      now = c.now;
      was = f.was;
      is = c.is;
      rose = record { later = omega (arith, later, rose); higher = omega (arith, later, rose, higher) };
    }
caused_from W faults.Memory old mid new on c = tt

-- a keeper that took a save holds the state of its core, where it tells
held_saved : (old new : Option (Option (List ℕ))) (bytes : List ℕ) → new ≡ replaced old (Some bytes) → IfSome new (λ kept. kept ≡ Some bytes)
held_saved None new bytes e = subst (λ (o : Option (Option (List ℕ))). IfSome o (λ kept. kept ≡ Some bytes)) (sym e) tt
held_saved (Some kept) new bytes e = subst (λ (o : Option (Option (List ℕ))). IfSome o (λ k. k ≡ Some bytes)) (sym e) refl

below_or : (r n : ℕ) → r < n + 1 → r ≢ n → r < n
below_or r n lt ne = omega (arith, lt, ne)

-- one more keeper is saved
pub saved_more : {F K : Type 0} (T : Ghosts F) (W : keeper.Ghosts K) (rank : ℕ) (old new : List (WireBook F K)) → TookAt T W rank rank save_event old new → ((r : ℕ) (b : WireBook F K) → r < rank → element old r ≡ Some b → IsSaved T W b)
    → (r : ℕ) (b : WireBook F K) → r < rank + 1 → element new r ≡ Some b → IsSaved T W b
saved_more {F} {K} T W rank old new took all r b lt at = elim (same_or r rank) [
  | inl e ↦ (
      let same : took.now ≡ b = same_element new rank took.now b took.is (ap (λ k. element new k) (sym e) ∙ at) in
      subst (λ (x : WireBook F K). IsSaved T W x) same (held_saved (W.held took.before.keeper) (W.held took.now.keeper) (parts_bytes T took.now.core) (took.took.put refl)))
  | inr ne ↦ all r b (below_or r rank lt ne) (sym (took.moved.others r ne) ∙ at)
]
