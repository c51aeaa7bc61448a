-- Which values a crash leaves, over whole calls of a keeper.
use Rattle.std.proofs.Common.{◌≡◌, inl, inr, ⊎_elim, ℕ, ◌<◌, Bool, true, false, IsTrue, List, [], ◌∷◌, ◌++◌, take, drop, Option, None, Some, IfSome, if◌then◌else◌, refl, sym, ◌∙◌, ap, subst, arith}
use Rattle.mls_slot.specs.Disks.{Areas, View, IsLeft}
use Rattle.mls_slot.specs.Slots.{head_length, payload, is_whole, value}
use Rattle.mls_slot.specs.Known.{other, slot_of, IsTarget}
use Rattle.mls_slot.specs.Runs.{LeavesOnly, IsOneOf, GivesOnly, SameSeen}
use Rattle.mls_slot.specs.Keepers.{told_value}
use Rattle.mls_slot.specs.declared.heads.Slot.{Slot}
use Rattle.mls_slot.proofs.Values.{value_same, has_slot}
use Rattle.mls_slot.proofs.Moments.{weaker, one_after}
use Rattle.mls_slot.proofs.Storing.{Gives}

abbrev Values : Type 0
Values = List (Option (List ℕ))

pub still_one : (v p : Option (List ℕ)) (values : Values) → IsOneOf v values → IsOneOf v (values ++ p ∷ [])
still_one v p [] is = absurd is
still_one v p (w ∷ values) (inl is) = inl is
still_one v p (w ∷ values) (inr is) = inr (still_one v p values is)

pub last_one : (v p : Option (List ℕ)) (values : Values) → v ≡ p → IsOneOf v (values ++ p ∷ [])
last_one v p [] is = inl is
last_one v p (w ∷ values) is = inr (last_one v p values is)

module _ (old mid : View) (values : Values) (gives : GivesOnly old values) (begins : LeavesOnly old mid (IsLeft old)) where
  -- a run that leaves no more than was left
  pub quiet : LeavesOnly old mid (λ image. IsOneOf (value image) values)
  quiet = weaker old mid (IsLeft old) (λ image. IsOneOf (value image) values) begins gives

  pub quiet_more : (p : List ℕ) → LeavesOnly old mid (λ image. IsOneOf (value image) (values ++ Some p ∷ []))
  quiet_more p = weaker old mid (IsLeft old) (λ image. IsOneOf (value image) (values ++ Some p ∷ [])) begins (λ image left. still_one (value image) (Some p) values (gives image left))

  -- what a read gives is one of the values
  pub seen_one : IsLeft mid mid.seen → IsOneOf (value mid.seen) values
  seen_one seen = gives mid.seen (begins.now mid.seen seen)

  -- another such run
  pub quiet_again : (new : View) → LeavesOnly mid new (IsLeft mid) → LeavesOnly old new (λ image. IsOneOf (value image) values)
  quiet_again new looks = one_after old mid new (IsLeft old) (IsLeft mid) (λ image. IsOneOf (value image) values) begins looks gives (λ image left. gives image (begins.now image left))

  -- a put
  pub put_leaves : (new : View) (p : List ℕ) → IsLeft mid mid.seen → LeavesOnly mid new (Gives mid p) → LeavesOnly old new (λ image. IsOneOf (value image) (values ++ Some p ∷ []))
  put_leaves new p seen puts = one_after old mid new (IsLeft old) (Gives mid p) (λ image. IsOneOf (value image) (values ++ Some p ∷ [])) begins puts
      (λ image left. still_one (value image) (Some p) values (gives image left))
      (λ image g. ⊎_elim
      (λ stays. still_one (value image) (Some p) values (subst (λ (v : Option (List ℕ)). IsOneOf v values) (sym stays) (seen_one seen)))
      (λ is. last_one (value image) (Some p) values is) g)

pub same_value : (old new : View) → SameSeen old new → value new.seen ≡ value old.seen
same_value old new same =
    let first : 0 < 2 = omega arith in
    let second : 1 < 2 = omega arith in
    value_same new.seen old.seen (same 0 first) (same 1 second)

pub given_told : (t f : Bool) (seen : Areas) (v : Option (List ℕ)) → (IsTrue t → value seen ≡ v) → IfSome (told_value t f seen) (λ kept. kept ≡ v)
given_told true false seen v is = is refl
given_told true true seen v is = tt
given_told false f seen v is = tt

none_alone : (b : Bool) (s : Slot) (x : List ℕ) → (if b then Some s else None) ≡ None → (if b then Some x else None) ≡ None
none_alone true s x e = cc
none_alone false s x e = refl

-- where the current area isn't whole, there is no value
pub no_value : (areas : Areas) (area n : ℕ) → IsTarget areas area n → slot_of (areas (other area)) ≡ None → value areas ≡ None
no_value areas area n target e = target.kept ∙ none_alone (is_whole (areas (other area))) _ (payload (areas (other area))) e

-- where it is, the value is its payload
pub a_value : (areas : Areas) (area n : ℕ) (slot : Slot) (bytes : List ℕ) → IsTarget areas area n → slot_of (areas (other area)) ≡ Some slot → bytes ≡ take slot.length (drop head_length (areas (other area))) → value areas ≡ Some bytes
a_value areas area n slot bytes target e is =
    let has = has_slot (areas (other area)) slot e in
    target.kept
    ∙ ap (λ (v : Bool). if v then Some (payload (areas (other area))) else None) has.whole
    ∙ ap (λ (k : ℕ). Some (take k (drop head_length (areas (other area))))) (sym has.length)
    ∙ ap (λ (l : List ℕ). Some l) (sym is)
