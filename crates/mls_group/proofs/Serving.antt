-- One link after another serves one pair after another.
use Rattle.std.proofs.Common.{◌≡◌, ℕ, Bool, List, [], ◌∷◌, ◌++◌, Option, Some, None, refl, sym, ◌∙◌, ap, subst, append_assoc, append-nil, inr, length, eqb, arith}
use Rattle.std.proofs.lemmas.Bool.Decides.{nat_tests}
use Rattle.mls_model.specs.Studies.{Study}
use Rattle.mls_wire.specs.Doors.{Closed}
use Rattle.mls_wire.specs.declared.pairing.Pair.{Pair}
use Rattle.mls_group.specs.declared.faults.GroupFault.{GroupFault}
use Rattle.mls_group.specs.declared.faults.GroupFault.TheVariants as why
use Rattle.mls_group.specs.Groups.{Serves, Served, ServedAll, LastOne, LeavesAt, StoppedAt, Stops, TellsOn, MayTell, LinkLeft, GroupLeft, is_last}

-- links were closed that served the first pairs, and these pairs are left
pub record ServesTo (study : Study) (group life : ℕ) (pairs left : List Pair) (before now : List Closed) : Type 0 where
  pub served : List Closed
  pub told : now ≡ before ++ served
  pub serves : Serves study group life served pairs left

-- one link more, which serves the next pair
serves_more : (study : Study) (group life : ℕ) (pairs left : List Pair) (pair : Pair) (served : List Closed) (c : Closed) → Serves study group life served pairs (pair ∷ left) → Served study group life pair (is_last left) c → Serves study group life (served ++ c ∷ []) pairs left
serves_more study group life pairs left pair [] c so_far is = subst (λ (xs : List Pair). Serves study group life (c ∷ []) xs left) (sym so_far) (is, refl)
serves_more study group life [] left pair (d ∷ served) c so_far is = absurd so_far
serves_more study group life (p ∷ pairs) left pair (d ∷ served) c so_far is = (so_far.0, serves_more study group life pairs left pair served c so_far.1 is)

one_more : (study : Study) (group life : ℕ) (pairs left : List Pair) (pair : Pair) (before mid new : List Closed) → ServesTo study group life pairs (pair ∷ left) before mid → LastOne (Served study group life pair (is_last left)) mid new → ServesTo study group life pairs left before new
one_more study group life pairs left pair before mid new so_far next = record {
  served = so_far.served ++ next.last ∷ [];
  told = next.told ∙ ap (λ xs. xs ++ next.last ∷ []) so_far.told ∙ append_assoc before so_far.served (next.last ∷ []);
  serves = serves_more study group life pairs left pair so_far.served next.last so_far.serves next.is;
}

module _ (study : Study) (group life : ℕ) (pairs left : List Pair) (pair : Pair) where
  -- the same of what is told
  pub tells_more : (old mid new : Option (List Closed)) → TellsOn (ServesTo study group life pairs (pair ∷ left)) old mid → TellsOn (LastOne (Served study group life pair (is_last left))) mid new → TellsOn (ServesTo study group life pairs left) old new
  tells_more None mid new so_far next = tt
  tells_more (Some before) None new so_far next = absurd so_far
  tells_more (Some before) (Some mid) None so_far next = absurd next
  tells_more (Some before) (Some mid) (Some new) so_far next = one_more study group life pairs left pair before mid new so_far next

  -- a fault at the next pair
  stopped_at : (fault : GroupFault) (before mid new : List Closed) → ServesTo study group life pairs (pair ∷ left) before mid → LeavesAt fault study group life pair (is_last left) mid new → StoppedAt fault study group life pairs before new
  stopped_at fault before mid new so_far leaves = record {
    served = so_far.served;
    pair = pair;
    left = left;
    serves = so_far.serves;
    leaves = subst (λ (xs : List Closed). LeavesAt fault study group life pair (is_last left) xs new) so_far.told leaves;
  }

  stops : (fault : GroupFault) (before new : List Closed) → StoppedAt fault study group life pairs before new → Stops fault study group life pairs before new
  stops why.DoorFault before new at = at
  stops why.LinkFault before new at = at
  stops (why.Refused reason value) before new at = at
  stops why.Peer before new at = at
  stops why.Memory before new at = inr at

  fault_more : (fault : GroupFault) (before mid new : List Closed) → ServesTo study group life pairs (pair ∷ left) before mid → LeavesAt fault study group life pair (is_last left) mid new → Stops fault study group life pairs before new
  fault_more fault before mid new so_far leaves = stops fault before new (stopped_at fault before mid new so_far leaves)

  tells_stop : (fault : GroupFault) (old mid new : Option (List Closed)) → TellsOn (ServesTo study group life pairs (pair ∷ left)) old mid → TellsOn (LeavesAt fault study group life pair (is_last left)) mid new → TellsOn (Stops fault study group life pairs) old new
  tells_stop fault None mid new so_far next = tt
  tells_stop fault (Some before) None new so_far next = absurd so_far
  tells_stop fault (Some before) (Some mid) None so_far next = absurd next
  tells_stop fault (Some before) (Some mid) (Some new) so_far next = fault_more fault before mid new so_far next

  may_stop : (fault : GroupFault) (old mid new : Option (List Closed)) → (old ≡ None → mid ≡ None) → TellsOn (ServesTo study group life pairs (pair ∷ left)) old mid → MayTell (LeavesAt fault study group life pair (is_last left)) mid new → MayTell (Stops fault study group life pairs) old new
  may_stop fault old mid None silent so_far next = tt
  may_stop fault old None (Some new) silent so_far next = absurd next
  may_stop fault None (Some mid) (Some new) silent so_far next = let e : ◌≡◌ {A = Option (List Closed)} (Some mid) None = silent refl in cc
  may_stop fault (Some before) (Some mid) (Some new) silent so_far next = fault_more fault before mid new so_far next

  -- what the fault leaves of what is told
  pub stops_here : (fault : GroupFault) (old mid new : Option (List Closed)) → (old ≡ None → mid ≡ None) → TellsOn (ServesTo study group life pairs (pair ∷ left)) old mid → LinkLeft fault study group life pair (is_last left) mid new → GroupLeft fault study group life pairs old new
  stops_here why.DoorFault old mid new silent so_far next = may_stop why.DoorFault old mid new silent so_far next
  stops_here why.LinkFault old mid new silent so_far next = may_stop why.LinkFault old mid new silent so_far next
  stops_here (why.Refused reason value) old mid new silent so_far next = tells_stop (why.Refused reason value) old mid new so_far next
  stops_here why.Peer old mid new silent so_far next = tells_stop why.Peer old mid new so_far next
  stops_here why.Memory old mid new silent so_far next = may_stop why.Memory old mid new silent so_far next

-- no link was closed yet
pub serves_none : (study : Study) (group life : ℕ) (pairs : List Pair) (old : Option (List Closed)) → TellsOn (ServesTo study group life pairs pairs) old old
serves_none study group life pairs None = tt
serves_none study group life pairs (Some before) = record { served = []; told = sym (append-nil before); serves = refl }

-- no pair is left
pub serves_all : (study : Study) (group life : ℕ) (pairs : List Pair) (old new : Option (List Closed)) → TellsOn (ServesTo study group life pairs []) old new → TellsOn (ServedAll study group life pairs) old new
serves_all study group life pairs None new so_far = tt
serves_all study group life pairs (Some before) None so_far = absurd so_far
serves_all study group life pairs (Some before) (Some new) so_far = record { served = so_far.served; told = so_far.told; serves = so_far.serves }

-- whether no pair is left
pub last_of : (left : List Pair) (last : Bool) → last ≡ eqb (length left) 0 → last ≡ is_last left
last_of [] last e = e
last_of (pair ∷ left) last e = e ∙ grind (arith, nat_tests)
