-- What the writes of a keeper's steps leave.
use Rattle.std.proofs.Common.{◌≡◌, inl, inr, ℕ, ◌<◌, Bool, IsTrue, List, length, take, drop, sym, ◌∙◌, ap, subst, arith, length-take}
use Rattle.std.proofs.lemmas.Bool.{cases_eq, cases_lt}
use Rattle.std.proofs.lemmas.List.{take-take, take_at, take_all}
use Rattle.mls_slot.specs.Slots.{head_length}
use Rattle.mls_slot.specs.Disks.{View, IsAtRest, Torn, Follows, Elsewhere, Untouched, Synced, Gave}
use Rattle.mls_slot.specs.Known.{IsHead}
use Rattle.mls_slot.specs.Runs.{ReadsHead}
use Rattle.mls_slot.specs.declared.heads.Head.{Head}
use Rattle.mls_slot.proofs.Torn.{torn_same}
use Rattle.mls_slot.proofs.Moments.{OnlyNow, Reach, reach_start, reach_write, fewer_both}

pub along : (a b : Bool) → a ≡ b → IsTrue a → IsTrue b
along a b e t = subst (λ (v : Bool). IsTrue v) e t

-- the gate is the same
abbrev pub SameGate : List ℕ → List ℕ → Type 0
SameGate bytes c = take 1 c ≡ take 1 bytes

module _ (area : ℕ) (below : area < 2) (old new : View) (only : OnlyNow old) (rest : IsAtRest old) where
  pub gate_written : Follows 0 1 (old.may_leave area) (new.may_leave area) → Elsewhere area old new → Reach area (Torn 0 1 (old.seen area)) old.seen old new
  gate_written follows beside =
      reach_write area below old.seen old (λ c. c ≡ old.seen area) (Torn 0 1 (old.seen area)) 0 1 old new (reach_start area below old only rest) follows beside
      (λ c d is torn. subst (λ (l : List ℕ). Torn 0 1 l d) is torn)
      (λ c is. torn_same 0 1 (old.seen area) c is)

  pub slot_begun : (n : ℕ) → Follows 1 n (old.may_leave area) (new.may_leave area) → Elsewhere area old new → Reach area (SameGate (old.seen area)) old.seen old new
  slot_begun n follows beside =
      reach_write area below old.seen old (λ c. c ≡ old.seen area) (SameGate (old.seen area)) 1 n old new (reach_start area below old only rest) follows beside
      (λ c d is torn. torn.before ∙ ap (λ (l : List ℕ). take 1 l) is)
      (λ c is. ap (λ (l : List ℕ). take 1 l) is)

front_of_head : (l : List ℕ) → take 1 l ≡ take 1 (take head_length l)
front_of_head l = sym (take-take 1 head_length l (omega arith))

pub slot_filled : (area : ℕ) → area < 2 → (n : ℕ) (old mid new : View) → Reach area (SameGate (old.seen area)) old.seen old mid → Follows head_length n (mid.may_leave area) (new.may_leave area) → Elsewhere area mid new → Reach area (SameGate (old.seen area)) old.seen old new
slot_filled area below n old mid new so_far follows beside =
    reach_write area below old.seen old (SameGate (old.seen area)) (SameGate (old.seen area)) head_length n mid new so_far follows beside
    (λ c d is torn. front_of_head d ∙ ap (λ (l : List ℕ). take 1 l) torn.before ∙ sym (front_of_head c) ∙ is)
    (λ c is. is)

-- the bytes that a read of ten gave
pub front_read : (bytes into new front : List ℕ) (n : ℕ) → length into ≡ head_length → Gave bytes 0 into new n → front ≡ take n new → front ≡ take head_length bytes
front_read bytes into new front n ten gave is =
    let many = gave.many in
    let size : length (take n (drop 0 bytes)) ≡ n = omega (arith, length-take n bytes) in
    is ∙ ap (λ (l : List ℕ). take n l) gave.front ∙ take_at (take n (drop 0 bytes)) (drop n into) n size ∙ elim (cases_lt (length bytes) head_length) [
      | inr long ↦ let same : n ≡ head_length = omega arith in ap (λ (k : ℕ). take k bytes) same
      | inl short ↦ take_all n bytes (omega arith) ∙ sym (take_all head_length bytes (omega arith))
    ]

-- after a sync, a look at the length and a read of the head
pub head_read : (area : ℕ) (read : Head) (old s l r : View) → Synced area old s → Untouched s l → Untouched l r → IsHead (l.seen area) read → area < 2 → ReadsHead area read old r
head_read area read old s l r synced looked gave head below = record {
  seen = λ other o. (gave.same other).seen ∙ (looked.same other).seen ∙ same other o;
  only = λ c left. synced.only c ((looked.same area).fewer c ((gave.same area).fewer c left)) ∙ sym ((gave.same area).seen ∙ (looked.same area).seen ∙ synced.seen);
  fewer = λ other c o left. fewer_both area old s synced.fewer synced.elsewhere other o c ((looked.same other).fewer c ((gave.same other).fewer c left));
  head = subst (λ (b : List ℕ). IsHead b read) (sym (gave.same area).seen) head;
}
  where
    same : (other : ℕ) → other < 2 → s.seen other ≡ old.seen other
    same other o = elim (cases_eq other area) [
      | inl here ↦ subst (λ (p : ℕ). s.seen p ≡ old.seen p) (sym here) synced.seen
      | inr differs ↦ (synced.elsewhere.same other o differs).seen
    ]
