-- What a crash in a run of disk calls leaves.
use Rattle.std.proofs.Common.{◌≡◌, ◌≢◌, inl, inr, ⊎_elim, ℕ, ◌<◌, List, sym, ◌∙◌, subst, arith}
use Rattle.std.proofs.lemmas.Bool.{cases_eq}
use Rattle.mls_slot.specs.Disks.{Areas, View, IsLeft, Only, IsAtRest, Torn, Follows, Elapses, Elsewhere, Untouched, Synced}
use Rattle.mls_slot.specs.Runs.{LeavesOnly, SameBut, Changed, Settled}

-- since this moment there is no other
abbrev pub OnlyNow : View → Type 0
OnlyNow view = (image : Areas) → view.left_since view.moment image → IsLeft view image

-- before the first call
pub started : (old : View) (P : Areas → Type 0) → OnlyNow old → ((image : Areas) → IsLeft old image → P image) → LeavesOnly old old P
started old P only here = record { later = omega arith; now = here; each = λ image left. here image (only image left); before = λ t image le left. inl left }

-- one call more, after which a crash leaves what has P
pub goes_on : (old mid new : View) (P : Areas → Type 0) → LeavesOnly old mid P → Elapses mid new → ((image : Areas) → IsLeft new image → P image) → LeavesOnly old new P
goes_on old mid new P so_far time here = record {
  later = omega (arith, so_far.later, time.later);
  now = here;
  each = λ image left. ⊎_elim (so_far.each image) (here image) (time.nothing_else old.moment image so_far.later left);
  before = λ t image le left. ⊎_elim (so_far.before t image le) (λ now. inr (here image now)) (time.nothing_else t image (omega (arith, le, so_far.later)) left);
}

pub weaker : (old new : View) (P Q : Areas → Type 0) → LeavesOnly old new P → ((image : Areas) → P image → Q image) → LeavesOnly old new Q
weaker old new P Q leaves to = record {
  later = leaves.later;
  now = λ image left. to image (leaves.now image left);
  each = λ image left. to image (leaves.each image left);
  before = λ t image le left. ⊎_elim (λ was. inl was) (λ p. inr (to image p)) (leaves.before t image le left);
}

-- one run after another
pub one_after : (old mid new : View) (P Q R : Areas → Type 0) → LeavesOnly old mid P → LeavesOnly mid new Q → ((image : Areas) → P image → R image) → ((image : Areas) → Q image → R image) → LeavesOnly old new R
one_after old mid new P Q R first second from to = record {
  later = omega (arith, first.later, second.later);
  now = λ image left. to image (second.now image left);
  each = λ image left. ⊎_elim (λ was. from image (first.each image was)) (to image) (second.before old.moment image first.later left);
  before = λ t image le left. ⊎_elim (λ was. ⊎_elim (λ long. inl long) (λ p. inr (from image p)) (first.before t image le was)) (λ q. inr (to image q)) (second.before t image (omega (arith, le, first.later)) left);
}

-- what a crash may leave has R in one area, and is this in the other
pub record Bounded (area : ℕ) (R : List ℕ → Type 0) (seen : Areas) (view : View) : Type 0 where
  pub there : (c : List ℕ) → view.may_leave area c → R c
  pub elsewhere : (other : ℕ) → other < 2 → other ≢ area → Only (seen other) (view.may_leave other)

-- so far a run left nothing else
pub record Reach (area : ℕ) (R : List ℕ → Type 0) (seen : Areas) (old new : View) : Type 0 where
  pub leaves : LeavesOnly old new (Changed area R seen)
  pub bounded : Bounded area R seen new

module _ (area : ℕ) (below : area < 2) (seen : Areas) (old : View) where
  changed : (R : List ℕ → Type 0) (view : View) → Bounded area R seen view → (image : Areas) → IsLeft view image → Changed area R seen image
  changed R view bounded image left = record {
    there = bounded.there (image area) (left area below);
    elsewhere = λ other o differs. bounded.elsewhere other o differs (image other) (left other o);
  }

  pub reach_write : (R S : List ℕ → Type 0) (at n : ℕ) (mid new : View) → Reach area R seen old mid → Follows at n (mid.may_leave area) (new.may_leave area) → Elsewhere area mid new → ((c d : List ℕ) → R c → Torn at n c d → S d) → ((c : List ℕ) → R c → S c) → Reach area S seen old new
  reach_write R S at n mid new so_far follows beside to same =
      let bounded : Bounded area S seen new = record {
        there = λ c left. let from = follows c left in to from.0 c (so_far.bounded.there from.0 from.1) from.2;
        elsewhere = λ other o differs c left. so_far.bounded.elsewhere other o differs c ((beside.same other o differs).fewer c left);
      } in
      record {
        leaves = goes_on old mid new (Changed area S seen) (weaker old mid (Changed area R seen) (Changed area S seen) so_far.leaves (λ image is. record { there = same (image area) is.there; elsewhere = is.elsewhere })) beside.time (changed S new bounded);
        bounded = bounded;
      }

  pub reach_sync : (R : List ℕ → Type 0) (mid new : View) → Reach area R seen old mid → ((c : List ℕ) → new.may_leave area c → mid.may_leave area c) → Elsewhere area mid new → Reach area R seen old new
  reach_sync R mid new so_far fewer beside =
      let bounded : Bounded area R seen new = record {
        there = λ c left. so_far.bounded.there c (fewer c left);
        elsewhere = λ other o differs c left. so_far.bounded.elsewhere other o differs c ((beside.same other o differs).fewer c left);
      } in
      record { leaves = goes_on old mid new (Changed area R seen) so_far.leaves beside.time (changed R new bounded); bounded = bounded }

-- before the first write
pub reach_start : (area : ℕ) → area < 2 → (old : View) → OnlyNow old → IsAtRest old → Reach area (λ c. c ≡ old.seen area) old.seen old old
reach_start area below old only rest =
    let bounded : Bounded area (λ c. c ≡ old.seen area) old.seen old = record { there = rest area below; elsewhere = λ other o differs. rest other o } in
    record { leaves = started old (Changed area (λ c. c ≡ old.seen area) old.seen) only (changed area below old.seen old (λ c. c ≡ old.seen area) old bounded); bounded = bounded }

-- after the sync that succeeds
pub settles : (area : ℕ) (R : List ℕ → Type 0) (bytes : List ℕ) (old mid new : View) → Reach area R old.seen old mid → mid.seen area ≡ bytes → SameBut area old.seen mid.seen → Synced area mid new → Settled area bytes old new
settles area R bytes old mid new so_far is same synced =
    let elsewhere : SameBut area old.seen new.seen = λ other o differs. (synced.elsewhere.same other o differs).seen ∙ same other o differs in
    record {
      rest = λ place o c left. elim (cases_eq place area) [
        | inl here ↦ subst (λ (p : ℕ). new.may_leave p c → c ≡ new.seen p) (sym here) (λ l. synced.only c l ∙ sym synced.seen) left
        | inr differs ↦ so_far.bounded.elsewhere place o differs c ((synced.elsewhere.same place o differs).fewer c left) ∙ sym (elsewhere place o differs)
      ];
      there = synced.seen ∙ is;
      elsewhere = elsewhere;
    }

-- a call that leaves no more than before
pub fewer_both : (area : ℕ) (old new : View) → ((c : List ℕ) → new.may_leave area c → old.may_leave area c) → Elsewhere area old new → (other : ℕ) → other < 2 → (c : List ℕ) → new.may_leave other c → old.may_leave other c
fewer_both area old new fewer beside other o c left = elim (cases_eq other area) [
  | inl here ↦ subst (λ (p : ℕ). new.may_leave p c → old.may_leave p c) (sym here) (fewer c) left
  | inr differs ↦ (beside.same other o differs).fewer c left
]

-- a sync in a run that leaves no more than what was left
pub quiet_sync : (area : ℕ) (old mid new : View) → LeavesOnly old mid (IsLeft old) → ((c : List ℕ) → new.may_leave area c → mid.may_leave area c) → Elsewhere area mid new → LeavesOnly old new (IsLeft old)
quiet_sync area old mid new so_far fewer beside = goes_on old mid new (IsLeft old) so_far beside.time (λ image left. so_far.now image (λ other o. fewer_both area mid new fewer beside other o (image other) (left other o)))

-- a call that changes nothing in such a run
pub quiet_look : (old mid new : View) → LeavesOnly old mid (IsLeft old) → Untouched mid new → LeavesOnly old new (IsLeft old)
quiet_look old mid new so_far same = goes_on old mid new (IsLeft old) so_far same.time (λ image left. so_far.now image (λ other o. (same.same other).fewer (image other) (left other o)))
