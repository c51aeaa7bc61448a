-- One more moment of a disk in memory.
use Rattle.std.proofs.Common.{◌≡◌, ◌⊎◌, ℕ, zero, suc, ◌≤◌, Bool, true, false, List, [], ◌∷◌, ◌++◌, length, drop, ◌==◌, if◌then◌else◌, refl, sym, ◌∙◌, ap, subst, inl, inr, ⊎_elim, arith, length-append}
use Rattle.std.proofs.lemmas.Bool.Decides.{nat_tests}
use Rattle.mls_slot.specs.Disks.{Areas, View, Elapses, SameArea, Elsewhere, Untouched, Wrote, WroteBadly, Synced, SyncedBadly, over}
use Rattle.mls_slot.specs.Traces.{TornBy, Leaves, LeaveBoth, HadBeen, SameItems, Remembers, told, of_area}
use Rattle.mls_slot.specs.declared.memory.Area.{Area}
use Rattle.mls_slot.specs.declared.memory.Past.{Past}
use Rattle.mls_slot.proofs.Torn.{grown, settled}

-- what holds of both pairs holds in each area
of_both : (P : Area → Area → Type 0) (a b c d : Area) (area : ℕ) → P a c → P b d → P (of_area a b area) (of_area c d area)
of_both P a b c d area ac bd = elim (area == 0) as (λ (v : Bool). P (if v then a else b) (if v then c else d)) [ true ↦ ac | false ↦ bd ]

leaves_same : (a b : Area) (c : List ℕ) → SameItems a b → Leaves a c → Leaves b c
leaves_same a b c same (inl now) = inl (now ∙ same.bytes)
leaves_same a b c same (inr torn) = inr (subst (λ (l : List ℕ). TornBy b.ranges.items l c) same.synced (subst (λ (ws : List (ℕ × ℕ)). TornBy ws a.synced.items c) same.ranges torn))

flipped : (a b : Area) → SameItems a b → SameItems b a
flipped a b same = record { bytes = sym same.bytes; synced = sym same.synced; ranges = sym same.ranges }

both_same : (a b c d : Area) (image : Areas) → SameItems a c → SameItems b d → LeaveBoth a b image → LeaveBoth c d image
both_same a b c d image ac bd left area below = leaves_same _ _ (image area) (of_both SameItems a b c d area ac bd) (left area below)

keeps : (past : List Past) (p : Past) (image : Areas) → HadBeen past image → HadBeen (past ++ p ∷ []) image
keeps [] p image had = absurd had
keeps (q ∷ past) p image (inl here) = inl here
keeps (q ∷ past) p image (inr there) = inr (keeps past p image there)

adds : (past : List Past) (p : Past) (image : Areas) → HadBeen (past ++ p ∷ []) image → HadBeen past image ⊎ LeaveBoth p.zero p.one image
adds [] p image (inl here) = inr here
adds [] p image (inr none) = absurd none
adds (q ∷ past) p image (inl here) = inl (inl here)
adds (q ∷ past) p image (inr there) = ⊎_elim (λ had. inl (inr had)) (λ new. inr new) (adds past p image there)

newest : (past : List Past) (p : Past) (image : Areas) → LeaveBoth p.zero p.one image → HadBeen (past ++ p ∷ []) image
newest [] p image is = inl is
newest (q ∷ past) p image is = inr (newest past p image is)

drop_push : (t : ℕ) (past : List Past) (p : Past) → t ≤ length past → drop t (past ++ p ∷ []) ≡ drop t past ++ p ∷ []
drop_push zero past p le = refl
drop_push (suc t) [] p le = absurd (omega arith)
drop_push (suc t) (q ∷ past) p le = drop_push t past p (omega arith)

-- time goes on by a moment
pub elapses_push : (first second first' second' : Area) (past : List Past) (p : Past) → SameItems p.zero first → SameItems p.one second → Elapses (told first second past) (told first' second' (past ++ p ∷ []))
elapses_push first second first' second' past p same0 same1 = record {
  later = omega (arith, length-append past (p ∷ []));
  nothing_else = λ t image le left. ⊎_elim (λ now. inr now) (λ had. inl (was t image (adds (drop t past) p image (subst (λ (l : List Past). HadBeen l image) (drop_push t past p le) had)))) left;
  keeps = λ t image le left. inr (subst (λ (l : List Past). HadBeen l image) (sym (drop_push t past p le)) (⊎_elim (λ now. newest (drop t past) p image (both_same first second p.zero p.one image (flipped p.zero first same0) (flipped p.one second same1) now)) (keeps (drop t past) p image) left));
}
  where
    was : (t : ℕ) (image : Areas) → HadBeen (drop t past) image ⊎ LeaveBoth p.zero p.one image → LeaveBoth first second image ⊎ HadBeen (drop t past) image
    was t image (inl had) = inr had
    was t image (inr new) = inl (both_same p.zero p.one first second image same0 same1 new)

pub elapses_to : (first second first' second' : Area) (old new : List Past) → Remembers first second old new → Elapses (told first second old) (told first' second' new)
elapses_to first second first' second' old new remembers =
    subst (λ (l : List Past). Elapses (told first second old) (told first' second' l)) (sym remembers.past) (elapses_push first second first' second' old remembers.moment remembers.zero remembers.one)

-- time stands still
pub elapses_same : (first second : Area) (past : List Past) → Elapses (told first second past) (told first second past)
elapses_same first second past = record { later = omega arith; nothing_else = λ t image le left. inl left; keeps = λ t image le left. left }

same_area : (first second first' second' : Area) (old new : List Past) (area : ℕ) → of_area first' second' area ≡ of_area first second area → SameArea area (told first second old) (told first' second' new)
same_area first second first' second' old new area e = record {
  seen = ap (λ (a : Area). a.bytes.items) e;
  fewer = λ c left. subst (λ (a : Area). Leaves a c) e left;
  more = λ c left. subst (λ (a : Area). Leaves a c) (sym e) left;
}

pub untouched : (first second : Area) (past : List Past) → Untouched (told first second past) (told first second past)
untouched first second past = record { same = λ area. same_area first second first second past past area refl; time = elapses_same first second past }

module _ (first second : Area) (old new : List Past) (remembers : Remembers first second old new) where
  pub elsewhere_zero : (first' : Area) → Elsewhere 0 (told first second old) (told first' second new)
  elsewhere_zero first' = record {
    same = λ other below differs. same_area first second first' second old new other (grind (arith, nat_tests));
    time = elapses_to first second first' second old new remembers;
  }

  pub elsewhere_one : (second' : Area) → Elsewhere 1 (told first second old) (told first second' new)
  elsewhere_one second' = record {
    same = λ other below differs. same_area first second first second' old new other (grind (arith, nat_tests));
    time = elapses_to first second first second' old new remembers;
  }

  pub wrote_zero : (area : ℕ) → area ≡ 0 → (first' : Area) (at : ℕ) (bytes : List ℕ) → at ≤ length first.bytes.items → first'.bytes.items ≡ over first.bytes.items at bytes → first'.synced.items ≡ first.synced.items → first'.ranges.items ≡ first.ranges.items ++ (at, length bytes) ∷ [] → Wrote area at bytes (told first second old) (told first' second new)
  wrote_zero area at_zero first' at bytes le is synced ranges = subst (λ (a : ℕ). Wrote a at bytes (told first second old) (told first' second new)) (sym at_zero) (record { seen = is; torn = grown first first' at bytes le is synced ranges; elsewhere = elsewhere_zero first' })

  pub wrote_one : (area : ℕ) → area ≡ 1 → (second' : Area) (at : ℕ) (bytes : List ℕ) → at ≤ length second.bytes.items → second'.bytes.items ≡ over second.bytes.items at bytes → second'.synced.items ≡ second.synced.items → second'.ranges.items ≡ second.ranges.items ++ (at, length bytes) ∷ [] → Wrote area at bytes (told first second old) (told first second' new)
  wrote_one area at_one second' at bytes le is synced ranges = subst (λ (a : ℕ). Wrote a at bytes (told first second old) (told first second' new)) (sym at_one) (record { seen = is; torn = grown second second' at bytes le is synced ranges; elsewhere = elsewhere_one second' })

  pub synced_zero : (area : ℕ) → area ≡ 0 → (first' : Area) → first'.bytes.items ≡ first.bytes.items → first'.synced.items ≡ first.bytes.items → first'.ranges.items ≡ [] → Synced area (told first second old) (told first' second new)
  synced_zero area at_zero first' is synced ranges = subst (λ (a : ℕ). Synced a (told first second old) (told first' second new)) (sym at_zero) (record { seen = is; only = settled first first' is synced ranges; fewer = λ c left. inl (settled first first' is synced ranges c left); elsewhere = elsewhere_zero first' })

  pub synced_one : (area : ℕ) → area ≡ 1 → (second' : Area) → second'.bytes.items ≡ second.bytes.items → second'.synced.items ≡ second.bytes.items → second'.ranges.items ≡ [] → Synced area (told first second old) (told first second' new)
  synced_one area at_one second' is synced ranges = subst (λ (a : ℕ). Synced a (told first second old) (told first second' new)) (sym at_one) (record { seen = is; only = settled second second' is synced ranges; fewer = λ c left. inl (settled second second' is synced ranges c left); elsewhere = elsewhere_one second' })

-- a write that succeeded as one that failed
pub as_badly : (area at : ℕ) (bytes : List ℕ) (old new : View) → Wrote area at bytes old new → WroteBadly area at (length bytes) old new
as_badly area at bytes old new wrote = record { torn = wrote.torn; elsewhere = wrote.elsewhere }

-- a sync that failed and did nothing
pub no_sync : (area : ℕ) (a b : Area) (past : List Past) → SyncedBadly area (told a b past) (told a b past)
no_sync area a b past = record { fewer = λ c left. left; elsewhere = record { same = λ other below differs. same_area a b a b past past other refl; time = elapses_same a b past } }
