-- What torn writes leave.
use Rattle.std.proofs.Common.{◌≡◌, ℕ, ◌+◌, ◌-◌, ◌<◌, ◌≤◌, max, List, [], ◌∷◌, ◌++◌, length, take, drop, get_or, refl, sym, ◌∙◌, ap, subst, inl, inr, arith, append_assoc, length-append, length-take, length-drop}
use Rattle.std.proofs.lemmas.List.{take_at, drop_at, drop-drop, take_more}
use Rattle.mls_slot.specs.Disks.{Torn, Follows, over}
use Rattle.mls_slot.specs.Traces.{TornBy, Leaves}
use Rattle.mls_slot.specs.declared.memory.Area.{Area}

-- the last of several torn writes
pub last_torn : (ws : List (ℕ × ℕ)) (w : ℕ × ℕ) (old new : List ℕ) → TornBy (ws ++ w ∷ []) old new → (mid : List ℕ) × TornBy ws old mid × Torn w.0 w.1 mid new
last_torn [] w old new torn = (old, refl, subst (λ m. Torn w.0 w.1 old m) (sym torn.2) torn.1)
last_torn (v ∷ ws) w old new torn =
    let rest = last_torn ws w torn.0 new torn.2 in
    (rest.0, (torn.0, torn.1, rest.1), rest.2)

pub length-over : (old : List ℕ) (at : ℕ) (bytes : List ℕ) → at ≤ length old → length (over old at bytes) ≡ max (length old) (at + length bytes)
length-over old at bytes le = omega (arith, length-append (take at old ++ bytes) (drop (at + length bytes) old), length-append (take at old) bytes, length-take at old, length-drop (at + length bytes) old)

-- a write that a crash doesn't tear is among its torn ones
pub torn_over : (old : List ℕ) (at : ℕ) (bytes : List ℕ) → at ≤ length old → Torn at (length bytes) old (over old at bytes)
torn_over old at bytes le =
    let front : length (take at old) ≡ at = omega (arith, length-take at old) in
    let both : length (take at old ++ bytes) ≡ at + length bytes = omega (arith, length-append (take at old) bytes, length-take at old) in
    record {
      before = ap (λ (l : List ℕ). take at l) (append_assoc (take at old) bytes (drop (at + length bytes) old)) ∙ take_at (take at old) (bytes ++ drop (at + length bytes) old) at front;
      after = drop_at (take at old ++ bytes) (drop (at + length bytes) old) (at + length bytes) both;
      no_shorter = omega (arith, length-over old at bytes le);
      no_longer = omega (arith, length-over old at bytes le);
    }

-- what a crash may leave of an area after one write more
pub grown : (old new : Area) (at : ℕ) (bytes : List ℕ) → at ≤ length old.bytes.items → new.bytes.items ≡ over old.bytes.items at bytes → new.synced.items ≡ old.synced.items → new.ranges.items ≡ old.ranges.items ++ (at, length bytes) ∷ [] → Follows at (length bytes) (Leaves old) (Leaves new)
grown old new at bytes le is synced ranges c (inl now) = (old.bytes.items, inl refl, subst (λ l. Torn at (length bytes) old.bytes.items l) (sym (now ∙ is)) (torn_over old.bytes.items at bytes le))
grown old new at bytes le is synced ranges c (inr torn) =
    let same = subst (λ (l : List ℕ). TornBy (old.ranges.items ++ (at, length bytes) ∷ []) l c) synced (subst (λ (ws : List (ℕ × ℕ)). TornBy ws new.synced.items c) ranges torn) in
    let last = last_torn old.ranges.items (at, length bytes) old.synced.items c same in
    (last.0, inr last.1, last.2)

-- after a sync a crash leaves what a read gives
pub settled : (old new : Area) → new.bytes.items ≡ old.bytes.items → new.synced.items ≡ old.bytes.items → new.ranges.items ≡ [] → (c : List ℕ) → Leaves new c → c ≡ old.bytes.items
settled old new is synced ranges c (inl now) = now ∙ is
settled old new is synced ranges c (inr torn) = subst (λ (l : List ℕ). c ≡ l) synced (subst (λ (ws : List (ℕ × ℕ)). TornBy ws new.synced.items c) ranges torn)

-- a write that a crash cut to some of its bytes, or whose bytes it changed
pub torn_within : (old : List ℕ) (at n : ℕ) (bytes new : List ℕ) → at ≤ length old → length bytes ≤ n → new ≡ over old at bytes → Torn at n old new
torn_within old at n bytes new le few is =
    let whole = torn_over old at bytes le in
    let size : length new ≡ max (length old) (at + length bytes) = ap length is ∙ length-over old at bytes le in
    let far : at + n ≡ (at + length bytes) + (n - length bytes) = omega arith in
    record {
      before = ap (λ (l : List ℕ). take at l) is ∙ whole.before;
      after = ap (λ (k : ℕ). drop k new) far ∙ sym (drop-drop (n - length bytes) (at + length bytes) new) ∙ ap (λ (l : List ℕ). drop (n - length bytes) (drop (at + length bytes) l)) is ∙ ap (λ (l : List ℕ). drop (n - length bytes) l) whole.after ∙ drop-drop (n - length bytes) (at + length bytes) old ∙ ap (λ (k : ℕ). drop k old) (sym far);
      no_shorter = omega arith;
      no_longer = omega arith;
    }

pub torn_same : (at n : ℕ) (old new : List ℕ) → new ≡ old → Torn at n old new
torn_same at n old new is = record { before = ap (λ (l : List ℕ). take at l) is; after = ap (λ (l : List ℕ). drop (at + n) l) is; no_shorter = omega (arith, ap length is); no_longer = omega (arith, ap length is) }

one_more : (ws : List (ℕ × ℕ)) (w : ℕ × ℕ) (old mid new : List ℕ) → TornBy ws old mid → Torn w.0 w.1 mid new → TornBy (ws ++ w ∷ []) old new
one_more [] w old mid new is torn = (new, subst (λ l. Torn w.0 w.1 l new) is torn, refl)
one_more (v ∷ ws) w old mid new before torn = (before.0, before.1, one_more ws w before.0 mid new before.2 torn)

pub next_torn : (ws : List (ℕ × ℕ)) (i : ℕ) (w : ℕ × ℕ) (old mid new : List ℕ) → i < length ws → w ≡ get_or ws i (0, 0) → TornBy (take i ws) old mid → Torn w.0 w.1 mid new → TornBy (take (i + 1) ws) old new
next_torn ws i w old mid new below is before torn =
    subst (λ (l : List (ℕ × ℕ)). TornBy l old new) (sym (take_more ws i (0, 0) below ∙ ap (λ (v : ℕ × ℕ). take i ws ++ v ∷ []) (sym is))) (one_more (take i ws) w old mid new before torn)
