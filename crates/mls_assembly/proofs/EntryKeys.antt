-- The entries of the pending ones: each is one that a look-up finds, and they are few.
use Rattle.std.proofs.Common.{◌≡◌, ℕ, ◌+◌, ◌*◌, ◌<◌, ◌≤◌, true, false, cond, List, [], ◌∷◌, length, Some, None, ◌⊎◌, inl, inr, refl, ap, sym, ◌∙◌, ⊎_elim, arith}
use Rattle.std.specs.List.{AllByRecursion}
use Rattle.std.specs.List.Sorted.{IsStrictlySortedBy}
use Rattle.std.specs.Ordering.{nat_cmp, ordering_then, is_eq}
use Rattle.std.specs.declared.cmp.Ordering.{Ordering}
use Rattle.std.specs.declared.cmp.Ordering.TheVariants.{Less, Equal, Greater}
use Rattle.std.specs.Cmp.{nat_cmp_is}
use Rattle.std.specs.Map.{lookup, keys_of}
use Rattle.std.specs.BTreeMap.{is_at}
use Rattle.std.proofs.lemmas.Map.Lookups.{exact_unsigned}
use Rattle.std.proofs.lemmas.Bool.{cases_Bool, cases_lt, cases_eq}
use Rattle.std.proofs.Math.Nat.{mul-le-mul, mul-le-mul_right}
use Rattle.mls_model.specs.Studies.{AreSizes, planes}
use Rattle.mls_assembly.specs.declared.group_step.GroupStep.{GroupStep}
use Rattle.mls_assembly.specs.KeyShares.{KeyShares}
use Rattle.mls_assembly.specs.EntryLists.{AllEntries}
use Rattle.mls_assembly.specs.Held.{Held, key_cmp, key_at, step_at, IsPending, ArePending, AreRising}
use Rattle.mls_assembly.proofs.MapKeys.{same_place}

pub all_entries : (P Q : GroupStep → KeyShares → Type 0) → ((k : GroupStep) (o : KeyShares) → P k o → Q k o) → (es : List (GroupStep × KeyShares)) → AllEntries P es → AllEntries Q es
all_entries P Q implies [] each = tt
all_entries P Q implies (e ∷ es) each = (implies e.0 e.1 each.0, all_entries P Q implies es each.1)

pub own_place : (g : GroupStep) → is_at (key_cmp g) g ≡ true
own_place g =
    let steps : nat_cmp g.step g.step ≡ Equal = sym (nat_cmp_is g.step g.step Equal refl) in
    let groups : nat_cmp g.group g.group ≡ Equal = sym (nat_cmp_is g.group g.group Equal refl) in
    ap (λ o. is_eq (ordering_then o (nat_cmp g.group g.group))) steps ∙ ap is_eq groups

none_above : (g : GroupStep) (es : List (GroupStep × KeyShares)) → AllByRecursion (λ k. key_cmp g k ≡ Less) (keys_of es) → lookup (is_at (key_cmp g)) es ≡ None
none_above g [] above = refl
none_above g (e ∷ es) above = ap (λ o. cond (is_eq o) (Some e.1) (lookup (is_at (key_cmp g)) es)) above.0 ∙ none_above g es above.1

pub each_entry : (P : GroupStep → KeyShares → Type 0) (es : List (GroupStep × KeyShares)) → IsStrictlySortedBy key_cmp (keys_of es) → ((k : GroupStep) (o : KeyShares) → lookup (is_at (key_cmp k)) es ≡ Some o → P k o) → AllEntries P es
unfolding IsStrictlySortedBy
each_entry P [] sorted found = tt
each_entry P (e ∷ es) sorted found = (
  found e.0 e.1 (ap (λ b. cond b (Some e.1) (lookup (is_at (key_cmp e.0)) es)) (own_place e.0)),
  each_entry P es sorted.1 (λ k o at. ⊎_elim
      (λ (t : is_at (key_cmp k) e.0 ≡ true).
      let same : e.0 ≡ k = ap step_at (same_place k e.0 t) in
      absurd (clash o (sym (none_above e.0 es sorted.0) ∙ ap (λ (g : GroupStep). lookup (is_at (key_cmp g)) es) same ∙ at)))
      (λ (f : is_at (key_cmp k) e.0 ≡ false). found k o (ap (λ b. cond b (Some e.1) (lookup (is_at (key_cmp k)) es)) f ∙ at))
      (cases_Bool (is_at (key_cmp k) e.0))),
)
  where
    clash : (o : KeyShares) → None ≡ Some o → ⊥
    clash o e = cc

pub each_pending : (held : Held) → ArePending held → AreRising held → AllEntries (λ k o. IsPending held.sizes held.rank (key_at k) o) held.entries
each_pending held are rising = each_entry (λ k o. IsPending held.sizes held.rank (key_at k) o) held.entries rising (λ k o at. are.each (key_at k) o at)

-- a key's number among those of a study

pub less_of : (a b : ℕ) → nat_cmp a b ≡ Less → a < b
less_of a b is = ⊎_elim (λ (less : a < b). less)
    (λ (more : b ≤ a). ⊎_elim
    (λ (same : a ≡ b). absurd (clash_equal (nat_cmp_is a b Equal same ∙ is)))
    (λ (other : a ≡ b → ⊥). absurd (clash_greater (nat_cmp_is a b Greater (past a b more other) ∙ is)))
    (cases_eq a b))
    (cases_lt a b)
  where
    clash_equal : Equal ≡ Less → ⊥
    clash_equal e = cc

    clash_greater : Greater ≡ Less → ⊥
    clash_greater e = cc

    past : (a b : ℕ) → b ≤ a → (a ≡ b → ⊥) → b < a
    past a b more other = ⊎_elim (λ (less : b < a). less) (λ (most : a ≤ b). absurd (other (let same : a ≡ b = omega arith in same))) (cases_lt b a)

abbrev number : ℕ → GroupStep → ℕ
number groups k = k.step * groups + k.group

pub before : (x y : Ordering) → ordering_then x y ≡ Less → (x ≡ Less) ⊎ ((x ≡ Equal) × (y ≡ Less))
before Less y e = inl refl
before Equal y e = inr (refl, e)
before Greater y e = absurd cc

pub equal_of : (a b : ℕ) → nat_cmp a b ≡ Equal → a ≡ b
equal_of a b is = exact_unsigned a b is

number_less : (groups : ℕ) (g h : GroupStep) → g.group < groups → key_cmp g h ≡ Less → number groups g + 1 ≤ number groups h
number_less groups g h within less = by_steps (before (nat_cmp g.step h.step) (nat_cmp g.group h.group) less)
  where
    one_more : (a b : ℕ) → (a + 1) * b ≡ a * b + b
    one_more a b = omega arith

    by_steps : ((nat_cmp g.step h.step ≡ Less) ⊎ ((nat_cmp g.step h.step ≡ Equal) × (nat_cmp g.group h.group ≡ Less))) → number groups g + 1 ≤ number groups h
    by_steps (inl steps) =
        let step : g.step < h.step = less_of g.step h.step steps in
        let grown : (g.step + 1) * groups ≤ h.step * groups = mul-le-mul_right groups (omega arith) in
        let split : (g.step + 1) * groups ≡ g.step * groups + groups = one_more g.step groups in
        omega arith
    by_steps (inr both) =
        let step : g.step ≡ h.step = equal_of g.step h.step both.0 in
        let same : g.step * groups ≡ h.step * groups = ap (λ n. n * groups) step in
        let group : g.group < h.group = less_of g.group h.group both.1 in
        omega arith

bounded : (groups all least : ℕ) (es : List (GroupStep × KeyShares)) → IsStrictlySortedBy key_cmp (keys_of es) → AllEntries (λ k o. (k.group < groups) × (number groups k < all)) es → AllEntries (λ k o. least ≤ number groups k) es → least ≤ all → least + length es ≤ all
unfolding IsStrictlySortedBy
bounded groups all least [] sorted within above few = omega arith
bounded groups all least (e ∷ es) sorted within above few =
    let here = within.0.1 in
    let from = above.0 in
    let rest = bounded groups all (number groups e.0 + 1) es sorted.1 within.1 (later es within.1 sorted.0) (omega arith) in
    omega arith
  where
    later : (es : List (GroupStep × KeyShares)) → AllEntries (λ k o. (k.group < groups) × (number groups k < all)) es → AllByRecursion (λ k. key_cmp e.0 k ≡ Less) (keys_of es) → AllEntries (λ k o. number groups e.0 + 1 ≤ number groups k) es
    later [] within less = tt
    later (f ∷ es) inside less = (number_less groups e.0 f.0 within.0.0 less.0, later es inside.1 less.1)

pub few_entries : (held : Held) → AreSizes held.sizes → ArePending held → AreRising held → length held.entries ≤ held.sizes.groups * planes held.sizes
few_entries held sizes are rising =
    let s = held.sizes in
    let each = each_pending held are rising in
    let all : 0 + length held.entries ≤ held.sizes.groups * planes held.sizes = bounded held.sizes.groups (held.sizes.groups * planes held.sizes) 0 held.entries rising
    (all_entries (λ k o. IsPending held.sizes held.rank (key_at k) o) (λ k o. (k.group < held.sizes.groups) × (number held.sizes.groups k < held.sizes.groups * planes held.sizes)) (λ k o is. (is.group, in_all held.sizes.groups (planes held.sizes) k.step k.group is.group is.plane)) held.entries each)
    (all_entries (λ k o. IsPending held.sizes held.rank (key_at k) o) (λ k o. 0 ≤ number held.sizes.groups k) (λ k o is. omega arith) held.entries each)
    (omega arith) in
    omega arith
  where
    one_more : (a b : ℕ) → (a + 1) * b ≡ a * b + b
    one_more a b = omega arith

    in_all : (groups count step group : ℕ) → group < groups → step < count → step * groups + group < groups * count
    in_all groups count step group g p =
        let grown : (step + 1) * groups ≤ count * groups = mul-le-mul_right groups (omega arith) in
        let split : (step + 1) * groups ≡ step * groups + groups = one_more step groups in
        let turned : count * groups ≡ groups * count = omega arith in
        omega arith

pub few_saved : (held : Held) → AreSizes held.sizes → ArePending held → AreRising held → length held.entries < 4294967296
few_saved held sizes are rising =
    let groups : held.sizes.groups ≤ 65535 = sizes.groups in
    let all : planes held.sizes ≤ 4096 * 4 = mul-le-mul sizes.steps sizes.fields in
    let most : held.sizes.groups * planes held.sizes ≤ 65535 * (4096 * 4) = mul-le-mul groups all in
    let few = few_entries held sizes are rising in
    omega arith

-- each key has a slot for each client, and there are few
pub slots_few : (held : Held) → AreSizes held.sizes → ArePending held → AreRising held → AllEntries (λ k o. length o.shares ≤ 64) held.entries
slots_few held sizes are rising =
    let clients : held.sizes.clients ≤ 64 = sizes.clients in
    all_entries (λ k o. IsPending held.sizes held.rank (key_at k) o) (λ k o. length o.shares ≤ 64) (λ k o is. omega (arith, is.shares.slots)) held.entries (each_pending held are rising)
