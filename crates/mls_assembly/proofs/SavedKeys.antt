-- The pending keys as a checkpoint has them: they are valid, and no other pending pieces are spelled so.
use Rattle.std.proofs.Common.{◌≡◌, ℕ, zero, suc, ◌+◌, ◌*◌, ◌<◌, ◌≤◌, true, false, cond, List, [], ◌∷◌, length, map, get_or, Option, Some, None, IsSome, ◌⊎◌, inl, inr, refl, ap, sym, ◌∙◌, subst, ⊎_elim, arith, length-append}
use Rattle.std.specs.Prelude.{count_by, slice_index, is_some}
use Rattle.std.specs.List.{AllByRecursion}
use Rattle.std.specs.List.Sorted.{IsStrictlySortedBy}
use Rattle.std.specs.Ordering.{nat_cmp}
use Rattle.std.specs.declared.cmp.Ordering.TheVariants.{Less, Equal}
use Rattle.std.specs.Map.{lookup, keys_of}
use Rattle.std.specs.BTreeMap.{is_at}
use Rattle.std.proofs.lemmas.Bool.{cases_Bool, cases_lt, lt-ltb, eq-eqb, and_from, or_left, or_right}
use Rattle.std.proofs.lemmas.List.{length-map}
use Rattle.mls_model.specs.Numbers.{below}
use Rattle.mls_model.specs.Studies.{Sizes, AreSizes}
use Rattle.mls_model.specs.Blocks.{overlaps}
use Rattle.mls_model.specs.Completion.{Key}
use Rattle.mls_ckpt.specs.Reading.{AllFrom}
use Rattle.mls_ckpt.specs.States.{PendingShare, PendingKey, after_one, client_after, key_after, first_key, is_from, is_marked, overlapping, IsPendingShare, IsPendingKey}
use Rattle.mls_ckpt.specs.States as states
use Rattle.mls_ckpt.proofs.Passing.{of_le}
use Rattle.mls_assembly.specs.declared.group_step.GroupStep.{GroupStep}
use Rattle.mls_assembly.specs.Shares.{Share, IsShare, has_all}
use Rattle.mls_assembly.specs.KeyShares.{KeyShares, share_in, AreShares}
use Rattle.mls_assembly.specs.Held.{Held, key_cmp, key_at, step_at, kept_of, share_at, IsPending, ArePending, AreRising}
use Rattle.mls_assembly.specs.EntryLists.{AllEntries}
use Rattle.mls_assembly.specs.Saved.{share_saved, slot_shares, shares_from, key_saved, keys_saved}
use Rattle.mls_assembly.proofs.MapKeys.{same_place}
use Rattle.mls_assembly.proofs.EntryKeys.{all_entries, each_entry, each_pending, few_saved, before, less_of, equal_of}
use Rattle.mls_assembly.proofs.Counted.{count_shift, fewer_below, enough_below}

-- the shares in slots

slot_counted : (first : ℕ) (slot : Option Share) → length (slot_shares first slot) ≡ cond (is_some slot) 1 0
slot_counted first None = refl
slot_counted first (Some share) = refl

pub slots_counted : (first : ℕ) (slots : List (Option Share)) → length (shares_from first slots) ≡ count_by (λ i. is_some (get_or slots i None)) (below (length slots))
slots_counted first [] = refl
slots_counted first (slot ∷ slots) =
    let own : length (slot_shares first slot) ≡ cond (is_some slot) 1 0 = slot_counted first slot in
    let rest : length (shares_from (first + 1) slots) ≡ count_by (λ i. is_some (get_or slots i None)) (below (length slots)) = slots_counted (first + 1) slots in
    let shift : count_by (λ i. is_some (get_or (slot ∷ slots) i None)) (below (suc (length slots))) ≡ cond (is_some slot) 1 0 + count_by (λ i. is_some (get_or slots i None)) (below (length slots)) = count_shift (λ i. is_some (get_or (slot ∷ slots) i None)) (length slots) in
    let sum : length (slot_shares first slot) + length (shares_from (first + 1) slots) ≡ cond (is_some slot) 1 0 + count_by (λ i. is_some (get_or slots i None)) (below (length slots)) = omega arith in
    length-append (slot_shares first slot) (shares_from (first + 1) slots) ∙ sum ∙ sym shift

abbrev AreSlots : Sizes → ℕ → ℕ → List (Option Share) → Type 0
AreSlots s rank first slots = (i : ℕ) (share : Share) → get_or slots i None ≡ Some share → IsShare s rank (first + i) share

next_slots : (s : Sizes) (rank first : ℕ) (slot : Option Share) (slots : List (Option Share)) → AreSlots s rank first (slot ∷ slots) → AreSlots s rank (first + 1) slots
next_slots s rank first slot slots are i share at = subst (λ (n : ℕ). IsShare s rank n share) (let same : first + suc i ≡ first + 1 + i = omega arith in same) (are (suc i) share at)

own_slot : (s : Sizes) (rank first : ℕ) (share : Share) (slots : List (Option Share)) → AreSlots s rank first (Some share ∷ slots) → IsShare s rank first share
own_slot s rank first share slots are = subst (λ (n : ℕ). IsShare s rank n share) (let same : first + 0 ≡ first = omega arith in same) (are 0 share refl)

all_slots : (s : Sizes) (rank : ℕ) (o : KeyShares) → AreShares s rank o → AreSlots s rank 0 o.shares
all_slots s rank o are i share at = subst (λ (n : ℕ). IsShare s rank n share) (let same : i ≡ 0 + i = omega arith in same) (are.shares i share at)

fit_samples : (xs : List ℕ) (start : ℕ) → ((i : ℕ) → slice_index xs i < 65536) → AllFrom (λ i x. x ≤ 65535) after_one start xs
fit_samples [] start each = tt
fit_samples (x ∷ xs) start each = ((let small : x < 65536 = each 0 in let most : x ≤ 65535 = omega arith in most), fit_samples xs (start + 1) (λ i. each (suc i)))

shares_fit : (s : Sizes) (rank first least : ℕ) (slots : List (Option Share)) → least ≤ first → first + length slots ≤ s.clients → AreSlots s rank first slots → AllFrom (IsPendingShare s rank) client_after least (shares_from first slots)
shares_fit s rank first least [] rises within are = tt
shares_fit s rank first least (None ∷ slots) rises within are =
    let room : first + suc (length slots) ≤ s.clients = within in
    shares_fit s rank (first + 1) least slots (omega arith) (omega arith) (next_slots s rank first None slots are)
shares_fit s rank first least (Some share ∷ slots) rises within are =
    let room : first + suc (length slots) ≤ s.clients = within in
    let own : IsShare s rank first share = own_slot s rank first share slots are in (
      record {
        rises = rises;
        client = omega arith;
        overlaps = own.some;
        size = own.size ∙ ap (λ n. (s.parameters + 2) * n) own.count;
        samples = fit_samples share.samples 0 own.fits;
      },
      shares_fit s rank (first + 1) (first + 1) slots (omega arith) (omega arith) (next_slots s rank first (Some share) slots are),
    )

some_shares : (first : ℕ) (slots : List (Option Share)) (i : ℕ) → IsSome (get_or slots i None) → 1 ≤ length (shares_from first slots)
some_shares first [] i there = absurd cc
some_shares first (None ∷ slots) zero there = absurd cc
some_shares first (None ∷ slots) (suc i) there = some_shares (first + 1) slots i there
some_shares first (Some share ∷ slots) i there =
    let size : length (shares_from first (Some share ∷ slots)) ≡ suc (length (shares_from (first + 1) slots)) = refl in
    omega arith

found_share : (slot : Option Share) → is_some slot ≡ true → (share : Share) × (slot ≡ Some share)
found_share None there = absurd cc
found_share (Some share) there = (share, refl)

shares_counted : (s : Sizes) (rank : ℕ) (o : KeyShares) → AreShares s rank o → length (shares_from 0 o.shares) ≡ count_by (λ i. is_some (share_in o i)) (below s.clients)
shares_counted s rank o are = slots_counted 0 o.shares ∙ ap (λ n. count_by (λ i. is_some (share_in o i)) (below n)) are.slots

-- a share is missing exactly where there are fewer than clients that overlap
fewer_shares : (s : Sizes) (rank : ℕ) (o : KeyShares) → AreShares s rank o → has_all s rank (share_in o) ≡ false → length (shares_from 0 o.shares) < overlapping s rank
unfolding overlapping
fewer_shares s rank o are missing =
    subst (λ n. n < count_by (overlaps s rank) (below s.clients)) (sym (shares_counted s rank o are))
    (fewer_below (overlaps s rank) (λ i. is_some (share_in o i)) s.clients
    (λ i within there. let found = found_share (share_in o i) there in (are.shares i found.0 found.1).some)
    missing)

missing_share : (s : Sizes) (rank : ℕ) (o : KeyShares) → AreShares s rank o → length (shares_from 0 o.shares) < overlapping s rank → has_all s rank (share_in o) ≡ false
unfolding overlapping
missing_share s rank o are fewer = ⊎_elim
    (λ (all : has_all s rank (share_in o) ≡ true).
    let enough : count_by (overlaps s rank) (below s.clients) ≤ count_by (λ i. is_some (share_in o i)) (below s.clients) = enough_below (overlaps s rank) (λ i. is_some (share_in o i)) s.clients all in
    let counted : length (shares_from 0 o.shares) ≡ count_by (λ i. is_some (share_in o i)) (below s.clients) = shares_counted s rank o are in
    let less : length (shares_from 0 o.shares) < count_by (overlaps s rank) (below s.clients) = fewer in
    absurd (omega arith))
    (λ (some : has_all s rank (share_in o) ≡ false). some)
    (cases_Bool (has_all s rank (share_in o)))

-- keys

record IsWaitingKey (s : Sizes) (rank : ℕ) (marks : List (List ℕ)) (key : GroupStep) (o : KeyShares) : Type 0 where
  pub pending : IsPending s rank (key_at key) o
  pub unmarked : is_marked marks (key_at key) ≡ false
  pub missing : has_all s rank (share_in o) ≡ false

key_fits : (s : Sizes) (rank : ℕ) (marks : List (List ℕ)) (least : Key) (key : GroupStep) (o : KeyShares) → is_from least (key_at key) ≡ true → IsWaitingKey s rank marks key o → IsPendingKey s rank marks least (key_saved (key, o))
key_fits s rank marks least key o from waits =
    let is = waits.pending in
    record {
      group = is.group;
      plane = is.plane;
      rises = from;
      unmarked = waits.unmarked;
      life = is.life;
      some = some_shares 0 o.shares is.some.0 is.some.2;
      fewer = fewer_shares s rank o is.shares waits.missing;
      shares = shares_fit s rank 0 0 o.shares (omega arith) (let slots : length o.shares ≡ s.clients = is.shares.slots in omega arith) (all_slots s rank o is.shares);
    }

later_from : (e k : GroupStep) → key_cmp e k ≡ Less → is_from (record { group = e.group + 1; plane = e.step }) (key_at k) ≡ true
later_from e k less = by_steps (before (nat_cmp e.step k.step) (nat_cmp e.group k.group) less)
  where
    by_steps : ((nat_cmp e.step k.step ≡ Less) ⊎ ((nat_cmp e.step k.step ≡ Equal) × (nat_cmp e.group k.group ≡ Less))) → is_from (record { group = e.group + 1; plane = e.step }) (key_at k) ≡ true
    by_steps (inl steps) = or_left _ _ (lt-ltb e.step k.step (less_of e.step k.step steps))
    by_steps (inr both) =
        let group : e.group < k.group = less_of e.group k.group both.1 in
        or_right _ _ (and_from _ _ (eq-eqb e.step k.step (equal_of e.step k.step both.0)) (of_le (e.group + 1) k.group (omega arith)))

later_all : (e : GroupStep) (es : List (GroupStep × KeyShares)) → AllByRecursion (λ k. key_cmp e k ≡ Less) (keys_of es) → AllEntries (λ k o. is_from (record { group = e.group + 1; plane = e.step }) (key_at k) ≡ true) es
later_all e [] less = tt
later_all e (f ∷ es) less = (later_from e f.0 less.0, later_all e es less.1)

keys_fit : (s : Sizes) (rank : ℕ) (marks : List (List ℕ)) (least : Key) (es : List (GroupStep × KeyShares)) → IsStrictlySortedBy key_cmp (keys_of es) → AllEntries (λ k o. IsWaitingKey s rank marks k o) es → AllEntries (λ k o. is_from least (key_at k) ≡ true) es
    → AllFrom (IsPendingKey s rank marks) key_after least (map key_saved es)
unfolding IsStrictlySortedBy
keys_fit s rank marks least [] sorted each from = tt
keys_fit s rank marks least (e ∷ es) sorted each from = (
  key_fits s rank marks least e.0 e.1 from.0 each.0,
  keys_fit s rank marks (record { group = e.0.group + 1; plane = e.0.step }) es sorted.1 each.1 (later_all e.0 es sorted.0),
)

from_first : (k : GroupStep) → is_from first_key (key_at k) ≡ true
from_first k = ⊎_elim
    (λ (less : 0 < k.step). or_left _ _ (lt-ltb 0 k.step less))
    (λ (none : k.step ≤ 0). or_right _ _ (and_from _ _ (eq-eqb 0 k.step (let same : 0 ≡ k.step = omega arith in same)) (of_le 0 k.group (omega arith))))
    (cases_lt 0 k.step)

all_from_first : (es : List (GroupStep × KeyShares)) → AllEntries (λ k o. is_from first_key (key_at k) ≡ true) es
all_from_first [] = tt
all_from_first (e ∷ es) = (from_first e.0, all_from_first es)

some_of : (kept : Option KeyShares) (o : KeyShares) → kept ≡ Some o → IsSome kept
some_of None o e = absurd cc
some_of (Some x) o e = refl

-- each pending key is not marked, and a share of it is missing
abbrev pub AreUnmarked : List (List ℕ) → Held → Type 0
AreUnmarked marks held = (key : Key) → IsSome (kept_of held key) → (is_marked marks key ≡ false) × (has_all held.sizes held.rank (share_at held key) ≡ false)

-- so they are valid in a checkpoint of such marks
pub valid_saved : (held : Held) (marks : List (List ℕ)) → AreSizes held.sizes → ArePending held → AreRising held → AreUnmarked marks held → states.ArePending held.sizes held.rank marks (keys_saved held)
valid_saved held marks sizes are rising waits =
    let size : length (map key_saved held.entries) ≡ length held.entries = length-map held.entries key_saved in
    let few : length held.entries < 4294967296 = few_saved held sizes are rising in
    record {
      few = omega arith;
      keys = keys_fit held.sizes held.rank marks first_key held.entries rising (each_entry (λ k o. IsWaitingKey held.sizes held.rank marks k o) held.entries rising each) (all_from_first held.entries);
    }
  where
    each : (k : GroupStep) (o : KeyShares) → lookup (is_at (key_cmp k)) held.entries ≡ Some o → IsWaitingKey held.sizes held.rank marks k o
    each k o at =
        let here = waits (key_at k) (some_of (kept_of held (key_at k)) o at) in
        record {
          pending = are.each (key_at k) o at;
          unmarked = here.0;
          missing = sym (ap (λ (x : Option KeyShares). has_all held.sizes held.rank (λ client. elim x [ None ↦ None | Some y ↦ share_in y client ])) at) ∙ here.1;
        }

-- and where they are valid, it is so of each

entries_of : (s : Sizes) (rank : ℕ) (marks : List (List ℕ)) (least : Key) (es : List (GroupStep × KeyShares)) → AllFrom (IsPendingKey s rank marks) key_after least (map key_saved es)
    → AllEntries (λ k o. (is_marked marks (key_at k) ≡ false) × (length (shares_from 0 o.shares) < overlapping s rank)) es
entries_of s rank marks least [] each = tt
entries_of s rank marks least (e ∷ es) each = ((each.0.unmarked, each.0.fewer), entries_of s rank marks (key_after least (key_saved e)) es each.1)

some_same : (a b : KeyShares) → Some a ≡ Some b → a ≡ b
some_same a b e = cc

found_entry : (P : GroupStep → KeyShares → Type 0) (es : List (GroupStep × KeyShares)) (g : GroupStep) (o : KeyShares) → AllEntries P es → lookup (is_at (key_cmp g)) es ≡ Some o → P g o
found_entry P [] g o each at = absurd cc
found_entry P (e ∷ es) g o each at = ⊎_elim
    (λ (t : is_at (key_cmp g) e.0 ≡ true).
    let same : e.0 ≡ g = ap step_at (same_place g e.0 t) in
    let own : e.1 ≡ o = some_same e.1 o (sym (ap (λ b. cond b (Some e.1) (lookup (is_at (key_cmp g)) es)) t) ∙ at) in
    subst (λ (k : GroupStep). P k o) same (subst (λ (x : KeyShares). P e.0 x) own each.0))
    (λ (f : is_at (key_cmp g) e.0 ≡ false). found_entry P es g o each.1 (sym (ap (λ b. cond b (Some e.1) (lookup (is_at (key_cmp g)) es)) f) ∙ at))
    (cases_Bool (is_at (key_cmp g) e.0))

value_of : (kept : Option KeyShares) → IsSome kept → (o : KeyShares) × (kept ≡ Some o)
value_of None there = absurd cc
value_of (Some o) there = (o, refl)

pub saved_unmarked : (held : Held) (marks : List (List ℕ)) → ArePending held → states.ArePending held.sizes held.rank marks (keys_saved held) → AreUnmarked marks held
saved_unmarked held marks are valid key there =
    let found = value_of (kept_of held key) there in
    let entry : (is_marked marks key ≡ false) × (length (shares_from 0 found.0.shares) < overlapping held.sizes held.rank) =
    found_entry (λ k o. (is_marked marks (key_at k) ≡ false) × (length (shares_from 0 o.shares) < overlapping held.sizes held.rank)) held.entries (step_at key) found.0 (entries_of held.sizes held.rank marks first_key held.entries valid.keys) found.1 in (
      entry.0,
      ap (λ (x : Option KeyShares). has_all held.sizes held.rank (λ client. elim x [ None ↦ None | Some y ↦ share_in y client ])) found.1
          ∙ missing_share held.sizes held.rank found.0 (are.each key found.0 found.1).shares entry.1,
    )

-- no other pending pieces are spelled so

head_same : {A : Type 0} (a b : A) (at bs : List A) → a ∷ at ≡ b ∷ bs → a ≡ b
head_same a b at bs e = cc

tail_same : {A : Type 0} (a b : A) (at bs : List A) → a ∷ at ≡ b ∷ bs → at ≡ bs
tail_same a b at bs e = cc

share_same : (s : Sizes) (rank client : ℕ) (x y : Share) → IsShare s rank client x → IsShare s rank client y → x.samples ≡ y.samples → x ≡ y
share_same s rank client x y a b same =
    ap (λ (n : ℕ). let q : Share = record { first = n; count = x.count; samples = x.samples } in q) (a.first ∙ sym b.first)
    ∙ ap (λ (n : ℕ). let q : Share = record { first = y.first; count = n; samples = x.samples } in q) (a.count ∙ sym b.count)
    ∙ ap (λ (l : List ℕ). let q : Share = record { first = y.first; count = y.count; samples = l } in q) same

later_client : (first : ℕ) (slots : List (Option Share)) (p : PendingShare) (rest : List PendingShare) → shares_from first slots ≡ p ∷ rest → first ≤ p.client
later_client first [] p rest e = absurd cc
later_client first (None ∷ slots) p rest e = let later : first + 1 ≤ p.client = later_client (first + 1) slots p rest e in omega arith
later_client first (Some share ∷ slots) p rest e =
    let head : share_saved first share ≡ p = head_same _ _ _ _ e in
    let same : first ≡ p.client = ap (λ (q : PendingShare). q.client) head in
    omega arith

same_slots : (s : Sizes) (rank first : ℕ) (xs ys : List (Option Share)) → length xs ≡ length ys → AreSlots s rank first xs → AreSlots s rank first ys → shares_from first xs ≡ shares_from first ys → xs ≡ ys
same_slots s rank first [] [] long a b e = refl
same_slots s rank first [] (y ∷ ys) long a b e = absurd (omega arith)
same_slots s rank first (x ∷ xs) [] long a b e = absurd (omega arith)
same_slots s rank first (None ∷ xs) (None ∷ ys) long a b e =
    ap (λ l. None ∷ l) (same_slots s rank (first + 1) xs ys (let same : length xs ≡ length ys = omega arith in same) (next_slots s rank first None xs a) (next_slots s rank first None ys b) e)
same_slots s rank first (Some x ∷ xs) (Some y ∷ ys) long a b e =
    let head : share_saved first x ≡ share_saved first y = head_same _ _ _ _ e in
    let own : x ≡ y = share_same s rank first x y (own_slot s rank first x xs a) (own_slot s rank first y ys b) (ap (λ (p : PendingShare). p.samples) head) in
    let rest : xs ≡ ys = same_slots s rank (first + 1) xs ys (let same : length xs ≡ length ys = omega arith in same) (next_slots s rank first (Some x) xs a) (next_slots s rank first (Some y) ys b) (tail_same _ _ _ _ e) in
    ap (λ (z : Share). Some z ∷ xs) own ∙ ap (λ l. Some y ∷ l) rest
same_slots s rank first (None ∷ xs) (Some y ∷ ys) long a b e =
    let later : first + 1 ≤ first = later_client (first + 1) xs (share_saved first y) (shares_from (first + 1) ys) e in
    absurd (omega arith)
same_slots s rank first (Some x ∷ xs) (None ∷ ys) long a b e =
    let later : first + 1 ≤ first = later_client (first + 1) ys (share_saved first x) (shares_from (first + 1) xs) (sym e) in
    absurd (omega arith)

same_kept : (s : Sizes) (rank : ℕ) (o p : KeyShares) → AreShares s rank o → AreShares s rank p → o.life ≡ p.life → shares_from 0 o.shares ≡ shares_from 0 p.shares → o ≡ p
same_kept s rank o p a b life shares =
    let slots : o.shares ≡ p.shares = same_slots s rank 0 o.shares p.shares (a.slots ∙ sym b.slots) (all_slots s rank o a) (all_slots s rank p b) shares in
    ap (λ (n : ℕ). let q : KeyShares = record { life = n; shares = o.shares } in q) life
    ∙ ap (λ (l : List (Option Share)). let q : KeyShares = record { life = p.life; shares = l } in q) slots

same_entries : (s : Sizes) (rank : ℕ) (es fs : List (GroupStep × KeyShares)) → AllEntries (λ k o. AreShares s rank o) es → AllEntries (λ k o. AreShares s rank o) fs → map key_saved es ≡ map key_saved fs → es ≡ fs
same_entries s rank [] [] a b e = refl
same_entries s rank [] (f ∷ fs) a b e = absurd cc
same_entries s rank (x ∷ es) [] a b e = absurd cc
same_entries s rank (x ∷ es) (f ∷ fs) a b e =
    let head : key_saved x ≡ key_saved f = head_same _ _ _ _ e in
    let key : x.0 ≡ f.0 = ap (λ (k : PendingKey). let g : GroupStep = record { step = k.plane; group = k.group } in g) head in
    let kept : x.1 ≡ f.1 = same_kept s rank x.1 f.1 a.0 b.0 (ap (λ (k : PendingKey). k.life) head) (ap (λ (k : PendingKey). k.shares) head) in
    let own : x ≡ f = ap (λ (g : GroupStep). let q : GroupStep × KeyShares = (g, x.1) in q) key ∙ ap (λ (o : KeyShares). let q : GroupStep × KeyShares = (f.0, o) in q) kept in
    let rest : es ≡ fs = same_entries s rank es fs a.1 b.1 (tail_same _ _ _ _ e) in
    ap (λ (q : GroupStep × KeyShares). q ∷ es) own ∙ ap (λ l. f ∷ l) rest

pub same_saved : (a b : Held) → a.sizes ≡ b.sizes → a.rank ≡ b.rank → ArePending a → AreRising a → ArePending b → AreRising b → keys_saved a ≡ keys_saved b → a ≡ b
same_saved a b sizes rank a_are a_rise b_are b_rise same =
    let own : AllEntries (λ k o. AreShares a.sizes a.rank o) a.entries = all_entries (λ k o. IsPending a.sizes a.rank (key_at k) o) (λ k o. AreShares a.sizes a.rank o) (λ k o is. is.shares) a.entries (each_pending a a_are a_rise) in
    let theirs : AllEntries (λ k o. AreShares b.sizes b.rank o) b.entries = all_entries (λ k o. IsPending b.sizes b.rank (key_at k) o) (λ k o. AreShares b.sizes b.rank o) (λ k o is. is.shares) b.entries (each_pending b b_are b_rise) in
    let moved : AllEntries (λ k o. AreShares a.sizes a.rank o) b.entries =
    subst (λ (s : Sizes). AllEntries (λ k o. AreShares s a.rank o) b.entries) (sym sizes) (subst (λ (r : ℕ). AllEntries (λ k o. AreShares b.sizes r o) b.entries) (sym rank) theirs) in
    let entries : a.entries ≡ b.entries = same_entries a.sizes a.rank a.entries b.entries own moved same in
    ap (λ (s : Sizes). let h : Held = record { sizes = s; rank = a.rank; entries = a.entries } in h) sizes
    ∙ ap (λ (r : ℕ). let h : Held = record { sizes = b.sizes; rank = r; entries = a.entries } in h) rank
    ∙ ap (λ (l : List (GroupStep × KeyShares)). let h : Held = record { sizes = b.sizes; rank = b.rank; entries = l } in h) entries
