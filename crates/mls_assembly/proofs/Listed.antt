-- The pending keys as a checkpoint has them are those of the definitions: by rising plane, then group, each with its shares by rising client.
use Rattle.std.proofs.Common.{◌≡◌, ℕ, zero, suc, ◌+◌, ◌<◌, ◌≤◌, Bool, true, false, ◌&&◌, ◌||◌, cond, List, [], ◌∷◌, ◌++◌, length, map, get_or, Option, Some, None, ◌⊎◌, inl, inr, refl, ap, sym, ◌∙◌, subst, ⊎_elim, arith, append_assoc}
use Rattle.std.specs.Prelude.{◌==◌, nat_lt}
use Rattle.std.specs.List.{AllByRecursion, flat_map, find}
use Rattle.std.specs.List.Sorted.{IsStrictlySortedBy}
use Rattle.std.specs.Option.{option_map}
use Rattle.std.specs.Ordering.{nat_cmp}
use Rattle.std.specs.declared.cmp.Ordering.TheVariants.{Less, Equal}
use Rattle.std.specs.Map.{lookup, keys_of}
use Rattle.std.specs.BTreeMap.{is_at}
use Rattle.std.proofs.lemmas.Bool.{cases_lt, lt-ltb, le-ltb, eq-eqb, ne_eqb, or_left}
use Rattle.std.proofs.lemmas.List.{append-nil, map-append}
use Rattle.mls_model.specs.Numbers.{below}
use Rattle.mls_model.specs.Studies.{Sizes, planes}
use Rattle.mls_model.specs.Frames.{Piece}
use Rattle.mls_model.specs.Completion.{Key, is_share}
use Rattle.mls_ckpt.specs.States.{PendingShare, PendingKey}
use Rattle.mls_ckpt.specs.Histories.{shares_of, key_pending, pending_of, pending_life, pending_samples}
use Rattle.mls_assembly.specs.declared.group_step.GroupStep.{GroupStep}
use Rattle.mls_assembly.specs.Shares.{Share, share_of}
use Rattle.mls_assembly.specs.KeyShares.{KeyShares, share_in, AreShares}
use Rattle.mls_assembly.specs.Pendings.{PendsAt}
use Rattle.mls_assembly.specs.Held.{Held, key_cmp, key_at, step_at, kept_of, IsPending, ArePending, AreRising, PendsFor}
use Rattle.mls_assembly.specs.EntryLists.{AllEntries}
use Rattle.mls_assembly.specs.Saved.{slot_shares, shares_from, key_saved, keys_saved}
use Rattle.mls_assembly.proofs.MapKeys.{apart}
use Rattle.mls_assembly.proofs.EntryKeys.{all_entries, each_pending, own_place, before, less_of, equal_of}

-- lists over the numbers below another

flat_more : {A : Type 0} (f : ℕ → List A) (xs : List ℕ) (y : ℕ) → flat_map f (xs ++ y ∷ []) ≡ flat_map f xs ++ f y
flat_more f [] y = append-nil (f y)
flat_more f (x ∷ xs) y = ap (λ l. f x ++ l) (flat_more f xs y) ∙ sym (append_assoc (f x) (flat_map f xs) (f y))

flat_shift : {A : Type 0} (f : ℕ → List A) (n : ℕ) → flat_map f (below (suc n)) ≡ f 0 ++ flat_map (λ i. f (suc i)) (below n)
flat_shift f zero = refl
flat_shift f (suc n) =
    flat_more f (below (suc n)) (suc n)
    ∙ ap (λ l. l ++ f (suc n)) (flat_shift f n)
    ∙ append_assoc (f 0) (flat_map (λ i. f (suc i)) (below n)) (f (suc n))
    ∙ ap (λ l. f 0 ++ l) (sym (flat_more (λ i. f (suc i)) (below n) n))

flat_same : {A : Type 0} (f g : ℕ → List A) (n : ℕ) → ((i : ℕ) → i < n → f i ≡ g i) → flat_map f (below n) ≡ flat_map g (below n)
flat_same f g zero same = refl
flat_same f g (suc n) same =
    flat_more f (below n) n
    ∙ ap (λ l. l ++ f n) (flat_same f g n (λ i within. same i (omega arith)))
    ∙ ap (λ l. flat_map g (below n) ++ l) (same n (omega arith))
    ∙ sym (flat_more g (below n) n)

map_flat : {A B : Type 0} (h : A → B) (f : ℕ → List A) (xs : List ℕ) → map h (flat_map f xs) ≡ flat_map (λ x. map h (f x)) xs
map_flat h f [] = refl
map_flat h f (x ∷ xs) = map-append h (f x) (flat_map f xs) ∙ ap (λ l. map h (f x) ++ l) (map_flat h f xs)

-- the entries whose keys pass a test

abbrev chosen : (GroupStep → Bool) → List (GroupStep × KeyShares) → List (GroupStep × KeyShares)
chosen q [] = []
chosen q (e ∷ es) = cond (q e.0) (e ∷ chosen q es) (chosen q es)

chosen_same : (q r : GroupStep → Bool) (es : List (GroupStep × KeyShares)) → AllEntries (λ k o. q k ≡ r k) es → chosen q es ≡ chosen r es
chosen_same q r [] each = refl
chosen_same q r (e ∷ es) each = ap (λ t. cond t (e ∷ chosen q es) (chosen q es)) each.0 ∙ ap (λ l. cond (r e.0) (e ∷ l) l) (chosen_same q r es each.1)

chosen_none : (q : GroupStep → Bool) (es : List (GroupStep × KeyShares)) → AllEntries (λ k o. q k ≡ false) es → chosen q es ≡ []
chosen_none q [] each = refl
chosen_none q (e ∷ es) each = ap (λ t. cond t (e ∷ chosen q es) (chosen q es)) each.0 ∙ chosen_none q es each.1

chosen_all : (q : GroupStep → Bool) (es : List (GroupStep × KeyShares)) → AllEntries (λ k o. q k ≡ true) es → chosen q es ≡ es
chosen_all q [] each = refl
chosen_all q (e ∷ es) each = ap (λ t. cond t (e ∷ chosen q es) (chosen q es)) each.0 ∙ ap (λ l. e ∷ l) (chosen_all q es each.1)

-- whether a key is before a plane's group
abbrev is_before : ℕ → ℕ → GroupStep → Bool
is_before plane group k = nat_lt k.step plane || ((k.step == plane) && nat_lt k.group group)

earlier_plane : (plane group : ℕ) (k : GroupStep) → k.step < plane → is_before plane group k ≡ true
earlier_plane plane group k less = or_left _ _ (lt-ltb k.step plane less)

later_plane : (plane group : ℕ) (k : GroupStep) → plane < k.step → is_before plane group k ≡ false
later_plane plane group k more = rw (le-ltb k.step plane (omega arith), ne_eqb k.step plane (λ (e : k.step ≡ plane). absurd (omega arith))) refl

own_plane : (plane group : ℕ) (k : GroupStep) → k.step ≡ plane → is_before plane group k ≡ nat_lt k.group group
own_plane plane group k same = rw (le-ltb k.step plane (omega arith), eq-eqb k.step plane same) refl

-- what is behind a key is not before the next one
behind_key : (g k : GroupStep) (most : ℕ) → most ≤ g.group + 1 → key_cmp g k ≡ Less → is_before g.step most k ≡ false
behind_key g k most few less = by_steps (before (nat_cmp g.step k.step) (nat_cmp g.group k.group) less)
  where
    by_steps : ((nat_cmp g.step k.step ≡ Less) ⊎ ((nat_cmp g.step k.step ≡ Equal) × (nat_cmp g.group k.group ≡ Less))) → is_before g.step most k ≡ false
    by_steps (inl steps) = later_plane g.step most k (less_of g.step k.step steps)
    by_steps (inr both) =
        let group : g.group < k.group = less_of g.group k.group both.1 in
        own_plane g.step most k (sym (equal_of g.step k.step both.0)) ∙ le-ltb k.group most (omega arith)

all_behind : (g : GroupStep) (most : ℕ) → most ≤ g.group + 1 → (es : List (GroupStep × KeyShares)) → AllByRecursion (λ k. key_cmp g k ≡ Less) (keys_of es) → AllEntries (λ k o. is_before g.step most k ≡ false) es
all_behind g most few [] less = tt
all_behind g most few (e ∷ es) less = (behind_key g e.0 most few less.0, all_behind g most few es less.1)

-- what is held of a key, as a list
abbrev given : GroupStep → Option KeyShares → List (GroupStep × KeyShares)
given g None = []
given g (Some o) = (g, o) ∷ []

abbrev cell_of : List (GroupStep × KeyShares) → GroupStep → List (GroupStep × KeyShares)
cell_of es g = given g (lookup (is_at (key_cmp g)) es)

-- where a key stands beside another
record Stands (g k : GroupStep) (is : Bool) : Type 0 where
  pub now : is_before g.step g.group k ≡ is
  pub next : is_before g.step (g.group + 1) k ≡ is
  pub other : is_at (key_cmp g) k ≡ false

apart_from : (g k : GroupStep) → (k ≡ g → ⊥) → is_at (key_cmp g) k ≡ false
apart_from g k other = apart (key_at k) g (λ same. other (ap step_at same))

placed : (g k : GroupStep) → Stands g k true ⊎ ((k ≡ g) ⊎ Stands g k false)
placed g k = ⊎_elim
    (λ (less : k.step < g.step).
    inl (record {
      now = earlier_plane g.step g.group k less;
      next = earlier_plane g.step (g.group + 1) k less;
      other = apart_from g k (λ same. let e : k.step ≡ g.step = ap (λ (x : GroupStep). x.step) same in absurd (omega arith));
    }))
    (λ (from : g.step ≤ k.step). ⊎_elim
    (λ (more : g.step < k.step).
    inr (inr (record {
      now = later_plane g.step g.group k more;
      next = later_plane g.step (g.group + 1) k more;
      other = apart_from g k (λ same. let e : k.step ≡ g.step = ap (λ (x : GroupStep). x.step) same in absurd (omega arith));
    })))
    (λ (most : k.step ≤ g.step). in_plane (let same : k.step ≡ g.step = omega arith in same))
    (cases_lt g.step k.step))
    (cases_lt k.step g.step)
  where
    in_plane : k.step ≡ g.step → Stands g k true ⊎ ((k ≡ g) ⊎ Stands g k false)
    in_plane step = ⊎_elim
        (λ (less : k.group < g.group).
        inl (record {
          now = own_plane g.step g.group k step ∙ lt-ltb k.group g.group less;
          next = own_plane g.step (g.group + 1) k step ∙ lt-ltb k.group (g.group + 1) (omega arith);
          other = apart_from g k (λ same. let e : k.group ≡ g.group = ap (λ (x : GroupStep). x.group) same in absurd (omega arith));
        }))
        (λ (from : g.group ≤ k.group). ⊎_elim
        (λ (more : g.group < k.group).
        inr (inr (record {
          now = own_plane g.step g.group k step ∙ le-ltb k.group g.group (omega arith);
          next = own_plane g.step (g.group + 1) k step ∙ le-ltb k.group (g.group + 1) (omega arith);
          other = apart_from g k (λ same. let e : k.group ≡ g.group = ap (λ (x : GroupStep). x.group) same in absurd (omega arith));
        })))
        (λ (most : k.group ≤ g.group).
        let group : k.group ≡ g.group = omega arith in
        inr (inl (ap (λ (n : ℕ). let x : GroupStep = record { step = n; group = k.group } in x) step ∙ ap (λ (n : ℕ). let x : GroupStep = record { step = g.step; group = n } in x) group)))
        (cases_lt g.group k.group))
        (cases_lt k.group g.group)

-- one group more
cell_more : (g : GroupStep) (e : GroupStep × KeyShares) (es : List (GroupStep × KeyShares)) → AllByRecursion (λ k. key_cmp e.0 k ≡ Less) (keys_of es) → chosen (is_before g.step (g.group + 1)) es ≡ chosen (is_before g.step g.group) es ++ cell_of es g
    → Stands g e.0 true ⊎ ((e.0 ≡ g) ⊎ Stands g e.0 false) → chosen (is_before g.step (g.group + 1)) (e ∷ es) ≡ chosen (is_before g.step g.group) (e ∷ es) ++ cell_of (e ∷ es) g
cell_more g e es first rest (inl b) =
    ap (λ t. cond t (e ∷ chosen (is_before g.step (g.group + 1)) es) (chosen (is_before g.step (g.group + 1)) es)) b.next
    ∙ ap (λ l. e ∷ l) rest
    ∙ sym (ap (λ t. cond t (e ∷ chosen (is_before g.step g.group) es) (chosen (is_before g.step g.group) es) ++ cell_of es g) b.now)
    ∙ sym (ap (λ t. chosen (is_before g.step g.group) (e ∷ es) ++ given g (cond t (Some e.1) (lookup (is_at (key_cmp g)) es))) b.other)
cell_more g e es first rest (inr (inl same)) =
    let less : AllByRecursion (λ k. key_cmp g k ≡ Less) (keys_of es) = subst (λ (h : GroupStep). AllByRecursion (λ k. key_cmp h k ≡ Less) (keys_of es)) same first in
    let step : e.0.step ≡ g.step = ap (λ (k : GroupStep). k.step) same in
    let group : e.0.group ≡ g.group = ap (λ (k : GroupStep). k.group) same in
    let next : is_before g.step (g.group + 1) e.0 ≡ true = own_plane g.step (g.group + 1) e.0 step ∙ lt-ltb e.0.group (g.group + 1) (omega arith) in
    let now : is_before g.step g.group e.0 ≡ false = own_plane g.step g.group e.0 step ∙ le-ltb e.0.group g.group (omega arith) in
    let own : is_at (key_cmp g) e.0 ≡ true = ap (λ (k : GroupStep). is_at (key_cmp g) k) same ∙ own_place g in
    ap (λ t. cond t (e ∷ chosen (is_before g.step (g.group + 1)) es) (chosen (is_before g.step (g.group + 1)) es)) next
    ∙ ap (λ l. e ∷ l) (chosen_none (is_before g.step (g.group + 1)) es (all_behind g (g.group + 1) (omega arith) es less))
    ∙ ap (λ (k : GroupStep). let l : List (GroupStep × KeyShares) = (k, e.1) ∷ [] in l) same
    ∙ sym (ap (λ l. l ++ (g, e.1) ∷ []) (chosen_none (is_before g.step g.group) es (all_behind g g.group (omega arith) es less)))
    ∙ sym (ap (λ t. cond t (e ∷ chosen (is_before g.step g.group) es) (chosen (is_before g.step g.group) es) ++ (g, e.1) ∷ []) now)
    ∙ sym (ap (λ t. chosen (is_before g.step g.group) (e ∷ es) ++ given g (cond t (Some e.1) (lookup (is_at (key_cmp g)) es))) own)
cell_more g e es first rest (inr (inr b)) =
    ap (λ t. cond t (e ∷ chosen (is_before g.step (g.group + 1)) es) (chosen (is_before g.step (g.group + 1)) es)) b.next
    ∙ rest
    ∙ sym (ap (λ t. cond t (e ∷ chosen (is_before g.step g.group) es) (chosen (is_before g.step g.group) es) ++ cell_of es g) b.now)
    ∙ sym (ap (λ t. chosen (is_before g.step g.group) (e ∷ es) ++ given g (cond t (Some e.1) (lookup (is_at (key_cmp g)) es))) b.other)

next_cell : (g : GroupStep) (es : List (GroupStep × KeyShares)) → IsStrictlySortedBy key_cmp (keys_of es) → chosen (is_before g.step (g.group + 1)) es ≡ chosen (is_before g.step g.group) es ++ cell_of es g
unfolding IsStrictlySortedBy
next_cell g [] sorted = refl
next_cell g (e ∷ es) sorted = cell_more g e es sorted.0 (next_cell g es sorted.1) (placed g e.0)

abbrev step_of : ℕ → ℕ → GroupStep
step_of plane group = record { step = plane; group = group }

abbrev row_of : List (GroupStep × KeyShares) → ℕ → ℕ → List (GroupStep × KeyShares)
row_of es groups plane = flat_map (λ group. cell_of es (step_of plane group)) (below groups)

-- the groups of a plane
row_chosen : (plane : ℕ) (es : List (GroupStep × KeyShares)) → IsStrictlySortedBy key_cmp (keys_of es) → (n : ℕ) → chosen (is_before plane n) es ≡ chosen (is_before plane 0) es ++ row_of es n plane
row_chosen plane es sorted zero = sym (append-nil (chosen (is_before plane 0) es))
row_chosen plane es sorted (suc n) =
    ap (λ m. chosen (is_before plane m) es) (let same : suc n ≡ n + 1 = omega arith in same)
    ∙ next_cell (step_of plane n) es sorted
    ∙ ap (λ l. l ++ cell_of es (step_of plane n)) (row_chosen plane es sorted n)
    ∙ append_assoc (chosen (is_before plane 0) es) (row_of es n plane) (cell_of es (step_of plane n))
    ∙ ap (λ l. chosen (is_before plane 0) es ++ l) (sym (flat_more (λ group. cell_of es (step_of plane group)) (below n) n))

-- behind a plane's groups comes the next plane
step_over : (plane groups : ℕ) (k : GroupStep) → k.group < groups → is_before plane groups k ≡ is_before (plane + 1) 0 k
step_over plane groups k within = ⊎_elim
    (λ (less : k.step < plane). earlier_plane plane groups k less ∙ sym (earlier_plane (plane + 1) 0 k (omega arith)))
    (λ (from : plane ≤ k.step). ⊎_elim
    (λ (more : plane < k.step). later_plane plane groups k more ∙ sym (not_yet more))
    (λ (most : k.step ≤ plane). own_plane plane groups k (let same : k.step ≡ plane = omega arith in same) ∙ lt-ltb k.group groups within ∙ sym (earlier_plane (plane + 1) 0 k (omega arith)))
    (cases_lt plane k.step))
    (cases_lt k.step plane)
  where
    not_yet : plane < k.step → is_before (plane + 1) 0 k ≡ false
    not_yet more = ⊎_elim
        (λ (past : plane + 1 < k.step). later_plane (plane + 1) 0 k past)
        (λ (most : k.step ≤ plane + 1). own_plane (plane + 1) 0 k (let same : k.step ≡ plane + 1 = omega arith in same) ∙ le-ltb k.group 0 (omega arith))
        (cases_lt (plane + 1) k.step)

none_first : (k : GroupStep) → is_before 0 0 k ≡ false
none_first k = ⊎_elim
    (λ (more : 0 < k.step). later_plane 0 0 k more)
    (λ (none : k.step ≤ 0). own_plane 0 0 k (let same : k.step ≡ 0 = omega arith in same) ∙ le-ltb k.group 0 (omega arith))
    (cases_lt 0 k.step)

each_is : (P : GroupStep → KeyShares → Type 0) → ((k : GroupStep) (o : KeyShares) → P k o) → (es : List (GroupStep × KeyShares)) → AllEntries P es
each_is P is [] = tt
each_is P is (e ∷ es) = (is e.0 e.1, each_is P is es)

-- all planes
planes_chosen : (groups : ℕ) (es : List (GroupStep × KeyShares)) → IsStrictlySortedBy key_cmp (keys_of es) → AllEntries (λ k o. k.group < groups) es → (m : ℕ) → chosen (is_before m 0) es ≡ flat_map (row_of es groups) (below m)
planes_chosen groups es sorted within zero = chosen_none (is_before 0 0) es (each_is (λ k o. is_before 0 0 k ≡ false) (λ k o. none_first k) es)
planes_chosen groups es sorted within (suc m) =
    ap (λ n. chosen (is_before n 0) es) (let same : suc m ≡ m + 1 = omega arith in same)
    ∙ sym (chosen_same (is_before m groups) (is_before (m + 1) 0) es (all_entries (λ k o. k.group < groups) (λ k o. is_before m groups k ≡ is_before (m + 1) 0 k) (λ k o inside. step_over m groups k inside) es within))
    ∙ row_chosen m es sorted groups
    ∙ ap (λ l. l ++ row_of es groups m) (planes_chosen groups es sorted within m)
    ∙ sym (flat_more (row_of es groups) (below m) m)

-- all entries are the cells of all planes
entries_listed : (held : Held) → ArePending held → AreRising held → held.entries ≡ flat_map (row_of held.entries held.sizes.groups) (below (planes held.sizes))
entries_listed held are rising =
    let each = each_pending held are rising in
    let groups : AllEntries (λ k o. k.group < held.sizes.groups) held.entries = all_entries (λ k o. IsPending held.sizes held.rank (key_at k) o) (λ k o. k.group < held.sizes.groups) (λ k o is. is.group) held.entries each in
    let all : AllEntries (λ k o. is_before (planes held.sizes) 0 k ≡ true) held.entries = all_entries (λ k o. IsPending held.sizes held.rank (key_at k) o) (λ k o. is_before (planes held.sizes) 0 k ≡ true) (λ k o is. earlier_plane (planes held.sizes) 0 k is.plane) held.entries each in
    sym (chosen_all (is_before (planes held.sizes) 0) held.entries all) ∙ planes_chosen held.sizes.groups held.entries rising groups (planes held.sizes)

-- one key

slots_flat : (first : ℕ) (slots : List (Option Share)) → shares_from first slots ≡ flat_map (λ i. slot_shares (first + i) (get_or slots i None)) (below (length slots))
slots_flat first [] = refl
slots_flat first (slot ∷ slots) =
    ap (λ l. slot_shares first slot ++ l) (slots_flat (first + 1) slots)
    ∙ ap (λ l. slot_shares first slot ++ l)
    (flat_same (λ i. slot_shares (first + 1 + i) (get_or slots i None)) (λ i. slot_shares (first + suc i) (get_or slots i None)) (length slots)
    (λ i within. ap (λ n. slot_shares n (get_or slots i None)) (let same : first + 1 + i ≡ first + suc i = omega arith in same)))
    ∙ ap (λ n. slot_shares n slot ++ flat_map (λ i. slot_shares (first + suc i) (get_or slots i None)) (below (length slots))) (let same : first ≡ first + 0 = omega arith in same)
    ∙ sym (flat_shift (λ i. slot_shares (first + i) (get_or (slot ∷ slots) i None)) (length slots))

abbrev shown : ℕ → Option (List ℕ) → List PendingShare
shown client samples = elim samples [ None ↦ [] | Some xs ↦ record { client = client; samples = xs } ∷ [] ]

found_shown : (client : ℕ) (found : Option Piece) → slot_shares client (option_map share_of found) ≡ shown client (option_map (λ (p : Piece). p.samples) found)
found_shown client None = refl
found_shown client (Some p) = refl

-- the samples of a life's first pieces
abbrev samples_in : List Piece → Key → ℕ → Option ℕ → Option (List ℕ)
samples_in pieces key client life = elim life [ None ↦ None | Some l ↦ option_map (λ (p : Piece). p.samples) (find (is_share key l client) pieces) ]

shares_listed : (s : Sizes) (rank : ℕ) (key : Key) (pieces : List Piece) (o : KeyShares) → AreShares s rank o → PendsAt s rank key (Some o.life) (share_in o) pieces → shares_from 0 o.shares ≡ shares_of s (pending_samples s rank pieces key)
unfolding pending_samples pending_life
shares_listed s rank key pieces o are pends =
    slots_flat 0 o.shares
    ∙ ap (λ n. flat_map (λ i. slot_shares (0 + i) (share_in o i)) (below n)) are.slots
    ∙ flat_same (λ i. slot_shares (0 + i) (share_in o i)) (λ client. shown client (pending_samples s rank pieces key client)) s.clients
    (λ client within.
    ap (λ n. slot_shares n (share_in o client)) (let same : 0 + client ≡ client = omega arith in same)
    ∙ ap (slot_shares client) (pends.share_is o.life client refl within)
    ∙ found_shown client (find (is_share key o.life client) pieces)
    ∙ ap (λ (l : Option ℕ). shown client (samples_in pieces key client l)) pends.life_is)

key_listed : (s : Sizes) (rank : ℕ) (key : Key) (pieces : List Piece) (kept : Option KeyShares) → ((o : KeyShares) → kept ≡ Some o → AreShares s rank o)
    → PendsAt s rank key (option_map (λ o. o.life) kept) (λ client. elim kept [ None ↦ None | Some o ↦ share_in o client ]) pieces
    → map key_saved (given (step_at key) kept) ≡ key_pending s key (pending_life s rank pieces key) (pending_samples s rank pieces key)
unfolding pending_life
key_listed s rank key pieces None are pends = ap (λ (l : Option ℕ). key_pending s key l (pending_samples s rank pieces key)) pends.life_is
key_listed s rank key pieces (Some o) are pends =
    ap (λ (l : List PendingShare). let keys : List PendingKey = record { group = key.group; plane = key.plane; life = o.life; shares = l } ∷ [] in keys) (shares_listed s rank key pieces o (are o refl) pends)
    ∙ ap (λ (l : Option ℕ). key_pending s key l (pending_samples s rank pieces key)) pends.life_is

abbrev own_cell : Sizes → ℕ → List Piece → ℕ → ℕ → List PendingKey
own_cell s rank pieces plane group = key_pending s (record { group = group; plane = plane }) (pending_life s rank pieces (record { group = group; plane = plane })) (pending_samples s rank pieces (record { group = group; plane = plane }))

-- what is pending after these pieces is spelled as the definitions say
pub pends_saved : (held : Held) (pieces : List Piece) → ArePending held → AreRising held → PendsFor held pieces
    → keys_saved held ≡ pending_of held.sizes (pending_life held.sizes held.rank pieces) (pending_samples held.sizes held.rank pieces)
unfolding pending_of
pends_saved held pieces are rising pends =
    ap (map key_saved) (entries_listed held are rising)
    ∙ map_flat key_saved (row_of held.entries held.sizes.groups) (below (planes held.sizes))
    ∙ flat_same (λ plane. map key_saved (row_of held.entries held.sizes.groups plane)) (λ plane. flat_map (λ group. own_cell held.sizes held.rank pieces plane group) (below held.sizes.groups)) (planes held.sizes)
    (λ plane within.
    map_flat key_saved (λ group. cell_of held.entries (step_of plane group)) (below held.sizes.groups)
    ∙ flat_same (λ group. map key_saved (cell_of held.entries (step_of plane group))) (λ group. own_cell held.sizes held.rank pieces plane group) held.sizes.groups
    (λ group inside.
    key_listed held.sizes held.rank (record { group = group; plane = plane }) pieces (kept_of held (record { group = group; plane = plane }))
    (λ o at. (are.each (record { group = group; plane = plane }) o at).shares) (pends (record { group = group; plane = plane }))))
