-- The loops that take pending keys, with their pieces and samples.
use Rattle.std.proofs.Common.{◌≡◌, ℕ, zero, suc, ◌+◌, ◌-◌, ◌*◌, ◌^◌, ◌<◌, ◌≤◌, true, false, Bool, List, [], ◌∷◌, ◌++◌, length, map, get_or, set, Option, Some, None, ◌⊎◌, inl, inr, Result, Ok, Err, refl, ap, sym, ◌∙◌, subst, ⊎_elim, arith, append_assoc}
use Rattle.std.specs.Int.{Width, byte_len, w16, w32}
use Rattle.std.proofs.lemmas.List.{map-append}
use Rattle.std.specs.Result.{IsErrAnd}
use Rattle.std.proofs.Math.ListN.{length-set}
use Rattle.std.proofs.Common.{◌≢◌, get_or-set_same, get_or-set_other}
use Rattle.std.proofs.lemmas.Bool.{cases_eq, lt-ltb, ltb-true, eqb-true, and_parts}
use Rattle.std.specs.Prelude.{slice_index, not, ◌==◌, ◌&&◌, ◌||◌, nat_lt, nat_le, IsSome}
use Rattle.std.specs.Ordering.{nat_cmp, ordering_then, match_ordering}
use Rattle.std.specs.declared.cmp.Ordering.TheVariants.{Equal, Greater}
use Rattle.std.specs.Cmp.{nat_cmp_is}
use Rattle.std.specs.BTreeMap.{insert_entry}
use Rattle.std.proofs.Math.Nat.{mul-le-mul}
use Rattle.mls_model.specs.declared.blocks.Span.{Span}
use Rattle.mls_model.specs.Blocks.{overlap, width}
use Rattle.mls_model.specs.Completion.{Key}
use Rattle.mls_model.specs.Studies.{Sizes, planes}
use Rattle.mls_ckpt.specs.declared.faults.RecoverFault.{RecoverFault}
use Rattle.mls_ckpt.specs.Checkpoints.{share_at}
use Rattle.mls_ckpt.specs.Checkpoints as checkpoints
use Rattle.mls_ckpt.proofs.Passing.{le_of}
use Rattle.mls_ckpt.specs.Reading.{Cursor, Read, ◌>>=◌, Refuses, front, behind, number_at, many, AllFrom}
use Rattle.mls_ckpt.proofs.Numbers.{chosen, same_ok}
use Rattle.std.proofs.lemmas.Bool.Decides.{nat_tests}
use Rattle.mls_ckpt.specs.Recovering.{behind_these, Gives}
use Rattle.mls_ckpt.specs.States.{PendingShare, PendingKey, after_one, client_after, key_after, first_key, is_from}
use Rattle.mls_ckpt.proofs.Loops.{loop_goes_on, loop_ends, loop_refuses, behind_none, many_valid}
use Rattle.mls_assembly.specs.Shares.{Share, IsShare}
use Rattle.mls_assembly.specs.KeyShares.{KeyShares, share_in, AreShares}
use Rattle.mls_assembly.specs.declared.group_step.GroupStep.{GroupStep}
use Rattle.mls_assembly.specs.Held.{Held, key_cmp, key_at, IsPending}
use Rattle.mls_assembly.specs.EntryLists.{AllEntries, IsBefore, AreBefore}
use Rattle.mls_assembly.proofs.EntryKeys.{all_entries}
use Rattle.mls_assembly.specs.Saved.{keys_saved, share_saved, slot_shares, shares_from, share_taken, IsShareTaken, key_saved, IsKeyTaken, TakesKey}

-- a fault that is handed on
pub handed_on : {A B : Type 0} (of : B → A) (answer : Result B RecoverFault) (fault : RecoverFault) (new : Cursor) (read : Read (A × Cursor)) → IsErrAnd answer (λ other. other ≡ fault) → Refuses fault read → Gives of new answer read
handed_on of (Ok done) fault new read handed refuses = absurd handed
handed_on of (Err other) fault new read handed refuses = subst (λ f. Refuses f read) (sym handed) refuses

-- samples

abbrev pub next_sample : ℕ → Cursor → Read (ℕ × Cursor)
next_sample i from = number_at w16 65535 from

pub sample_goes_on : (before values : List ℕ) (count place sample : ℕ) (old new : Cursor) (whole : Read (List ℕ × Cursor)) → place < count → values ≡ before ++ sample ∷ [] → number_at w16 65535 old ≡ Ok (sample, new)
    → behind_these before (many next_sample after_one (count - place) place old) ≡ whole → behind_these values (many next_sample after_one (count - (place + 1)) (place + 1) new) ≡ whole
sample_goes_on before values count place sample old new whole within grown read so_far =
    ap (λ l. behind_these l (many next_sample after_one (count - (place + 1)) (place + 1) new)) grown
    ∙ loop_goes_on next_sample after_one before (count - place) (count - (place + 1)) place old new sample whole (omega arith) read so_far

pub sample_refuses : (before : List ℕ) (count place : ℕ) (old : Cursor) (fault : RecoverFault) (whole : Read (List ℕ × Cursor)) → place < count → Refuses fault (number_at w16 65535 old)
    → behind_these before (many next_sample after_one (count - place) place old) ≡ whole → Refuses fault whole
sample_refuses before count place old fault whole within read so_far =
    loop_refuses next_sample after_one before [] (count - place) (count - (place + 1)) place old fault whole (omega arith) read (so_far ∙ sym (behind_none whole))

pub samples_end : (before : List ℕ) (count place : ℕ) (old : Cursor) (whole : Read (List ℕ × Cursor)) → count ≤ place → behind_these before (many next_sample after_one (count - place) place old) ≡ whole → whole ≡ Ok (before, old)
samples_end before count place old whole past so_far = loop_ends next_sample after_one before (count - place) place old whole (omega arith) so_far

-- the pieces of a key

none_from : (first : ℕ) (slots : List (Option Share)) → ((i : ℕ) → get_or slots i None ≡ None) → shares_from first slots ≡ []
none_from first [] none = refl
none_from first (slot ∷ slots) none = ap (λ s. slot_shares first s ++ shares_from (first + 1) slots) (none 0) ∙ none_from (first + 1) slots (λ i. none (suc i))

set_share : (slots : List (Option Share)) (first least client : ℕ) (share : Share) → least ≤ client → client < length slots → ((i : ℕ) → least ≤ i → get_or slots i None ≡ None)
    → shares_from first (set slots client (Some share)) ≡ shares_from first slots ++ share_saved (first + client) share ∷ []
set_share [] first least client share rises within none = absurd (omega arith)
set_share (slot ∷ slots) first least zero share rises within none =
    let empty : shares_from (first + 1) slots ≡ [] = none_from (first + 1) slots (λ i. none (suc i) (omega arith)) in
    ap (λ l. share_saved first share ∷ l) empty
    ∙ ap (λ n. share_saved n share ∷ []) (let same : first ≡ first + 0 = omega arith in same)
    ∙ ap (λ l. l ++ share_saved (first + 0) share ∷ []) (sym empty)
    ∙ ap (λ s. (slot_shares first s ++ shares_from (first + 1) slots) ++ share_saved (first + 0) share ∷ []) (sym (none 0 (omega arith)))
set_share (slot ∷ slots) first least (suc client) share rises within none =
    ap (λ l. slot_shares first slot ++ l) (set_share slots (first + 1) (least - 1) client share (omega arith) (omega arith) (λ i above. none (suc i) (omega arith)))
    ∙ sym (append_assoc (slot_shares first slot) (shares_from (first + 1) slots) (share_saved (first + 1 + client) share ∷ []))
    ∙ ap (λ n. (slot_shares first slot ++ shares_from (first + 1) slots) ++ share_saved n share ∷ []) (let same : first + 1 + client ≡ first + suc client = omega arith in same)

-- what was taken of a key so far: the rest is read behind it, and no slot has a piece from the least client on
pub record IsTaken (s : Sizes) (rank : ℕ) (o : KeyShares) (least left : ℕ) (from : Cursor) (whole : Read (List PendingShare × Cursor)) : Type 0 where
  pub read : behind_these (shares_from 0 o.shares) (many (share_at s rank) client_after left least from) ≡ whole
  pub slots : length o.shares ≡ s.clients
  pub none : (i : ℕ) → least ≤ i → share_in o i ≡ None
  pub shares : (client : ℕ) (share : Share) → share_in o client ≡ Some share → IsShare s rank client share

pub begins : (s : Sizes) (rank count : ℕ) (o : KeyShares) (from : Cursor) → length o.shares ≡ s.clients → ((i : ℕ) → share_in o i ≡ None) → IsTaken s rank o 0 (count - 0) from (many (share_at s rank) client_after count 0 from)
begins s rank count o from slots none = record {
  read = ap (λ l. behind_these l (many (share_at s rank) client_after (count - 0) 0 from)) (none_from 0 o.shares none) ∙ behind_none (many (share_at s rank) client_after (count - 0) 0 from) ∙ ap (λ n. many (share_at s rank) client_after n 0 from) (let same : count - 0 ≡ count = omega arith in same);
  slots = slots;
  none = λ i above. none i;
  shares = λ client share is. absurd (clash share (sym (none client) ∙ is));
}
  where
    clash : (share : Share) → None ≡ Some share → ⊥
    clash share e = cc

pub piece_goes_on : (s : Sizes) (rank count place least : ℕ) (o new : KeyShares) (taken : ℕ × Share) (old from : Cursor) (whole : Read (List PendingShare × Cursor)) → place < count → new.shares ≡ set o.shares taken.0 (Some taken.1) → share_at s rank least old ≡ Ok (share_taken taken, from)
    → IsShareTaken s rank least taken → IsTaken s rank o least (count - place) old whole → IsTaken s rank new (taken.0 + 1) (count - (place + 1)) from whole
piece_goes_on s rank count place least o new taken old from whole within list read valid so_far =
    let client_in : taken.0 < length o.shares = subst (λ n. taken.0 < n) (sym so_far.slots) valid.client in
    let grown : shares_from 0 new.shares ≡ shares_from 0 o.shares ++ share_taken taken ∷ [] =
    ap (shares_from 0) list ∙ set_share o.shares 0 least taken.0 taken.1 valid.rises client_in so_far.none ∙ ap (λ n. shares_from 0 o.shares ++ share_saved n taken.1 ∷ []) (let same : 0 + taken.0 ≡ taken.0 = omega arith in same) in
    record {
      read = ap (λ l. behind_these l (many (share_at s rank) client_after (count - (place + 1)) (taken.0 + 1) from)) grown
          ∙ loop_goes_on (share_at s rank) client_after (shares_from 0 o.shares) (count - place) (count - (place + 1)) least old from (share_taken taken) whole (omega arith) read so_far.read;
      slots = ap length list ∙ length-set o.shares taken.0 (Some taken.1) ∙ so_far.slots;
      none = λ i above. ap (λ l. get_or l i None) list ∙ other i (λ same. absurd (omega arith)) ∙ so_far.none i (let rises = valid.rises in omega arith);
      shares = λ client share is. ⊎_elim
          (λ (same : client ≡ taken.0).
          let own : Some taken.1 ≡ Some share = sym (own_slot client_in) ∙ ap (λ k. get_or (set o.shares taken.0 (Some taken.1)) k None) (sym same) ∙ sym (ap (λ l. get_or l client None) list) ∙ is in
          subst (λ k. IsShare s rank k share) (sym same) (subst (λ x. IsShare s rank taken.0 x) (some_same taken.1 share own) valid.share))
          (λ (apart : client ≡ taken.0 → ⊥). so_far.shares client share (sym (other client apart) ∙ sym (ap (λ l. get_or l client None) list) ∙ is))
          (cases_eq client taken.0);
    }
  where
    other : (i : ℕ) → (i ≡ taken.0 → ⊥) → get_or (set o.shares taken.0 (Some taken.1)) i None ≡ get_or o.shares i None
    other i apart = let ne : i ≢ taken.0 = apart in rw get_or-set_other refl

    own_slot : taken.0 < length o.shares → get_or (set o.shares taken.0 (Some taken.1)) taken.0 None ≡ Some taken.1
    own_slot client_in = rw get_or-set_same refl

    some_same : (a b : Share) → Some a ≡ Some b → a ≡ b
    some_same a b e = cc

pub piece_refuses : (s : Sizes) (rank count place least : ℕ) (o : KeyShares) (old : Cursor) (fault : RecoverFault) (whole : Read (List PendingShare × Cursor)) → place < count → Refuses fault (share_at s rank least old)
    → IsTaken s rank o least (count - place) old whole → Refuses fault whole
piece_refuses s rank count place least o old fault whole within read so_far =
    loop_refuses (share_at s rank) client_after (shares_from 0 o.shares) [] (count - place) (count - (place + 1)) least old fault whole (omega arith) read (so_far.read ∙ sym (behind_none whole))

pub pieces_end : (s : Sizes) (rank count place least : ℕ) (o : KeyShares) (from : Cursor) (whole : Read (List PendingShare × Cursor)) → count ≤ place → IsTaken s rank o least (count - place) from whole → whole ≡ Ok (shares_from 0 o.shares, from)
pieces_end s rank count place least o from whole past so_far = loop_ends (share_at s rank) client_after (shares_from 0 o.shares) (count - place) least from whole (omega arith) so_far.read

pub are_shares : (s : Sizes) (rank least left : ℕ) (o : KeyShares) (from : Cursor) (whole : Read (List PendingShare × Cursor)) → IsTaken s rank o least left from whole → AreShares s rank o
are_shares s rank least left o from whole taken = record { slots = taken.slots; shares = taken.shares }

-- a number that was read is at most what it may be
number_few : (w : Width) (most : ℕ) (c : Cursor) (r : ℕ × Cursor) → number_at w most c ≡ Ok r → r.0 ≤ most
unfolding number_at
number_few w most c r e =
    let outer = chosen (nat_lt (length c.left) (byte_len w)) _ _ r e in
    let inner = chosen (nat_lt most (front w c.left)) _ _ r outer.1 in
    let within : front w c.left ≤ most = grind (arith, nat_tests, inner.0) in
    subst (λ (p : ℕ × Cursor). p.0 ≤ most) (same_ok (front w c.left, behind w c) r inner.1) within

small_samples : (xs : List ℕ) (start : ℕ) → AllFrom (λ i x. x ≤ 65535) after_one start xs → (i : ℕ) → slice_index xs i < 65536
small_samples [] start each i = omega arith
small_samples (x ∷ xs) start each zero = let small : x ≤ 65535 = each.0 in let fits : x < 65536 = omega arith in fits
small_samples (x ∷ xs) start each (suc i) = small_samples xs (start + 1) each.1 i

-- a share that was taken is its client's
pub share_valid : (s : Sizes) (rank least client clients parameters : ℕ) (span : Span) (samples : List ℕ) (share : Share) (old new : Cursor) → clients ≡ s.clients → 1 ≤ s.clients → client ≤ clients - 1 → least ≤ client → span ≡ overlap s rank client → span.first < span.end → parameters ≡ s.parameters
    → many next_sample after_one ((parameters + 2) * (span.end - span.first)) 0 old ≡ Ok (samples, new) → share ≡ record { first = span.first; count = span.end - span.first; samples = samples } → IsShareTaken s rank least (client, share)
share_valid s rank least client clients parameters span samples share old new c some few rises is fits p read made =
    let all = many_valid (λ i x. x ≤ 65535) next_sample after_one (λ i c r e. number_few w16 65535 c r e) ((parameters + 2) * (span.end - span.first)) 0 old (samples, new) read in
    let size = all.0 in
    let own : width (overlap s rank client) ≡ span.end - span.first = ap width (sym is) in
    record {
      rises = rises;
      client = omega arith;
      share = subst (λ x. IsShare s rank client x) (sym made)
          (record {
            some = of_lt 0 (width (overlap s rank client)) (omega arith);
            first = ap (λ (x : Span). x.first) is;
            count = sym own;
            size = size ∙ ap (λ n. (n + 2) * (span.end - span.first)) p;
            fits = small_samples samples 0 all.1;
          });
    }
  where
    of_lt : (a b : ℕ) → a < b → nat_lt a b ≡ true
    of_lt a b h = lt-ltb a b h

-- a key whose pieces were taken has some

some_slot : (first : ℕ) (slots : List (Option Share)) → 1 ≤ length (shares_from first slots) → (i : ℕ) × (i < length slots) × IsSome (get_or slots i None)
some_slot first [] some = absurd (omega arith)
some_slot first (None ∷ slots) some = let rest = some_slot (first + 1) slots some in (suc rest.0, (let here = rest.1 in omega arith), rest.2)
some_slot first (Some share ∷ slots) some = (0, omega arith, search)

pub key_valid : (s : Sizes) (rank group plane groups count_planes count life : ℕ) (o : KeyShares) (old new : Cursor) → group ≤ groups - 1 → groups ≡ s.groups → 1 ≤ s.groups → plane ≤ count_planes - 1 → count_planes ≡ planes s → 1 ≤ s.steps → 1 ≤ s.fields → 1 ≤ count → o.life < 2 ^ 32
    → AreShares s rank o → many (share_at s rank) client_after count 0 old ≡ Ok (shares_from 0 o.shares, new) → IsPending s rank (record { group = group; plane = plane }) o
key_valid s rank group plane groups count_planes count life o old new g g_is g_some p p_is steps fields some life_in shares read =
    let size = (many_valid (λ i x. Unit {0}) (share_at s rank) client_after (λ i c r e. tt) count 0 old (shares_from 0 o.shares, new) read).0 in
    let all : 1 * 1 ≤ s.steps * s.fields = mul-le-mul steps fields in
    let slot = some_slot 0 o.shares (omega arith) in
    record {
      group = omega arith;
      plane = omega arith;
      life = life_in;
      shares = shares;
      some = (slot.0, (let here = slot.1 in let slots = shares.slots in omega arith), slot.2);
    }

-- the entries with one behind them all

either : (a b : Bool) → (a || b) ≡ true → (a ≡ true) ⊎ (b ≡ true)
either true b h = inl refl
either false b h = inr h

key_greater : (key k : GroupStep) (least : Key) → IsBefore least k → is_from least (key_at key) ≡ true → key_cmp key k ≡ Greater
key_greater key k least before from = by_cases (either (nat_lt least.plane key.step) ((least.plane == key.step) && nat_le least.group key.group) from) before
  where
    steps : k.step < key.step → key_cmp key k ≡ Greater
    steps less = ap (λ o. ordering_then o (nat_cmp key.group k.group)) (sym (nat_cmp_is key.step k.step Greater less))

    groups : k.step ≡ key.step → k.group < key.group → key_cmp key k ≡ Greater
    groups same less = ap (λ o. ordering_then o (nat_cmp key.group k.group)) (sym (nat_cmp_is key.step k.step Equal (sym same))) ∙ sym (nat_cmp_is key.group k.group Greater less)

    by_cases : ((nat_lt least.plane key.step ≡ true) ⊎ (((least.plane == key.step) && nat_le least.group key.group) ≡ true)) → IsBefore least k → key_cmp key k ≡ Greater
    by_cases (inl t) (inl less) = steps (let past = ltb-true least.plane key.step t in omega arith)
    by_cases (inl t) (inr both) = steps (let past = ltb-true least.plane key.step t in let same = both.0 in omega arith)
    by_cases (inr t) (inl less) = steps (let same = eqb-true least.plane key.step (and_parts _ _ t).0 in omega arith)
    by_cases (inr t) (inr both) = groups (let same = eqb-true least.plane key.step (and_parts _ _ t).0 in let own = both.0 in omega arith) (let from = le_of least.group key.group (and_parts _ _ t).1 in let own = both.1 in omega arith)

insert_last : (key : GroupStep) (o : KeyShares) (least : Key) (es : List (GroupStep × KeyShares)) → AreBefore least es → is_from least (key_at key) ≡ true → insert_entry key_cmp es key o ≡ es ++ (key, o) ∷ []
insert_last key o least [] before from = refl
insert_last key o least (e ∷ es) before from =
    ap (λ r. match_ordering r ((key, o) ∷ e ∷ es) ((e.0, o) ∷ es) (e ∷ insert_entry key_cmp es key o)) (key_greater key e.0 least before.0 from) ∙ ap (λ l. e ∷ l) (insert_last key o least es before.1 from)

later : (key k : GroupStep) (least : Key) → is_from least (key_at key) ≡ true → IsBefore least k → IsBefore (record { group = key.group + 1; plane = key.step }) k
later key k least from before = by_cases (either (nat_lt least.plane key.step) ((least.plane == key.step) && nat_le least.group key.group) from) before
  where
    by_cases : ((nat_lt least.plane key.step ≡ true) ⊎ (((least.plane == key.step) && nat_le least.group key.group) ≡ true)) → IsBefore least k → IsBefore (record { group = key.group + 1; plane = key.step }) k
    by_cases (inl t) (inl less) = inl (let past = ltb-true least.plane key.step t in omega arith)
    by_cases (inl t) (inr both) = inl (let past = ltb-true least.plane key.step t in let same = both.0 in omega arith)
    by_cases (inr t) (inl less) = inl (let same = eqb-true least.plane key.step (and_parts _ _ t).0 in omega arith)
    by_cases (inr t) (inr both) = inr ((let same = eqb-true least.plane key.step (and_parts _ _ t).0 in let own = both.0 in omega arith), (let from = le_of least.group key.group (and_parts _ _ t).1 in let own = both.1 in omega arith))

entries_append : (P : GroupStep → KeyShares → Type 0) (es : List (GroupStep × KeyShares)) (e : GroupStep × KeyShares) → AllEntries P es → P e.0 e.1 → AllEntries P (es ++ e ∷ [])
entries_append P [] e each last = (last, tt)
entries_append P (f ∷ es) e each last = (each.0, entries_append P es e each.1 last)

pub key_added : (key : GroupStep) (o : KeyShares) (least : Key) (es new : List (GroupStep × KeyShares)) → AreBefore least es → is_from least (key_at key) ≡ true → new ≡ insert_entry key_cmp es key o → new ≡ es ++ (key, o) ∷ []
key_added key o least es new before from is = is ∙ insert_last key o least es before from

pub still_before : (key : GroupStep) (o : KeyShares) (least : Key) (es new : List (GroupStep × KeyShares)) → AreBefore least es → is_from least (key_at key) ≡ true → new ≡ es ++ (key, o) ∷ [] → AreBefore (record { group = key.group + 1; plane = key.step }) new
still_before key o least es new before from is =
    subst (AreBefore (record { group = key.group + 1; plane = key.step })) (sym is)
    (entries_append (λ k p. IsBefore (record { group = key.group + 1; plane = key.step }) k) es (key, o) (all_entries (λ k p. IsBefore least k) (λ k p. IsBefore (record { group = key.group + 1; plane = key.step }) k) (λ k p was. later key k least from was) es before) (inr (refl, omega arith)))

-- the loop over keys

pub key_goes_on : (s : Sizes) (rank count place : ℕ) (marks : List (List ℕ)) (least next : Key) (old new : List PendingKey) (key : PendingKey) (from after : Cursor) (whole : Read (List PendingKey × Cursor)) → place < count → new ≡ old ++ key ∷ [] → next ≡ key_after least key → checkpoints.key_at s rank marks least from ≡ Ok (key, after)
    → behind_these old (many (checkpoints.key_at s rank marks) key_after (count - place) least from) ≡ whole → behind_these new (many (checkpoints.key_at s rank marks) key_after (count - (place + 1)) next after) ≡ whole
key_goes_on s rank count place marks least next old new key from after whole within grown is read so_far =
    ap (λ l. behind_these l (many (checkpoints.key_at s rank marks) key_after (count - (place + 1)) next after)) grown
    ∙ ap (λ k. behind_these (old ++ key ∷ []) (many (checkpoints.key_at s rank marks) key_after (count - (place + 1)) k after)) is
    ∙ loop_goes_on (checkpoints.key_at s rank marks) key_after old (count - place) (count - (place + 1)) least from after key whole (omega arith) read so_far

pub key_refuses : (s : Sizes) (rank count place : ℕ) (marks : List (List ℕ)) (least : Key) (old : List PendingKey) (from : Cursor) (fault : RecoverFault) (whole : Read (List PendingKey × Cursor)) → place < count → Refuses fault (checkpoints.key_at s rank marks least from)
    → behind_these old (many (checkpoints.key_at s rank marks) key_after (count - place) least from) ≡ whole → Refuses fault whole
key_refuses s rank count place marks least old from fault whole within read so_far =
    loop_refuses (checkpoints.key_at s rank marks) key_after old [] (count - place) (count - (place + 1)) least from fault whole (omega arith) read (so_far ∙ sym (behind_none whole))

pub keys_end : (s : Sizes) (rank count place : ℕ) (marks : List (List ℕ)) (least : Key) (old : List PendingKey) (from : Cursor) (whole : Read (List PendingKey × Cursor)) → count ≤ place → behind_these old (many (checkpoints.key_at s rank marks) key_after (count - place) least from) ≡ whole → whole ≡ Ok (old, from)
keys_end s rank count place marks least old from whole past so_far = loop_ends (checkpoints.key_at s rank marks) key_after old (count - place) least from whole (omega arith) so_far

pub record AreTaken (old new : Held) (least : Key) (marks : List (List ℕ)) (left : ℕ) (from : Cursor) (whole : Read (List PendingKey × Cursor)) : Type 0 where
  pub sizes : new.sizes ≡ old.sizes
  pub rank : new.rank ≡ old.rank
  pub before : AreBefore least new.entries
  pub read : behind_these (keys_saved new) (many (checkpoints.key_at old.sizes old.rank marks) key_after left least from) ≡ whole

pub may_pass : (answer from marked own row : Bool) → answer ≡ true → answer ≡ from → marked ≡ own → row ≡ own → not marked ≡ (from && not row)
may_pass answer from marked own row is same has tie =
    ap not (has ∙ sym tie) ∙ sym (ap (λ f. f && not row) (sym same ∙ is))

pub comes : (answer from other : Bool) → answer ≡ true → answer ≡ (from && other) → from ≡ true
comes answer from other is same = (and_parts from other (sym same ∙ is)).0

-- a key is added behind the others

pub adds_key : (old new : Held) (marks : List (List ℕ)) (least : Key) (key : GroupStep) (o : KeyShares) (from : Cursor) (read : Read (PendingKey × Cursor)) → AreBefore least old.entries → IsKeyTaken old.sizes old.rank least (key, o) → new.entries ≡ insert_entry key_cmp old.entries key o
    → read ≡ Ok (key_saved (key, o), from) → TakesKey old new least from (Ok (record { step = key.step; group = key.group + 1 })) read
adds_key old new marks least key o from read before taken added is =
    let grown = key_added key o least old.entries new.entries before taken.rises added in
    (key_saved (key, o), is, ap (λ l. map key_saved l) grown ∙ map-append key_saved old.entries ((key, o) ∷ []), refl)

pub adds_before : (old new : Held) (least : Key) (key : GroupStep) (o : KeyShares) → AreBefore least old.entries → IsKeyTaken old.sizes old.rank least (key, o) → new.entries ≡ insert_entry key_cmp old.entries key o → AreBefore (record { group = key.group + 1; plane = key.step }) new.entries
adds_before old new least key o before taken added = still_before key o least old.entries new.entries before taken.rises (key_added key o least old.entries new.entries before taken.rises added)

pub fault_of_key : (old new : Held) (least : Key) (answer : Result GroupStep RecoverFault) (fault : RecoverFault) (from : Cursor) (read : Read (PendingKey × Cursor)) → IsErrAnd answer (λ other. other ≡ fault) → Refuses fault read → TakesKey old new least from answer read
fault_of_key old new least (Ok next) fault from read handed refuses = absurd handed
fault_of_key old new least (Err other) fault from read handed refuses = subst (λ f. Refuses f read) (sym handed) refuses

-- the loop over keys, as the fields have it

pub taken_more : (first old new : Held) (least next : Key) (marks : List (List ℕ)) (count place : ℕ) (from after : Cursor) (whole : Read (List PendingKey × Cursor)) (key : PendingKey) → place < count → new.sizes ≡ old.sizes → new.rank ≡ old.rank → AreBefore next new.entries
    → checkpoints.key_at old.sizes old.rank marks least from ≡ Ok (key, after) → keys_saved new ≡ keys_saved old ++ key ∷ [] → next ≡ key_after least key
    → AreTaken first old least marks (count - place) from whole → AreTaken first new next marks (count - (place + 1)) after whole
taken_more first old new least next marks count place from after whole key within sizes rank before read grown is so_far =
    let here : checkpoints.key_at first.sizes first.rank marks least from ≡ Ok (key, after) =
    subst (λ (r : ℕ). checkpoints.key_at first.sizes r marks least from ≡ Ok (key, after)) so_far.rank (subst (λ (s : Sizes). checkpoints.key_at s old.rank marks least from ≡ Ok (key, after)) so_far.sizes read) in
    record {
      sizes = sizes ∙ so_far.sizes;
      rank = rank ∙ so_far.rank;
      before = before;
      read = key_goes_on first.sizes first.rank count place marks least next (keys_saved old) (keys_saved new) key from after whole within grown is here so_far.read;
    }

pub taken_refuses : (first old : Held) (least : Key) (marks : List (List ℕ)) (count place : ℕ) (from : Cursor) (fault : RecoverFault) (whole : Read (List PendingKey × Cursor)) → place < count → Refuses fault (checkpoints.key_at old.sizes old.rank marks least from) → AreTaken first old least marks (count - place) from whole → Refuses fault whole
taken_refuses first old least marks count place from fault whole within read so_far =
    key_refuses first.sizes first.rank count place marks least (keys_saved old) from fault whole within
    (subst (λ (r : ℕ). Refuses fault (checkpoints.key_at first.sizes r marks least from)) so_far.rank (subst (λ (s : Sizes). Refuses fault (checkpoints.key_at s old.rank marks least from)) so_far.sizes read)) so_far.read

pub taken_all : (first old : Held) (least : Key) (marks : List (List ℕ)) (count place : ℕ) (from : Cursor) (whole : Read (List PendingKey × Cursor)) → count ≤ place → AreTaken first old least marks (count - place) from whole → whole ≡ Ok (keys_saved old, from)
taken_all first old least marks count place from whole past so_far = keys_end first.sizes first.rank count place marks least (keys_saved old) from whole past so_far.read

pub taken_none : (first : Held) (marks : List (List ℕ)) (count : ℕ) (from after : Cursor) → first.entries ≡ [] → number_at w32 4294967295 from ≡ Ok (count, after) → AreTaken first first first_key marks (count - 0) after (checkpoints.pending_at first.sizes first.rank marks from)
unfolding checkpoints.pending_at
taken_none first marks count from after none read = record {
  sizes = refl;
  rank = refl;
  before = subst (AreBefore first_key) (sym none) tt;
  read = ap (λ l. behind_these (map key_saved l) (many (checkpoints.key_at first.sizes first.rank marks) key_after (count - 0) first_key after)) none
      ∙ behind_none (many (checkpoints.key_at first.sizes first.rank marks) key_after (count - 0) first_key after)
      ∙ ap (λ n. many (checkpoints.key_at first.sizes first.rank marks) key_after n first_key after) (let same : count - 0 ≡ count = omega arith in same)
      ∙ sym (ap (λ r. r >>= (λ (read : ℕ × Cursor). many (checkpoints.key_at first.sizes first.rank marks) key_after read.0 first_key read.1)) read);
}
