-- What was put with what is left is what is put in all.
use Rattle.std.proofs.Common.{◌≡◌, ℕ, suc, ◌+◌, ◌<◌, ◌≤◌, List, [], ◌∷◌, ◌++◌, length, map, get_or, drop, Option, Some, None, refl, ap, sym, ◌∙◌, arith, append_assoc, length-append, drop-cons}
use Rattle.std.specs.Prelude.{slice_index}
use Rattle.std.specs.Int.{Width, w16, w32}
use Rattle.std.proofs.lemmas.List.{drop_all, length-map}
use Rattle.mls_ckpt.specs.Reading.{spelled, text, texts}
use Rattle.mls_ckpt.specs.States.{PendingShare, PendingKey}
use Rattle.mls_ckpt.specs.Spellings.{share_text, key_text, pending_text}
use Rattle.mls_ckpt.proofs.Steps.{texts-append, texts-front, row-front}
use Rattle.mls_assembly.specs.declared.group_step.GroupStep.{GroupStep}
use Rattle.mls_assembly.specs.Shares.{Share}
use Rattle.mls_assembly.specs.KeyShares.{KeyShares}
use Rattle.mls_assembly.specs.Held.{Held}
use Rattle.mls_assembly.specs.Saved.{slot_shares, shares_from, key_saved, keys_saved}

append_none : {A : Type 0} (l : List A) → l ++ [] ≡ l
append_none [] = refl
append_none (a ∷ l) = ap (λ r. a ∷ r) (append_none l)

pub numbers_more : (w : Width) (out more whole items : List ℕ) (i : ℕ) → i < length items → more ≡ out ++ spelled w (slice_index items i) → out ++ texts (text w) (drop i items) [] ≡ whole → more ++ texts (text w) (drop (i + 1) items) [] ≡ whole
numbers_more w out more whole items i within put so_far =
    let next : drop i items ≡ slice_index items i ∷ drop (i + 1) items = drop-cons items i 0 within ∙ ap (λ k. slice_index items i ∷ drop k items) (let same : suc i ≡ i + 1 = omega arith in same) in
    ap (λ l. l ++ texts (text w) (drop (i + 1) items) []) put
    ∙ append_assoc out (spelled w (slice_index items i)) (texts (text w) (drop (i + 1) items) [])
    ∙ ap (λ l. out ++ l) (sym (ap (λ l. texts (text w) l []) next))
    ∙ so_far

pub numbers_end : (w : Width) (out whole items : List ℕ) (i : ℕ) → length items ≤ i → out ++ texts (text w) (drop i items) [] ≡ whole → out ≡ whole
numbers_end w out whole items i past so_far =
    sym (append_none out) ∙ sym (ap (λ l. out ++ texts (text w) l []) (drop_all i items past)) ∙ so_far

-- the shares of a key

pub share-front : (share : PendingShare) (rest : List ℕ) → share_text share rest ≡ share_text share [] ++ rest
unfolding share_text
share-front share rest =
    ap (λ r. spelled w16 share.client ++ r) (row-front w16 share.samples rest) ∙ sym (append_assoc (spelled w16 share.client) (texts (text w16) share.samples []) rest)

next_slot : (slots : List (Option Share)) (client : ℕ) → client < length slots → drop client slots ≡ get_or slots client None ∷ drop (client + 1) slots
next_slot slots client within = drop-cons slots client None within ∙ ap (λ k. get_or slots client None ∷ drop k slots) (let same : suc client ≡ client + 1 = omega arith in same)

pub slots_more : (out more whole : List ℕ) (slots : List (Option Share)) (client : ℕ) → client < length slots → more ≡ out ++ texts share_text (slot_shares client (get_or slots client None)) []
    → out ++ texts share_text (shares_from client (drop client slots)) [] ≡ whole → more ++ texts share_text (shares_from (client + 1) (drop (client + 1) slots)) [] ≡ whole
slots_more out more whole slots client within put so_far =
    let own = slot_shares client (get_or slots client None) in
    let left = shares_from (client + 1) (drop (client + 1) slots) in
    ap (λ l. l ++ texts share_text left []) put
    ∙ append_assoc out (texts share_text own []) (texts share_text left [])
    ∙ ap (λ l. out ++ l) (sym (texts-front share_text share-front own (texts share_text left [])) ∙ sym (texts-append share_text own left []) ∙ sym (ap (λ l. texts share_text (shares_from client l) []) (next_slot slots client within)))
    ∙ so_far

pub slots_end : (out whole : List ℕ) (slots : List (Option Share)) (client : ℕ) → length slots ≤ client → out ++ texts share_text (shares_from client (drop client slots)) [] ≡ whole → out ≡ whole
slots_end out whole slots client past so_far =
    sym (append_none out) ∙ sym (ap (λ l. out ++ texts share_text (shares_from client l) []) (drop_all client slots past)) ∙ so_far

abbrev IsCounted : List (Option Share) → ℕ → ℕ → Type 0
IsCounted slots client count = (count + length (shares_from client (drop client slots)) ≡ length (shares_from 0 slots)) × (count ≤ client)

slot_few : (client : ℕ) (slot : Option Share) → length (slot_shares client slot) ≤ 1
slot_few client None = omega arith
slot_few client (Some share) = omega arith

pub counted_more : (slots : List (Option Share)) (client count own : ℕ) → client < length slots → own ≡ length (slot_shares client (get_or slots client None)) → IsCounted slots client count → IsCounted slots (client + 1) (count + own)
counted_more slots client count own within is so_far =
    let split : length (shares_from client (drop client slots)) ≡ length (slot_shares client (get_or slots client None)) + length (shares_from (client + 1) (drop (client + 1) slots)) =
    ap (λ l. length (shares_from client l)) (next_slot slots client within) ∙ length-append (slot_shares client (get_or slots client None)) (shares_from (client + 1) (drop (client + 1) slots)) in
    let whole = so_far.0 in
    let few = so_far.1 in
    (omega arith, omega (arith, slot_few client (get_or slots client None)))

pub counted_end : (slots : List (Option Share)) (client count : ℕ) → length slots ≤ client → IsCounted slots client count → count ≡ length (shares_from 0 slots)
counted_end slots client count past so_far =
    let none : length (shares_from client (drop client slots)) ≡ 0 = ap (λ l. length (shares_from client l)) (drop_all client slots past) in
    let whole = so_far.0 in
    omega arith

-- keys

pub key-front : (key : PendingKey) (rest : List ℕ) → key_text key rest ≡ key_text key [] ++ rest
unfolding key_text
key-front key rest =
    let shares = texts-front share_text share-front key.shares rest in
    let count = ap (λ r. spelled w16 (length key.shares) ++ r) shares ∙ sym (append_assoc (spelled w16 (length key.shares)) (texts share_text key.shares []) rest) in
    let life = ap (λ r. spelled w32 key.life ++ r) count ∙ sym (append_assoc (spelled w32 key.life) (spelled w16 (length key.shares) ++ texts share_text key.shares []) rest) in
    let plane = ap (λ r. spelled w32 key.plane ++ r) life ∙ sym (append_assoc (spelled w32 key.plane) (spelled w32 key.life ++ (spelled w16 (length key.shares) ++ texts share_text key.shares [])) rest) in
    ap (λ r. spelled w32 key.group ++ r) plane ∙ sym (append_assoc (spelled w32 key.group) (spelled w32 key.plane ++ (spelled w32 key.life ++ (spelled w16 (length key.shares) ++ texts share_text key.shares []))) rest)

pub keys_more : (out more whole : List ℕ) (e : GroupStep × KeyShares) (left rest : List (GroupStep × KeyShares)) → left ≡ e ∷ rest → more ≡ out ++ key_text (key_saved e) []
    → out ++ texts key_text (map key_saved left) [] ≡ whole → more ++ texts key_text (map key_saved rest) [] ≡ whole
keys_more out more whole e left rest is put so_far =
    ap (λ l. l ++ texts key_text (map key_saved rest) []) put
    ∙ append_assoc out (key_text (key_saved e) []) (texts key_text (map key_saved rest) [])
    ∙ ap (λ l. out ++ l) (sym (key-front (key_saved e) (texts key_text (map key_saved rest) [])) ∙ sym (ap (λ l. texts key_text (map key_saved l) []) is))
    ∙ so_far

pub keys_begin : (held : Held) (out put : List ℕ) (count : ℕ) (left : List (GroupStep × KeyShares)) → left ≡ held.entries → count ≡ length held.entries → put ≡ out ++ spelled w32 count
    → put ++ texts key_text (map key_saved left) [] ≡ out ++ pending_text (keys_saved held) []
unfolding pending_text
keys_begin held out put count left are is begun =
    ap (λ l. l ++ texts key_text (map key_saved left) []) begun
    ∙ append_assoc out (spelled w32 count) (texts key_text (map key_saved left) [])
    ∙ ap (λ n. out ++ (spelled w32 n ++ texts key_text (map key_saved left) [])) (is ∙ sym (length-map held.entries key_saved))
    ∙ ap (λ l. out ++ (spelled w32 (length (keys_saved held)) ++ texts key_text (map key_saved l) [])) are
