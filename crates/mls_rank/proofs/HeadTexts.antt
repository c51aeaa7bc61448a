-- What was put part by part is the whole spelling.
use Rattle.std.proofs.Common.{◌≡◌, ℕ, suc, ◌+◌, ◌<◌, ◌≤◌, List, [], ◌∷◌, ◌++◌, length, map, drop, ap, sym, ◌∙◌, arith, append_assoc, drop-cons}
use Rattle.std.specs.Prelude.{slice_index}
use Rattle.std.specs.Int.{Width, w16, w32, w64, w8}
use Rattle.std.proofs.lemmas.List.{drop_all, append-nil}
use Rattle.mls_model.specs.declared.outcomes.Counts.{Counts}
use Rattle.mls_model.specs.Studies.{Sizes}
use Rattle.mls_ckpt.specs.Reading.{spelled, text, texts}
use Rattle.mls_ckpt.specs.States.{State}
use Rattle.mls_ckpt.specs.Spellings.{magic, sized_text, head_numbers, head_text, counts_list, counts_text, marks_text, pending_text, spelled_state}
use Rattle.mls_ckpt.proofs.Steps.{text-front, row-front, texts-front}

-- the thresholds that were put, and those that are left

abbrev pub sized : ℕ → Width × ℕ
sized t = (w16, t)

pub thresholds_more : (out more whole ts : List ℕ) (i : ℕ) → i < length ts → more ≡ out ++ spelled w16 (slice_index ts i) → out ++ texts sized_text (map sized (drop i ts)) [] ≡ whole → more ++ texts sized_text (map sized (drop (i + 1) ts)) [] ≡ whole
thresholds_more out more whole ts i within put so_far =
    let next : drop i ts ≡ slice_index ts i ∷ drop (i + 1) ts = drop-cons ts i 0 within ∙ ap (λ k. slice_index ts i ∷ drop k ts) (let same : suc i ≡ i + 1 = omega arith in same) in
    ap (λ l. l ++ texts sized_text (map sized (drop (i + 1) ts)) []) put
    ∙ append_assoc out (spelled w16 (slice_index ts i)) (texts sized_text (map sized (drop (i + 1) ts)) [])
    ∙ ap (λ l. out ++ l) (sym (ap (λ l. texts sized_text (map sized l) []) next))
    ∙ so_far

pub thresholds_end : (out whole ts : List ℕ) (i : ℕ) → length ts ≤ i → out ++ texts sized_text (map sized (drop i ts)) [] ≡ whole → out ≡ whole
thresholds_end out whole ts i past so_far =
    sym (append-nil out) ∙ sym (ap (λ l. out ++ texts sized_text (map sized l) []) (drop_all i ts past)) ∙ so_far

pub thresholds_begin : (out put ts : List ℕ) (n : ℕ) → n ≡ length ts → put ≡ out ++ spelled w8 n → put ++ texts sized_text (map sized ts) [] ≡ out ++ texts sized_text ((w8, length ts) ∷ map sized ts) []
thresholds_begin out put ts n is begun =
    ap (λ l. l ++ texts sized_text (map sized ts) []) begun
    ∙ append_assoc out (spelled w8 n) (texts sized_text (map sized ts) [])
    ∙ ap (λ k. out ++ (spelled w8 k ++ texts sized_text (map sized ts) [])) is

-- each part stands before what follows it

sized-front : (number : Width × ℕ) (rest : List ℕ) → sized_text number rest ≡ sized_text number [] ++ rest
sized-front number rest = text-front number.0 number.1 rest

head-front : (version : ℕ) (s : Sizes) (rank : ℕ) (rest : List ℕ) → head_text version s rank rest ≡ head_text version s rank [] ++ rest
unfolding head_text
head-front version s rank rest =
    let numbers = texts-front sized_text sized-front (head_numbers version s rank) rest in
    let behind = ap (λ r. spelled w16 version ++ r) numbers ∙ sym (append_assoc (spelled w16 version) (texts sized_text (head_numbers version s rank) []) rest) in
    ap (λ r. spelled w32 magic ++ r) behind ∙ sym (append_assoc (spelled w32 magic) (spelled w16 version ++ texts sized_text (head_numbers version s rank) []) rest)

counts-front : (c : Counts) (rest : List ℕ) → counts_text c rest ≡ counts_text c [] ++ rest
unfolding counts_text
counts-front c rest = row-front w64 (counts_list c) rest

marks-front : (marks : List (List ℕ)) (rest : List ℕ) → marks_text marks rest ≡ marks_text marks [] ++ rest
unfolding marks_text
marks-front marks rest = texts-front (texts (text w8)) (row-front w8) marks rest

-- the parts of a state, put one behind the other
pub whole_text : (s : Sizes) (rank : ℕ) (state : State) (empty o1 o2 o3 o4 o5 : List ℕ) → empty ≡ [] → o1 ≡ empty ++ head_text 3 s rank [] → o2 ≡ o1 ++ counts_text state.counts [] → o3 ≡ o2 ++ marks_text state.marks [] → o4 ≡ o3 ++ state.part → o5 ≡ o4 ++ pending_text state.pending []
    → o5 ≡ spelled_state 3 s rank state
unfolding spelled_state
whole_text s rank state empty o1 o2 o3 o4 o5 none e1 e2 e3 e4 e5 =
    let h = head_text 3 s rank [] in
    let c = counts_text state.counts [] in
    let m = marks_text state.marks [] in
    let k = pending_text state.pending [] in
    let first : o1 ≡ h = e1 ∙ ap (λ l. l ++ h) none in
    let second : o2 ≡ h ++ c = e2 ∙ ap (λ l. l ++ c) first in
    let third : o3 ≡ h ++ (c ++ m) = e3 ∙ ap (λ l. l ++ m) second ∙ append_assoc h c m in
    let fourth : o4 ≡ h ++ (c ++ (m ++ state.part)) = e4 ∙ ap (λ l. l ++ state.part) third ∙ append_assoc h (c ++ m) state.part ∙ ap (λ l. h ++ l) (append_assoc c m state.part) in
    let fifth : o5 ≡ h ++ (c ++ (m ++ (state.part ++ k))) =
    e5 ∙ ap (λ l. l ++ k) fourth ∙ append_assoc h (c ++ (m ++ state.part)) k ∙ ap (λ l. h ++ l) (append_assoc c (m ++ state.part) k ∙ ap (λ l. c ++ l) (append_assoc m state.part k)) in
    fifth
    ∙ ap (λ l. h ++ (c ++ l)) (sym (marks-front state.marks (state.part ++ k)))
    ∙ ap (λ l. h ++ l) (sym (counts-front state.counts (marks_text state.marks (state.part ++ k))))
    ∙ sym (head-front 3 s rank (counts_text state.counts (marks_text state.marks (state.part ++ k))))
