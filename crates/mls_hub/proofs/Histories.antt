-- The histories of a hub's ranks.
use Rattle.std.proofs.Common.{◌≡◌, ◌≢◌, ℕ, zero, suc, ◌+◌, ◌<◌, ◌≤◌, Bool, true, false, cond, List, [], ◌∷◌, ◌++◌, length, Option, None, Some, refl, sym, ◌∙◌, ap, subst, inl, inr, append_assoc, arith}
use Rattle.std.specs.Prelude.{◌==◌, nat_lt}
use Rattle.std.specs.Option.{option_to_list, option_map}
use Rattle.std.proofs.lemmas.Bool.{cases_Bool}
use Rattle.std.proofs.lemmas.Bool.Decides.{nat_tests}
use Rattle.mls_model.specs.Numbers.{element, times}
use Rattle.mls_model.specs.Places.{gathered}
use Rattle.mls_model.specs.Frames.{Frame}
use Rattle.mls_model.specs.Histories.{LaneEvent}
use Rattle.mls_laws.proofs.Places.{gathered_more}
use Rattle.mls_book.proofs.JournalLaws.{times_append}
use Rattle.mls_hub.specs.Lanes.{save_event, client_event, hub_event, hub_history, with_frames}

pub times_one : (j k : ℕ) → (k == j) ≡ true → times j (k ∷ []) ≡ 1
times_one j k same = ap (λ b. cond b 1 0) same

pub times_none : (j k : ℕ) → (k == j) ≡ false → times j (k ∷ []) ≡ 0
times_none j k other = ap (λ b. cond b 1 0) other

pub same_number : (n : ℕ) → (n == n) ≡ true
same_number n = grind (arith, nat_tests)

-- an element that is there is there in a longer list
element_front : {A : Type 0} (xs more : List A) (i : ℕ) → i < length xs → element (xs ++ more) i ≡ element xs i
element_front [] more i lt = absurd (omega (arith, lt))
element_front (x ∷ xs) more zero lt = refl
element_front (x ∷ xs) more (suc i) lt = element_front xs more i (omega (arith, lt))

pub element_last : {A : Type 0} (xs : List A) (x : A) → element (xs ++ x ∷ []) (length xs) ≡ Some x
element_last [] x = refl
element_last (y ∷ xs) x = element_last xs x

-- the frames of a lane, and of the others
pub with_own : (frames : ℕ → List Frame) (k : ℕ) (own : List Frame) → with_frames frames k own k ≡ own
with_own frames k own = ap (λ b. cond b own (frames k)) (same_number k)

pub with_other : (frames : ℕ → List Frame) (k j : ℕ) (own : List Frame) → (j == k) ≡ false → with_frames frames k own j ≡ frames j
with_other frames k j own other = ap (λ b. cond b own (frames j)) other

same_place : (j k : ℕ) → (j == k) ≡ true → j ≡ k
same_place j k e = grind (arith, nat_tests)

-- an event that was there is there behind more frames
event_stays : (ranks : ℕ) (frames : ℕ → List Frame) (k : ℕ) (more : List Frame) (x i : ℕ) → (ranks ≤ x → i < length (frames x)) → hub_event ranks (with_frames frames k (frames k ++ more)) x i ≡ hub_event ranks frames x i
event_stays ranks frames k more x i few = elim (cases_Bool (nat_lt x ranks)) [
  | inl own ↦
      ap (λ b. cond b (Some save_event) (option_map client_event (element (with_frames frames k (frames k ++ more) x) i))) own
      ∙ sym (ap (λ b. cond b (Some save_event) (option_map client_event (element (frames x) i))) own)
  | inr client ↦ (
      let le : ranks ≤ x = grind (arith, nat_tests, client) in
      let lt = few le in
      let there : element (with_frames frames k (frames k ++ more) x) i ≡ element (frames x) i = elim (cases_Bool (x == k)) [
        | inl same ↦ (
            let e : x ≡ k = same_place x k same in
            ap (λ b. element (cond b (frames k ++ more) (frames x)) i) same
            ∙ ap (λ (j : ℕ). element (frames j ++ more) i) (sym e)
            ∙ element_front (frames x) more i lt)
        | inr other ↦ ap (λ b. element (cond b (frames k ++ more) (frames x)) i) other
      ] in
      ap (λ (o : Option Frame). cond (nat_lt x ranks) (Some save_event) (option_map client_event o)) there)
]

here_more : (x : ℕ) (before rest : List ℕ) → times x before < times x (before ++ x ∷ rest)
here_more x before rest =
    let all = times_append x before (x ∷ rest) in
    let one : times x (x ∷ rest) ≡ suc (times x rest) = ap (λ b. cond b (suc (times x rest)) (times x rest)) (same_number x) in
    omega (arith, all, one)

grows : (ranks : ℕ) (frames : ℕ → List Frame) (k : ℕ) (more : List Frame) (before rest : List ℕ) → ((x : ℕ) → ranks ≤ x → times x (before ++ rest) ≤ length (frames x))
    → gathered (λ b x. option_to_list (hub_event ranks (with_frames frames k (frames k ++ more)) x (times x b))) before rest ≡ gathered (λ b x. option_to_list (hub_event ranks frames x (times x b))) before rest
unfolding gathered
grows ranks frames k more before [] few = refl
grows ranks frames k more before (x ∷ rest) few =
    let lt = here_more x before rest in
    let at = event_stays ranks frames k more x (times x before) (λ le. let f = few x le in omega (arith, lt, f)) in
    let moved : (before ++ x ∷ []) ++ rest ≡ before ++ x ∷ rest = append_assoc before (x ∷ []) rest in
    let tail = grows ranks frames k more (before ++ x ∷ []) rest (λ y le. subst (λ (xs : List ℕ). times y xs ≤ length (frames y)) (sym moved) (few y le)) in
    ap (λ (o : Option LaneEvent). option_to_list o ++ gathered (λ b y. option_to_list (hub_event ranks (with_frames frames k (frames k ++ more)) y (times y b))) (before ++ x ∷ []) rest) at
    ∙ ap (λ (es : List LaneEvent). option_to_list (hub_event ranks frames x (times x before)) ++ es) tail

-- a history is as before where lanes have more frames than were taken
pub history_stays : (ranks : ℕ) (frames : ℕ → List Frame) (k : ℕ) (more : List Frame) (journal : List ℕ) → ((x : ℕ) → ranks ≤ x → times x journal ≤ length (frames x)) → hub_history ranks (with_frames frames k (frames k ++ more)) journal ≡ hub_history ranks frames journal
unfolding hub_history
history_stays ranks frames k more journal few = grows ranks frames k more [] journal few

-- the history with one event more
pub history_more : (ranks : ℕ) (frames : ℕ → List Frame) (journal : List ℕ) (k : ℕ) (e : LaneEvent) → hub_event ranks frames k (times k journal) ≡ Some e → hub_history ranks frames (journal ++ k ∷ []) ≡ hub_history ranks frames journal ++ e ∷ []
unfolding hub_history
history_more ranks frames journal k e there =
    gathered_more (λ before x. option_to_list (hub_event ranks frames x (times x before))) [] journal k
    ∙ ap (λ (o : Option LaneEvent). hub_history ranks frames journal ++ option_to_list o) there

pub history_none : (ranks : ℕ) (frames : ℕ → List Frame) → hub_history ranks frames [] ≡ []
unfolding hub_history gathered
history_none ranks frames = refl

-- the event of a frame that is the next of its lane
pub next_event : (ranks : ℕ) (frames : ℕ → List Frame) (k n : ℕ) (frame : Frame) → ranks ≤ k → n ≡ length (frames k) → hub_event ranks (with_frames frames k (frames k ++ frame ∷ [])) k n ≡ Some (client_event frame)
next_event ranks frames k n frame le count =
    let client : nat_lt k ranks ≡ false = grind (arith, nat_tests, le) in
    ap (λ b. cond b (Some save_event) (option_map client_event (element (with_frames frames k (frames k ++ frame ∷ []) k) n))) client
    ∙ ap (λ (fs : List Frame). option_map client_event (element fs n)) (with_own frames k (frames k ++ frame ∷ []))
    ∙ ap (λ (i : ℕ). option_map client_event (element (frames k ++ frame ∷ []) i)) count
    ∙ ap (λ (o : Option Frame). option_map client_event o) (element_last (frames k) frame)

-- the event of a control lane
pub control_event : (ranks : ℕ) (frames : ℕ → List Frame) (k n : ℕ) → k < ranks → hub_event ranks frames k n ≡ Some save_event
control_event ranks frames k n lt =
    let own : nat_lt k ranks ≡ true = grind (arith, nat_tests, lt) in
    ap (λ b. cond b (Some save_event) (option_map client_event (element (frames k) n))) own
