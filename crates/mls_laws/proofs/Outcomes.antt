-- Fitting pieces, outcomes and counts of surviving events with one more event.
use Rattle.std.proofs.Common.{◌≡◌, ℕ, suc, ◌+◌, ◌≤◌, length, Bool, true, false, cond, List, [], ◌∷◌, ◌++◌, Option, Some, None, refl, ap, sym, append_assoc, ◌∙◌, arith}
use Rattle.std.specs.Prelude.{count_by}
use Rattle.std.specs.Option.{option_to_list}
use Rattle.std.specs.List.{cons_option, filter_map}
use Rattle.std.proofs.lemmas.List.{append-nil}
use Rattle.std.proofs.lemmas.List.Elements.{filter_map-append}
use Rattle.std.proofs.lemmas.List.Sums.{sum_by-append}
use Rattle.mls_model.specs.declared.outcomes.Reason.TheVariants as reason
use Rattle.mls_model.specs.declared.outcomes.Outcome.{Outcome}
use Rattle.mls_model.specs.declared.outcomes.Outcome.TheVariants.{Accepted, Kept, Replay, Stale, Repeated, Foreign, Quiet, Save, Crash}
use Rattle.mls_model.specs.declared.outcomes.Counts.{Counts}
use Rattle.mls_model.specs.Studies.{Sizes}
use Rattle.mls_model.specs.Histories.{LaneEvent}
use Rattle.mls_model.specs.Fitting.{frame_reason, fitting, fitting_piece}
use Rattle.mls_model.specs.declared.lanes.LaneKind.{LaneKind}
use Rattle.mls_model.specs.declared.lanes.LaneKind.TheVariants.{Client, Control}
use Rattle.mls_model.specs.Frames.{Frame, piece, beat, bye, save, crash, hello, welcome, refuse}
use Rattle.mls_model.specs.Places.{gathered}
use Rattle.mls_model.specs.Survival.{is_save, surviving}
use Rattle.mls_model.specs.Outcomes.{native_outcome, total_count, outcome, outcomes, tally, counts, is_accepted, is_kept, is_replay, is_stale, is_repeated, is_foreign_by}
use Rattle.mls_model.specs.Outcomes.{raised, counted}
use Rattle.mls_laws.proofs.Places.{gathered_more}
use Rattle.mls_laws.proofs.Surviving.{surviving_more, save_no_crash, few_survive}

cons_to_list : {A : Type 0} (o : Option A) → cons_option o [] ≡ option_to_list o
cons_to_list None = refl
cons_to_list (Some x) = refl

pub fitting_more : (s : Sizes) (rank : ℕ) (events : List LaneEvent) (e : LaneEvent) → fitting s rank (events ++ e ∷ []) ≡ fitting s rank events ++ option_to_list (fitting_piece s rank e)
unfolding fitting
fitting_more s rank events e =
    filter_map-append (fitting_piece s rank) events (e ∷ []) ∙ ap (λ r. filter_map (fitting_piece s rank) events ++ r) (cons_to_list (fitting_piece s rank e))

pub outcomes_more : (s : Sizes) (rank : ℕ) (events : List LaneEvent) (e : LaneEvent) → outcomes s rank (events ++ e ∷ []) ≡ outcomes s rank events ++ outcome s rank events e ∷ []
unfolding outcomes
outcomes_more s rank events e = gathered_more (λ before x. outcome s rank before x ∷ []) [] events e

raised_by : (b : Bool) (n : ℕ) → n + cond b 1 0 ≡ raised b n
raised_by true n = refl
raised_by false n = omega arith

one_more : (test : Outcome → Bool) (all : List Outcome) (o : Outcome) → count_by test (all ++ o ∷ []) ≡ raised (test o) (count_by test all)
one_more test all o =
    let joined : count_by test (all ++ o ∷ []) ≡ count_by test all + cond (test o) 1 0 = omega (arith, sum_by-append (λ x. cond (test x) 1 0) all (o ∷ [])) in
    joined ∙ raised_by (test o) (count_by test all)

same_counts : (a b : Counts) → a.accepted ≡ b.accepted → a.kept ≡ b.kept → a.replay ≡ b.replay → a.stale ≡ b.stale → a.repeated ≡ b.repeated
    → a.f1 ≡ b.f1 → a.f2 ≡ b.f2 → a.f3 ≡ b.f3 → a.f4 ≡ b.f4 → a.f5 ≡ b.f5 → a.f6 ≡ b.f6
    → ◌≡◌ {A = Counts} (record { accepted = a.accepted; kept = a.kept; replay = a.replay; stale = a.stale; repeated = a.repeated; f1 = a.f1; f2 = a.f2; f3 = a.f3; f4 = a.f4; f5 = a.f5; f6 = a.f6 }) (record { accepted = b.accepted; kept = b.kept; replay = b.replay; stale = b.stale; repeated = b.repeated; f1 = b.f1; f2 = b.f2; f3 = b.f3; f4 = b.f4; f5 = b.f5; f6 = b.f6 })
same_counts a b e1 e2 e3 e4 e5 e6 e7 e8 e9 e10 e11 = cc

pub tally_more : (all : List Outcome) (o : Outcome) → tally (all ++ o ∷ []) ≡ counted (tally all) o
unfolding tally
tally_more all o =
    same_counts _ _ (one_more is_accepted all o) (one_more is_kept all o) (one_more is_replay all o) (one_more is_stale all o) (one_more is_repeated all o)
    (one_more (is_foreign_by reason.LaneKind) all o) (one_more (is_foreign_by reason.Rows) all o) (one_more (is_foreign_by reason.Group) all o) (one_more (is_foreign_by reason.Step) all o) (one_more (is_foreign_by reason.Client) all o) (one_more (is_foreign_by reason.Cells) all o)

pub counts_more : (s : Sizes) (rank : ℕ) (events : List LaneEvent) (e : LaneEvent) → counts s rank (events ++ e ∷ []) ≡ counted (counts s rank events) (outcome s rank events e)
unfolding counts
counts_more s rank events e = ap tally (outcomes_more s rank events e) ∙ tally_more (outcomes s rank events) (outcome s rank events e)

-- an outcome is counted once at most
counted_once : (c : Counts) (o : Outcome) → total_count (counted c o) ≤ 1 + total_count c
counted_once c Accepted = omega arith
counted_once c Kept = omega arith
counted_once c Replay = omega arith
counted_once c Stale = omega arith
counted_once c Repeated = omega arith
counted_once c (Foreign reason.LaneKind) = omega arith
counted_once c (Foreign reason.Rows) = omega arith
counted_once c (Foreign reason.Group) = omega arith
counted_once c (Foreign reason.Step) = omega arith
counted_once c (Foreign reason.Client) = omega arith
counted_once c (Foreign reason.Cells) = omega arith
counted_once c Quiet = omega arith
counted_once c Save = omega arith
counted_once c Crash = omega arith

few_more : (xs ys : List Outcome) → total_count (tally (xs ++ ys)) ≤ total_count (tally xs) + length ys
few_more xs [] = omega (arith, ap (λ zs. total_count (tally zs)) (append-nil xs))
few_more xs (o ∷ ys) =
    let whole : total_count (tally (xs ++ o ∷ ys)) ≡ total_count (tally ((xs ++ o ∷ []) ++ ys)) = ap (λ zs. total_count (tally zs)) (sym (append_assoc xs (o ∷ []) ys)) in
    let one : total_count (tally (xs ++ o ∷ [])) ≡ total_count (counted (tally xs) o) = ap total_count (tally_more xs o) in
    omega (arith, whole, one, counted_once (tally xs) o, few_more (xs ++ o ∷ []) ys)

none_counted : total_count (tally []) ≡ 0
unfolding tally
none_counted = refl

few_counted : (all : List Outcome) → total_count (tally all) ≤ length all
few_counted all = omega (arith, none_counted, few_more [] all)

one_each : {A B : Type 0} (give : List A → A → B) (before xs : List A) → length (gathered (λ b x. give b x ∷ []) before xs) ≡ length xs
unfolding gathered
one_each give before [] = refl
one_each give before (x ∷ xs) = ap suc (one_each give (before ++ x ∷ []) xs)

-- the counts of a history add up to at most its length
pub few_counts : (s : Sizes) (rank : ℕ) (h : List LaneEvent) → total_count (counts s rank (surviving h)) ≤ length h
unfolding counts outcomes
few_counts s rank h =
    let number : length (outcomes s rank (surviving h)) ≡ length (surviving h) = one_each (λ before e. outcome s rank before e) [] (surviving h) in
    omega (arith, few_counted (outcomes s rank (surviving h)), number, few_survive h)

saved_as : (s : Sizes) (rank : ℕ) (before : List LaneEvent) (kind : LaneKind) (frame : Frame) → is_save (record { kind = kind; frame = frame }) ≡ true → elim (frame_reason s rank kind frame) [ Some r ↦ Foreign r | None ↦ native_outcome s rank (fitting s rank before) kind frame ] ≡ Save
saved_as s rank before Client frame is = absurd cc
saved_as s rank before Control (piece p) is = absurd cc
saved_as s rank before Control (beat g l) is = absurd cc
saved_as s rank before Control (bye g l) is = absurd cc
saved_as s rank before Control save is = refl
saved_as s rank before Control crash is = absurd cc
saved_as s rank before Control (hello v g l c r) is = absurd cc
saved_as s rank before Control (welcome l) is = absurd cc
saved_as s rank before Control (refuse r v) is = absurd cc

saved : (s : Sizes) (rank : ℕ) (before : List LaneEvent) (e : LaneEvent) → is_save e ≡ true → outcome s rank before e ≡ Save
unfolding outcome
saved s rank before e is = saved_as s rank before e.kind e.frame is

uncounted : (c : Counts) → counted c Save ≡ c
uncounted c = refl

-- a save at the end is not counted
pub save_uncounted : (s : Sizes) (rank : ℕ) (h : List LaneEvent) (e : LaneEvent) → is_save e ≡ true → counts s rank (surviving (h ++ e ∷ [])) ≡ counts s rank (surviving h)
save_uncounted s rank h e is =
    ap (counts s rank) (surviving_more h e (save_no_crash e is))
    ∙ (counts_more s rank (surviving h) e
    ∙ (ap (counted (counts s rank (surviving h))) (saved s rank (surviving h) e is)
    ∙ uncounted (counts s rank (surviving h))))
