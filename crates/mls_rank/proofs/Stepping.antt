-- From fitting pieces to histories.
use Rattle.std.proofs.Common.{◌≡◌, ℕ, Bool, true, false, List, [], ◌∷◌, ◌++◌, Option, None, refl, ap, sym, ◌∙◌, subst}
use Rattle.std.specs.Option.{option_to_list}
use Rattle.std.proofs.lemmas.List.{append-nil}
use Rattle.mls_model.specs.declared.lanes.LaneKind.{LaneKind}
use Rattle.mls_model.specs.declared.lanes.LaneKind.TheVariants.{Client, Control}
use Rattle.mls_model.specs.declared.outcomes.Outcome.{Outcome}
use Rattle.mls_model.specs.declared.outcomes.Outcome.TheVariants.{Crash}
use Rattle.mls_model.specs.declared.outcomes.Counts.{Counts}
use Rattle.mls_model.specs.Places.{gathered}
use Rattle.mls_model.specs.Studies.{Sizes}
use Rattle.mls_model.specs.Frames.{Frame, Piece, piece, beat, bye, save, crash, hello, welcome, refuse}
use Rattle.mls_model.specs.Histories.{LaneEvent}
use Rattle.mls_model.specs.Survival.{is_crash, surviving}
use Rattle.mls_model.specs.Fitting.{fitting, frame_piece, fitting_piece}
use Rattle.mls_model.specs.Outcomes.{outcome, outcomes, tally, counts}
use Rattle.mls_model.specs.Standing.{Table, empty_table}
use Rattle.mls_ledger.specs.MarkSets.{MarkSet, is_marked, marked}
use Rattle.mls_model.specs.Survival.{before_last_save}
use Rattle.mls_model.specs.Outcomes.{counted}
use Rattle.mls_laws.proofs.Surviving.{surviving_more, surviving_crash}
use Rattle.mls_laws.proofs.Outcomes.{fitting_more, counts_more}
use Rattle.mls_assembly.specs.Pendings.{Pends}
use Rattle.mls_assembly.specs.Held.{Held, life_of, share_at}
use Rattle.mls_rank.specs.Counting.{no_counts}
use Rattle.mls_rank.specs.Standing.{KeepsRows, outcome_after}
use Rattle.mls_rank.proofs.Keeping.{keeps_none}
use Rattle.mls_rank.proofs.Waiting.{waits_at}

-- before any event
pub counts_none : (s : Sizes) (rank : ℕ) → no_counts ≡ counts s rank (surviving [])
unfolding counts tally outcomes gathered surviving
counts_none s rank = refl

pub fitting_none : (s : Sizes) (rank : ℕ) → [] ≡ fitting s rank (surviving [])
unfolding fitting surviving
fitting_none s rank = refl

pub holds_none : (s : Sizes) (rank : ℕ) (marks : ℕ → ℕ → Bool) (groups : ℕ → ℕ) (stands : Table → Type 0) → ((group plane : ℕ) → marks group plane ≡ false) → ((plane : ℕ) → groups plane ≡ 0) → stands empty_table
    → KeepsRows s rank marks groups stands (fitting s rank (surviving []))
holds_none s rank marks groups stands empty none rows = subst (KeepsRows s rank marks groups stands) (fitting_none s rank) (keeps_none s rank marks groups stands empty none rows)

pub outcome_is : (s : Sizes) (rank : ℕ) (before : List LaneEvent) (kind : LaneKind) (frame : Frame) → outcome_after s rank (fitting s rank before) kind frame ≡ outcome s rank before (record { kind = kind; frame = frame })
unfolding outcome
outcome_is s rank before kind frame = refl

-- one more event that is no crash
pub counts_step : (s : Sizes) (rank : ℕ) (history : List LaneEvent) (e : LaneEvent) (before after : Counts) (o : Outcome) → is_crash e ≡ false
    → before ≡ counts s rank (surviving history) → o ≡ outcome s rank (surviving history) e → after ≡ counted before o → after ≡ counts s rank (surviving (history ++ e ∷ []))
counts_step s rank history e before after o none is was so =
    so
    ∙ (ap (λ c. counted c o) is
    ∙ (ap (counted (counts s rank (surviving history))) was
    ∙ (sym (counts_more s rank (surviving history) e)
    ∙ ap (counts s rank) (sym (surviving_more history e none)))))

pub pieces_step : (s : Sizes) (rank : ℕ) (history : List LaneEvent) (e : LaneEvent) → is_crash e ≡ false
    → fitting s rank (surviving history) ++ option_to_list (fitting_piece s rank e) ≡ fitting s rank (surviving (history ++ e ∷ []))
pieces_step s rank history e none = sym (ap (fitting s rank) (surviving_more history e none) ∙ fitting_more s rank (surviving history) e)

-- what a step says of the fitting pieces, said of the history
pub holds_step : {F : Type 0} (stands : F → Table → Type 0) (s s1 s2 : Sizes) (r r1 r2 : ℕ) (m1 m2 : MarkSet) (f1 f2 : F) (history : List LaneEvent) (e : LaneEvent) → is_crash e ≡ false
    → s1 ≡ s → s2 ≡ s1 → r1 ≡ r → r2 ≡ r1 → m2 ≡ m1 → f2 ≡ f1
    → KeepsRows s1 r1 (is_marked m1) (marked m1) (stands f1) (fitting s r (surviving history) ++ option_to_list (fitting_piece s r e))
    → KeepsRows s2 r2 (is_marked m2) (marked m2) (stands f2) (fitting s2 r2 (surviving (history ++ e ∷ [])))
holds_step {F} stands s s1 s2 r r1 r2 m1 m2 f1 f2 history e none s_same s_kept r_same r_kept m_kept f_kept held =
    let whole : KeepsRows s1 r1 (is_marked m1) (marked m1) (stands f1) (fitting s r (surviving (history ++ e ∷ [])))
    = subst (KeepsRows s1 r1 (is_marked m1) (marked m1) (stands f1)) (pieces_step s r history e none) held in
    let sized : KeepsRows s1 r1 (is_marked m1) (marked m1) (stands f1) (fitting s1 r1 (surviving (history ++ e ∷ [])))
    = subst (λ (z : Sizes). KeepsRows s1 r1 (is_marked m1) (marked m1) (stands f1) (fitting z r1 (surviving (history ++ e ∷ [])))) (sym s_same)
    (subst (λ (q : ℕ). KeepsRows s1 r1 (is_marked m1) (marked m1) (stands f1) (fitting s q (surviving (history ++ e ∷ [])))) (sym r_same) whole) in
    subst (λ (f : F). KeepsRows s2 r2 (is_marked m2) (marked m2) (stands f) (fitting s2 r2 (surviving (history ++ e ∷ [])))) (sym f_kept)
    (subst (λ (m : MarkSet). KeepsRows s2 r2 (is_marked m) (marked m) (stands f1) (fitting s2 r2 (surviving (history ++ e ∷ [])))) (sym m_kept)
    (subst (λ (q : ℕ). KeepsRows s2 q (is_marked m1) (marked m1) (stands f1) (fitting s2 q (surviving (history ++ e ∷ [])))) (sym r_kept)
    (subst (λ (z : Sizes). KeepsRows z r1 (is_marked m1) (marked m1) (stands f1) (fitting z r1 (surviving (history ++ e ∷ [])))) (sym s_kept) sized)))

pub waits_step : (s s1 s2 : Sizes) (r r1 r2 : ℕ) (h1 h2 : Held) (history : List LaneEvent) (e : LaneEvent) → is_crash e ≡ false → s1 ≡ s → s2 ≡ s1 → r1 ≡ r → r2 ≡ r1 → h2 ≡ h1
    → Pends s1 r1 (life_of h1) (share_at h1) (fitting s r (surviving history) ++ option_to_list (fitting_piece s r e)) → Pends s2 r2 (life_of h2) (share_at h2) (fitting s2 r2 (surviving (history ++ e ∷ [])))
waits_step s s1 s2 r r1 r2 h1 h2 history e none s_same s_kept r_same r_kept h_kept waits =
    let pieces : fitting s r (surviving history) ++ option_to_list (fitting_piece s r e) ≡ fitting s2 r2 (surviving (history ++ e ∷ []))
    = pieces_step s r history e none
    ∙ sym (ap (λ z. fitting z r2 (surviving (history ++ e ∷ []))) (s_kept ∙ s_same) ∙ ap (λ q. fitting s q (surviving (history ++ e ∷ []))) (r_kept ∙ r_same)) in
    waits_at s1 s2 r1 r2 h1 h2 (fitting s2 r2 (surviving (history ++ e ∷ []))) s_kept r_kept h_kept (subst (Pends s1 r1 (life_of h1) (share_at h1)) pieces waits)

-- counts at equal numbers
pub counts_at : (s s' : Sizes) (r r' : ℕ) (c : Counts) (events : List LaneEvent) → s' ≡ s → r' ≡ r → c ≡ counts s r events → c ≡ counts s' r' events
counts_at s s' r r' c events s_same r_same h = h ∙ sym (ap (λ z. counts z r' events) s_same ∙ ap (λ q. counts s q events) r_same)

crash_frame_outcome : (s : Sizes) (rank : ℕ) (pieces : List Piece) (kind : LaneKind) (frame : Frame) → is_crash (record { kind = kind; frame = frame }) ≡ true → (outcome_after s rank pieces kind frame ≡ Crash) × (frame_piece s rank kind frame ≡ None)
crash_frame_outcome s rank pieces Client frame h = absurd cc
crash_frame_outcome s rank pieces Control (piece p) h = absurd cc
crash_frame_outcome s rank pieces Control (beat g l) h = absurd cc
crash_frame_outcome s rank pieces Control (bye g l) h = absurd cc
crash_frame_outcome s rank pieces Control save h = absurd cc
crash_frame_outcome s rank pieces Control crash h = (refl, refl)
crash_frame_outcome s rank pieces Control (hello v g l c r) h = absurd cc
crash_frame_outcome s rank pieces Control (welcome l) h = absurd cc
crash_frame_outcome s rank pieces Control (refuse r v) h = absurd cc

-- a crash brings back the counts and pieces of what came before the last save
pub counts_back : (s : Sizes) (rank : ℕ) (history : List LaneEvent) (e : LaneEvent) → is_crash e ≡ true → counts s rank (surviving (before_last_save history)) ≡ counts s rank (surviving (history ++ e ∷ []))
counts_back s rank history e h =
    let out : outcome s rank (surviving (before_last_save history)) e ≡ Crash = sym (outcome_is s rank (surviving (before_last_save history)) e.kind e.frame) ∙ (crash_frame_outcome s rank (fitting s rank (surviving (before_last_save history))) e.kind e.frame h).0 in
    sym (ap (counts s rank) (surviving_crash history e h)
    ∙ (counts_more s rank (surviving (before_last_save history)) e
    ∙ ap (counted (counts s rank (surviving (before_last_save history)))) out))

pub pieces_back : (s : Sizes) (rank : ℕ) (history : List LaneEvent) (e : LaneEvent) → is_crash e ≡ true → fitting s rank (surviving (before_last_save history)) ≡ fitting s rank (surviving (history ++ e ∷ []))
pieces_back s rank history e h =
    sym (ap (fitting s rank) (surviving_crash history e h)
    ∙ (fitting_more s rank (surviving (before_last_save history)) e
    ∙ (ap (λ (o : Option Piece). fitting s rank (surviving (before_last_save history)) ++ option_to_list o) ((crash_frame_outcome s rank [] e.kind e.frame h).1)
    ∙ append-nil (fitting s rank (surviving (before_last_save history))))))
