-- What is known of a piece that fits a rank.
use Rattle.std.proofs.Common.{◌≡◌, ℕ, ◌+◌, Bool, true, false, not, ◌&&◌, cond, List, [], ◌∷◌, Option, Some, None, refl, ap, sym, ◌∙◌}
use Rattle.std.specs.Prelude.{◌==◌, nat_lt}
use Rattle.std.specs.List.{AllByRecursion, filter_map, cons_option}
use Rattle.std.proofs.lemmas.Bool.{and_parts, eqb-true, ltb-true}
use Rattle.mls_model.specs.declared.lanes.LaneKind.{LaneKind}
use Rattle.mls_model.specs.declared.lanes.LaneKind.TheVariants.{Client, Control}
use Rattle.mls_model.specs.declared.outcomes.Reason.{Reason}
use Rattle.mls_model.specs.declared.outcomes.Outcome.{Outcome}
use Rattle.mls_model.specs.declared.outcomes.Outcome.TheVariants.{Foreign}
use Rattle.mls_model.specs.Studies.{Sizes, planes}
use Rattle.mls_model.specs.Blocks.{overlap, overlaps, width}
use Rattle.mls_model.specs.Frames.{Frame, Piece, piece, beat, bye, save, crash, hello, welcome, refuse}
use Rattle.mls_model.specs.Histories.{LaneEvent}
use Rattle.mls_model.specs.Fitting.{has_its_cells, piece_reason, frame_piece, fitting_piece, fitting}
use Rattle.mls_model.specs.Outcomes.{piece_outcome, outcome}
use Rattle.mls_model.specs.Fitting.{Fits}

passed : (b : Bool) (r : Reason) (rest : Option Reason) → cond (not b) (Some r) rest ≡ None → (b ≡ true) × (rest ≡ None)
passed true r rest h = (refl, h)
passed false r rest h = absurd cc

pub fits : (s : Sizes) (rank : ℕ) (p : Piece) → piece_reason s rank p ≡ None → Fits s rank p
fits s rank p h =
    let a = passed (p.rows == s.parameters + 2) _ _ h in
    let b = passed (nat_lt p.group s.groups) _ _ (a.1) in
    let c = passed (nat_lt p.plane (planes s)) _ _ (b.1) in
    let d = passed (nat_lt p.client s.clients) _ _ (c.1) in
    let e = passed (has_its_cells s rank p) _ _ (d.1) in
    let cells = and_parts (overlaps s rank p.client && (p.first == (overlap s rank p.client).first)) (p.count == width (overlap s rank p.client)) (e.0) in
    let front = and_parts (overlaps s rank p.client) (p.first == (overlap s rank p.client).first) (cells.0) in
    record {
      rows = eqb-true _ _ (a.0);
      group = ltb-true _ _ (b.0);
      plane = ltb-true _ _ (c.0);
      client = ltb-true _ _ (d.0);
      some = front.0;
      first = eqb-true _ _ (front.1);
      count = eqb-true _ _ (cells.1);
    }

by_reason : (o : Option Reason) (p q : Piece) → elim o [ None ↦ Some p | Some r ↦ None ] ≡ Some q → (o ≡ None) × (p ≡ q)
by_reason None p q h = (refl, cc)
by_reason (Some r) p q h = absurd cc

of_frame : (s : Sizes) (rank : ℕ) (kind : LaneKind) (frame : Frame) (q : Piece) → frame_piece s rank kind frame ≡ Some q
    → (kind ≡ Client) × (frame ≡ piece q) × (piece_reason s rank q ≡ None)
of_frame s rank Client (piece p) q h =
    let parts = by_reason (piece_reason s rank p) p q h in (refl, ap piece (parts.1), ap (piece_reason s rank) (sym (parts.1)) ∙ parts.0)
of_frame s rank Client (beat g l) q h = absurd cc
of_frame s rank Client (bye g l) q h = absurd cc
of_frame s rank Client save q h = absurd cc
of_frame s rank Client crash q h = absurd cc
of_frame s rank Client (hello v g l c r) q h = absurd cc
of_frame s rank Client (welcome l) q h = absurd cc
of_frame s rank Client (refuse r v) q h = absurd cc
of_frame s rank Control frame q h = absurd cc

-- a fitting piece is that of an event on a client lane, and none of the reasons holds
pub of_event : (s : Sizes) (rank : ℕ) (e : LaneEvent) (q : Piece) → fitting_piece s rank e ≡ Some q
    → (e.kind ≡ Client) × (e.frame ≡ piece q) × (piece_reason s rank q ≡ None)
of_event s rank e q h = of_frame s rank e.kind e.frame q h

pub event_fits : (s : Sizes) (rank : ℕ) (e : LaneEvent) (q : Piece) → fitting_piece s rank e ≡ Some q → Fits s rank q
event_fits s rank e q h = let parts = of_event s rank e q h in fits s rank q (parts.2)

no_reason : (o : Option Reason) (x : Outcome) → o ≡ None → elim o [ Some r ↦ Foreign r | None ↦ x ] ≡ x
no_reason None x h = refl
no_reason (Some r) x h = absurd cc

pub outcome_of_fitting : (s : Sizes) (rank : ℕ) (before : List LaneEvent) (e : LaneEvent) (q : Piece) → fitting_piece s rank e ≡ Some q
    → outcome s rank before e ≡ piece_outcome s rank (fitting s rank before) q
unfolding outcome
outcome_of_fitting s rank before e q h =
    let parts = of_event s rank e q h in
    rw (parts.0, parts.1) (no_reason (piece_reason s rank q) (piece_outcome s rank (fitting s rank before) q) (parts.2))

all_cons : (s : Sizes) (rank : ℕ) (o : Option Piece) (rest : List Piece) → ((q : Piece) → o ≡ Some q → Fits s rank q) → AllByRecursion (Fits s rank) rest → AllByRecursion (Fits s rank) (cons_option o rest)
all_cons s rank None rest each h = h
all_cons s rank (Some q) rest each h = (each q refl, h)

all_filtered : (s : Sizes) (rank : ℕ) (events : List LaneEvent) → AllByRecursion (Fits s rank) (filter_map (fitting_piece s rank) events)
all_filtered s rank [] = tt
all_filtered s rank (e ∷ rest) = all_cons s rank (fitting_piece s rank e) (filter_map (fitting_piece s rank) rest) (event_fits s rank e) (all_filtered s rank rest)

pub all_fit : (s : Sizes) (rank : ℕ) (events : List LaneEvent) → AllByRecursion (Fits s rank) (fitting s rank events)
unfolding fitting
all_fit s rank events = all_filtered s rank events
