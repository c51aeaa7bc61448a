-- The fitting pieces that survive in a rank's history are those of its lanes, in another order.
use Rattle.std.proofs.Common.{◌≡◌, ℕ, Bool, true, false, ◌&&◌, cond, eqb, List, [], ◌∷◌, ◌++◌, IsPermutation, refl, sym, ◌∙◌, subst}
use Rattle.std.specs.List.{list_any, AllByRecursion}
use Rattle.std.proofs.lemmas.Bool.{or_from, or_parts}
use Rattle.std.proofs.lemmas.List.Folds.{list_any-append}
use Rattle.std.proofs.lemmas.List.Sorted.{list_any-IsPermutation}
use Rattle.mls_model.specs.Studies.{Sizes}
use Rattle.mls_model.specs.Lanes.{Lane}
use Rattle.mls_model.specs.Histories.{LaneEvent, history}
use Rattle.mls_model.specs.Places.{any_place}
use Rattle.mls_model.specs.Survival.{is_save, is_crash, crash_after_save}
use Rattle.mls_model.specs.Fitting.{fitting, fitting_piece}
use Rattle.mls_model.specs.ResultText.{pieces_of, histories_of, order_at}
use Rattle.mls_model.specs.Schedules.{is_complete, plain}
use Rattle.mls_laws.proofs.Surviving.{surviving_all}
use Rattle.mls_orders.specs.Tapes.{lane_events, rank_events, tape_pieces, TakesTheTape}
use Rattle.mls_orders.specs.OrderFree.{IsOrderFree}
use Rattle.mls_orders.proofs.Permuting.{filter_mapped}
use Rattle.mls_orders.proofs.Turns.{complete_turns, plain_turns}
use Rattle.mls_orders.proofs.Interleaved.{history_permuted}

calm_lane : (b : Bool) (lane : Lane) → list_any is_crash (lane_events lane) ≡ false → list_any is_crash (cond b (lane_events lane) []) ≡ false
calm_lane true lane h = h
calm_lane false lane h = refl

calm_rank : (lanes : List Lane) (rank : ℕ) → AllByRecursion (λ (lane : Lane). list_any is_crash (lane_events lane) ≡ false) lanes → list_any is_crash (rank_events lanes rank) ≡ false
unfolding rank_events
calm_rank [] rank all = refl
calm_rank (lane ∷ lanes) rank all =
    list_any-append is_crash (cond (eqb lane.rank rank) (lane_events lane) []) (rank_events lanes rank) ∙ or_from _ _ (calm_lane (eqb lane.rank rank) lane all.0) (calm_rank lanes rank all.1)

fitting_permuted : (s : Sizes) (rank : ℕ) (xs ys : List LaneEvent) → IsPermutation xs ys → IsPermutation (fitting s rank xs) (fitting s rank ys)
unfolding fitting
fitting_permuted s rank xs ys h = filter_mapped (fitting_piece s rank) xs ys h

-- of a history that has the events of the rank's lanes
pub tape_permuted : (s : Sizes) (lanes : List Lane) (rank : ℕ) (history : List LaneEvent) → AllByRecursion (λ (lane : Lane). list_any is_crash (lane_events lane) ≡ false) lanes → IsPermutation history (rank_events lanes rank) → IsPermutation (pieces_of s rank history) (tape_pieces s lanes rank)
tape_permuted s lanes rank history calm moved =
    let none : list_any is_crash history ≡ false = list_any-IsPermutation is_crash _ _ moved ∙ calm_rank lanes rank calm in
    subst (λ es. IsPermutation (fitting s rank es) (tape_pieces s lanes rank)) (sym (surviving_all history none)) (fitting_permuted s rank _ _ moved)

-- the histories of a complete schedule, and of the plain one
pub complete_takes : (ranks : ℕ) (lanes : List Lane) (orders : List (List ℕ)) → is_complete ranks lanes orders ≡ true → TakesTheTape ranks lanes (histories_of lanes orders)
complete_takes ranks lanes orders complete = λ rank within. history_permuted lanes rank (order_at orders rank) (complete_turns ranks lanes orders complete rank)

pub plain_takes : (ranks : ℕ) (lanes : List Lane) → TakesTheTape ranks lanes (histories_of lanes (plain ranks lanes))
plain_takes ranks lanes = λ rank within. history_permuted lanes rank (order_at (plain ranks lanes) rank) (λ k. plain_turns ranks lanes rank k within)

-- no crash is taken from a tape without one, so none behind a save
pub no_crash_taken : (s : Sizes) (lanes : List Lane) (orders : List (List ℕ)) (rank : ℕ) → IsOrderFree s lanes → is_complete s.ranks lanes orders ≡ true → list_any is_crash (histories_of lanes orders rank) ≡ false
no_crash_taken s lanes orders rank free complete =
    list_any-IsPermutation is_crash _ _ (history_permuted lanes rank (order_at orders rank) (complete_turns s.ranks lanes orders complete rank)) ∙ calm_rank lanes rank free.no_crash

calm_test : (before : List LaneEvent) (e : LaneEvent) → is_crash e ≡ false → (is_crash e && list_any is_save before) ≡ false
calm_test before e calm = rw calm refl

calm_places : (before after : List LaneEvent) → list_any is_crash after ≡ false → any_place (λ between e. is_crash e && list_any is_save between) before after ≡ false
unfolding any_place
calm_places before [] calm = refl
calm_places before (e ∷ after) calm =
    let parts = or_parts (is_crash e) (list_any is_crash after) calm in
    or_from _ _ (calm_test before e parts.0) (calm_places (before ++ e ∷ []) after parts.1)

pub no_crash_behind : (s : Sizes) (lanes : List Lane) (orders : List (List ℕ)) (rank : ℕ) → IsOrderFree s lanes → is_complete s.ranks lanes orders ≡ true → crash_after_save (histories_of lanes orders rank) ≡ false
unfolding crash_after_save
no_crash_behind s lanes orders rank free complete = calm_places [] (histories_of lanes orders rank) (no_crash_taken s lanes orders rank free complete)
