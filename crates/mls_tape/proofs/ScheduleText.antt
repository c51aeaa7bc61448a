-- The text of a schedule, rank by rank.
use Rattle.std.proofs.Common.{◌≡◌, ℕ, ◌+◌, ◌≤◌, ◌<◌, List, [], ◌++◌, length, drop, get_or, refl, sym, ap, ◌∙◌, append_assoc}
use Rattle.std.specs.Global.{Vec}
use Rattle.std.specs.List.{flat_map, enumerate_from}
use Rattle.std.proofs.lemmas.List.{append-nil, drop_more, drop_all}
use Rattle.mls_model.specs.Schedules.{schedule_line, schedule_text}
use Rattle.mls_tape.specs.Passed.{lists_seen}
use Rattle.mls_tape.proofs.Passing.{get_seen}

-- the lines of the ranks from one on
abbrev pub texts_from : ℕ → List (List ℕ) → List ℕ
texts_from rank orders = flat_map (λ (p : ℕ × List ℕ). flat_map (schedule_line p.0) p.1) (enumerate_from rank orders)

pub texts_all : (orders : List (List ℕ)) → texts_from 0 orders ≡ schedule_text orders
unfolding schedule_text
texts_all orders = refl

pub texts_step : (orders : List (List ℕ)) (rank : ℕ) (order found new total : List ℕ) → rank < length orders → get_or orders rank [] ≡ order → found ++ texts_from rank (drop rank orders) ≡ total → new ≡ found ++ flat_map (schedule_line rank) order → new ++ texts_from (rank + 1) (drop (rank + 1) orders) ≡ total
texts_step orders rank order found new total lt is so_far added =
    ap (λ l. l ++ texts_from (rank + 1) (drop (rank + 1) orders)) added
    ∙ append_assoc found (flat_map (schedule_line rank) order) (texts_from (rank + 1) (drop (rank + 1) orders))
    ∙ ap (λ l. found ++ (flat_map (schedule_line rank) l ++ texts_from (rank + 1) (drop (rank + 1) orders))) (sym is)
    ∙ ap (λ ls. found ++ texts_from rank ls) (sym (drop_more orders rank [] lt))
    ∙ so_far

pub texts_end : (orders : List (List ℕ)) (rank : ℕ) (found total : List ℕ) → length orders ≤ rank → found ++ texts_from rank (drop rank orders) ≡ total → found ≡ total
texts_end orders rank found total all so_far =
    sym (append-nil found)
    ∙ ap (λ ls. found ++ texts_from rank ls) (sym (drop_all rank orders all))
    ∙ so_far

-- a rank's list, wherever it lies in memory
pub order_seen : (vs ws : List (Vec ℕ)) (orders : List (List ℕ)) (rank : ℕ) (order : Vec ℕ) → ws ≡ vs → orders ≡ lists_seen vs → rank < length ws → order ≡ get_or ws rank order → get_or orders rank [] ≡ order.items
order_seen vs ws orders rank order same seen lt is =
    ap (λ ls. get_or ls rank []) (seen ∙ ap (λ (xs : List (Vec ℕ)). lists_seen xs) (sym same))
    ∙ get_seen ws rank order lt
    ∙ ap (λ (v : Vec ℕ). v.items) (sym is)
