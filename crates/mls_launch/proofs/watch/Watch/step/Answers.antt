use Rattle.std.proofs.Common.{◌≡◌, ◌≤◌, ◌++◌, ◌∷◌, [], max, sym, ap, ◌∙◌, subst}
use Rattle.mls_model.specs.Studies.{Sizes}
use Rattle.mls_model.specs.Pasts.{now_of}
use Rattle.mls_launch.specs.Rows.{Table, StandsFor, stepped}
use Rattle.mls_launch.proofs.Standing.{stands_more, decided_is, time_is_later}
use Rattle.mls_launch.proofs.Stepping.{stepped_is, settled_sizes}
use Rattle.mls_launch.proofs.watch.Watch.step.Goals as goal
use Rattle.mls_launch.proofs.watch.Watch.step.Goals.{After-settle}

some_lives : (c : After-settle) → 1 ≤ c.args.self.now.sizes.lives
some_lives c = let P : Sizes → Type 0 = λ s. 1 ≤ s.lives in subst P (ap (λ (t : Table). t.sizes) c.self.view_is) c.valid.ensures.some_lives

later : (c : After-settle) → c.max-time.result ≡ max c.args.self.now.time (now_of c.args.event.now)
later c = c.max-time.ensures ∙ ap (λ n. max n c.now.result) (ap (λ (t : Table). t.time) c.self.view_is) ∙ ap (max c.args.self.now.time) c.now.ensures

new_is : (c : After-settle) → c.settle.new.self ≡ stepped c.args.self.now c.args.event.now
new_is c = stepped_is c.args.self.now c.settle.new.self c.args.event.now c.max-time.result c.deref-2.result.now c.settle.ensures (later c) (c.deref-2.ensures.value ∙ c.in_ok-decided.ensures)

pub returns-clause-stands : goal.returns-clause-stands
returns-clause-stands c = λ events h.
    let P : Table → Type 0 = λ t. StandsFor t (events ++ c.args.event.now ∷ []) in
    let a = (goal.at.returns-clause-stands c).After-settle in
    subst P (sym (new_is a)) (stands_more c.args.self.now events c.args.event.now (some_lives a) h)

pub returns-clause-actions : goal.returns-clause-actions
returns-clause-actions c = λ events h.
    let a = (goal.at.returns-clause-actions c).After-settle in
    c.in_ok-extend_from_slice.ensures.items
    ∙ ap (λ l. c.args.actions.now.items ++ l) (c.deref.ensures.value ∙ c.in_ok-decided.ensures ∙ decided_is c.args.self.now events c.args.event.now (some_lives a) h)

pub returns-clause-time : goal.returns-clause-time
returns-clause-time c = λ events h.
    let a = (goal.at.returns-clause-time c).After-settle in
    later a ∙ time_is_later c.args.self.now events c.args.event.now h

pub returns-clause-sizes : goal.returns-clause-sizes
returns-clause-sizes c = settled_sizes c.args.self.now c.settle.new.self c.args.event.now c.max-time.result c.deref-2.result.now c.settle.ensures
