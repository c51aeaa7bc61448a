use Rattle.std.proofs.Common.{◌≡◌, [], ◌∷◌, ◌++◌, List, ap, sym, subst, ◌∙◌}
use Rattle.mls_model.specs.declared.launcher.Event.{Event}
use Rattle.mls_serve.specs.Watching.{IsHeard}
use Rattle.mls_serve.proofs.Acting.{heard_more}
use Rattle.mls_serve.proofs.watched.Watched.hear.Goals as goal

pub invariant_of-self-2 : goal.invariant_of-self-2
invariant_of-self-2 c =
    let e = c.args.event.now in
    let before = c.self.inside.events.items in
    let events : c.push_reserved.new.self.items ≡ before ++ e ∷ [] = c.push_reserved.ensures.items ∙ ap (λ (xs : List Event). xs ++ e ∷ []) c.in_ok-reserve.ensures.items in
    subst (λ (xs : List Event). IsHeard c.step.new.self xs c.step.new.actions.items) (sym events)
    (heard_more c.self.inside.watch c.step.new.self before e c.self.inside.actions.items c.step.new.actions.items c.self.invariant c.in_ok-step.ensures.sizes c.in_ok-step.ensures.stands c.in_ok-step.ensures.actions)
