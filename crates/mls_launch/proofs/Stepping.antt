-- A watch after a step, from what was decided and taken note of.
use Rattle.std.proofs.Common.{◌≡◌, ℕ, max, List, ap, ◌∙◌}
use Rattle.mls_model.specs.declared.launcher.Event.{Event}
use Rattle.mls_model.specs.declared.launcher.Action.{Action}
use Rattle.mls_model.specs.Pasts.{now_of}
use Rattle.mls_launch.specs.Rows.{Table, decided, settled, stepped}

pub stepped_is : (t t' : Table) (e : Event) (time : ℕ) (actions : List Action) → t' ≡ settled t time e actions → time ≡ max t.time (now_of e) → actions ≡ decided t e → t' ≡ stepped t e
unfolding stepped
stepped_is t t' e time actions h later are = h ∙ ap (λ n. settled t n e actions) later ∙ ap (settled t (max t.time (now_of e)) e) are

pub settled_sizes : (t t' : Table) (e : Event) (time : ℕ) (actions : List Action) → t' ≡ settled t time e actions → t'.sizes ≡ t.sizes
unfolding settled
settled_sizes t t' e time actions h = ap (λ (x : Table). x.sizes) h
