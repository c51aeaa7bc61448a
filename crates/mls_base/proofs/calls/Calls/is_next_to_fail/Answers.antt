use Rattle.std.proofs.Common.{ℕ, ◌≤◌, List, ap, sym, ◌∙◌, arith}
use Rattle.mls_base.specs.Calls.{is_failing}
use Rattle.mls_base.proofs.Sound.{one_from, none_later}
use Rattle.mls_base.proofs.calls.Calls.is_next_to_fail.Goals as goal

pub returns-clause-sound : goal.returns-clause-sound
returns-clause-sound c fails =
    let calls = c.args.self.now in
    one_from calls.fails.items calls.made (sym (ap (λ (xs : List ℕ). is_failing xs calls.made) c.deref.ensures.value) ∙ sym c.contains-fails.ensures.value ∙ fails)

pub returns-clause-ahead : goal.returns-clause-ahead
returns-clause-ahead c none =
    let calls = c.args.self.now in
    let later : calls.made ≤ c.saturating_add-self.result = omega (arith, c.saturating_add-self.ensures) in
    none_later calls.fails.items calls.made c.saturating_add-self.result later none
