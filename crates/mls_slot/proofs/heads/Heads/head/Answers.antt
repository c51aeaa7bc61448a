use Rattle.std.proofs.Common.{◌≡◌, ℕ, sym, subst, arith}
use Rattle.mls_slot.specs.Known.{IsHead}
use Rattle.mls_slot.proofs.heads.Heads.head.Goals as goal

pub returns-else-area-eq0 : goal.returns-else-area-eq0
returns-else-area-eq0 c = λ areas known.
    let is : c.args.area ≡ 1 = omega arith in
    subst (λ (a : ℕ). IsHead (areas a) c.args.self.now.one) (sym is) known.one
